-- `writer::lights::is_lit_sleep` meets its contract: each arm of the match is a clause of the definition.
-- Assumes nothing.
use mathlib.Core.Path.{◌≡◌, refl, ap, ap₂, sym, ◌∙◌}
use mathlib.Core.Bool.{Bool}
use Rattle.writer.specs.declared.lights.Lights.{Lights}
use Rattle.writer.specs.declared.lights.Lights.TheVariants.{Off, On, Asleep, Unsaid}
use Rattle.writer.specs.Lights.{Said, said_in, lit_sleep}
use Rattle.writer.proofs.lights.is_lit_sleep.Goals as goal

-- by what the command was found to say
arm : (found : Lights) {r : Lights} {says : Said} {b may : Bool} → r ≡ found → said_in r ≡ says → b ≡ may → lit_sleep (said_in found) b ≡ lit_sleep says may
arm found q e m = ap₂ lit_sleep (ap said_in (sym q) ∙ e) m

pub returns-in-Off : goal.returns-in-Off
returns-in-Off c = arm Off c.in-Off.is c.lights_by_command.ensures refl

pub returns-in-On : goal.returns-in-On
returns-in-On c = arm On c.in-On.is c.lights_by_command.ensures refl

pub returns-in-Asleep : goal.returns-in-Asleep
returns-in-Asleep c = arm Asleep c.in-Asleep.is c.lights_by_command.ensures c.may_sleep.ensures

pub returns-in-Unsaid : goal.returns-in-Unsaid
returns-in-Unsaid c = arm Unsaid c.in-Unsaid.is c.lights_by_command.ensures refl
