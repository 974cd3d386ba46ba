-- `settings::puts::words` meets its contract: the four rows, one after another.
-- Assumes nothing.
use mathlib.Core.Path.{◌≡◌}
use Prim.Native.Nat.{◌*◌, ◌≤◌}
use native.Mathlib.Omega.{arith}
use lib.ListN.{length}
use Rattle.base.proofs.Lists.{length_mapped}
use Rattle.chain.specs.Chain.{most}
use Rattle.settings.specs.Settings.{kept_in}
use Rattle.settings.proofs.Bytes.{count_within}
use Rattle.settings.proofs.Texts.{passes, kept_length}
use Rattle.settings.proofs.Wholes.{second_fits, third_fits, fourth_fits, rows_put}
use borrow.Author.Rules.{rules}
use Rattle.settings.proofs.puts.words.Goals as goal

pub row-system-requires : goal.row-system-requires
row-system-requires c =
    let a = c.args in
    let passed = passes a.kiosk c.requires.kiosk_value in
    let few = (count_within a.kiosk.n passed.chips).few in
    record { n_le_most = few; chips_value = passed.legal; n_in_bounds = omega (arith, few, c.requires.most_in_bounds) }

pub row-display-requires : goal.row-display-requires
row-display-requires c =
    let a = c.args in
    let passed = passes a.kiosk c.requires.kiosk_value in
    let few = (count_within a.kiosk.n passed.chips).few in
    let size : length a.kiosk.chips ≡ most = search (rules, length_mapped) in
    let all = kept_length a.kiosk c.requires.kiosk_value size in
    let room : 4 * a.kiosk.n ≤ length a.words.now = omega (arith, few, c.requires.most_in_bounds) in
    record { n_le_most = few; chips_value = passed.legal; n_in_bounds = second_fits a.kiosk.n (kept_in a.kiosk) all a.words.now room c.row-system.ensures }

pub row-blink-requires : goal.row-blink-requires
row-blink-requires c =
    let a = c.args in
    let passed = passes a.kiosk c.requires.kiosk_value in
    let few = (count_within a.kiosk.n passed.chips).few in
    let size : length a.kiosk.chips ≡ most = search (rules, length_mapped) in
    let all = kept_length a.kiosk c.requires.kiosk_value size in
    let room : 4 * a.kiosk.n ≤ length a.words.now = omega (arith, few, c.requires.most_in_bounds) in
    record { n_le_most = few; chips_value = passed.legal; n_in_bounds = third_fits a.kiosk.n (kept_in a.kiosk) all a.words.now room c.row-system.ensures c.row-display.ensures }

pub row-requires : goal.row-requires
row-requires c =
    let a = c.args in
    let passed = passes a.kiosk c.requires.kiosk_value in
    let few = (count_within a.kiosk.n passed.chips).few in
    let size : length a.kiosk.chips ≡ most = search (rules, length_mapped) in
    let all = kept_length a.kiosk c.requires.kiosk_value size in
    let room : 4 * a.kiosk.n ≤ length a.words.now = omega (arith, few, c.requires.most_in_bounds) in
    record { n_le_most = few; chips_value = passed.legal; n_in_bounds = fourth_fits a.kiosk.n (kept_in a.kiosk) all a.words.now room c.row-system.ensures c.row-display.ensures c.row-blink.ensures }

pub returns : goal.returns
returns c =
    let a = c.args in
    let passed = passes a.kiosk c.requires.kiosk_value in
    let few = (count_within a.kiosk.n passed.chips).few in
    let size : length a.kiosk.chips ≡ most = search (rules, length_mapped) in
    let all = kept_length a.kiosk c.requires.kiosk_value size in
    let room : 4 * a.kiosk.n ≤ length a.words.now = omega (arith, few, c.requires.most_in_bounds) in
    rows_put a.kiosk.n (kept_in a.kiosk) all a.words.now room c.row-system.ensures c.row-display.ensures c.row-blink.ensures c.row.ensures
