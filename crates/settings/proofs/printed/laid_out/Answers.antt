-- `settings::printed::laid_out` meets its contract: the words to the writer, and its samples in lines.
-- Assumes nothing.
use mathlib.Core.Path.{◌≡◌, refl}
use mathlib.Core.List.{[], ◌∷◌}
use native.Mathlib.Omega.{arith}
use lib.ListN.{length}
use Rattle.base.proofs.Lists.{length_mapped}
use Rattle.capture.proofs.Reported.{line_put}
use Rattle.chain.specs.Chain.{most}
use Rattle.settings.proofs.Bytes.{count_within}
use Rattle.settings.proofs.Captured.{puts_taken, puts_counted, words_few, row_refused, row_done, many_few, row_written, row_counted, head_fits, samples_fit, setup_put}
use Rattle.settings.proofs.Printing.{prints_done, prints_refused}
use Rattle.settings.proofs.Texts.{passes}
use borrow.Author.Rules.{rules}
use Rattle.settings.proofs.printed.laid_out.Goals as goal

pub words-count-requires : goal.words-count-requires
words-count-requires c = record { kiosk_value = c.requires.kiosk_value; most_in_bounds = omega arith }

pub slice_bounds-words-end-2 : goal.slice_bounds-words-end-2
slice_bounds-words-end-2 c =
    let a = c.args in
    let size : length a.kiosk.chips ≡ most = search (rules, length_mapped) in
    search (rules, words_few a.kiosk c.requires.kiosk_value size c.words-count.ensures)

pub slice_bounds-write-end : goal.slice_bounds-write-end
slice_bounds-write-end c = puts_counted c.words-count.ensures

pub refused-requires : goal.refused-requires
refused-requires c = omega (arith, c.requires.in_bounds)

pub overflow_cast-kiosk : goal.overflow_cast-kiosk
overflow_cast-kiosk c =
    let a = c.args in
    let few = (count_within a.kiosk.n (passes a.kiosk c.requires.kiosk_value).chips).few in
    record { fits = omega arith }

pub slice_bounds-samples-end : goal.slice_bounds-samples-end
slice_bounds-samples-end c =
    let a = c.args in
    let size : length a.kiosk.chips ≡ most = search (rules, length_mapped) in
    let few = many_few a.kiosk c.requires.kiosk_value size (puts_taken c.words-count.ensures) c.write.ensures refl c.in-Ok.is in
    search (rules, few)

pub slice_bounds-sample_lines-end : goal.slice_bounds-sample_lines-end
slice_bounds-sample_lines-end c =
    let a = c.args in
    let size : length a.kiosk.chips ≡ most = search (rules, length_mapped) in
    row_counted a.kiosk c.requires.kiosk_value size (puts_taken c.words-count.ensures) c.write.ensures refl c.in-Ok.is

pub sample_lines-requires : goal.sample_lines-requires
sample_lines-requires c =
    let a = c.args in
    let size : length a.kiosk.chips ≡ most = search (rules, length_mapped) in
    let same = puts_taken c.words-count.ensures in
    let samples = row_written a.kiosk c.requires.kiosk_value size same c.write.ensures refl c.in-Ok.is in
    let first = line_put (0x00 ∷ 0x01 ∷ a.kiosk.n ∷ []) refl (head_fits a.kiosk c.requires.kiosk_value size a.out.now c.requires.in_bounds) c.put_line-at.ensures in
    samples_fit a.kiosk c.requires.kiosk_value size a.out.now c.requires.in_bounds first samples

pub returns-in-Err : goal.returns-in-Err
returns-in-Err c =
    let a = c.args in
    let size : length a.kiosk.chips ≡ most = search (rules, length_mapped) in
    prints_refused (row_refused a.kiosk c.requires.kiosk_value size (puts_taken c.words-count.ensures) c.write.ensures refl c.in-Err.is) c.refused.ensures

pub returns : goal.returns
returns c =
    let a = c.args in
    let size : length a.kiosk.chips ≡ most = search (rules, length_mapped) in
    let w = c.write in
    let q = c.in-Ok.is in
    let same = puts_taken c.words-count.ensures in
    let done-so = row_done a.kiosk c.requires.kiosk_value size same w.ensures refl q in
    let samples = row_written a.kiosk c.requires.kiosk_value size same w.ensures refl q in
    let first = line_put (0x00 ∷ 0x01 ∷ a.kiosk.n ∷ []) refl (head_fits a.kiosk c.requires.kiosk_value size a.out.now c.requires.in_bounds) c.put_line-at.ensures in
    prints_done refl done-so (setup_put a.kiosk c.requires.kiosk_value size a.out.now c.requires.in_bounds first samples c.sample_lines.ensures)
