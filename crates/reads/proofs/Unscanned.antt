-- A probe sees no scans, and the looks tell the same without them, where no chip but the last has KEYB on.
--     scans_unseen     the notes of a history's samples are those of the history without its scans
--     codes_unseen     so the codes that are read are the same
--     notes_unseen     and so is whether a line of some kind is written
--     keys_unseen      where KEYB is on can be told without the scans too
--     one_chip         and of one chip nothing is asked
-- Assumes nothing.
use Rattle.std.proofs.Common.{◌≡◌, ℕ, ◌%◌, Bool, false, ◌||◌, List, [], ◌∷◌, sym, refl, ap, ◌∙◌, ap₂}
use Rattle.chip.specs.declared.Chip.{Chip}
use Rattle.chain.specs.declared.Chain.{Chain}
use Rattle.chain.specs.Chain.{stepped_chain}
use Rattle.reads.specs.declared.Note.{Note}
use Rattle.reads.specs.declared.Note.TheVariants.{Nothing, Code, Cut, Interrupt, Differs}
use Rattle.reads.specs.declared.Looked.{Looked}
use Rattle.reads.specs.declared.Reader.{Reader}
use Rattle.reads.specs.Reads.{looked, kept, last_chip, look_at, reader_after}
use Rattle.reads.specs.Till.{Item, sample, scan, chain_after, seen_after, notes_of, codes_told, some_note, Throughout, unscanned, samples_notes, KeysAtLast}
use Rattle.reads.proofs.Parted.{by_part, keypad_part, Same, same_step, same_scan, last_part}

-- ---- a sample of two chains with the same levels and parts

-- the look goes by these parts
look_same : (n b : ℕ) (one two : Chain) (r : Reader) → Same one two → look_at n b one r ≡ look_at n b two r
unfolding looked
look_same n b one two r q =
    ap (λ was. looked was (b % 8) (last_chip n one) r) q.levels
    ∙ by_part (λ c. looked two.levels (b % 8) c r) (λ c. refl) (last_chip n one) (last_chip n two) (last_part n one two q)

-- and so does what is kept
reader_same : (n offset b : ℕ) (one two : Chain) (r : Reader) → Same one two → Same (stepped_chain n (b % 8) one) (stepped_chain n (b % 8) two)
    → reader_after n offset b one r ≡ reader_after n offset b two r
unfolding kept
reader_same n offset b one two r q next =
    let after : Chain → Chip = λ ch. last_chip n (stepped_chain n (b % 8) ch) in
    ap₂ (λ was (x : Looked). kept was b offset (after one) x.reader) q.levels (look_same n b one two r q)
    ∙ by_part (λ c. kept two.levels b offset c (look_at n b two r).reader) (λ c. refl) (after one) (after two)
    (last_part n (stepped_chain n (b % 8) one) (stepped_chain n (b % 8) two) next)

-- ---- histories

from_same : (n : ℕ) (items : List Item) (one two : Chain) (r s : Reader) → Same one two → r ≡ s → Throughout n (KeysAtLast n) items one r
    → samples_notes n items one r ≡ notes_of n (unscanned items) two s
unfolding samples_notes notes_of unscanned Throughout
from_same n [] one two r s q e k = refl
from_same n (sample offset b ∷ items) one two r s q e k =
    let next = same_step n (b % 8) one two k.0 q in
    ap₂ (λ x xs. x ∷ xs) (ap (λ (x : Looked). x.note) (look_same n b one two r q) ∙ ap (λ x. (look_at n b two x).note) e)
    (from_same n items (stepped_chain n (b % 8) one) (stepped_chain n (b % 8) two) (reader_after n offset b one r) (reader_after n offset b two s) next
    (reader_same n offset b one two r q next ∙ ap (reader_after n offset b two) e)
    k.1)
from_same n (scan j bytes ∷ items) one two r s q e k =
    from_same n items (chain_after n (scan j bytes) one) two r s (same_scan j bytes one two q) e k.1

pub scans_unseen : (n : ℕ) (items : List Item) (ch : Chain) (r : Reader) → Throughout n (KeysAtLast n) items ch r
    → samples_notes n items ch r ≡ notes_of n (unscanned items) ch r
scans_unseen n items ch r = from_same n items ch ch r r (record { levels = refl; parts = refl }) refl

-- ---- what the notes say

-- one more note
codes_more : (note : Note) (xs ys : List Note) → codes_told xs ≡ codes_told ys → codes_told (note ∷ xs) ≡ codes_told (note ∷ ys)
codes_more Nothing xs ys e = e
codes_more (Code code) xs ys e = ap (λ cs. code ∷ cs) e
codes_more Cut xs ys e = e
codes_more Interrupt xs ys e = e
codes_more (Differs offset) xs ys e = e

-- a scan's note has no code
codes_samples : (n : ℕ) (items : List Item) (ch : Chain) (r : Reader) → codes_told (notes_of n items ch r) ≡ codes_told (samples_notes n items ch r)
unfolding samples_notes notes_of
codes_samples n [] ch r = refl
codes_samples n (sample offset b ∷ items) ch r =
    let x = sample offset b in
    codes_more (look_at n b ch r).note (notes_of n items (chain_after n x ch) (seen_after n x ch r)) (samples_notes n items (chain_after n x ch) (seen_after n x ch r))
    (codes_samples n items (chain_after n x ch) (seen_after n x ch r))
codes_samples n (scan k bytes ∷ items) ch r = codes_samples n items (chain_after n (scan k bytes) ch) r

pub codes_unseen : (n : ℕ) (items : List Item) (ch : Chain) (r : Reader) → Throughout n (KeysAtLast n) items ch r
    → codes_told (notes_of n items ch r) ≡ codes_told (notes_of n (unscanned items) ch r)
codes_unseen n items ch r k = codes_samples n items ch r ∙ ap codes_told (scans_unseen n items ch r k)

-- nor is it such a one
some_samples : (is : Note → Bool) → is Nothing ≡ false → (n : ℕ) (items : List Item) (ch : Chain) (r : Reader)
    → some_note is (notes_of n items ch r) ≡ some_note is (samples_notes n items ch r)
unfolding samples_notes notes_of
some_samples is none n [] ch r = refl
some_samples is none n (sample offset b ∷ items) ch r =
    ap (λ t. is (look_at n b ch r).note || t) (some_samples is none n items (chain_after n (sample offset b) ch) (reader_after n offset b ch r))
some_samples is none n (scan k bytes ∷ items) ch r =
    ap (λ t. t || some_note is (notes_of n items (chain_after n (scan k bytes) ch) r)) none
    ∙ some_samples is none n items (chain_after n (scan k bytes) ch) r

pub notes_unseen : (is : Note → Bool) → is Nothing ≡ false → (n : ℕ) (items : List Item) (ch : Chain) (r : Reader) → Throughout n (KeysAtLast n) items ch r
    → some_note is (notes_of n items ch r) ≡ some_note is (notes_of n (unscanned items) ch r)
notes_unseen is none n items ch r k = some_samples is none n items ch r ∙ ap (some_note is) (scans_unseen n items ch r k)

-- ---- where KEYB is on

keys_from : (n : ℕ) (items : List Item) (one two : Chain) (r s : Reader) → Same one two → Throughout n (KeysAtLast n) (unscanned items) two s
    → Throughout n (KeysAtLast n) items one r
unfolding unscanned Throughout
keys_from n [] one two r s q k = tt
keys_from n (sample offset b ∷ items) one two r s q k =
    let here = keypad_part n two.chips one.chips (sym q.parts) k.0 in (
      here,
      keys_from n items (stepped_chain n (b % 8) one) (stepped_chain n (b % 8) two) (reader_after n offset b one r) (reader_after n offset b two s)
          (same_step n (b % 8) one two here q)
          k.1,
    )
keys_from n (scan j bytes ∷ items) one two r s q k =
    (tt, keys_from n items (chain_after n (scan j bytes) one) two r s (same_scan j bytes one two q) k)

pub keys_unseen : (n : ℕ) (items : List Item) (ch : Chain) (r : Reader) → Throughout n (KeysAtLast n) (unscanned items) ch r
    → Throughout n (KeysAtLast n) items ch r
keys_unseen n items ch r = keys_from n items ch ch r r (record { levels = refl; parts = refl })

pub one_chip : (items : List Item) (ch : Chain) (r : Reader) → Throughout 1 (KeysAtLast 1) items ch r
unfolding Throughout
one_chip [] ch r = tt
one_chip (sample offset b ∷ items) ch r = (tt, one_chip items (chain_after 1 (sample offset b) ch) (seen_after 1 (sample offset b) ch r))
one_chip (scan k bytes ∷ items) ch r = (tt, one_chip items (chain_after 1 (scan k bytes) ch) r)
