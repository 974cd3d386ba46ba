-- A buffer filled stretch by stretch: a row word by word, last chip first, and rows one after another. A loop's invariant says that
-- what is done, with the samples of what is left, is the samples of the whole.
--     Sent, sent_more, sent_over                  one more word of a row, and the row's end
--     samples_length                              the samples of so many rows
--     Laid, laid_room, laid_more, laid_over       one more row, which has its stretch, and all of them
-- Assumes nothing.
use mathlib.Core.Path.{◌≡◌, ap, ap₂, sym, ◌∙◌}
use mathlib.Core.List.{List, [], ◌∷◌, ◌++◌, append_assoc, append-nil}
use Prim.Native.Nat.{ℕ, zero, suc, ◌+◌, ◌*◌, ◌/◌, ◌≤◌, ◌<◌}
use native.Mathlib.Nat.{mul-le-mul_left, div-mul-le_self, div-eq_of_lt, add-div_left}
use native.Mathlib.Numerals.{add-one}
use native.Mathlib.Omega.{arith}
use lib.ListN.{length, set, take, drop, length-append, length-drop, take-append-drop, drop_of_length-le}
use lib.Seq.{length-take-le, take_at, drop_at, drop-drop, sets-eq}
use Rattle.base.specs.Lent.{laid}
use Rattle.writer.specs.Rows.{cut_rows, rows_of, written, row_samples, samples_of, width, word_bits, row_bits, clocking}
use Rattle.writer.proofs.Filling.{clocking_append, word_samples, row_last, row_samples_length, put, put_take, put_drop}

-- ---- one row

-- what is left ends with the word that is sent next
row_more : (out left : List ℕ) (w k : ℕ) → 24 * k + 24 ≤ length out
    → take (24 * (k + 1)) (put out (24 * k) 24 (clocking 4 (word_bits w))) ++ clocking 4 (row_bits left)
    ≡ take (24 * k) out ++ clocking 4 (row_bits (left ++ (w ∷ [])))
row_more out left w k room =
    ap (λ n. take n (put out (24 * k) 24 samples) ++ clocking 4 (row_bits left)) next
    ∙ ap (λ r. r ++ clocking 4 (row_bits left)) (put_take out (24 * k) 24 samples room (word_samples w))
    ∙ append_assoc (take (24 * k) out) samples (clocking 4 (row_bits left))
    ∙ ap (λ r. take (24 * k) out ++ r) (sym (clocking_append 4 (word_bits w) (row_bits left)) ∙ ap (clocking 4) (sym (row_last left w)))
  where
    samples : List ℕ
    samples = clocking 4 (word_bits w)

    next : 24 * (k + 1) ≡ 24 * k + 24
    next = omega arith

-- the loop's invariant: k words were sent, and their samples, with those of the words left, are the row's
pub record Sent (ws : List ℕ) (k : ℕ) (left out : List ℕ) : Type 0 where
  pub count : k + length left ≡ length ws
  pub samples : take (24 * k) out ++ clocking 4 (row_bits left) ≡ clocking 4 (row_bits ws)

pub sent_more : {ws : List ℕ} {k : ℕ} {left out : List ℕ} → Sent ws k left out → length out ≡ 24 * length ws + 2
    → (left' : List ℕ) (w k' : ℕ) → left ≡ left' ++ (w ∷ []) → k' ≡ k + 1
    → Sent ws k' left' (put out (24 * k) 24 (clocking 4 (word_bits w)))
sent_more {ws} {k} {left} {out} s l left' w k' e n =
    let fewer : length left ≡ length left' + 1 = ap length e ∙ length-append left' (w ∷ []) in
    let c = s.count in
    record {
      count = omega arith;
      samples = ap (λ m. take (24 * m) (put out (24 * k) 24 (clocking 4 (word_bits w))) ++ clocking 4 (row_bits left')) n
          ∙ row_more out left' w k (omega arith)
          ∙ ap (λ xs. take (24 * k) out ++ clocking 4 (row_bits xs)) (sym e)
          ∙ s.samples;
    }

pub sent_over : {ws : List ℕ} {k : ℕ} (left : List ℕ) {out : List ℕ} → Sent ws k left out → length out ≡ 24 * length ws + 2 → length left ≡ 0
    → set (set out (24 * length ws) 3) (24 * length ws + 1) 7 ≡ row_samples ws
unfolding row_samples clocking row_bits
sent_over {ws} {k} (w ∷ left) {out} s l none = absurd (omega arith)
sent_over {ws} {k} [] {out} s l none =
    ap (λ i. set (set out end 3) i 7) (add-one end)
    ∙ sets-eq (3 ∷ 7 ∷ []) out end (omega arith)
    ∙ ap₂ (λ r t. r ++ (3 ∷ 7 ∷ []) ++ t) sent (drop_of_length-le out {i = end + 2} (omega arith))
    ∙ append-nil (clocking 4 (row_bits ws) ++ 3 ∷ 7 ∷ [])
  where
    end : ℕ
    end = 24 * length ws

    all : length ws ≡ k
    all = let c = s.count in omega arith

    sent : take (24 * length ws) out ≡ clocking 4 (row_bits ws)
    sent = ap (λ m. take (24 * m) out) all ∙ sym (append-nil (take (24 * k) out)) ∙ s.samples

-- ---- rows

pub samples_length : (n rows : ℕ) (ws : List ℕ) → n * rows ≤ length ws → length (samples_of (cut_rows rows n ws)) ≡ width n * rows
unfolding samples_of cut_rows
samples_length n zero ws h = omega arith
samples_length n (suc rows) ws h =
    let first = row_samples_length (take n ws) in
    let words = length-take-le n ws (omega arith) in
    let more = samples_length n rows (drop n ws) (omega (arith, length-drop n ws)) in
    omega (arith, length-append (row_samples (take n ws)) (samples_of (cut_rows rows n (drop n ws))), first, words, more)

-- whole rows begin with the first
rows_cut : (n : ℕ) (row rest : List ℕ) → 0 < n → length row ≡ n
    → (length (row ++ rest) / n ≡ length rest / n + 1) × (rows_of n (row ++ rest) ≡ row ∷ rows_of n rest)
unfolding cut_rows
rows_cut n row rest p l =
    let more : length (row ++ rest) / n ≡ length rest / n + 1 =
    ap (λ m. m / n) (length-append row rest ∙ ap (λ m. m + length rest) l) ∙ add-div_left (length rest) p in (
      more,
      ap (λ m. cut_rows m n (row ++ rest)) (more ∙ add-one (length rest / n))
          ∙ ap₂ (λ xs ys. xs ∷ cut_rows (length rest / n) n ys) (take_at row rest n l) (drop_at row rest n l),
    )

-- the loop's invariant: r rows were written, and their samples, with those of the rows left, are all; the bytes past them are as they were
pub record Laid (n : ℕ) (ws out₀ : List ℕ) (r : ℕ) (rest out : List ℕ) : Type 0 where
  pub count : r + length rest / n ≡ length ws / n
  pub samples : take (width n * r) out ++ samples_of (rows_of n rest) ≡ written n ws
  pub kept : drop (width n * r) out ≡ drop (width n * r) out₀

-- the row that is written next has its stretch
pub laid_room : {n : ℕ} {ws out₀ : List ℕ} {r : ℕ} {rest out : List ℕ} → Laid n ws out₀ r rest out → 0 < n → width n * (length ws / n) ≤ length out
    → (row rest' : List ℕ) → rest ≡ row ++ rest' → length row ≡ n
    → width n * r + width n ≤ length out
laid_room {n} {ws} {out₀} {r} {rest} {out} s p o row rest' e l =
    let more = ap (λ xs. length xs / n) e ∙ (rows_cut n row rest' p l).0 in
    let h : r < length ws / n = omega (arith, s.count) in
    omega (arith, mul-le-mul_left (width n) h)

pub laid_more : {n : ℕ} {ws out₀ : List ℕ} {r : ℕ} {rest out : List ℕ} → Laid n ws out₀ r rest out → 0 < n → width n * (length ws / n) ≤ length out
    → (row rest' : List ℕ) (r' : ℕ) → rest ≡ row ++ rest' → length row ≡ n → r' ≡ r + 1
    → Laid n ws out₀ r' rest' (put out (width n * r) (width n) (row_samples row))
unfolding samples_of
laid_more {n} {ws} {out₀} {r} {rest} {out} s p o row rest' r' e l next =
    let fits = laid_room s p o row rest' e l in
    let cut = rows_cut n row rest' p l in
    let more = ap (λ xs. length xs / n) e ∙ cut.0 in
    let whole = row_samples_length row ∙ ap width l in
    let end : width n * r' ≡ width n * r + width n = ap (λ m. width n * m) next ∙ omega arith in
    record {
      count = omega (arith, s.count);
      samples = ap (λ m. take m (put out (width n * r) (width n) (row_samples row)) ++ samples_of (rows_of n rest')) end
          ∙ ap (λ xs. xs ++ samples_of (rows_of n rest')) (put_take out (width n * r) (width n) (row_samples row) fits whole)
          ∙ append_assoc (take (width n * r) out) (row_samples row) (samples_of (rows_of n rest'))
          ∙ ap (λ xs. take (width n * r) out ++ samples_of xs) (sym (ap (rows_of n) e ∙ cut.1))
          ∙ s.samples;
      kept = ap (λ m. drop m (put out (width n * r) (width n) (row_samples row))) end
          ∙ put_drop out (width n * r) (width n) (row_samples row) fits whole
          ∙ sym (drop-drop (width n) (width n * r) out)
          ∙ ap (drop (width n)) s.kept
          ∙ drop-drop (width n) (width n * r) out₀
          ∙ ap (λ m. drop m out₀) (sym end);
    }

pub laid_over : {n : ℕ} {ws out₀ : List ℕ} {r : ℕ} {rest out : List ℕ} → Laid n ws out₀ r rest out → 0 < n → length rest < n
    → out ≡ laid (written n ws) out₀
unfolding samples_of cut_rows
laid_over {n} {ws} {out₀} {r} {rest} {out} s p few =
    let none : length rest / n ≡ 0 = div-eq_of_lt few in
    let all : r ≡ length ws / n = omega (arith, s.count) in
    let samples : take (width n * r) out ≡ written n ws =
    sym (ap (λ m. take (width n * r) out ++ samples_of (cut_rows m n rest)) none ∙ append-nil (take (width n * r) out)) ∙ s.samples in
    let size : length (written n ws) ≡ width n * r =
    samples_length n (length ws / n) ws (omega (arith, div-mul-le_self (length ws) n)) ∙ ap (λ m. width n * m) (sym all) in
    sym (take-append-drop (width n * r) out)
    ∙ ap₂ (λ xs ys. xs ++ ys) samples (s.kept ∙ ap (λ m. drop m out₀) (sym size))
