-- What is left of a list: each definition by recursion on a list, seen from a place in its middle. A loop's invariant says that
-- the definition on the rest, with what was done before it, is the definition on the whole.
--     valid_front                refusal 12's test of the records, of each of the first n
--     row_more, row_done         one sample for the first n chips; row_length, that it keeps their number
--     play_more, play_over       a block of samples
--     rise_more, rise_over       the next LOAD rise
-- Assumes nothing.
use mathlib.Core.Path.{◌≡◌, refl, ap, ap₂, sym, ◌∙◌}
use mathlib.Core.Bool.{Bool, ◌&&◌}
use mathlib.Core.List.{List, [], ◌∷◌, ◌++◌, append_assoc}
use Prim.Native.Nat.{ℕ, zero, suc, ◌+◌, ◌-◌, ◌≤◌, ◌<◌}
use native.Mathlib.Numerals.{add-one}
use native.Mathlib.Omega.{arith}
use Rattle.std.proofs.Common.{append-nil}
use Rattle.std.proofs.lemmas.List.{take_all}
use Rattle.std.specs.List.{list_all}
use lib.ListN.{length, get_or, set, take, drop, drop_of_length-le}
use lib.Seq.{drop-cons, take-suc-set, drop-set-lt}
use Rattle.base.specs.Pick.{pick}
use Rattle.base.proofs.Lists.{rest_is}
use Rattle.chip.specs.declared.Chip.{Chip}
use Rattle.chip.specs.Record.{valid}
use Rattle.chip.specs.Commands.{dout}
use Rattle.chip.specs.Edges.{load_rises, stepped}
use Rattle.chain.specs.declared.Chain.{Chain}
use Rattle.chain.specs.Chain.{all_valid, stepped_row, stepped_chain, played}
use Rattle.chain.specs.Finder.{rise_at, no_rise, rise_from}

-- ---- refusal 12's test of the records

pub valid_front : (n : ℕ) (cs : List Chip) → all_valid n cs ≡ list_all valid (take n cs)
unfolding all_valid
valid_front zero cs = refl
valid_front (suc n) [] = refl
valid_front (suc n) (c ∷ cs) = ap (λ t. valid c && t) (valid_front n cs)

-- ---- one sample for the first n chips

pub row_more : (n k was now : ℕ) (b out : Bool) (cs : List Chip) (c x : Chip) → k < n → k < length cs
    → out ≡ dout (get_or cs k c)
    → x ≡ stepped was now b (get_or cs k c)
    → take (k + 1) (set cs k x) ++ stepped_row (n - (k + 1)) was now out (drop (k + 1) (set cs k x))
    ≡ take k cs ++ stepped_row (n - k) was now b (drop k cs)
unfolding stepped_row
row_more n k was now b out cs c x h l o e =
    rw (add-one, take-suc-set cs k x l, drop-set-lt (suc k) cs k x above, o)
    (append_assoc (take k cs) (x ∷ []) (stepped_row (n - suc k) was now (dout (get_or cs k c)) (drop (suc k) cs))
    ∙ ap (λ y. take k cs ++ y ∷ stepped_row (n - suc k) was now (dout (get_or cs k c)) (drop (suc k) cs)) e
    ∙ ap (λ r. take k cs ++ r) (sym (ap₂ (λ m r. stepped_row m was now b r) fewer (drop-cons cs k c l))))
  where
    above : k < suc k
    above = omega arith

    fewer : n - k ≡ suc (n - suc k)
    fewer = omega arith

row_none : (n was now : ℕ) (b : Bool) → stepped_row n was now b [] ≡ []
unfolding stepped_row
row_none zero was now b = refl
row_none (suc n) was now b = refl

row_over : (n k was now : ℕ) (b : Bool) (cs : List Chip) → length cs ≤ k → take k cs ++ stepped_row n was now b (drop k cs) ≡ cs
row_over n k was now b cs h =
    ap (λ r. take k cs ++ stepped_row n was now b r) (drop_of_length-le cs h) ∙ rw (row_none, append-nil, take_all k cs h) refl

row_front : (n was now : ℕ) (b : Bool) (cs : List Chip) → stepped_row n was now b (take n cs) ++ drop n cs ≡ stepped_row n was now b cs
unfolding stepped_row
row_front zero was now b cs = refl
row_front (suc n) was now b [] = refl
row_front (suc n) was now b (c ∷ cs) = ap (λ r. stepped was now b c ∷ r) (row_front n was now (dout c) cs)

pub row_done : (n k was now : ℕ) (b d : Bool) (cs front : List Chip) → length front ≡ length (take n cs) → length (take n cs) ≤ k
    → take k front ++ stepped_row (n - k) was now b (drop k front) ≡ stepped_row n was now d (take n cs)
    → front ++ drop n cs ≡ stepped_row n was now d cs
row_done n k was now b d cs front size past row =
    ap (λ r. r ++ drop n cs) (sym (row_over (n - k) k was now b front (omega arith)) ∙ row) ∙ row_front n was now d cs

pub row_length : (n was now : ℕ) (b : Bool) (cs : List Chip) → length (stepped_row n was now b cs) ≡ length cs
unfolding stepped_row
row_length zero was now b cs = refl
row_length (suc n) was now b [] = refl
row_length (suc n) was now b (c ∷ cs) = ap suc (row_length n was now (dout c) cs)

-- ---- a block of samples

pub play_more : (n : ℕ) (ss : List ℕ) (i : ℕ) (ch : Chain) → i < length ss
    → played n (drop i ss) ch ≡ played n (drop (i + 1) ss) (stepped_chain n (get_or ss i 0) ch)
unfolding played
play_more n ss i ch h = ap (λ r. played n r ch) (rest_is ss i 0 h)

pub play_over : (n : ℕ) (ss : List ℕ) (i : ℕ) (ch : Chain) → length ss ≤ i → played n (drop i ss) ch ≡ ch
unfolding played
play_over n ss i ch h = ap (λ r. played n r ch) (drop_of_length-le ss h)

-- ---- the next LOAD rise

pub rise_more : (ss : List ℕ) (i was : ℕ) → i < length ss
    → rise_from i was (drop i ss) ≡ pick (load_rises was (get_or ss i 0)) (rise_at i) (rise_from (i + 1) (get_or ss i 0) (drop (i + 1) ss))
unfolding rise_from
rise_more ss i was h =
    ap (rise_from i was) (rest_is ss i 0 h)
    ∙ ap (λ n. pick (load_rises was (get_or ss i 0)) (rise_at i) (rise_from n (get_or ss i 0) (drop (i + 1) ss))) (sym (add-one i))

pub rise_over : (ss : List ℕ) (i was : ℕ) → length ss ≤ i → rise_from i was (drop i ss) ≡ no_rise
unfolding rise_from
rise_over ss i was h = ap (rise_from i was) (drop_of_length-le ss h)
