-- Demand 1, the exact table, for the library's four functions for a CH450: each answer says by its first two numbers what the table says,
-- specs/PanelNumbers.antt.
--     ch450_numbers_exact                        a command that is given as numbers keeps to its table
--     below_tests                                tests of the numbers below a number
--     large_tests                                12: the numbers of a panel
--     ch450_encode_says, ch450_write_says,
--     ch450_play_says, ch450_lit_says            the four functions
-- Assumes nothing.
use mathlib.Core.Path.{◌≡◌, refl, sym, subst, ◌∙◌}
use mathlib.Core.Bool.{Bool, true, false, ◌&&◌}
use mathlib.Core.Logic.{◌⊎◌, inl, inr}
use mathlib.Core.List.{List, [], ◌∷◌}
use Prim.Native.Nat.{ℕ, zero, suc, ◌+◌, ◌<◌}
use native.Mathlib.Omega.{arith}
use borrow.Author.Tests.{ne_eqb}
use lib.ListN.{get_or}
use Rattle.base.specs.Below.{below, EachBelow}
use Rattle.base.specs.Pick.{pick}
use Rattle.base.specs.Refusals.{Told, done, refused}
use Rattle.base.proofs.Picks.{pick_no}
use Rattle.base.proofs.Tests.{each_below, by_equality}
use Rattle.ch450.specs.Entries.{segments_of}
use Rattle.ch450.specs.Panel.{dark}
use Rattle.ch450.specs.Written.{answer_of}
use Rattle.zhaqsumir.specs.Numbers.{number_or0}
use Rattle.zhaqsumir.specs.TwoWires.{command_from, word_by, ch450_word, Ch450Writes, mosts, fitting, fits_at, panel_of, panel_in, play_of, Ch450Plays, lit_from, ch450_lit}
use Rattle.zhaqsumir.proofs.TwoWires.{in_range, encode_ranges}
use Rattle.demands.specs.Exact.{Row, row, Exactly, SaysExactly}
use Rattle.demands.specs.TwoWires.{UnheldPanel, RoomShort, above3_row, writable_row, writable_rows, ch450_write_table}
use Rattle.demands.specs.PanelNumbers.{ParametersOut, CommandOut, no_kind, parameters, load_digit, TooLarge, levels, running, rises, bits, sleep, intens, keyb, disp, digit, UnheldNumbers, command_numbers_table, play_numbers_table, lit_numbers_table}
use Rattle.demands.proofs.ByTable.{ByTable, here, later, by_table}
use Rattle.demands.proofs.Conditions.{Tests, passed, failed, same_tests, leb_tests, neither, both_tests}
use Rattle.demands.proofs.ExactLibrary.{told_so, none_append, none_each, says_exactly}
use Rattle.demands.proofs.ExactTwoWires.{lit_by_table, play_by_table, ch450_write_exact}

-- ---- encode

-- a test that is the last
last_tests : {G : Type 0} {b : Bool} → Tests G b → Tests G (b && true)
last_tests (passed n) = passed n
last_tests (failed y) = failed y

module _ (a b c d : ℕ) where
  -- what is out of range, of each kind
  of_parameters : CommandOut 0 a b c d → ParametersOut a b c d
  of_parameters (no_kind h) = absurd (omega arith)
  of_parameters (parameters e y) = y
  of_parameters (load_digit e y) = absurd (omega arith)

  -- the byte is looked at before DIG0 and DIG1
  to_digit : (7 < a) ⊎ ((255 < b) ⊎ (a < 2)) → CommandOut 1 a b c d
  to_digit (inl h) = load_digit refl (inr (inl h))
  to_digit (inr (inl h)) = load_digit refl (inr (inr h))
  to_digit (inr (inr h)) = load_digit refl (inl h)

  of_digit : CommandOut 1 a b c d → (7 < a) ⊎ ((255 < b) ⊎ (a < 2))
  of_digit (no_kind h) = absurd (omega arith)
  of_digit (parameters e y) = absurd (omega arith)
  of_digit (load_digit e (inl h)) = inr (inr h)
  of_digit (load_digit e (inr (inl h))) = inl h
  of_digit (load_digit e (inr (inr h))) = inr (inl h)

  of_read : CommandOut 2 a b c d → ⊥
  of_read (no_kind h) = omega arith
  of_read (parameters e y) = omega arith
  of_read (load_digit e y) = omega arith

  -- a kind above 2
  no_kind_lem : (kind : ℕ) → 2 < kind → in_range kind a b c d ≡ false
  no_kind_lem kind h =
      pick_no _ _ (ne_eqb kind 0 (λ e. omega arith))
      ∙ pick_no _ _ (ne_eqb kind 1 (λ e. omega arith))
      ∙ pick_no _ _ (ne_eqb kind 2 (λ e. omega arith))

  -- by the kind
  out_tests : (kind : ℕ) → Tests (CommandOut kind a b c d) (in_range kind a b c d)
  out_tests zero =
      same_tests (parameters refl) of_parameters
      (both_tests (leb_tests a 1) (both_tests (leb_tests b 3) (both_tests (leb_tests c 1) (last_tests (leb_tests d 1)))))
  out_tests (suc zero) = same_tests to_digit of_digit (both_tests (leb_tests a 7) (both_tests (leb_tests b 255) (leb_tests 2 a)))
  out_tests (suc (suc zero)) = passed of_read
  out_tests (suc (suc (suc kind))) =
      let h : 2 < suc (suc (suc kind)) = omega arith in
      subst (Tests (CommandOut (suc (suc (suc kind))) a b c d)) (sym (no_kind_lem (suc (suc (suc kind))) h)) (failed (no_kind h))

pub ch450_numbers_exact : (kind a b c d : ℕ) → Exactly (word_by (command_from kind a b c d)) (command_numbers_table kind a b c d)
ch450_numbers_exact kind a b c d = by_table (told_so (encode_ranges kind a b c d) (out_tests a b c d kind))

-- ---- a panel's numbers

-- tests of the numbers below n
pub below_tests : (G : ℕ → Type 0) (f : ℕ → Bool) → ((k : ℕ) → Tests (G k) (f k)) → (n : ℕ)
    → Tests ((k : ℕ) × (k < n) × G k) (below f n)
below_tests G f t zero = passed (λ y. let h = y.1 in omega arith)
below_tests G f t (suc n) = same_tests to from (both_tests (t n) (below_tests G f t n))
  where
    to : G n ⊎ ((k : ℕ) × (k < n) × G k) → (k : ℕ) × (k < suc n) × G k
    to (inl g) = (n, omega arith, g)
    to (inr y) = let h = y.1 in (y.0, omega arith, y.2)

    from : (k : ℕ) × (k < suc n) × G k → G n ⊎ ((k : ℕ) × (k < n) × G k)
    from y =
        let h = y.1 in
        by_equality y.0 n (λ e. inl (subst G e y.2)) (λ ne. inr (y.0, omega arith, y.2))

module _ (ns : List ℕ) where
  -- the number at a place is above its most
  abbrev Over : ℕ → Type 0
  Over k = get_or mosts k 0 < get_or ns k 0

  -- the places, the last digit's first
  over : EachBelow (λ k. Over k → TooLarge ns) 14
  over = (
    digit 5 (omega arith),
    (
      digit 4 (omega arith),
      (
        digit 3 (omega arith),
        (
          digit 2 (omega arith),
          (
            digit 1 (omega arith),
            (
              digit 0 (omega arith),
              (disp, (keyb, (intens, (sleep, (bits, (rises, (running, (levels, tt)))))))),
            ),
          ),
        ),
      ),
    ),
  )

  -- those of the digits have one most
  digits : EachBelow (λ k. 255 < get_or ns (8 + k) 0 → Over (8 + k)) 6
  digits = ((λ h. h), ((λ h. h), ((λ h. h), ((λ h. h), ((λ h. h), ((λ h. h), tt))))))

  from_large : TooLarge ns → (k : ℕ) × (k < 14) × Over k
  from_large (levels h) = (0, omega arith, h)
  from_large (running h) = (1, omega arith, h)
  from_large (rises h) = (2, omega arith, h)
  from_large (bits h) = (3, omega arith, h)
  from_large (sleep h) = (4, omega arith, h)
  from_large (intens h) = (5, omega arith, h)
  from_large (keyb h) = (6, omega arith, h)
  from_large (disp h) = (7, omega arith, h)
  from_large (digit k l h) = (8 + k, omega arith, each_below (λ k. 255 < get_or ns (8 + k) 0 → Over (8 + k)) 6 digits k l h)

  pub large_tests : Tests (TooLarge ns) (fitting ns)
  large_tests =
      same_tests (λ y. each_below (λ k. Over k → TooLarge ns) 14 over y.0 y.1 y.2) from_large
      (below_tests Over (fits_at ns) (λ k. leb_tests (get_or ns k 0) (get_or mosts k 0)) 14)

  -- numbers that fit leave it to the panel that they stand for
  of_panel : {A : Type 0} {t : Told A} {rows : List Row} → (TooLarge ns → ⊥) → ByTable t (row 12 (UnheldPanel (panel_of ns)) ∷ rows)
      → ByTable t (row 12 (UnheldNumbers ns) ∷ rows)
  of_panel n (here u e) = here (inr u) e
  of_panel n (later m y) = later (neither n m) y

  play_tests : (key : ℕ) (samples : List ℕ) {b : Bool} → Tests (TooLarge ns) b
      → ByTable (play_of (pick b (done (panel_of ns)) (refused 12 0)) ns key samples).told (play_numbers_table ns key samples)
  play_tests key samples (failed y) = here (inl y) refl
  play_tests key samples (passed n) = of_panel n (play_by_table (panel_of ns) key samples)

  lit_says : {b : Bool} → Tests (TooLarge ns) b → SaysExactly (lit_from (pick b (done (panel_of ns)) (refused 12 0))) (lit_numbers_table ns)
  lit_says (failed y) = says_exactly {A = Unit {0}} (refused 12 0) dark (lit_numbers_table ns) (by_table (here (inl y) refl)) ((λ e. omega arith), tt)
  lit_says (passed n) =
      let o = segments_of (panel_of ns) in
      says_exactly o.told o.state (lit_numbers_table ns) (by_table (of_panel n (lit_by_table (panel_of ns)))) ((λ e. omega arith), tt)

-- ---- the four functions

pub ch450_encode_says : (kind a b c d : ℕ) → SaysExactly (ch450_word (kind ∷ a ∷ b ∷ c ∷ d ∷ [])) (command_numbers_table kind a b c d)
ch450_encode_says kind a b c d =
    let t = word_by (command_from kind a b c d) in
    says_exactly t (number_or0 t ∷ []) (command_numbers_table kind a b c d) (ch450_numbers_exact kind a b c d) ((λ e. omega arith), tt)

pub ch450_write_says : (words out answer out' : List ℕ) → Ch450Writes words out answer out' → SaysExactly answer (ch450_write_table words out)
ch450_write_says words out answer out' writes =
    let t = answer_of words out in
    subst (λ xs. SaysExactly xs (ch450_write_table words out)) (sym writes.numbers)
    (says_exactly t (number_or0 t ∷ []) (ch450_write_table words out) (ch450_write_exact words out) (
      (λ e. omega arith),
      none_append (writable_rows words) (row 8 (RoomShort words out) ∷ []) 0 (none_each writable_row 0 (λ k w. ((λ e. omega arith), tt)) 0 words)
          ((λ e. omega arith), tt),
    ))

pub ch450_play_says : (ns : List ℕ) (key : ℕ) (samples answer ns' : List ℕ) → Ch450Plays ns key samples answer ns'
    → SaysExactly answer (play_numbers_table ns key samples)
unfolding panel_in
ch450_play_says ns key samples answer ns' plays =
    let t = (play_of (panel_in ns) ns key samples).told in
    subst (λ xs. SaysExactly xs (play_numbers_table ns key samples)) (sym plays.numbers)
    (says_exactly t (number_or0 t ∷ []) (play_numbers_table ns key samples) (by_table (play_tests ns key samples (large_tests ns)))
    ((λ e. omega arith), ((λ e. omega arith), none_each above3_row 0 (λ k s. ((λ e. omega arith), tt)) 0 samples)))

pub ch450_lit_says : (ns : List ℕ) → SaysExactly (ch450_lit ns) (lit_numbers_table ns)
unfolding panel_in
ch450_lit_says ns = lit_says ns (large_tests ns)
