-- The law of a text's output: it is the output of its lines one after another, up to the first refused one.
--     lines_go_on, lines_taken, lines_refused     lines that are taken, and then others, none, or one that is refused
--     text_out, text_refused, text_goes_on        the same of a text whose first line gives N, and of a text and another after it
-- Assumes nothing.
use mathlib.Core.Path.{◌≡◌, refl, ap, sym, ◌∙◌}
use mathlib.Core.List.{List, [], ◌∷◌, ◌++◌, append_assoc, append-nil}
use Prim.Native.Nat.{ℕ, suc, ◌+◌, ◌≤◌}
use native.Mathlib.Omega.{arith}
use borrow.Author.Tests.{le-leb}
use lib.ListN.{length, length-append}
use Rattle.base.specs.Refusals.{Told, done, refused, IsDone}
use Rattle.base.proofs.Picks.{pick_yes}
use Rattle.chain.specs.declared.Chain.{Chain}
use Rattle.chain.specs.Entries.{start_chain}
use Rattle.lines.specs.Lines.{Line, newline, lines_of, bytes_in}
use Rattle.lines.proofs.Lines.{lines_append}
use Rattle.capture.specs.declared.Report.{Report}
use Rattle.capture.specs.Frames.{first_of}
use Rattle.capture.specs.Reports.{refusal_line}
use Rattle.capture.specs.Replay.{and_then, lines_out, after_first, all_out, output_of}
use Rattle.capture.specs.Parts.{out_of}
use Rattle.capture.specs.Law.{line_taken, AllTaken, chain_after, wrote}

done_then : (t : Told (List ℕ)) (line : ℕ) (rest : List ℕ) → IsDone t → and_then t line rest ≡ out_of t ++ rest
done_then (done out) line rest y = refl
done_then (refused number place) line rest y = absurd y

module _ (what : Report) (n : ℕ) where
  pub lines_go_on : (line : ℕ) (ch : Chain) (ls ms : List Line) → AllTaken what n ch ls
      → lines_out what n line ch (ls ++ ms) ≡ wrote what n ch ls ++ lines_out what n (line + length ls) (chain_after what n ch ls) ms
  unfolding AllTaken chain_after wrote lines_out
  lines_go_on line ch [] ms y = let e : line ≡ line + 0 = omega arith in ap (λ k. lines_out what n k ch ms) e
  lines_go_on line ch (l ∷ ls) ms y =
      let t = line_taken what n ch l in
      let e : suc line + length ls ≡ line + suc (length ls) = omega arith in
      done_then t.told line (lines_out what n (suc line) t.state (ls ++ ms)) y.0
      ∙ ap (λ rest. out_of t.told ++ rest) (lines_go_on (suc line) t.state ls ms y.1)
      ∙ sym (append_assoc (out_of t.told) (wrote what n t.state ls) (lines_out what n (suc line + length ls) (chain_after what n t.state ls) ms))
      ∙ ap (λ k. (out_of t.told ++ wrote what n t.state ls) ++ lines_out what n k (chain_after what n t.state ls) ms) e

  pub lines_taken : (line : ℕ) (ch : Chain) (ls : List Line) → AllTaken what n ch ls → lines_out what n line ch ls ≡ wrote what n ch ls
  unfolding lines_out
  lines_taken line ch ls y =
      ap (lines_out what n line ch) (sym (append-nil ls)) ∙ lines_go_on line ch ls [] y ∙ append-nil (wrote what n ch ls)

  pub lines_refused : (line : ℕ) (ch : Chain) (ls : List Line) (l : Line) (ms : List Line) (number place : ℕ) → AllTaken what n ch ls
      → (line_taken what n (chain_after what n ch ls) l).told ≡ refused number place
      → lines_out what n line ch (ls ++ l ∷ ms) ≡ wrote what n ch ls ++ refusal_line number (line + length ls)
  unfolding lines_out
  lines_refused line ch ls l ms number place y r =
      let t = line_taken what n (chain_after what n ch ls) l in
      lines_go_on line ch ls (l ∷ ms) y
      ∙ ap (λ told. wrote what n ch ls ++ and_then told (line + length ls) (lines_out what n (suc (line + length ls)) t.state ms)) r

  -- ---- a text

  -- a text within 65,536 bytes whose first line gives N
  pub text_out : (text : List ℕ) (l : Line) (ls : List Line) → length text ≤ 65536 → lines_of text ≡ l ∷ ls → first_of (bytes_in l) ≡ done n
      → output_of what text ≡ lines_out what n 2 start_chain ls
  unfolding output_of
  text_out text l ls few e d =
      pick_yes (all_out what (lines_of text)) (refusal_line 11 0) (le-leb (length text) 65536 few)
      ∙ ap (all_out what) e
      ∙ ap (λ t. after_first what t ls) d

  pub text_refused : (text : List ℕ) (l : Line) (ls : List Line) (m : Line) (ms : List Line) (number place : ℕ) → length text ≤ 65536
      → lines_of text ≡ l ∷ ls ++ m ∷ ms
      → first_of (bytes_in l) ≡ done n
      → AllTaken what n start_chain ls
      → (line_taken what n (chain_after what n start_chain ls) m).told ≡ refused number place
      → output_of what text ≡ wrote what n start_chain ls ++ refusal_line number (2 + length ls)
  text_refused text l ls m ms number place few e d y r =
      text_out text l (ls ++ m ∷ ms) few e d ∙ lines_refused 2 start_chain ls m ms number place y r

  -- a text whose lines are all taken, and more after it
  pub text_goes_on : (t u : List ℕ) (l : Line) (ls : List Line) → length (t ++ newline ∷ u) ≤ 65536 → lines_of (t ++ newline ∷ []) ≡ l ∷ ls
      → first_of (bytes_in l) ≡ done n
      → AllTaken what n start_chain ls
      → output_of what (t ++ newline ∷ u) ≡ output_of what (t ++ newline ∷ []) ++ lines_out what n (2 + length ls) (chain_after what n start_chain ls) (lines_of u)
  text_goes_on t u l ls few e d y =
      let short : length (t ++ newline ∷ []) ≤ 65536 = omega (arith, length-append t (newline ∷ []), length-append t (newline ∷ u)) in
      text_out (t ++ newline ∷ u) l (ls ++ lines_of u) few (lines_append t u ∙ ap (λ x. x ++ lines_of u) e) d
      ∙ lines_go_on 2 start_chain ls (lines_of u) y
      ∙ ap (λ x. x ++ lines_out what n (2 + length ls) (chain_after what n start_chain ls) (lines_of u))
      (sym (text_out (t ++ newline ∷ []) l ls short e d ∙ lines_taken 2 start_chain ls y))
