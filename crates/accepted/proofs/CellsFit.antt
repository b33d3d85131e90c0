-- The ways on of the pass over the cells. Assumes nothing.
use Rattle.std.specs.Prelude.{Option, Some, None}
use Prim.Native.Nat.{ℕ, ◌+◌, ◌≤◌, ◌<◌}
use mathlib.Core.Path.{◌≡◌, sym, ap, ◌∙◌}
use mathlib.Core.Bool.{true, false}
use mathlib.Core.List.{List}
use mathlib.Core.Logic.{⊎_elim}
use native.Mathlib.Numerals.{add-one}
use native.Mathlib.Omega.{arith}
use lib.ListN.{length, drop, get_or, drop_of_length-le}
use lib.Seq.{drop-cons}
use Rattle.language.specs.declared.Span.{Span}
use Rattle.language.specs.declared.Cell.{Cell}
use Rattle.language.specs.declared.Cell.TheVariants.{Send, WaitData, Log, Unknown}
use Rattle.language.specs.Limits.{data_limit, send_room, wait_room, log_room}
use Rattle.language.specs.Cell.{decoded}
use Rattle.language.specs.Inside.Right.{cell_right}
use Rattle.language.proofs.Cells.{span_fits, code_decode}
use Rattle.accepted.specs.Inside.EndsFit.{reaches}
use Rattle.accepted.proofs.EndsFit.{reached_not, reached_to}
use Rattle.accepted.specs.Inside.Cells.{cell_fits, bytes_of_cell, words_fit, words_end}
use Rattle.accepted.specs.Inside.CellsFit.{word_reach, words_reach}

-- ---- one word

module _ (w : ℕ) {x c : Cell} (told : x ≡ decoded w) (is : x ≡ c) where
  pub known_cell : (c ≡ Unknown → ⊥) → cell_right c ≡ true
  known_cell n = ⊎_elim (λ u. absurd (n (sym is ∙ (told ∙ u)))) (λ p. rw (sym told ∙ is) at p.0) (code_decode w)

  module _ (pool : List ℕ) (at : ℕ) where
    pub word_not : cell_fits pool at c ≡ false → None ≡ word_reach pool at w
    unfolding word_reach
    word_not f = rw (sym told ∙ is, f)

    pub word_at : cell_fits pool at c ≡ true → bytes_of_cell c ≡ 0 → Some at ≡ word_reach pool at w
    unfolding word_reach
    word_at f b = let e : at ≡ at + 0 = omega arith in ap Some e ∙ rw (sym told ∙ is, f, b)

    pub word_data : {r : Option ℕ} → r ≡ reaches (cell_fits pool at c) (at + bytes_of_cell c) → r ≡ word_reach pool at w
    unfolding word_reach
    word_data e = e ∙ rw (sym told ∙ is)

-- the data of a cell lie in the pool
module _ (w : ℕ) {x : Cell} {s : Span} (told : x ≡ decoded w) where
  pub sent_inside : x ≡ Send s → s.from + s.count ≤ data_limit
  unfolding cell_right
  sent_inside is = (span_fits 0 send_room s (known_cell w told is (λ u. let z : ◌≡◌ {A = ℕ} 0 1 = cc in omega arith))).inside

  pub waited_inside : x ≡ WaitData s → s.from + s.count ≤ data_limit
  unfolding cell_right
  waited_inside is = (span_fits 1 wait_room s (known_cell w told is (λ u. let z : ◌≡◌ {A = ℕ} 0 1 = cc in omega arith))).inside

  pub logged_inside : x ≡ Log s → s.from + s.count ≤ data_limit
  unfolding cell_right
  logged_inside is = (span_fits 0 log_room s (known_cell w told is (λ u. let z : ◌≡◌ {A = ℕ} 0 1 = cc in omega arith))).inside

-- ---- the words

module _ (pool ws : List ℕ) (at i : ℕ) where
  words_done : length ws ≤ i → words_reach pool at (drop i ws) ≡ Some at
  unfolding words_reach words_fit words_end
  words_done h = rw (drop_of_length-le ws h)

  module _ (h : i < length ws) where
    words_not : cell_fits pool at (decoded (get_or ws i 0)) ≡ false → words_reach pool at (drop i ws) ≡ None
    unfolding words_reach words_fit words_end
    words_not e = rw (drop-cons ws i 0 h, e)

    words_on : cell_fits pool at (decoded (get_or ws i 0)) ≡ true
        → words_reach pool at (drop i ws) ≡ words_reach pool (at + bytes_of_cell (decoded (get_or ws i 0))) (drop (i + 1) ws)
    unfolding words_reach words_fit words_end
    words_on e = rw (drop-cons ws i 0 h, e, add-one i)

-- the pass over some words, at i of them: the words from i on decide
pub record Going (pool ws : List ℕ) (at i : ℕ) : Type 0 where
  pub whole : words_reach pool 0 ws ≡ words_reach pool at (drop i ws)

module _ {pool ws : List ℕ} {at i : ℕ} (g : Going pool ws at i) where
  pub go_past : length ws ≤ i → Some at ≡ words_reach pool 0 ws
  go_past h = sym (g.whole ∙ words_done pool ws at i h)

  module _ {r : Option ℕ} (inside : i < length ws) (is : r ≡ word_reach pool at (get_or ws i 0)) where
    pub go_stops : r ≡ None → None ≡ words_reach pool 0 ws
    unfolding word_reach
    go_stops e =
        let f = reached_not (cell_fits pool at (decoded (get_or ws i 0))) _ (sym is ∙ e) in
        sym (g.whole ∙ words_not pool ws at i inside f)

    pub go_on_lem : {k : ℕ} → r ≡ Some k → Going pool ws k (i + 1)
    unfolding word_reach
    go_on_lem {k} e =
        let f = reached_to (cell_fits pool at (decoded (get_or ws i 0))) _ k (sym is ∙ e) in
        record { whole = g.whole ∙ (words_on pool ws at i inside f.test ∙ rw f.place) }
