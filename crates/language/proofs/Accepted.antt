-- EVERY ACCEPTED SCRIPT IS RIGHT: what a text comes to passes the test of the scripts that the listing can write. Assumes nothing.
use Prim.Native.Nat.{ℕ, ◌+◌}
use mathlib.Core.Path.{◌≡◌, refl, sym, ap, subst, ◌∙◌}
use mathlib.Core.Bool.{true}
use mathlib.Core.List.{List, [], ◌∷◌, append-nil}
use native.Mathlib.Omega.{arith}
use lib.Dec.{leb}
use lib.ListN.{length, length-append}
use Rattle.figures.specs.Cap.{limit}
use Rattle.reader.specs.Bytes.{all}
use Rattle.reader.proofs.Tests.{both, by_cases}
use Rattle.language.specs.declared.TextFault.TheVariants.{TextTooLong, StretchTooLong}
use Rattle.language.specs.Lines.{lines_of}
use Rattle.language.specs.Limits.{text_limit}
use Rattle.language.specs.Script.{Statement, Item, Script, processes}
use Rattle.language.specs.Listing.{body_lines, setting_lines, listed_lines}
use Rattle.language.specs.Right.{is_byte, nests, all_below}
use Rattle.language.specs.Draft.{Result, accepted, refused, Draft, start, LineTaken, going, stop, take_line, stretched, finished, go_on, refused_whole, fold, result_of}
use Rattle.language.proofs.Good.{Good}
use Rattle.language.proofs.Cutting.{AllInLine, text_lines}
use Rattle.language.proofs.Sound.{Holds, line_on, start_sound}
use Rattle.language.proofs.SoundBody.{Sound, needs_listed}

module _ (stretch : List Statement → ℕ) where
  abbrev Ends : Result → Type 0
  Ends (accepted s) = Good stretch s
  Ends (refused n row column) = Unit {0}

  stretched_good : (ps : List (List Statement)) (n : ℕ) (s : Script) → (all_below stretch ps ≡ true → Good stretch s) → Ends (stretched stretch ps n s)
  unfolding stretched all_below
  stretched_good [] n s f = f refl
  stretched_good (p ∷ ps) n s f =
      by_cases Ends (leb (stretch p) limit) (stretched stretch ps (n + 1) s) (refused_whole StretchTooLong n)
      (λ e. stretched_good ps (n + 1) s (λ h. f (both (leb (stretch p) limit) (all_below stretch ps) e h)))
      (λ e. tt)

  abbrev script_of : Draft → Script
  script_of st = record { settings = st.settings; body = st.body }

  whole_good : (st : Draft) → Sound 0 st → st.loops ≡ [] → all_below stretch (processes st.body) ≡ true → Good stretch (script_of st)
  unfolding listed_lines nests
  whole_good st i e b =
      record {
        settings = i.settings;
        rights = i.rights;
        lines = omega (arith, length-append (setting_lines st.settings) (body_lines st.body), needs_listed st.begun st.body, i.lines, i.counted);
        bytes = omega (arith, i.used, i.bytes);
        nested = ap (λ (x : List Item). nests x 0) (sym (append-nil st.body)) ∙ i.nested [] ∙ rw e;
        few = omega (arith, i.count, i.few);
        below = b;
      }

  finished_good : (st : Draft) → Sound 0 st → Ends (finished stretch (script_of st) st.loops)
  unfolding finished
  finished_good st i = go st.loops refl
    where
      go : (ls : List ℕ) → st.loops ≡ ls → Ends (finished stretch (script_of st) ls)
      go (l ∷ ls) e = tt
      go [] e = stretched_good (processes st.body) 1 (script_of st) (λ b. whole_good st i e b)

  after_good : (l : List ℕ) (t : LineTaken) (go : Draft → Result) → Holds t → ((st : Draft) → Sound 0 st → Ends (go st)) → Ends (go_on l t go)
  unfolding go_on
  after_good l (going st) go h f = f st h
  after_good l (stop n row) go h f = tt

  fold_good : (ls : List (List ℕ)) (row : ℕ) (st : Draft) → AllInLine ls → Sound 0 st → Ends (fold stretch ls row st)
  unfolding fold
  fold_good [] row st p i = finished_good st i
  fold_good (l ∷ ls) row st p i =
      after_good l (take_line row st l) (λ st₁. fold stretch ls (row + 1) st₁) (line_on row st l p.0 i) (λ st₁ i₁. fold_good ls (row + 1) st₁ p.1 i₁)

  pub accepted_good : (t : List ℕ) → all is_byte t ≡ true → Ends (result_of stretch t)
  unfolding result_of
  accepted_good t h =
      by_cases Ends (leb (length t) text_limit) (fold stretch (lines_of t) 1 start) (refused_whole TextTooLong 0)
      (λ e. fold_good (lines_of t) 1 start (text_lines t h) start_sound) (λ e. tt)

  -- what a text is result_of to is right
  pub compiled_good : (t : List ℕ) (s : Script) → all is_byte t ≡ true → result_of stretch t ≡ accepted s → Good stretch s
  compiled_good t s h e = subst Ends e (accepted_good t h)
