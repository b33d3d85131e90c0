-- NO. 3: THE READERS TELL THE PLACE OF THE FIRST BYTE THEY CANNOT TAKE, AND EVERY REFUSAL OF A TEXT HAS ITS COLUMN. Assumes nothing.
use mathlib.Core.Path.{◌≡◌, refl, sym, ap, subst, ◌∙◌}
use mathlib.Core.Bool.{Bool, true, false, cond}
use mathlib.Core.List.{List, [], ◌∷◌, ◌++◌}
use Prim.Native.Nat.{ℕ, ◌+◌, ◌≤◌}
use native.Mathlib.Omega.{arith}
use lib.Dec.{ltb, leb}
use lib.ListN.{length, length-append}
use lib.Seq.{append_snoc}
use borrow.Author.Tests.{ltb-false}
use Rattle.std.specs.Prelude.{Err}
use Rattle.reader.specs.Bytes.{all, is_byte, in_line}
use Rattle.reader.specs.FirstBad.{FirstBad}
use Rattle.reader.proofs.FirstBad.{told_stays}
use Rattle.numbers.proofs.NumberPlace.{number_first_bad}
use Rattle.numbers.proofs.PairPlace.{pair_first_bad}
use Rattle.hex_data.proofs.HexPlace.{hex_first_bad, byte_first_bad}
use Rattle.figures.specs.Cap.{limit}
use Rattle.language.specs.declared.TextFault.{TextFault}
use Rattle.language.specs.declared.TextFault.TheVariants.{TextTooLong, LineTooLong, TooManyLines, NoSuchName, BadRest, TooMuchData, TooManyOmits, TooManyLoops, EndWithoutLoop, LoopLeftOpen, TooManyProcesses, StretchTooLong}
use Rattle.language.specs.Limits.{line_limit, lines_limit, data_limit, omit_limit, loop_limit, process_limit, text_limit}
use Rattle.language.specs.Lines.{lines_of}
use Rattle.language.specs.Script.{Statement, Meaning, comment, blank, process, set_ex, says, set_encode, set_stopbits, set_omit, set_lfext, fault, Settings, Script, processes, Shape, opens, closes, stays, shape, data_of}
use Rattle.language.specs.Meaning.{meaning}
use Rattle.language.specs.Column.{column_of, column_in, clock_taken}
use Rattle.language.specs.Stretch.{stretch_of}
use Rattle.language.specs.Draft.{Result, accepted, refused, Draft, start, LineTaken, going, stop, now, broken, nest, take_nested, take_statement, beginning, take_process, take_omit, take_meaning, take_counted, take_line, is_comment, count_line, go_on, refused_whole, stretched, finished, fold, result_of}
use Rattle.language.specs.declared.Refusal.{Refusal}
use Rattle.language.specs.Answer.{refusal_of, fault_number, answered, script_from, compiled}
use Rattle.language.proofs.Cutting.{AllInLine, text_lines}
use Rattle.language.proofs.ClockPlace.{clock_first_bad}
use Rattle.language.proofs.Column.{column_told, one_column}
use Rattle.reader.proofs.Tests.{by_cases, true_is_false}
use Rattle.promises.specs.Columns.{TellsPlace, ReadersTell, WrongAt, ColumnOf, ColumnsTold}

-- ---- the readers

tells : {right : List ℕ → Bool} (place : List ℕ → ℕ) → ((l : List ℕ) → FirstBad right l (place l)) → TellsPlace right place
tells place f = record { first = f; stays = λ l e h. told_stays place f l e h }

pub readers_tell : ReadersTell
unfolding clock_taken
readers_tell =
    record {
      numbers = λ most limit h. tells _ (number_first_bad most limit h);
      pairs = λ low high h k. tells _ (pair_first_bad low high h k);
      hex_data = tells _ hex_first_bad;
      hex_byte = tells _ byte_first_bad;
      clocks = tells _ clock_first_bad;
    }

-- ---- a line that stops the compiler with 4

-- what a line does that is right stops with another number
abbrev NotFour : LineTaken → Type 0
NotFour (going st) = Unit {0}
NotFour (stop f n) = f ≡ BadRest → ⊥

not_four : {A : Type 0} {t : LineTaken} {n : ℕ} → NotFour t → t ≡ stop BadRest n → A
not_four h e = absurd (subst NotFour e h refl)

other : (f : TextFault) (k : ℕ) → fault_number f ≡ k → (k ≡ 4 → ⊥) → f ≡ BadRest → ⊥
unfolding fault_number
other f k h d e = d (sym h ∙ ap fault_number e)

module _ (row : ℕ) (st : Draft) where
  nested_other : (s : Statement) (h : Shape) (ls : List ℕ) → NotFour (take_nested row st s (nest row h ls))
  unfolding take_nested nest fault_number
  nested_other s stays ls = tt
  nested_other s opens ls =
      by_cases (λ n. NotFour (take_nested row st s n)) (ltb (length ls) loop_limit) (now (row ∷ ls)) (broken TooManyLoops) (λ e. tt) (λ e. other TooManyLoops 6 refl (λ k. omega arith))
  nested_other s closes [] = other EndWithoutLoop 7 refl (λ k. omega arith)
  nested_other s closes (l ∷ ls) = tt

  statement_other : (s : Statement) → NotFour (take_statement row st s)
  unfolding take_statement fault_number
  statement_other s =
      by_cases NotFour (leb (st.used + length (data_of s)) data_limit) _ (stop TooMuchData row) (λ e. nested_other s (shape s) st.loops)
      (λ e. other TooMuchData 5 refl (λ k. omega arith))

  process_other : (ls : List ℕ) → NotFour (take_process row st ls)
  unfolding take_process beginning fault_number
  process_other [] =
      by_cases NotFour st.begun _ _
      (λ e. by_cases NotFour (ltb st.count process_limit) _ (stop TooManyProcesses row) (λ u. tt) (λ u. other TooManyProcesses 9 refl (λ k. omega arith))) (λ e. tt)
  process_other (l ∷ ls) = other LoopLeftOpen 8 refl (λ k. omega arith)

  omit_other : (s : Settings) (bs : List ℕ) → NotFour (take_omit row st s bs)
  unfolding take_omit fault_number
  omit_other s bs = by_cases NotFour (leb (length (s.omit ++ bs)) omit_limit) _ (stop TooManyOmits row) (λ e. tt) (λ e. other TooManyOmits 10 refl (λ k. omega arith))

-- it is the line's own fault, and the refusal names the line
record Wrong (row n : ℕ) (m : Meaning) : Type 0 where
  named : n ≡ row
  said : m ≡ fault BadRest

meaning_wrong : (row n : ℕ) (st : Draft) (m : Meaning) → take_meaning row st m ≡ stop BadRest n → Wrong row n m
unfolding take_meaning
meaning_wrong row n st comment e = not_four tt e
meaning_wrong row n st blank e = not_four tt e
meaning_wrong row n st process e = not_four (process_other row st st.loops) e
meaning_wrong row n st set_ex e = not_four tt e
meaning_wrong row n st (says s) e = not_four (statement_other row st s) e
meaning_wrong row n st (set_encode b) e = not_four tt e
meaning_wrong row n st (set_stopbits two) e = not_four tt e
meaning_wrong row n st (set_omit bs) e = not_four (omit_other row st st.settings bs) e
meaning_wrong row n st (set_lfext l) e = not_four tt e
meaning_wrong row n st (fault f) e = record { named = cc; said = cc }

-- and the line is not too long
record WrongLine (row n : ℕ) (l : List ℕ) : Type 0 where
  wrong : Wrong row n (meaning l)
  short : length l ≤ line_limit

line_wrong : (row n : ℕ) (st : Draft) (l : List ℕ) → take_line row st l ≡ stop BadRest n → WrongLine row n l
unfolding take_line take_counted fault_number
line_wrong row n st l e = long (ltb line_limit (length l)) refl e
  where
    counted : (t : Bool) → cond t (take_meaning row (count_line st) (meaning l)) (stop TooManyLines row) ≡ stop BadRest n → Wrong row n (meaning l)
    counted true k = meaning_wrong row n (count_line st) (meaning l) k
    counted false k = not_four (other TooManyLines 2 refl (λ q. omega arith)) k

    uncounted : (t : Bool) → cond t (going st) (take_counted row st (meaning l)) ≡ stop BadRest n → Wrong row n (meaning l)
    uncounted true k = not_four tt k
    uncounted false k = counted (ltb st.counted lines_limit) k

    long : (t : Bool) → ltb line_limit (length l) ≡ t → cond t (stop LineTooLong row) (cond (is_comment (meaning l)) (going st) (take_counted row st (meaning l))) ≡ stop BadRest n
        → WrongLine row n l
    long true h k = not_four (other LineTooLong 1 refl (λ q. omega arith)) k
    long false h k = record { wrong = uncounted (is_comment (meaning l)) k; short = ltb-false line_limit (length l) h }

-- ---- the lines of a text

module _ (text : List ℕ) where
  abbrev Told : Result → Type 0
  Told (accepted s) = Unit {0}
  Told (refused f row column) = ColumnOf text row column f

  wrong_at : (before : List (List ℕ)) (l : List ℕ) (ls : List (List ℕ)) (row n : ℕ) → lines_of text ≡ before ++ l ∷ ls → row ≡ length before + 1
      → all in_line l ≡ true → WrongLine row n l → WrongAt text n (column_of l)
  wrong_at before l ls row n cut at p w =
      let told = column_told l p w.wrong.said in
      record {
        before = before;
        line = l;
        after = ls;
        cut = cut;
        named = w.wrong.named ∙ at;
        short = w.short;
        wrong = w.wrong.said;
        told = told;
        one = λ k c. one_column l k (column_of l) c told;
      }

  -- a fault that was found at a line
  stop_told : (before : List (List ℕ)) (l : List ℕ) (ls : List (List ℕ)) (row : ℕ) (st : Draft) → lines_of text ≡ before ++ l ∷ ls → row ≡ length before + 1
      → all in_line l ≡ true → (f : TextFault) (n : ℕ) → take_line row st l ≡ stop f n → ColumnOf text n (column_in l f) f
  unfolding column_in
  stop_told before l ls row st cut at p TextTooLong n e = refl
  stop_told before l ls row st cut at p LineTooLong n e = refl
  stop_told before l ls row st cut at p TooManyLines n e = refl
  stop_told before l ls row st cut at p NoSuchName n e = refl
  stop_told before l ls row st cut at p BadRest n e = wrong_at before l ls row n cut at p (line_wrong row n st l e)
  stop_told before l ls row st cut at p TooMuchData n e = refl
  stop_told before l ls row st cut at p TooManyOmits n e = refl
  stop_told before l ls row st cut at p TooManyLoops n e = refl
  stop_told before l ls row st cut at p EndWithoutLoop n e = refl
  stop_told before l ls row st cut at p LoopLeftOpen n e = refl
  stop_told before l ls row st cut at p TooManyProcesses n e = refl
  stop_told before l ls row st cut at p StretchTooLong n e = refl

  stretched_told : (ps : List (List Statement)) (n : ℕ) (s : Script) → Told (stretched stretch_of ps n s)
  unfolding stretched column_in
  stretched_told [] n s = tt
  stretched_told (p ∷ ps) n s = by_cases Told (leb (stretch_of p) limit) _ (refused_whole StretchTooLong n) (λ e. stretched_told ps (n + 1) s) (λ e. refl)

  finished_told : (s : Script) (ls : List ℕ) → Told (finished stretch_of s ls)
  unfolding finished column_in
  finished_told s [] = stretched_told (processes s.body) 1 s
  finished_told s (l ∷ ls) = refl

  fold_told : (ls before : List (List ℕ)) (row : ℕ) (st : Draft) → lines_of text ≡ before ++ ls → row ≡ length before + 1 → AllInLine ls → Told (fold stretch_of ls row st)
  unfolding fold go_on
  fold_told [] before row st cut at p = finished_told (record { settings = st.settings; body = st.body }) st.loops
  fold_told (l ∷ ls) before row st cut at p =
      go (take_line row st l) refl
      (λ st₁. fold_told ls (before ++ l ∷ []) (row + 1) st₁ (cut ∙ sym (append_snoc before l ls)) (omega (arith, at, length-append before (l ∷ []))) p.1)
    where
      go : (t : LineTaken) → take_line row st l ≡ t → ((st₁ : Draft) → Told (fold stretch_of ls (row + 1) st₁)) → Told (go_on l t (λ st₁. fold stretch_of ls (row + 1) st₁))
      go (going st₁) e k = k st₁
      go (stop f n) e k = stop_told before l ls row st cut at p.0 f n e

  text_told : all is_byte text ≡ true → Told (result_of stretch_of text)
  unfolding result_of column_in
  text_told h =
      by_cases Told (leb (length text) text_limit) (fold stretch_of (lines_of text) 1 start) (refused_whole TextTooLong 0)
      (λ e. fold_told (lines_of text) [] 1 start refl refl (text_lines text h)) (λ e. refl)

  answer_told : (r : Result) → Told r → (f : TextFault) (row column : ℕ) → (answered r).answer ≡ Err (refusal_of f row column) → ColumnOf text row column f
  unfolding answered
  answer_told (accepted s) t f row column e = true_is_false (cc)
  answer_told (refused g n k) t f row column e =
      let same : refusal_of g n k ≡ refusal_of f row column = cc in
      let a : g ≡ f = ap (λ (r : Refusal). r.fault) same in
      let b : n ≡ row = ap (λ (r : Refusal). r.line) same in
      let c : k ≡ column = ap (λ (r : Refusal). r.column) same in
      rw (← a, ← b, ← c) t

pub columns_told : ColumnsTold
unfolding compiled script_from
columns_told = record { refused = λ text h f row column e. answer_told text (script_from text) (text_told text h) f row column e }
