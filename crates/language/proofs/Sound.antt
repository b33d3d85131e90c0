-- WHAT HOLDS OF THE DRAFT BETWEEN LINES: what it has is right, within the limits, and takes no more listed lines than were counted.
use Prim.Native.Nat.{ℕ, suc, ◌+◌, ◌≤◌, ◌<◌}
use mathlib.Core.Path.{◌≡◌, refl, ap, subst, ◌∙◌}
use mathlib.Core.Bool.{Bool, true, false, cond, not}
use mathlib.Core.List.{List, [], ◌∷◌, ◌++◌}
use native.Mathlib.Omega.{arith}
use lib.Dec.{ltb, leb}
use lib.ListN.{length, length-append}
use lib.Seq.{append_snoc}
use borrow.Author.Tests.{ltb-true, ltb-false, leb-true, lt-ltb}
use Rattle.reader.specs.Ascii.{ascii}
use Rattle.reader.specs.Bytes.{all, same}
use Rattle.writer.specs.Hex.{hex_text}
use Rattle.reader.proofs.Tests.{all_append, both, both_left, by_cases}
use Rattle.language.specs.declared.TextFault.TheVariants.{LineTooLong, TooManyLines, TooMuchData, TooManyOmits, TooManyLoops, TooManyProcesses}
use Rattle.language.specs.Limits.{line_limit, lines_limit, data_limit, omit_limit, loop_limit, process_limit}
use Rattle.language.specs.Script.{Statement, Meaning, comment, blank, process, set_ex, says, set_encode, set_stopbits, set_omit, set_lfext, fault, Encode, byte, Settings, default, Item, does, next, Shape, opens, closes, stays, shape, data_of}
use Rattle.language.specs.Meaning.{meaning, is_capital, extension}
use Rattle.language.specs.Listing.{line_if, encode_lines, setting_lines}
use Rattle.language.specs.Right.{is_byte, in_line, data_right, right, encode_right, all_right, data_in, nexts_in, may_nest, depth_after, nests}
use Rattle.language.specs.Inside.Right.{meaning_right}
use Rattle.language.specs.Draft.{Draft, start, LineTaken, going, stop, count_line, with_settings, with_item, now, broken, nest, take_nested, take_statement, with_next, with_first, beginning, take_process, take_omit, take_meaning, take_counted, is_comment, take_line}
use Rattle.language.proofs.Meanings.{meaning_right_lem}
use Rattle.language.proofs.Good.{RightSettings}
use Rattle.language.proofs.SoundBody.{needs, Sound, rights_snoc, data_snoc, nexts_snoc, needs_does, needs_next, needs_first, deeper}

-- ---- what a line leaves

abbrev pub Holds : LineTaken → Type 0
Holds (going st) = Sound 0 st
Holds (stop n row) = Unit {0}

relaxed : (st : Draft) → Sound 1 st → Holds (going st)
relaxed st i =
    record { settings = i.settings; rights = i.rights; used = i.used; bytes = i.bytes; nested = i.nested; deep = i.deep; count = i.count; few = i.few; lines = omega (arith, i.lines); counted = i.counted }

counted_on : (st : Draft) → Sound 0 st → st.counted < lines_limit → Sound 1 (count_line st)
unfolding count_line
counted_on st i h =
    record { settings = i.settings; rights = i.rights; used = i.used; bytes = i.bytes; nested = i.nested; deep = i.deep; count = i.count; few = i.few; lines = omega (arith, i.lines); counted = omega arith }

module _ (row : ℕ) (st : Draft) (i : Sound 1 st) where
  settings_on : (s : Settings) → RightSettings s → length (setting_lines s) ≤ length (setting_lines st.settings) + 1 → Holds (going (with_settings st s))
  unfolding with_settings
  settings_on s r h =
      record { settings = r; rights = i.rights; used = i.used; bytes = i.bytes; nested = i.nested; deep = i.deep; count = i.count; few = i.few; lines = omega (arith, i.lines); counted = i.counted }

  item_on : (s : Statement) (ls : List ℕ) → right s ≡ true → st.used + length (data_of s) ≤ data_limit
      → may_nest (shape s) (length st.loops) ≡ true → length ls ≡ depth_after (shape s) (length st.loops) → Holds (going (with_item st ls s))
  unfolding with_item data_in nexts_in
  item_on s ls r u m d =
      record {
        settings = i.settings;
        rights = rights_snoc st.body (does s) i.rights (unfold all_right in both (right s) true r refl);
        used = omega (arith, i.used, data_snoc st.body (does s));
        bytes = u;
        nested = λ rest. ap (λ (x : List Item). nests x 0) (append_snoc st.body (does s) rest) ∙ i.nested (does s ∷ rest) ∙ inside rest;
        deep = rw d (deeper (shape s) (length st.loops) m i.deep);
        count = omega (arith, i.count, nexts_snoc st.body (does s));
        few = i.few;
        lines = omega (arith, i.lines, needs_does st.begun st.body s);
        counted = i.counted;
      }
    where
      inside : (rest : List Item) → nests (does s ∷ rest) (length st.loops) ≡ nests rest (length ls)
      inside rest = unfold nests in rw (m, d)

  next_on : st.loops ≡ [] → st.begun ≡ true → st.count < process_limit → Holds (going (with_next st))
  unfolding with_next data_in nexts_in
  next_on l b c =
      record {
        settings = i.settings;
        rights = rights_snoc st.body next i.rights (unfold all_right in refl);
        used = omega (arith, i.used, data_snoc st.body next);
        bytes = i.bytes;
        nested = λ rest. ap (λ (x : List Item). nests x 0) (append_snoc st.body next rest) ∙ i.nested (next ∷ rest) ∙ inside rest;
        deep = omega arith;
        count = omega (arith, i.count, nexts_snoc st.body next);
        few = omega arith;
        lines = omega (arith, subst (λ (t : Bool). length (setting_lines st.settings) + needs t st.body + 1 ≤ st.counted) b i.lines, needs_next st.body);
        counted = i.counted;
      }
    where
      inside : (rest : List Item) → nests (next ∷ rest) (length st.loops) ≡ nests rest 0
      inside rest = unfold nests in rw l

  first_on : st.loops ≡ [] → st.begun ≡ false → Holds (going (with_first st))
  unfolding with_first
  first_on l b =
      record {
        settings = i.settings;
        rights = i.rights;
        used = i.used;
        bytes = i.bytes;
        nested = λ rest. i.nested rest ∙ ap (λ (ls : List ℕ). nests rest (length ls)) l;
        deep = omega arith;
        count = i.count;
        few = i.few;
        lines = omega (arith, subst (λ (t : Bool). length (setting_lines st.settings) + needs t st.body + 1 ≤ st.counted) b i.lines, needs_first st.body);
        counted = i.counted;
      }

  nested_on : (s : Statement) → right s ≡ true → st.used + length (data_of s) ≤ data_limit → Holds (take_nested row st s (nest row (shape s) st.loops))
  unfolding take_nested nest may_nest depth_after
  nested_on s r u = go (shape s) st.loops (λ ls m d. item_on s ls r u m d)
    where
      opened : (ls : List ℕ) (t : Bool) → ltb (length ls) loop_limit ≡ t
          → ((ls₁ : List ℕ) → ltb (length ls) loop_limit ≡ true → length ls₁ ≡ length ls + 1 → Holds (going (with_item st ls₁ s)))
          → Holds (take_nested row st s (cond t (now (row ∷ ls)) (broken TooManyLoops)))
      opened ls true e g = g (row ∷ ls) e (omega arith)
      opened ls false e g = tt

      go : (sh : Shape) (ls : List ℕ)
          → ((ls₁ : List ℕ) → may_nest sh (length ls) ≡ true → length ls₁ ≡ depth_after sh (length ls) → Holds (going (with_item st ls₁ s)))
          → Holds (take_nested row st s (nest row sh ls))
      go stays ls f = f ls refl refl
      go opens ls f = opened ls (ltb (length ls) loop_limit) refl f
      go closes [] f = tt
      go closes (l ∷ ls) f = f ls (lt-ltb 0 (suc (length ls)) (omega arith)) (omega arith)

  statement_on : (s : Statement) → right s ≡ true → Holds (take_statement row st s)
  unfolding take_statement
  statement_on s r =
      by_cases Holds (leb (st.used + length (data_of s)) data_limit) _ (stop TooMuchData row)
      (λ e. nested_on s r (leb-true (st.used + length (data_of s)) data_limit e)) (λ e. tt)

  process_on : Holds (take_process row st st.loops)
  unfolding take_process beginning
  process_on = go st.loops refl
    where
      go : (ls : List ℕ) → st.loops ≡ ls → Holds (take_process row st ls)
      go (l ∷ ls) e = tt
      go [] e =
          by_cases Holds st.begun _ _
          (λ b. by_cases Holds (ltb st.count process_limit) (going (with_next st)) (stop TooManyProcesses row) (λ c. next_on e b (ltb-true st.count process_limit c)) (λ c. tt))
          (λ b. first_on e b)

-- ---- settings

when_one : (t : Bool) (l : List ℕ) → length (line_if t l) ≤ 1
when_one true l = omega arith
when_one false l = omega arith

-- how many lines the settings take, part by part
encode_needs : Encode → ℕ
encode_needs e = length (encode_lines e)

stopbits_needs : Bool → ℕ
stopbits_needs t = length (line_if t (ascii "#f:STOPBITS 2"))

omit_needs : List ℕ → ℕ
omit_needs o = length (line_if (not (same o [])) (ascii "#f:OMIT :" ++ hex_text o))

lfext_needs : List ℕ → ℕ
lfext_needs x = length (line_if (not (same x (ascii "LOG"))) (ascii "#f:LFEXT " ++ x))

settings_length : (s : Settings)
    → length (setting_lines s) ≡ encode_needs s.encode + (stopbits_needs s.two_stopbits + (omit_needs s.omit + lfext_needs s.lfext))
unfolding setting_lines encode_needs stopbits_needs omit_needs lfext_needs
settings_length s = simp length-append

stopbits_one : (t : Bool) → stopbits_needs t ≤ 1
unfolding stopbits_needs
stopbits_one t = when_one t (ascii "#f:STOPBITS 2")

omit_one : (o : List ℕ) → omit_needs o ≤ 1
unfolding omit_needs
omit_one o = when_one (not (same o [])) (ascii "#f:OMIT :" ++ hex_text o)

lfext_one : (x : List ℕ) → lfext_needs x ≤ 1
unfolding lfext_needs
lfext_one x = when_one (not (same x (ascii "LOG"))) (ascii "#f:LFEXT " ++ x)

take_on : (row : ℕ) (st : Draft) (m : Meaning) → Sound 1 st → meaning_right m ≡ true → Holds (take_meaning row st m)
unfolding take_meaning meaning_right take_omit encode_right data_right
take_on row st comment i h = relaxed st i
take_on row st blank i h = relaxed st i
take_on row st process i h = process_on row st i
take_on row st set_ex i h = relaxed st i
take_on row st (says s) i h = statement_on row st i s h
take_on row st (set_encode b) i h =
    let x : Settings = st.settings in
    let y : Settings = record { encode = byte b; two_stopbits = x.two_stopbits; omit = x.omit; lfext = x.lfext } in
    let one : encode_needs (byte b) ≤ 1 = unfold encode_needs encode_lines in omega arith in
    settings_on row st i y
    (record { encode = h; omit = i.settings.omit; omitted = i.settings.omitted; lfext = i.settings.lfext })
    (omega (arith, settings_length y, settings_length x, one))
take_on row st (set_stopbits two) i h =
    let x : Settings = st.settings in
    let y : Settings = record { encode = x.encode; two_stopbits = two; omit = x.omit; lfext = x.lfext } in
    settings_on row st i y
    (record { encode = i.settings.encode; omit = i.settings.omit; omitted = i.settings.omitted; lfext = i.settings.lfext })
    (omega (arith, settings_length y, settings_length x, stopbits_one two))
take_on row st (set_omit bs) i h =
    let x : Settings = st.settings in
    let y : Settings = record { encode = x.encode; two_stopbits = x.two_stopbits; omit = x.omit ++ bs; lfext = x.lfext } in
    by_cases Holds (leb (length (x.omit ++ bs)) omit_limit) (going (with_settings st y)) (stop TooManyOmits row)
    (λ e.
    settings_on row st i y
    (record { encode = i.settings.encode; omit = all_append is_byte x.omit bs i.settings.omit (both_left (all is_byte bs) _ h); omitted = leb-true (length (x.omit ++ bs)) omit_limit e; lfext = i.settings.lfext })
    (omega (arith, settings_length y, settings_length x, omit_one (x.omit ++ bs))))
    (λ e. tt)
take_on row st (set_lfext e) i h =
    let x : Settings = st.settings in
    let y : Settings = record { encode = x.encode; two_stopbits = x.two_stopbits; omit = x.omit; lfext = e } in
    settings_on row st i y
    (record { encode = i.settings.encode; omit = i.settings.omit; omitted = i.settings.omitted; lfext = h })
    (omega (arith, settings_length y, settings_length x, lfext_one e))
take_on row st (fault n) i h = tt

-- ---- a line

pub line_on : (row : ℕ) (st : Draft) (l : List ℕ) → all in_line l ≡ true → Sound 0 st → Holds (take_line row st l)
unfolding take_line take_counted
line_on row st l p i =
    by_cases Holds (ltb line_limit (length l)) (stop LineTooLong row) _ (λ e. tt)
    (λ e. by_cases Holds (is_comment (meaning l)) (going st) _ (λ e₁. i)
    (λ e₁. by_cases Holds (ltb st.counted lines_limit) _ (stop TooManyLines row)
    (λ e₂. take_on row (count_line st) (meaning l) (counted_on st i (ltb-true st.counted lines_limit e₂)) (meaning_right_lem l (ltb-false line_limit (length l) e) p))
    (λ e₂. tt)))

pub start_sound : Sound 0 start
unfolding start default all_right data_in nexts_in needs setting_lines encode_lines same encode_right extension is_capital
start_sound =
    record {
      settings = record { encode = refl; omit = refl; omitted = omega arith; lfext = refl };
      rights = refl;
      used = refl;
      bytes = omega arith;
      nested = λ rest. refl;
      deep = omega arith;
      count = refl;
      few = omega arith;
      lines = omega arith;
      counted = omega arith;
    }
