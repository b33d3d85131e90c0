-- A LINE IS TAKEN as the definition takes it: a law for each way on. Assumes nothing.
use Rattle.std.specs.Prelude.{Result, Ok, Err}
use Prim.Native.Nat.{ℕ, ◌+◌, ◌≤◌, ◌<◌}
use mathlib.Core.Path.{◌≡◌, refl, sym, ap, ◌∙◌}
use mathlib.Core.Bool.{Bool, true, false}
use mathlib.Core.List.{List}
use native.Mathlib.Omega.{arith}
use lib.Dec.{ltb}
use lib.ListN.{length}
use lib.Seq.{sets}
use borrow.Author.Tests.{ltb-false, lt-ltb, le-ltb}
use Rattle.reader.specs.Bytes.{all}
use Rattle.line_values.specs.declared.Line.{Line}
use Rattle.line_values.specs.Inside.Line.{line_from, data_from}
use Rattle.line_meaning.specs.Inside.Line.{meaning_in, line_of, line_data}
use Rattle.language.specs.declared.TextFault.{TextFault}
use Rattle.language.specs.declared.TextFault.TheVariants.{LineTooLong, TooManyLines, BadRest}
use Rattle.language.specs.Limits.{line_limit, lines_limit, send_room}
use Rattle.language.specs.Inside.Right.{omit_room, meaning_right}
use Rattle.language.specs.Script.{Meaning, comment, blank, process, set_ex, says, set_encode, set_stopbits, set_omit, set_lfext, fault}
use Rattle.language.specs.Meaning.{meaning}
use Rattle.language.specs.Right.{in_line}
use Rattle.language.specs.Draft.{Draft, count_line, take_counted, is_comment, take_line}
use Rattle.language.proofs.Meanings.{meaning_right_lem}
use Rattle.language.proofs.TableCells.{data_room, data_few}
use Rattle.compiler.specs.declared.drafting.Drafting.{Drafting}
use Rattle.compiler.specs.declared.drafting.Stop.{Stop}
use Rattle.compiler.specs.Inside.Drafting.{Step, stopped, IsDraft, Took, Takes, HasRoom, Ready, bytes_said, comment_said, StepsSaid}
use Rattle.compiler.proofs.Stepping.{bytes_told, steps_on}

comment_told : (m : Meaning) → comment_said (line_from m) ≡ is_comment m
unfolding line_from is_comment
comment_told comment = refl
comment_told blank = refl
comment_told process = refl
comment_told set_ex = refl
comment_told (says s) = refl
comment_told (set_encode b) = refl
comment_told (set_stopbits two) = refl
comment_told (set_omit bs) = refl
comment_told (set_lfext e) = refl
comment_told (fault n) = refl

-- the data of a line are fewer than its bytes
data_fits : (m : Meaning) → meaning_right m ≡ true → length (data_from m) ≤ send_room
unfolding meaning_right data_from
data_fits comment h = omega arith
data_fits blank h = omega arith
data_fits process h = omega arith
data_fits set_ex h = omega arith
data_fits (says s) h = data_few s h
data_fits (set_encode b) h = omega arith
data_fits (set_stopbits two) h = omega arith
data_fits (set_omit bs) h = omega (arith, data_room omit_room bs h)
data_fits (set_lfext e) h = omega arith
data_fits (fault n) h = omega arith

abbrev pub counted_in : Drafting → Drafting
counted_in w = record w { counted = w.counted + 1 }

pub counted_within : {w : Drafting} → Ready w → w.counted < lines_limit → HasRoom (counted_in w)
counted_within i k = record { room = omega (arith, i.room); deep = i.deep; some = i.some; few = i.few }

counted_on : {st : Draft} {w : Drafting} → IsDraft st w → IsDraft (count_line st) (counted_in w)
unfolding count_line
counted_on h =
    record {
      counted = omega (arith, h.counted);
      written = h.written;
      opened = h.opened;
      long = h.long;
      loops = h.loops;
      begun = h.begun;
      heads = h.heads;
      used = h.used;
      count = h.count;
      words = h.words;
      bytes = h.bytes;
    }

pub long_stop : (row : ℕ) (l : List ℕ) (w w' : Drafting) → line_limit < length l → Takes (λ st. take_line row st l) w (stopped LineTooLong row) w'
unfolding take_line
long_stop row l w w' k st h = rw (lt-ltb line_limit (length l) k)

-- a line whose rest is wrong is not too long: 1 comes before 4
pub bad_rest_short : (row : ℕ) (st : Draft) (l : List ℕ) (x : Stop) (w' : Drafting) → Took (take_line row st l) (Err x) w' → x.fault ≡ BadRest → length l ≤ line_limit
unfolding take_line
bad_rest_short row st l x w' k b = go (ltb line_limit (length l)) refl
  where
    go : (t : Bool) → ltb line_limit (length l) ≡ t → length l ≤ line_limit
    go false t = ltb-false line_limit (length l) t
    go true t =
        let e : ◌≡◌ {A = Step} (Err x) (stopped LineTooLong row) = rw t at k in
        absurd (cc)

module _ (l : List ℕ) (short : length l ≤ line_limit) {said : Result Line TextFault} (told : said ≡ line_of l) where
  says_meaning : said ≡ line_from (meaning l)
  unfolding line_of meaning_in
  says_meaning = told ∙ rw (le-ltb line_limit (length l) short)

  comment_is : comment_said said ≡ is_comment (meaning l)
  comment_is = ap comment_said says_meaning ∙ comment_told (meaning l)

  pub said_fits : all in_line l ≡ true → bytes_said said ≤ 128
  said_fits i = omega (arith, ap bytes_said says_meaning ∙ bytes_told (meaning l), data_fits (meaning l) (meaning_right_lem l short i))

  module _ (row : ℕ) (w : Drafting) where
    pub comment_on : comment_said said ≡ true → Takes (λ st. take_line row st l) w (Ok tt) w
    unfolding take_line
    comment_on c st h = rw (le-ltb line_limit (length l) short, sym comment_is ∙ c) (refl, h)

    pub many_stop : (w' : Drafting) → comment_said said ≡ false → lines_limit ≤ w.counted → Takes (λ st. take_line row st l) w (stopped TooManyLines row) w'
    unfolding take_line take_counted
    many_stop w' c k st h =
        let many : lines_limit ≤ st.counted = omega (arith, h.counted) in
        rw (le-ltb line_limit (length l) short, sym comment_is ∙ c, le-ltb st.counted lines_limit many)

    pub counts_on : (r : Step) (w' : Drafting) (lent lent' : List ℕ) → all in_line l ≡ true → lent' ≡ sets lent 0 (line_data l)
        → comment_said said ≡ false → w.counted < lines_limit → StepsSaid row lent' (counted_in w) r w' said → Takes (λ st. take_line row st l) w r w'
    unfolding take_line take_counted line_data meaning_in
    counts_on r w' lent lent' i e c k s st h =
        let less : st.counted < lines_limit = omega (arith, h.counted) in
        rw (le-ltb line_limit (length l) short, sym comment_is ∙ c, lt-ltb st.counted lines_limit less)
        (steps_on row lent' (counted_in w) r w' (meaning l) (meaning_right_lem l short i)
        (record { before = lent; put = e ∙ rw (le-ltb line_limit (length l) short) })
        (rw says_meaning at s) (count_line st) (counted_on h))
