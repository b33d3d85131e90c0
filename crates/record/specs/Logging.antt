-- LOG records.
use Rattle.std.specs.Prelude.{ℕ, ◌+◌, ◌%◌, Bool, true, false, cond, List, [], ◌∷◌, ◌++◌, length, take, eqb, leb, Option, Some, None}
use Rattle.std.proofs.lemmas.List.Edits.{sets}
use Rattle.writer.specs.Put.{decimal, two_digits}
use Rattle.process.specs.declared.Reading.{Reading}

-- "`@c` shows the count before this record, in decimal with no leading zeros"; "Dates are two digits from the last reading"; `@@ @r
-- @n`; another byte, which no accepted script has after `@`, stands for itself
unfoldable pub sign_text : Reading → ℕ → ℕ → List ℕ
sign_text r count b =
    cond (eqb b 99) (decimal count)
    (cond (eqb b 89) (two_digits r.year)
    (cond (eqb b 77) (two_digits r.month)
    (cond (eqb b 68) (two_digits r.day)
    (cond (eqb b 104) (two_digits r.hour)
    (cond (eqb b 109) (two_digits r.minute)
    (cond (eqb b 115) (two_digits r.second)
    (cond (eqb b 114) (13 ∷ [])
    (cond (eqb b 110) (10 ∷ []) (b ∷ [])))))))))

-- the text with its signs written out; the flag tells that `@` stands before
unfoldable pub written_out : Reading → ℕ → List ℕ → Bool → List ℕ
written_out r count [] at = []
written_out r count (b ∷ l) true = sign_text r count b ++ written_out r count l false
written_out r count (b ∷ l) false = cond (eqb b 64) (written_out r count l true) (b ∷ written_out r count l false)

-- "A record is cut after 127 bytes."
abbrev pub record_limit : ℕ
record_limit = 127

-- the record: what is written out, cut
unfoldable pub record_of : Reading → ℕ → List ℕ → List ℕ
record_of r count text = take record_limit (written_out r count text false)

-- "4294967295 is followed by 0"
unfoldable pub next_count : ℕ → ℕ
next_count n = (n + 1) % 4294967296

-- the record put at the start of a lent buffer: the place after it, or that the buffer has under 127 bytes
unfoldable pub record_answer : Reading → ℕ → List ℕ → List ℕ → Option ℕ
record_answer r count text d = cond (leb record_limit (length d)) (Some (length (record_of r count text))) None

-- what the buffer then holds: one that is too small is left as it is
unfoldable pub record_into : Reading → ℕ → List ℕ → List ℕ → List ℕ
record_into r count text d = cond (leb record_limit (length d)) (sets d 0 (record_of r count text)) d
