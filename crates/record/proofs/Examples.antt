-- Records and counts at their edges, computed: counts that no run of a program reaches, and the cut. Assumes nothing.
use Prim.Native.Nat.{ℕ, zero, suc}
use Prim.Native.Char.{code}
use Prim.Native.String.{String}
use mathlib.Core.Path.{◌≡◌, refl}
use mathlib.Core.List.{List, [], ◌∷◌, ◌++◌}
use Rattle.writer.specs.Put as put
use Rattle.process.specs.declared.Reading.{Reading}
use Rattle.record.specs.Logging.{sign_text, written_out, record_of, next_count}

-- a quoted text as its bytes
abbrev ascii : String → List ℕ
ascii String.[] = []
ascii (String.◌∷◌ c s) = code c ∷ ascii s

-- a reading in which each unit has a value of its own
abbrev now : Reading
now = record { year = 98; month = 7; day = 16; hour = 5; minute = 34; second = 29 }

-- a text, the count before its record, and the record
abbrev Records : List (String × (ℕ × String)) → Type 0
Records [] = Unit {0}
Records (c ∷ cs) = (record_of now c.1.0 (ascii c.0) ≡ ascii c.1.1) × Records cs

-- "in decimal with no leading zeros, from 0": above 65,535 and up to the last; each sign by itself
abbrev records : List (String × (ℕ × String))
records =
    ("@c", (0, "0"))
    ∷ ("@c", (9, "9"))
    ∷ ("@c", (10, "10"))
    ∷ ("@c", (65535, "65535"))
    ∷ ("@c", (65536, "65536"))
    ∷ ("@c", (4294967294, "4294967294"))
    ∷ ("@c", (4294967295, "4294967295"))
    ∷ ("@Y", (1, "98"))
    ∷ ("@M", (1, "07"))
    ∷ ("@D", (1, "16"))
    ∷ ("@h", (1, "05"))
    ∷ ("@m", (1, "34"))
    ∷ ("@s", (1, "29"))
    ∷ ("@@", (1, "@"))
    ∷ ("@r", (1, "\r"))
    ∷ ("@n", (1, "\n"))
    ∷ ("c@@c@@@c", (7, "c@c@7"))
    ∷ []

records_hold : Records records
unfolding record_of written_out sign_text put.decimal put.width_of put.width_go put.fixed put.two_digits
records_hold = (refl, (refl, (refl, (refl, (refl, (refl, (refl, (refl, (refl, (refl, (refl, (refl, (refl, (refl, (refl, (refl, (refl, tt)))))))))))))))))

-- "4294967295 is followed by 0"
abbrev Follows : List (ℕ × ℕ) → Type 0
Follows [] = Unit {0}
Follows (c ∷ cs) = (next_count c.0 ≡ c.1) × Follows cs

abbrev counts : List (ℕ × ℕ)
counts = (0, 1) ∷ (255, 256) ∷ (65535, 65536) ∷ (65536, 65537) ∷ (4294967294, 4294967295) ∷ (4294967295, 0) ∷ []

counts_follow : Follows counts
unfolding next_count
counts_follow = (refl, (refl, (refl, (refl, (refl, (refl, tt))))))

-- ---- "A record is cut after 127 bytes."

-- a text so many times
abbrev times : ℕ → List ℕ → List ℕ
times zero l = []
times (suc n) l = l ++ times n l

-- `@c` 61 times, the longest text that a line has room for, at the counts 99 and 100: 122 bytes, and 183 that are cut
under_the_cut : record_of now 99 (times 61 (ascii "@c")) ≡ times 61 (ascii "99")
unfolding record_of written_out sign_text put.decimal put.width_of put.width_go put.fixed
under_the_cut = refl

over_the_cut : record_of now 100 (times 61 (ascii "@c")) ≡ times 42 (ascii "100") ++ ascii "1"
unfolding record_of written_out sign_text put.decimal put.width_of put.width_go put.fixed
over_the_cut = refl

-- 127 bytes, whole; and one byte more, which is cut
at_the_cut : record_of now 100 (times 5 (ascii "@c") ++ times 112 (ascii "x")) ≡ times 5 (ascii "100") ++ times 112 (ascii "x")
unfolding record_of written_out sign_text put.decimal put.width_of put.width_go put.fixed
at_the_cut = refl

past_the_cut : record_of now 100 (times 6 (ascii "@c") ++ times 109 (ascii "x") ++ ascii "z") ≡ times 6 (ascii "100") ++ times 109 (ascii "x")
unfolding record_of written_out sign_text put.decimal put.width_of put.width_go put.fixed
past_the_cut = refl
