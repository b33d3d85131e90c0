-- Figures of a fragment: what is to be known of it to join it to others. Assumes nothing: these are definitions.
use Rattle.std.specs.Prelude.{Bool, true, false, cond, ◌||◌, ℕ, zero, suc, ◌+◌, ◌*◌, max, eqb}
use Rattle.figures.specs.declared.Figures.{Figures}
use Rattle.figures.specs.Fragment.{Fragment, stop, other, rest, loop}
use Rattle.figures.specs.Cap.{over, cap}

-- the record of a fragment's figures, part by part
abbrev pub fig : Bool → Bool → ℕ → ℕ → ℕ → Figures
fig r e f l g = record { rests = r; ends = e; first = f; last = l; longest = g }

-- one statement that is no sure rest
abbrev pub one_statement : Figures
one_statement = fig false true 1 1 1

-- a sure rest
abbrev pub one_rest : Figures
one_rest = fig true true 0 0 0

-- "the empty fragment"
abbrev pub empty : Figures
empty = fig false true 0 0 0

-- what stands after the passes of a forever loop: it never ends
abbrev pub never : Figures
never = fig false false 0 0 0

-- the last run, which in a fragment without a rest is the first
abbrev pub last_of : Figures → ℕ
last_of a = cond a.rests a.last a.first

-- b after a, where a ends: the last run of a and the first of b are one run
abbrev pub meld : Figures → Figures → Figures
meld a b = fig (a.rests || b.rests) b.ends
    (cond a.rests a.first (a.first + b.first))
    (cond b.rests b.last (last_of a + b.first))
    (max (max a.longest b.longest) (last_of a + b.first))

-- "a forever loop .., after which nothing counts"
unfoldable pub join : Figures → Figures → Figures
join a b = cond a.ends (meld a b) a

-- the figures with each of their runs capped
unfoldable pub capped : Figures → Figures
capped a = fig a.rests a.ends (cap a.first) (cap a.last) (cap a.longest)

-- the capped figures of b after a
abbrev pub joined_capped : Figures → Figures → Figures
joined_capped a b = capped (join a b)

-- n copies of a end to end: where a rests, the last run of one meets the first of the next
unfoldable pub again : ℕ → Figures → Figures
again zero a = empty
again (suc n) a = cond a.ends
    (fig a.rests true
    (cond a.rests a.first (suc n * a.first))
    (cond a.rests a.last (suc n * a.first))
    (max a.longest (cond a.rests (a.last + cond (eqb (suc n) 1) 0 a.first) (suc n * a.first))))
    a

-- the capped figures of n copies of a
abbrev pub copies_capped : ℕ → Figures → Figures
copies_capped n a = capped (again n a)

-- the passes of LOOP n with the body b, "END once per pass"; a forever loop shows in 4,097 passes all that it will ever show
unfoldable pub looped : ℕ → Figures → Figures
looped zero b = joined_capped (copies_capped over (joined_capped b one_statement)) never
looped (suc n) b = copies_capped (suc n) (joined_capped b one_statement)

-- the figures of a fragment in closed form, "LOOP counts once on entry"
unfoldable pub figures : Fragment → Figures
figures stop = empty
figures (other p) = joined_capped one_statement (figures p)
figures (rest p) = joined_capped one_rest (figures p)
figures (loop n b p) = joined_capped one_statement (joined_capped (looped n (figures b)) (figures p))

-- the stretch, or 4,097 where it is over 4,096
abbrev pub fragment_stretch : Fragment → ℕ
fragment_stretch p = (figures p).longest
