-- What a process does in its loops: document 01, "`#LOOP n` .. `EVER`, 0 or nothing is forever. `#END` closes the innermost loop." Assumes nothing:
-- these are definitions.
use Rattle.std.specs.Prelude.{◌≡◌, List, [], ◌∷◌, ◌++◌, ℕ, zero, suc}
use Rattle.language.specs.Script.{Statement, loop, end, stays, shape}
use Rattle.running.specs.Running.{Loop, Process, Box, statement, next, for_nothing, does, waiting}

-- a process whose wait is over
abbrev pub wait_over : Process → Process
wait_over p = waiting (λ w. for_nothing) p

-- it has these statements to come, with these loops open, and waits for nothing
pub record At (ss : List Statement) (ls : List Loop) (p : Process) : Type 0 where
  pub coming : p.coming ≡ ss
  pub loops : p.loops ≡ ls
  pub over : p.wait ≡ for_nothing

-- its next statement is s, and after it, whatever the box holds and once its wait is over, the rest is as claimed
pub record Step (s : Statement) (claim : Process → Type 0) (p : Process) : Type 0 where
  pub behind : List Statement
  pub first : next p ≡ statement s behind
  pub rest : (b : Box) → claim (wait_over (does b p behind s).process)

-- it does the statements l, one after the other, and then has ss to come, with the loops ls open
abbrev pub Comes : List Statement → List Statement → List Loop → Process → Type 0
Comes [] ss ls = At ss ls
Comes (s ∷ l) ss ls = Step s (Comes l ss ls)

-- some lines are done as the statements l: whatever comes after them, a process goes through them by l and has the loops open that it had
abbrev pub DoneAs : List Statement → List Statement → Type 0
DoneAs lines l = (p : Process) (ss : List Statement) → p.wait ≡ for_nothing → p.coming ≡ lines ++ ss → Comes l ss p.loops p

-- so many times
unfoldable pub times_over : ℕ → List Statement → List Statement
times_over zero l = []
times_over (suc n) l = l ++ times_over n l

-- LOOP n, a body, END
abbrev pub in_loop : ℕ → List Statement → List Statement
in_loop n body = loop n ∷ (body ++ (end ∷ []))

-- each line once, in its order; the body of LOOP n is done n times, END after each; that of a forever loop as often as one likes, and then it comes again
pub record LoopsPass : Type 0 where
  pub none : DoneAs [] []
  pub plain : (s : Statement) → shape s ≡ stays → DoneAs (s ∷ []) (s ∷ [])
  pub joined : (a b l m : List Statement) → DoneAs a l → DoneAs b m → DoneAs (a ++ b) (l ++ m)
  pub passes : (n : ℕ) (body l : List Statement) → DoneAs body l → DoneAs (in_loop (suc n) body) (loop (suc n) ∷ times_over (suc n) (l ++ (end ∷ [])))
  pub forever : (n : ℕ) (body l : List Statement) → DoneAs body l → (p : Process) (ss : List Statement) → p.wait ≡ for_nothing → p.coming ≡ in_loop 0 body ++ ss →
      Comes (loop 0 ∷ times_over n (l ++ (end ∷ []))) (body ++ (end ∷ ss)) (record { left = 0; body = body ++ (end ∷ ss) } ∷ p.loops) p
