-- What a process does in its loops: its lines in their order, the body of LOOP n its n times, that of a forever loop again and again. Assumes nothing.
use mathlib.Core.Path.{◌≡◌, refl, ap, subst, ◌∙◌}
use mathlib.Core.List.{List, [], ◌∷◌, ◌++◌, append_assoc}
use Prim.Native.Nat.{ℕ, zero, suc, ◌-◌}
use native.Mathlib.Omega.{arith}
use borrow.Author.Tests.{ne_eqb}
use Rattle.reader.proofs.Tests.{true_is_false}
use Rattle.language.specs.Script.{Statement, send, loop, end, wait_time, wait_data, wait_byte, wait_clock, wait_signal, rts, log, fchange, pause, resume, nop, stays, shape}
use Rattle.running.specs.Running.{Loop, Process, Box, statement, next_in, next_by, next, for_nothing, closed, logged, does}
use Rattle.running.specs.Passes.{wait_over, At, Comes, DoneAs, times_over, in_loop, LoopsPass}

-- ---- one after the other

comes_more : (l m ss : List Statement) (ls : List Loop) {ts : List Statement} {ks : List Loop} (p : Process) → Comes l ts ks p → ((q : Process) → At ts ks q → Comes m ss ls q) →
    Comes (l ++ m) ss ls p
comes_more [] m ss ls p c f = f p c
comes_more (s ∷ l) m ss ls p c f = record {
  behind = c.behind;
  first = c.first;
  rest = λ b. comes_more l m ss ls (wait_over (does b p c.behind s).process) (c.rest b) f;
}

next_is : (p : Process) (s : Statement) (ss : List Statement) → p.wait ≡ for_nothing → p.coming ≡ s ∷ ss → next p ≡ statement s ss
unfolding next_by next_in
next_is p s ss w c = rw (w, c)

-- one statement, that goes to ts with the loops ls open in every box
comes_one : (p : Process) (s : Statement) (ss : List Statement) {ts : List Statement} {ls : List Loop} → p.wait ≡ for_nothing → p.coming ≡ s ∷ ss →
    ((b : Box) → ((does b p ss s).process.coming ≡ ts) × ((does b p ss s).process.loops ≡ ls)) → Comes (s ∷ []) ts ls p
comes_one p s ss w c to = record { behind = ss; first = next_is p s ss w c; rest = λ b. record { coming = (to b).0; loops = (to b).1; over = refl } }

-- ---- a statement that is no LOOP and no END

plain_on : (b : Box) (p : Process) (ss : List Statement) (s : Statement) → shape s ≡ stays → ((does b p ss s).process.coming ≡ ss) × ((does b p ss s).process.loops ≡ p.loops)
unfolding shape does logged
plain_on b p ss (send bs) e = (refl, refl)
plain_on b p ss (loop n) e = true_is_false (cc)
plain_on b p ss end e = true_is_false (cc)
plain_on b p ss (wait_time n) e = (refl, refl)
plain_on b p ss (wait_data bs) e = (refl, refl)
plain_on b p ss (wait_byte n) e = (refl, refl)
plain_on b p ss (wait_clock vs) e = (refl, refl)
plain_on b p ss (wait_signal n on) e = (refl, refl)
plain_on b p ss (rts on) e = (refl, refl)
plain_on b p ss (log text) e = (refl, refl)
plain_on b p ss fchange e = (refl, refl)
plain_on b p ss pause e = (refl, refl)
plain_on b p ss resume e = (refl, refl)
plain_on b p ss nop e = (refl, refl)

plain_done : (s : Statement) → shape s ≡ stays → DoneAs (s ∷ []) (s ∷ [])
plain_done s e p ss w c = comes_one p s ss w c (λ b. plain_on b p ss s e)

joined_done : (a b l m : List Statement) → DoneAs a l → DoneAs b m → DoneAs (a ++ b) (l ++ m)
joined_done a b l m f g p ss w c =
    comes_more l m ss p.loops p (f p (b ++ ss) w (c ∙ append_assoc a b ss)) (λ q x. subst (λ (ls : List Loop). Comes m ss ls q) x.loops (g q ss x.over x.coming))

-- ---- a loop

module _ (body l : List Statement) (f : DoneAs body l) (ss : List Statement) (ls : List Loop) where
  -- the body, its END, and what is after the loop
  abbrev again : List Statement
  again = body ++ (end ∷ ss)

  abbrev opened : ℕ → List Loop
  opened n = record { left = n; body = again } ∷ ls

  -- a pass: the body and END, which goes to ts with the loops ks open
  pass : (n : ℕ) (ts : List Statement) (ks : List Loop) → ((x : Process) → ((closed x ss (opened n)).coming ≡ ts) × ((closed x ss (opened n)).loops ≡ ks)) →
      (p : Process) → At again (opened n) p → Comes (l ++ (end ∷ [])) ts ks p
  unfolding does closed
  pass n ts ks to p x =
      comes_more l (end ∷ []) ts ks p (f p (end ∷ ss) x.over x.coming) (λ q y.
      let o : q.loops ≡ opened n = y.loops ∙ x.loops in
      comes_one q end ss y.over y.coming (λ b. rw o (to q)))

  last_to : (x : Process) → ((closed x ss (opened 1)).coming ≡ ss) × ((closed x ss (opened 1)).loops ≡ ls)
  unfolding closed
  last_to x = (refl, refl)

  next_to : (n : ℕ) (x : Process) → ((closed x ss (opened (suc (suc n)))).coming ≡ again) × ((closed x ss (opened (suc (suc n)))).loops ≡ opened (suc n))
  unfolding closed
  next_to n x =
      let z : suc (suc n) - 1 ≡ suc n = omega arith in
      rw (ne_eqb (suc (suc n)) 0 (λ e. omega arith), ne_eqb (suc (suc n)) 1 (λ e. omega arith), z) (refl, refl)

  ever_to : (x : Process) → ((closed x ss (opened 0)).coming ≡ again) × ((closed x ss (opened 0)).loops ≡ opened 0)
  unfolding closed
  ever_to x = (refl, refl)

  all_passes : (n : ℕ) (p : Process) → At again (opened (suc n)) p → Comes (times_over (suc n) (l ++ (end ∷ []))) ss ls p
  unfolding times_over
  all_passes zero p x = comes_more (l ++ (end ∷ [])) [] ss ls p (pass 1 ss ls last_to p x) (λ q y. y)
  all_passes (suc n) p x =
      comes_more (l ++ (end ∷ [])) (times_over (suc n) (l ++ (end ∷ []))) ss ls p (pass (suc (suc n)) again (opened (suc n)) (next_to n) p x) (λ q y. all_passes n q y)

  ever_passes : (n : ℕ) (p : Process) → At again (opened 0) p → Comes (times_over n (l ++ (end ∷ []))) again (opened 0) p
  unfolding times_over
  ever_passes zero p x = x
  ever_passes (suc n) p x =
      comes_more (l ++ (end ∷ [])) (times_over n (l ++ (end ∷ []))) again (opened 0) p (pass 0 again (opened 0) ever_to p x) (λ q y. ever_passes n q y)

-- LOOP n opens the loop
opens : (n : ℕ) (body : List Statement) (p : Process) (ss : List Statement) → p.wait ≡ for_nothing → p.coming ≡ in_loop n body ++ ss →
    Comes (loop n ∷ []) (body ++ (end ∷ ss)) (record { left = n; body = body ++ (end ∷ ss) } ∷ p.loops) p
unfolding does
opens n body p ss w c =
    let e : (body ++ (end ∷ [])) ++ ss ≡ body ++ (end ∷ ss) = append_assoc body (end ∷ []) ss in
    comes_one p (loop n) (body ++ (end ∷ ss)) w (c ∙ ap (λ (ts : List Statement). loop n ∷ ts) e) (λ b. (refl, refl))

-- THE THEOREM
pub loops_pass : LoopsPass
loops_pass = record {
  none = λ p ss w c. record { coming = c; loops = refl; over = w };
  plain = plain_done;
  joined = joined_done;
  passes = λ n body l f p ss w c.
      comes_more (loop (suc n) ∷ []) (times_over (suc n) (l ++ (end ∷ []))) ss p.loops p (opens (suc n) body p ss w c) (λ q x. all_passes body l f ss p.loops n q x);
  forever = λ n body l f p ss w c.
      comes_more (loop 0 ∷ []) (times_over n (l ++ (end ∷ []))) (body ++ (end ∷ ss)) (record { left = 0; body = body ++ (end ∷ ss) } ∷ p.loops) p (opens 0 body p ss w c) (λ q x. ever_passes body l f ss p.loops n q x);
}
