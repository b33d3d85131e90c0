-- THE OPEN LOOPS in the code are those of the draft: a law for each way on. Assumes nothing.
use Rattle.std.specs.Prelude.{Ok}
use Rattle.std.specs.List.{slice_get}
use Rattle.std.proofs.lemmas.Option.{slice_get_read}
use Rattle.std.proofs.Math.Seq.{get_or-append_seam}
use Prim.Native.Nat.{ℕ, suc, ◌+◌, ◌-◌, ◌≤◌, ◌<◌}
use mathlib.Core.Path.{◌≡◌, refl, sym, ap, ◌∙◌}
use mathlib.Core.List.{List, [], ◌∷◌, ◌++◌}
use native.Mathlib.Omega.{arith}
use lib.ListN.{length, take, set, length-append, length-set}
use lib.Seq.{take-suc-set, take-take, take_at}
use borrow.Author.Tests.{lt-ltb, le-ltb}
use Rattle.language.specs.declared.TextFault.TheVariants.{TooManyLoops, EndWithoutLoop}
use Rattle.language.specs.Limits.{loop_limit}
use Rattle.language.specs.Script.{opens, closes, stays}
use Rattle.language.specs.Draft.{Draft, nest}
use Rattle.compiler.specs.declared.drafting.Drafting.{Drafting}
use Rattle.compiler.specs.Inside.Drafting.{stopped, stacked, first_of, IsDraft, Took, Takes, with_loops, nested_in, Nests}

stacked_length : (ls : List ℕ) → length (stacked ls) ≡ length ls
unfolding stacked
stacked_length [] = refl
stacked_length (l ∷ ls) = length-append (stacked ls) (l ∷ []) ∙ omega (arith, stacked_length ls)

without_last : (l : ℕ) (ls noted : List ℕ) → take (length (l ∷ ls)) noted ≡ stacked (l ∷ ls) → take (length ls) noted ≡ stacked ls
unfolding stacked
without_last l ls noted e =
    sym (take-take (length ls) (suc (length ls)) noted (omega arith))
    ∙ ap (take (length ls)) e
    ∙ take_at (stacked ls) (l ∷ []) (length ls) (stacked_length ls)

-- the last of the noted lines is the innermost's
last_of_stack : (ls : List ℕ) → slice_get (stacked ls) (length (stacked ls) - 1) ≡ first_of ls
unfolding stacked
last_of_stack [] = refl
last_of_stack (l ∷ ls) =
    let long : length (stacked ls ++ l ∷ []) ≡ length (stacked ls) + 1 = length-append (stacked ls) (l ∷ []) in
    let last : length (stacked ls ++ l ∷ []) - 1 ≡ length (stacked ls) = omega arith in
    rw last (slice_get_read (stacked ls ++ l ∷ []) (length (stacked ls ++ l ∷ [])) (length (stacked ls)) l refl (omega arith) (sym (get_or-append_seam (stacked ls) l [] l)))

pub innermost_read : {st : Draft} {w : Drafting} (n : ℕ) → n ≡ w.opened → IsDraft st w → slice_get (take n w.loops) (length (take n w.loops) - 1) ≡ first_of st.loops
innermost_read {st} {w} n e h =
    let noted : take n w.loops ≡ stacked st.loops = rw (e, h.opened) h.loops in
    rw noted (last_of_stack st.loops)

abbrev opened_by : ℕ → Drafting → Drafting
opened_by row w = record w { opened = w.opened + 1; loops = set w.loops w.opened row }

abbrev closed_in : Drafting → Drafting
closed_in w = record w { opened = w.opened - 1 }

module _ (row : ℕ) (w : Drafting) where
  pub stays_on : Nests stays row w (Ok tt) w
  unfolding nested_in nest with_loops
  stays_on = record {
    takes = λ st h. (
      refl,
      record {
        counted = h.counted;
        written = h.written;
        opened = h.opened;
        long = h.long;
        loops = h.loops;
        begun = h.begun;
        heads = h.heads;
        used = h.used;
        count = h.count;
        words = h.words;
        bytes = h.bytes;
      },
    );
    written = refl;
    table = refl;
  }

  pub opens_on : w.opened < loop_limit → Nests opens row w (Ok tt) (opened_by row w)
  unfolding nested_in nest with_loops stacked
  opens_on k = record { takes = on; written = refl; table = refl }
    where
      on : Takes (λ st. nested_in row st (nest row opens st.loops)) w (Ok tt) (opened_by row w)
      on st h =
          let less : length st.loops < loop_limit = omega (arith, h.opened) in
          rw (lt-ltb (length st.loops) loop_limit less) (
            refl,
            record {
              counted = h.counted;
              written = h.written;
              opened = omega (arith, h.opened);
              long = length-set w.loops w.opened row ∙ h.long;
              loops = rw h.opened (take-suc-set w.loops (length st.loops) row (omega (arith, h.long)) ∙ ap (λ (x : List ℕ). x ++ row ∷ []) h.loops);
              begun = h.begun;
              heads = h.heads;
              used = h.used;
              count = h.count;
              words = h.words;
              bytes = h.bytes;
            },
          )

  pub opens_stop : loop_limit ≤ w.opened → Nests opens row w (stopped TooManyLoops row) w
  unfolding nested_in nest
  opens_stop k = record { takes = on; written = refl; table = refl }
    where
      on : Takes (λ st. nested_in row st (nest row opens st.loops)) w (stopped TooManyLoops row) w
      on st h =
          let more : loop_limit ≤ length st.loops = omega (arith, h.opened) in
          rw (le-ltb (length st.loops) loop_limit more)

  pub closes_on : (w.opened ≡ 0 → ⊥) → Nests closes row w (Ok tt) (closed_in w)
  unfolding nested_in nest with_loops
  closes_on k = record { takes = λ st h. go st h st.loops refl; written = refl; table = refl }
    where
      go : (st : Draft) → IsDraft st w → (ls : List ℕ) → st.loops ≡ ls → Took (nested_in row st (nest row closes ls)) (Ok tt) (closed_in w)
      go st h [] e = absurd (k (h.opened ∙ ap length e))
      go st h (l ∷ ls) e = (
        refl,
        record {
          counted = h.counted;
          written = h.written;
          opened = omega (arith, h.opened, ap length e);
          long = h.long;
          loops = without_last l ls w.loops (rw e at h.loops);
          begun = h.begun;
          heads = h.heads;
          used = h.used;
          count = h.count;
          words = h.words;
          bytes = h.bytes;
        },
      )

  pub closes_stop : w.opened ≡ 0 → Nests closes row w (stopped EndWithoutLoop row) w
  unfolding nested_in nest
  closes_stop k = record { takes = λ st h. go st h st.loops refl; written = refl; table = refl }
    where
      go : (st : Draft) → IsDraft st w → (ls : List ℕ) → st.loops ≡ ls → Took (nested_in row st (nest row closes ls)) (stopped EndWithoutLoop row) w
      go st h [] e = refl
      go st h (l ∷ ls) e = absurd (omega (arith, h.opened, ap length e))
