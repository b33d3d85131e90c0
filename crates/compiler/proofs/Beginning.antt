-- A PROCESS LINE: a law for each way on. Assumes nothing.
use Rattle.std.specs.Prelude.{Ok, Option, Some, None}
use Prim.Native.Nat.{ℕ, ◌+◌, ◌≤◌, ◌<◌}
use mathlib.Core.Path.{◌≡◌, refl, sym, ap, ◌∙◌}
use mathlib.Core.Bool.{true, false}
use mathlib.Core.List.{List, [], ◌∷◌, ◌++◌}
use native.Mathlib.Omega.{arith}
use lib.ListN.{length, set, length-append}
use borrow.Author.Tests.{lt-ltb, le-ltb}
use Rattle.language.specs.declared.Heads.{Heads}
use Rattle.language.specs.declared.TextFault.TheVariants.{LoopLeftOpen, TooManyProcesses}
use Rattle.language.specs.Limits.{process_limit}
use Rattle.language.specs.Script.{Item, next}
use Rattle.language.specs.Draft.{Draft, with_next, with_first, beginning, take_process}
use Rattle.language.specs.Table.{words_from, ends_from, heads_of}
use Rattle.compiler.specs.declared.drafting.Drafting.{Drafting}
use Rattle.compiler.specs.Inside.Drafting.{Step, stopped, stacked, first_of, IsDraft, Took, Takes}
use Rattle.compiler.proofs.Padding.{set_behind}
use Rattle.compiler.proofs.Bodies.{pool_next, words_next, ends_next}
use Rattle.compiler.proofs.Standing.{heads_with, heads_with_lem}

abbrev next_in : Drafting → Drafting
next_in w =
    record w {
      table = record w.table { heads = heads_with w.table.heads (w.table.heads.processes + 1) (set w.table.heads.ends w.table.heads.processes w.written) w.table.heads.used };
    }

abbrev first_in : Drafting → Drafting
first_in w = record w { begun = true }

-- after a statement or another such line
abbrev pub Nexts : ℕ → Drafting → Step → Drafting → Type 0
Nexts row w r w' = (st : Draft) → IsDraft st w → st.loops ≡ [] → st.begun ≡ true → Took (beginning row st) r w'

module _ (row : ℕ) (w : Drafting) where
  pub next_on : w.table.heads.processes < process_limit → Nexts row w (Ok tt) (next_in w)
  unfolding beginning with_next heads_of stacked
  next_on k st h l b =
      let is : List Item = st.body in
      let processes : w.table.heads.processes ≡ length (ends_from 0 is) = ap (λ (x : Heads). x.processes) h.heads in
      let less : st.count < process_limit = omega (arith, h.count) in
      let more : length (ends_from 0 (is ++ next ∷ [])) ≡ length (ends_from 0 is) + 1 = rw (ends_next is) (simp length-append (omega arith)) in
      rw (b, lt-ltb st.count process_limit less) (
        refl,
        record {
          counted = h.counted;
          written = rw (words_next 0 is) h.written;
          opened = h.opened ∙ ap length l;
          long = h.long;
          loops = refl;
          begun = h.begun ∙ b;
          heads =
              heads_with_lem w.table.heads st.settings is (is ++ next ∷ []) h.heads (omega (arith, more, processes))
              (rw (h.heads, h.written, ends_next is) (set_behind process_limit (ends_from 0 is) (length (words_from 0 is)) (omega arith)))
              (rw (h.heads, pool_next is));
          used = rw (pool_next is) h.used;
          count = omega (arith, more, h.count);
          words = rw (words_next 0 is) h.words;
          bytes = rw (pool_next is) h.bytes;
        },
      )

  pub next_stop : process_limit ≤ w.table.heads.processes → Nexts row w (stopped TooManyProcesses row) w
  unfolding beginning heads_of
  next_stop k st h l b =
      let processes : w.table.heads.processes ≡ length (ends_from 0 st.body) = ap (λ (x : Heads). x.processes) h.heads in
      let more : process_limit ≤ st.count = omega (arith, h.count) in
      rw (b, le-ltb st.count process_limit more)

  -- a loop is open: the line of the innermost
  pub open_stop : (at : ℕ) (w' : Drafting) → ((st : Draft) → IsDraft st w → Some at ≡ first_of st.loops) → Takes (λ st. take_process row st st.loops) w (stopped LoopLeftOpen at) w'
  unfolding take_process
  open_stop at w' k st h = go st.loops (k st h)
    where
      go : (ls : List ℕ) → Some at ≡ first_of ls → Took (take_process row st ls) (stopped LoopLeftOpen at) w'
      go [] e = absurd (cc)
      go (x ∷ ls) e = let same : at ≡ x = cc in ap (stopped LoopLeftOpen) same

  -- none is open
  closed : (st : Draft) (r : Step) (w' : Drafting) → None ≡ first_of st.loops → (st.loops ≡ [] → Took (beginning row st) r w') → Took (take_process row st st.loops) r w'
  unfolding take_process
  closed st r w' k f = go st.loops refl k
    where
      go : (ls : List ℕ) → st.loops ≡ ls → ◌≡◌ {A = Option ℕ} None (first_of ls) → Took (take_process row st ls) r w'
      go [] l k = f l
      go (x ∷ ls) l k = absurd (cc)

  module _ (none : (st : Draft) → IsDraft st w → None ≡ first_of st.loops) where
    pub process_next : (r : Step) (w' : Drafting) → w.begun ≡ true → Nexts row w r w' → Takes (λ st. take_process row st st.loops) w r w'
    process_next r w' b n st h = closed st r w' (none st h) (λ l. n st h l (sym h.begun ∙ b))

    pub process_first : w.begun ≡ false → Takes (λ st. take_process row st st.loops) w (Ok tt) (first_in w)
    unfolding beginning with_first stacked
    process_first b st h =
        closed st (Ok tt) (first_in w) (none st h) (λ l.
        rw (sym h.begun ∙ b) (
          refl,
          record {
            counted = h.counted;
            written = h.written;
            opened = h.opened ∙ ap length l;
            long = h.long;
            loops = refl;
            begun = refl;
            heads = h.heads;
            used = h.used;
            count = h.count;
            words = h.words;
            bytes = h.bytes;
          },
        ))
