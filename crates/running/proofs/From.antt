-- The statements that a process has from a place of the table on, as they are done: neighbouring waits for data are one. Assumes nothing.
use mathlib.Core.Path.{◌≡◌, refl, sym, ap, ◌∙◌}
use mathlib.Core.Bool.{true}
use mathlib.Core.List.{List, [], ◌∷◌, ◌++◌, map, append-nil}
use Prim.Native.Nat.{ℕ, zero, suc, ◌+◌, ◌-◌, ◌≤◌, ◌<◌}
use native.Mathlib.Nat.{le_refl}
use native.Mathlib.Numerals.{add-one}
use native.Mathlib.Omega.{arith}
use lib.ListN.{length, get_or, take, drop, length-take, drop_of_length-le}
use lib.Seq.{slice, slice-cons, drop-drop, take-add}
use borrow.Author.Tests.{eqb-true}
use Rattle.reader.proofs.Tests.{both_left, both_right}
use Rattle.language.specs.declared.Span.{Span}
use Rattle.language.specs.declared.Cell.{Cell}
use Rattle.language.specs.declared.Cell.TheVariants.{Nothing, Send, Loop, End, WaitTime, WaitData, WaitByte, WaitClock, WaitSignal, Rts, Log, Fchange, Pause, Resume, Nop, Unknown}
use Rattle.language.specs.Script.{Statement, wait_data}
use Rattle.running.specs.Joined.{Awaits, bytes, nothing, awaits, join_two, join_to, joined_in}
use Rattle.language.specs.Cell.{decoded}
use Rattle.language.specs.Table.{data_at, statement_of}
use Rattle.accepted.specs.Inside.Cells as tests
use Rattle.accepted.specs.Inside.Cells.{follows, cell_fits, words_fit}
use Rattle.statement.specs.Joining.{more, awaited_bytes, neighbours, their_bytes}
use Rattle.running.proofs.Joins.{joins_none}

-- ---- joined statements

-- none of them is lost
join_long : (s : Statement) (ss : List Statement) → length ss ≤ length (join_to s ss)
unfolding join_to join_two
join_long s [] = omega arith
join_long s (t ∷ ss) = go (awaits s) (awaits t)
  where
    go : (a b : Awaits) → suc (length ss) ≤ length (join_two a b s t ss)
    go (bytes bs) (bytes cs) = omega arith
    go (bytes bs) nothing = omega arith
    go nothing b = omega arith

join_some : (s : Statement) (ss : List Statement) → 0 < length (join_to s ss)
unfolding join_to
join_some s [] = omega arith
join_some s (t ∷ ss) = omega (arith, join_long s (t ∷ ss))

-- ---- of words

-- a cell waits for data, or it does not
data Kind (pool : List ℕ) : Cell → Type 0 where
  awaiting : (s : Span) → Kind pool (WaitData s)
  another : {c : Cell} → ((n other : ℕ) → more c n other ≡ other) → awaits (statement_of pool c) ≡ nothing → Kind pool c

kind : (pool : List ℕ) (c : Cell) → Kind pool c
unfolding awaits statement_of
kind pool Nothing = another (λ n o. refl) refl
kind pool (Send s) = another (λ n o. refl) refl
kind pool (Loop k) = another (λ n o. refl) refl
kind pool End = another (λ n o. refl) refl
kind pool (WaitTime k) = another (λ n o. refl) refl
kind pool (WaitData s) = awaiting s
kind pool (WaitByte k) = another (λ n o. refl) refl
kind pool (WaitClock c) = another (λ n o. refl) refl
kind pool (WaitSignal l) = another (λ n o. refl) refl
kind pool (Rts on) = another (λ n o. refl) refl
kind pool (Log s) = another (λ n o. refl) refl
kind pool Fchange = another (λ n o. refl) refl
kind pool Pause = another (λ n o. refl) refl
kind pool Resume = another (λ n o. refl) refl
kind pool Nop = another (λ n o. refl) refl
kind pool Unknown = another (λ n o. refl) refl

module _ (pool : List ℕ) where
  -- the statement of a word, and those of some
  abbrev pub says : ℕ → Statement
  says w = statement_of pool (decoded w)

  abbrev pub said : List ℕ → List Statement
  said ws = map says ws

  -- fewer words, fewer statements as they are done
  said_shorter : (n : ℕ) (ws : List ℕ) → length (joined_in (said (drop n ws))) ≤ length (joined_in (said ws))
  unfolding joined_in
  said_shorter zero ws = le_refl (length (joined_in (said ws)))
  said_shorter (suc n) [] = omega arith
  said_shorter (suc n) (w ∷ ws) = omega (arith, said_shorter n ws, join_long (says w) (joined_in (said ws)))

  -- a wait for data in front of words that fit is joined with its neighbours: their bytes follow each other in the pool
  joins_data : (ws : List ℕ) (at : ℕ) (bs : List ℕ) → words_fit pool at ws ≡ true →
      join_to (wait_data bs) (joined_in (said ws)) ≡ wait_data (bs ++ take (their_bytes ws) (drop at pool)) ∷ joined_in (said (drop (neighbours ws) ws))
  unfolding joined_in join_to join_two awaits statement_of neighbours their_bytes words_fit cell_fits follows tests.bytes_of_cell
  joins_data [] at bs h = rw append-nil
  joins_data (w ∷ ws) at bs h =
      go (decoded w) refl (kind pool (decoded w)) (both_left (cell_fits pool at (decoded w)) _ h) (both_right (cell_fits pool at (decoded w)) _ h)
      (λ a c. joins_data ws a c)
    where
      go : (c : Cell) → decoded w ≡ c → Kind pool c → cell_fits pool at c ≡ true → words_fit pool (at + tests.bytes_of_cell c) ws ≡ true →
          ((a : ℕ) (cs : List ℕ) → words_fit pool a ws ≡ true →
          join_to (wait_data cs) (joined_in (said ws)) ≡ wait_data (cs ++ take (their_bytes ws) (drop a pool)) ∷ joined_in (said (drop (neighbours ws) ws))) →
          join_to (wait_data bs) (join_to (statement_of pool c) (joined_in (said ws)))
          ≡ wait_data (bs ++ take (more c (awaited_bytes c + their_bytes ws) 0) (drop at pool)) ∷ joined_in (said (drop (more c (neighbours ws + 1) 0) (w ∷ ws)))
      go _ e (awaiting s) f g ih =
          let at-s : s.from ≡ at = eqb-true s.from at (both_left (follows at s) _ f) in
          let together : data_at pool s ++ take (their_bytes ws) (drop (at + s.count) pool) ≡ take (s.count + their_bytes ws) (drop at pool) =
          rw (at-s, ← drop-drop s.count at pool) (sym (take-add s.count (their_bytes ws) (drop at pool)))
          in
          ap (join_to (wait_data bs)) (ih (at + s.count) (data_at pool s) g)
          ∙ rw (together, add-one (neighbours ws))
      go c e (another m a) f g ih =
          ap (join_to (wait_data bs)) (joins_none (statement_of pool c) (joined_in (said ws)) a) ∙ rw (a, m (awaited_bytes c + their_bytes ws) 0, m (neighbours ws + 1) 0, append-nil bs, e, joins_none (statement_of pool c) (joined_in (said ws)) a)

-- ---- from a place of the table on

-- the statements of a process that ends at `end`, as they are done
unfoldable pub from : List ℕ → List ℕ → ℕ → ℕ → List Statement
from cells pool end i = joined_in (said pool (slice i end cells))

module _ (cells pool : List ℕ) (end : ℕ) (inside : end ≤ length cells) where
  parts : (i : ℕ) → i < end → slice i end cells ≡ get_or cells i 0 ∷ slice (i + 1) end cells
  parts i l = slice-cons i end cells 0 l inside ∙ rw (add-one i)

  pub from_end : (i : ℕ) → end ≤ i → from cells pool end i ≡ []
  unfolding from joined_in
  from_end i l = rw (drop_of_length-le (take end cells) {i = i} (omega (arith, length-take end cells)))

  -- a place before the end has statements to come
  pub from_some : (i : ℕ) → i < end → 0 < length (from cells pool end i)
  unfolding from joined_in
  from_some i l = rw (parts i l) (join_some (says pool (get_or cells i 0)) (joined_in (said pool (slice (i + 1) end cells))))

  pub from_one : (i : ℕ) → i < end → awaits (says pool (get_or cells i 0)) ≡ nothing → from cells pool end i ≡ says pool (get_or cells i 0) ∷ from cells pool end (i + 1)
  unfolding from joined_in
  from_one i l e = rw (parts i l) (joins_none (says pool (get_or cells i 0)) (joined_in (said pool (slice (i + 1) end cells))) e)

  pub from_data : (i at : ℕ) (s : Span) → i < end → words_fit pool at (slice i end cells) ≡ true → decoded (get_or cells i 0) ≡ WaitData s →
      from cells pool end i ≡ wait_data (take (s.count + their_bytes (slice (i + 1) end cells)) (drop s.from pool)) ∷ from cells pool end (i + 1 + neighbours (slice (i + 1) end cells))
  unfolding from joined_in statement_of words_fit cell_fits follows tests.bytes_of_cell
  from_data i at s l h e =
      let ws : List ℕ = slice (i + 1) end cells in
      let c : Cell = decoded (get_or cells i 0) in
      let h' : words_fit pool at (get_or cells i 0 ∷ ws) ≡ true = rw (parts i l) at h in
      let f : cell_fits pool at (WaitData s) ≡ true = rw e at (both_left (cell_fits pool at c) _ h') in
      let g : words_fit pool (at + tests.bytes_of_cell (WaitData s)) ws ≡ true = rw e at (both_right (cell_fits pool at c) _ h') in
      let at-s : s.from ≡ at = eqb-true s.from at (both_left (follows at s) _ f) in
      let together : data_at pool s ++ take (their_bytes ws) (drop (at + s.count) pool) ≡ take (s.count + their_bytes ws) (drop s.from pool) =
      rw (at-s, ← drop-drop s.count at pool) (sym (take-add s.count (their_bytes ws) (drop at pool)))
      in
      rw (parts i l, e, ← drop-drop (neighbours ws) (i + 1) (take end cells)) (joins_data pool ws (at + s.count) (data_at pool s) g ∙ rw together)

  pub from_shorter : (i j : ℕ) → i ≤ j → length (from cells pool end j) ≤ length (from cells pool end i)
  unfolding from
  from_shorter i j l =
      let e : i + (j - i) ≡ j = omega arith in
      rw (← e, ← drop-drop (j - i) i (take end cells)) (said_shorter pool (j - i) (slice i end cells))
