-- When a process of the box stands for a process of the script. Assumes nothing.
use mathlib.Core.Path.{◌≡◌, refl, sym, ap, ◌∙◌}
use mathlib.Core.Bool.{Bool, true, false, cond, ◌&&◌}
use mathlib.Core.List.{List, [], ◌∷◌, ◌++◌, map}
use Prim.Native.Nat.{ℕ, zero, suc, ◌+◌, ◌-◌, ◌≤◌, ◌<◌}
use native.Mathlib.Omega.{arith}
use lib.ListN.{length, get_or, drop}
use lib.Dec.{ltb, leb, eqb}
use borrow.Author.Tests.{ltb-true, ltb-false, le-leb, eqb-true, eq-eqb}
use Rattle.reader.specs.Bytes.{same}
use Rattle.language.specs.declared.Clock.{Clock}
use Rattle.language.specs.declared.Span.{Span}
use Rattle.language.specs.declared.Cell.TheVariants.{Log}
use Rattle.language.specs.Script.{Statement}
use Rattle.language.specs.Cell.{level, decoded, fixed_units}
use Rattle.process.specs.declared.Reading.{Reading}
use Rattle.process.specs.declared.Progress.{Progress}
use Rattle.process.specs.declared.Wait.{Wait}
use Rattle.process.specs.declared.Wait.TheVariants.{Ready, Over, Ticks, Bytes, Data, ClockValue, Signal}
use Rattle.process.specs.declared.Process.{Process}
use Rattle.process.specs.Matching.{progress}
use Rattle.process.specs.Waiting.{ready_wait, ready, awake, with_wait, ticked_wait, awaited, matched_to, matched_wait, byte_wait, unit_matches, matches, reading_wait, same_level, sets_level, level_wait}
use Rattle.process.proofs.Matches.{one_byte}
use Rattle.bounded.proofs.Ahead.{Open, opens_of}
use Rattle.running.specs.Running as script
use Rattle.running.specs.Running.{Loop, for_nothing, for_ticks, for_bytes, for_data, for_clock, for_signal, ends_in, units, ticked, gets, read, levelled, next_in, next_by, is_statement, waiting}
use Rattle.running.proofs.Matches.{whole_exactly}
use Rattle.running.proofs.From.{from, from_end, from_some}

-- ---- waits

-- a wait for data: what the box has matched is what the bytes received since it began match
pub record Matched (pool : List ℕ) (m : Progress) (v : script.Wait) : Type 0 where
  pub seen : List ℕ
  pub waits : v ≡ for_data (awaited pool m) seen
  pub matched : m.matched ≡ progress (awaited pool m) seen
  pub sized : length (awaited pool m) ≡ m.count

-- a wait of the box and one of the script, ss being the statements to come
abbrev pub Waits : List ℕ → List Statement → Wait → script.Wait → Type 0
Waits pool ss Ready v = (v ≡ for_nothing) × (0 < length ss)
Waits pool ss Over v = (v ≡ for_nothing) × (length ss ≡ 0)
Waits pool ss (Ticks n) v = v ≡ for_ticks n
Waits pool ss (Bytes n) v = v ≡ for_bytes n
Waits pool ss (Data m) v = Matched pool m v
Waits pool ss (ClockValue c) v = v ≡ for_clock (fixed_units c)
Waits pool ss (Signal l) v = v ≡ for_signal l.signal l.on

-- ready alike
ready_in : (ss : List Statement) → 0 < length ss → is_statement (next_in ss) ≡ true
unfolding next_in is_statement
ready_in [] h = absurd (omega arith)
ready_in (s ∷ ss) h = refl

over_in : (ss : List Statement) → length ss ≡ 0 → is_statement (next_in ss) ≡ false
unfolding next_in is_statement
over_in [] h = refl
over_in (s ∷ ss) h = absurd (omega arith)

pub ready_alike : (pool : List ℕ) (ss : List Statement) (w : Wait) (v : script.Wait) → Waits pool ss w v → ready_wait w ≡ is_statement (next_by v ss)
unfolding next_by is_statement
ready_alike pool ss Ready v h = rw h.0 (sym (ready_in ss h.1))
ready_alike pool ss Over v h = rw h.0 (sym (over_in ss h.1))
ready_alike pool ss (Ticks n) v h = rw h
ready_alike pool ss (Bytes n) v h = rw h
ready_alike pool ss (Data m) v h = rw h.waits
ready_alike pool ss (ClockValue c) v h = rw h
ready_alike pool ss (Signal l) v h = rw h

-- two tests that hold together
same_test : (a b : Bool) → (a ≡ true → b ≡ true) → (b ≡ true → a ≡ true) → a ≡ b
same_test true b f g = sym (f refl)
same_test false true f g = g refl
same_test false false f g = refl

and-true : (a : Bool) → (a && true) ≡ a
and-true true = refl
and-true false = refl

-- a reading matches the fixed units
matches_ends : (c : Clock) (r : Reading) → matches c r ≡ ends_in (fixed_units c) (units r)
unfolding matches ends_in fixed_units unit_matches same
matches_ends c r = go c.fixed
  where
    go : (n : ℕ) → (unit_matches (leb 4 n) c.day r.day && (unit_matches (leb 3 n) c.hour r.hour && (unit_matches (leb 2 n) c.minute r.minute && unit_matches (leb 1 n) c.second r.second)))
        ≡ ends_in (drop (4 - n) (c.day ∷ c.hour ∷ c.minute ∷ c.second ∷ [])) (units r)
    go zero = refl
    go (suc zero) = sym (and-true (eqb c.second r.second))
    go (suc (suc zero)) = rw and-true
    go (suc (suc (suc zero))) = rw and-true
    go (suc (suc (suc (suc n)))) =
        let m : ℕ = suc (suc (suc (suc n))) in
        let z : 4 - m ≡ 0 = omega arith in
        rw (z, le-leb 4 m (omega arith), le-leb 3 m (omega arith), le-leb 2 m (omega arith), le-leb 1 m (omega arith)) (rw and-true)

-- ---- a wait that is over, and what each event makes of a wait

module _ (cells pool : List ℕ) (end : ℕ) (inside : end ≤ length cells) where
  abbrev to : ℕ → List Statement
  to i = from cells pool end i

  pub awake_waits : (i : ℕ) → Waits pool (to i) (awake i end) for_nothing
  unfolding awake
  awake_waits i = go (ltb i end) refl
    where
      go : (b : Bool) → ltb i end ≡ b → Waits pool (to i) (cond b Ready Over) for_nothing
      go true e = (refl, from_some cells pool end inside i (ltb-true i end e))
      go false e = (refl, ap length (from_end cells pool end inside i (ltb-false i end e)))

  -- a wait that ends by a test, or goes on
  ends_by : (i : ℕ) (b : Bool) (w : Wait) (v : script.Wait) → Waits pool (to i) w v → Waits pool (to i) (cond b (awake i end) w) (cond b for_nothing v)
  ends_by i true w v h = awake_waits i
  ends_by i false w v h = h

  pub tick_waits : (i : ℕ) (w : Wait) (v : script.Wait) → Waits pool (to i) w v → Waits pool (to i) (ticked_wait i end w) (ticked v)
  unfolding ticked
  tick_waits i Ready v h = (rw h.0, h.1)
  tick_waits i Over v h = (rw h.0, h.1)
  tick_waits i (Ticks n) v h = rw h (ends_by i (leb n 1) (Ticks (n - 1)) (for_ticks (n - 1)) refl)
  tick_waits i (Bytes n) v h = rw h
  tick_waits i (Data m) v h = rw h.waits (record { seen = h.seen; waits = refl; matched = h.matched; sized = h.sized })
  tick_waits i (ClockValue c) v h = rw h
  tick_waits i (Signal l) v h = rw h

  pub reading_waits : (r : Reading) (i : ℕ) (w : Wait) (v : script.Wait) → Waits pool (to i) w v → Waits pool (to i) (reading_wait r i end w) (read r v)
  unfolding read
  reading_waits r i Ready v h = (rw h.0, h.1)
  reading_waits r i Over v h = (rw h.0, h.1)
  reading_waits r i (Ticks n) v h = rw h
  reading_waits r i (Bytes n) v h = rw h
  reading_waits r i (Data m) v h = rw h.waits (record { seen = h.seen; waits = refl; matched = h.matched; sized = h.sized })
  reading_waits r i (ClockValue c) v h = rw (h, matches_ends c r) (ends_by i (ends_in (fixed_units c) (units r)) (ClockValue c) (for_clock (fixed_units c)) refl)
  reading_waits r i (Signal l) v h = rw h

  pub level_waits : (n : ℕ) (on : Bool) (i : ℕ) (w : Wait) (v : script.Wait) → Waits pool (to i) w v → Waits pool (to i) (level_wait (level n on) i end w) (levelled n on v)
  unfolding levelled sets_level
  level_waits n on i Ready v h = (rw h.0, h.1)
  level_waits n on i Over v h = (rw h.0, h.1)
  level_waits n on i (Ticks k) v h = rw h
  level_waits n on i (Bytes k) v h = rw h
  level_waits n on i (Data m) v h = rw h.waits (record { seen = h.seen; waits = refl; matched = h.matched; sized = h.sized })
  level_waits n on i (ClockValue c) v h = rw h
  level_waits n on i (Signal l) v h =
      rw h (ends_by i (eqb l.signal n && same_level l.on on) (Signal l) (for_signal l.signal l.on) refl)

  -- "WAIT DATA ends when the last bytes received since it began equal its data"
  whole_ends : (m : Progress) (xs : List ℕ) → length (awaited pool m) ≡ m.count → eqb (progress (awaited pool m) xs) m.count ≡ ends_in (awaited pool m) xs
  whole_ends m xs sized =
      same_test (eqb (progress (awaited pool m) xs) m.count) (ends_in (awaited pool m) xs)
      (λ e. (whole_exactly (awaited pool m) xs).0 (eqb-true _ _ e ∙ sym sized))
      (λ e. eq-eqb _ _ ((whole_exactly (awaited pool m) xs).1 e ∙ sized))

  pub byte_waits : (b i : ℕ) (w : Wait) (v : script.Wait) → Waits pool (to i) w v → Waits pool (to i) (byte_wait pool b i end w) (gets b v)
  unfolding gets matched_wait
  byte_waits b i Ready v h = (rw h.0, h.1)
  byte_waits b i Over v h = (rw h.0, h.1)
  byte_waits b i (Ticks n) v h = rw h
  byte_waits b i (Bytes n) v h = rw h (ends_by i (leb n 1) (Bytes (n - 1)) (for_bytes (n - 1)) refl)
  byte_waits b i (Data m) v h =
      let d : List ℕ = awaited pool m in
      let xs : List ℕ = h.seen ++ (b ∷ []) in
      rw (h.waits, h.matched, one_byte d h.seen b, whole_ends m xs h.sized)
      (ends_by i (ends_in d xs) (Data (matched_to m (progress d xs))) (for_data d xs) (record { seen = xs; waits = refl; matched = refl; sized = h.sized }))
  byte_waits b i (ClockValue c) v h = rw h
  byte_waits b i (Signal l) v h = rw h

-- ---- processes

-- an open loop of the box as one of the script
abbrev pub loop_of : List ℕ → List ℕ → ℕ → Open → Loop
loop_of cells pool end o = record { left = o.left; body = from cells pool end o.back }

-- process p of the box, whose own statements lie from `first` up to `end`, stands for q of the script; each LOG of its own has the same count
pub record Related (cells pool : List ℕ) (first end : ℕ) (counts : List ℕ) (p : Process) (q : script.Process) : Type 0 where
  pub ends : p.end ≡ end
  pub coming : q.coming ≡ from cells pool end p.place
  pub loops : q.loops ≡ map (loop_of cells pool end) (opens_of p.depth p.left p.back)
  pub wait : Waits pool (from cells pool end p.place) p.wait q.wait
  pub counted : (j : ℕ) (s : Span) → first ≤ j → j < end → decoded (get_or cells j 0) ≡ Log s → q.counts (length (from cells pool end (j + 1))) ≡ get_or counts j 0

module _ (cells pool : List ℕ) (first end : ℕ) (counts : List ℕ) where
  pub related_ready : (p : Process) (q : script.Process) → Related cells pool first end counts p q → ready p ≡ script.ready q
  related_ready p q r = rw r.coming (ready_alike pool (from cells pool end p.place) p.wait q.wait r.wait)

  -- an event that acts on waits alike
  pub related_event : (f : ℕ → ℕ → Wait → Wait) (g : script.Wait → script.Wait) →
      ((i : ℕ) (w : Wait) (v : script.Wait) → Waits pool (from cells pool end i) w v → Waits pool (from cells pool end i) (f i end w) (g v)) →
      (p : Process) (q : script.Process) → Related cells pool first end counts p q → Related cells pool first end counts (with_wait p (f p.place p.end p.wait)) (waiting g q)
  related_event f g keeps p q r = record {
    ends = r.ends;
    coming = r.coming;
    loops = r.loops;
    wait = rw r.ends (keeps p.place p.wait q.wait r.wait);
    counted = r.counted;
  }

  -- other counts, where those of its own LOG statements are the same
  pub related_counts : (others : List ℕ) → ((j : ℕ) → first ≤ j → j < end → get_or others j 0 ≡ get_or counts j 0) →
      (p : Process) (q : script.Process) → Related cells pool first end counts p q → Related cells pool first end others p q
  related_counts others same p q r = record {
    ends = r.ends;
    coming = r.coming;
    loops = r.loops;
    wait = r.wait;
    counted = λ j s l h e. r.counted j s l h e ∙ sym (same j l h);
  }
