-- WAIT DATA ends when the last bytes received since it began equal its data, and never otherwise. Assumes nothing.
use mathlib.Core.Path.{◌≡◌, refl, sym, ap, ◌∙◌}
use mathlib.Core.Bool.{Bool, true, false, cond}
use mathlib.Core.List.{List, [], ◌∷◌, ◌++◌, append_assoc, append-nil}
use Prim.Native.Nat.{ℕ, ◌-◌, ◌<◌}
use native.Mathlib.Omega.{arith}
use lib.ListN.{length, take, drop, length-append, take-append-drop}
use lib.Seq.{drop_at}
use Rattle.reader.proofs.Same.{same_is, is_same}
use Rattle.reader.proofs.Tests.{true_is_false, by_cases}
use Rattle.runner.specs.Calls.{Call, start, tick, byte, reading, level, ticks, bytes, drain}
use Rattle.running.specs.Running.{Wait, for_nothing, for_data, ends_in, ticked, gets, read, levelled}
use Rattle.running.specs.Waits.{event_on, since, is_received, received_in, Last, DataWait}

-- over, a wait stays so
pub nothing_stays : (e : Call) → event_on e for_nothing ≡ for_nothing
unfolding ticked gets read levelled
nothing_stays start = refl
nothing_stays tick = refl
nothing_stays (byte x) = refl
nothing_stays (reading r) = refl
nothing_stays (level n is) = refl
nothing_stays (ticks n) = refl
nothing_stays (bytes run room) = refl
nothing_stays (drain room) = refl

pub stays_over : (es : List Call) → since es for_nothing ≡ for_nothing
unfolding since
stays_over [] = refl
stays_over (e ∷ es) = rw (nothing_stays e) (stays_over es)

-- ---- WAIT DATA

-- the test, and what it tests
ends_last : (d xs : List ℕ) → ends_in d xs ≡ true → Last d xs
unfolding ends_in
ends_last d xs e = record {
  before = take (length xs - length d) xs;
  parts = ap (λ (l : List ℕ). take (length xs - length d) xs ++ l) (same_is d (drop (length xs - length d) xs) e) ∙ take-append-drop (length xs - length d) xs;
}

last_ends : (d xs : List ℕ) → Last d xs → ends_in d xs ≡ true
unfolding ends_in
last_ends d xs l =
    let n : length l.before ≡ length xs - length d = omega (arith, ap length l.parts, length-append l.before d) in
    is_same (sym (ap (drop (length xs - length d)) (sym l.parts) ∙ drop_at l.before d (length xs - length d) n))

module _ (d : List ℕ) where
  -- one more event: only a byte is seen
  one_event : (e : Call) (seen : List ℕ) →
      event_on e (for_data d seen) ≡ cond (is_received e) (cond (ends_in d (seen ++ received_in (e ∷ []))) for_nothing (for_data d (seen ++ received_in (e ∷ [])))) (for_data d seen)
  unfolding ticked gets read levelled received_in
  one_event start seen = refl
  one_event tick seen = refl
  one_event (byte x) seen = refl
  one_event (reading r) seen = refl
  one_event (level m is) seen = refl
  one_event (ticks n) seen = refl
  one_event (bytes run room) seen = refl
  one_event (drain room) seen = refl

  -- the bytes of an event, and of those after it
  bytes_first : (e : Call) (es : List Call) → received_in (e ∷ es) ≡ received_in (e ∷ []) ++ received_in es
  unfolding received_in
  bytes_first start es = refl
  bytes_first tick es = refl
  bytes_first (byte x) es = refl
  bytes_first (reading r) es = refl
  bytes_first (level m is) es = refl
  bytes_first (ticks n) es = refl
  bytes_first (bytes run room) es = refl
  bytes_first (drain room) es = refl

  no_bytes : (e : Call) → is_received e ≡ false → received_in (e ∷ []) ≡ []
  unfolding received_in
  no_bytes start h = refl
  no_bytes tick h = refl
  no_bytes (byte x) h = true_is_false h
  no_bytes (reading r) h = refl
  no_bytes (level m is) h = refl
  no_bytes (ticks n) h = refl
  no_bytes (bytes run room) h = refl
  no_bytes (drain room) h = refl

  -- more is seen
  more : (e : Call) (es : List Call) (seen : List ℕ) → (seen ++ received_in (e ∷ [])) ++ received_in es ≡ seen ++ received_in (e ∷ es)
  more e es seen = append_assoc seen (received_in (e ∷ [])) (received_in es) ∙ ap (λ (l : List ℕ). seen ++ l) (sym (bytes_first e es))

  -- a wait that sees one event more, by whether that is a byte which ends it
  abbrev after : Call → List ℕ → Wait
  after e seen = cond (is_received e) (cond (ends_in d (seen ++ received_in (e ∷ []))) for_nothing (for_data d (seen ++ received_in (e ∷ [])))) (for_data d seen)

  after_cases : (P : Wait → Type 0) (e : Call) (seen : List ℕ) → (ends_in d (seen ++ received_in (e ∷ [])) ≡ true → P for_nothing) →
      (P (for_data d (seen ++ received_in (e ∷ [])))) → P (after e seen)
  after_cases P e seen f g =
      by_cases P (is_received e) _ _ (λ k. by_cases P (ends_in d (seen ++ received_in (e ∷ []))) _ _ f (λ q. g))
      (λ k. let none : seen ++ received_in (e ∷ []) ≡ seen = rw (no_bytes e k) (append-nil seen) in rw none at g)

  onward : (es : List Call) (seen : List ℕ) → ((fs gs : List Call) → fs ++ gs ≡ es → Last d (seen ++ received_in fs) → ⊥) →
      since es (for_data d seen) ≡ for_data d (seen ++ received_in es)
  unfolding since
  onward [] seen never = unfold received_in in rw (append-nil seen)
  onward (e ∷ es) seen never =
      rw (one_event e seen)
      (after_cases (λ (w : Wait). since es w ≡ for_data d (seen ++ received_in (e ∷ es))) e seen
      (λ q. absurd (never (e ∷ []) es refl (ends_last d (seen ++ received_in (e ∷ [])) q)))
      (onward es (seen ++ received_in (e ∷ [])) (λ fs gs q l. never (e ∷ fs) gs (ap (λ (m : List Call). e ∷ m) q) (rw (more e fs seen) at l)) ∙ ap (for_data d) (more e es seen)))

  until : (fs gs : List Call) (seen : List ℕ) → ends_in d seen ≡ false → Last d (seen ++ received_in fs) → since (fs ++ gs) (for_data d seen) ≡ for_nothing
  unfolding since
  until [] gs seen n l = true_is_false (sym (last_ends d seen (unfold received_in in rw append-nil at l)) ∙ n)
  until (e ∷ fs) gs seen n l =
      ap (since (fs ++ gs)) (one_event e seen)
      ∙ (by_cases (λ (w : Wait). since (fs ++ gs) w ≡ for_nothing) (is_received e) _ _
      (λ k. by_cases (λ (w : Wait). since (fs ++ gs) w ≡ for_nothing) (ends_in d (seen ++ received_in (e ∷ []))) _ _ (λ q. stays_over (fs ++ gs))
      (λ q. until fs gs (seen ++ received_in (e ∷ [])) q (rw (more e fs seen) l)))
      (λ k. let none : seen ++ received_in (e ∷ []) ≡ seen = rw (no_bytes e k) (append-nil seen) in until fs gs seen n (rw (← more e fs seen, none) at l)))

  -- data that are not empty are not yet there
  not_yet : 0 < length d → ends_in d [] ≡ false
  unfolding ends_in
  not_yet some = go (ends_in d []) refl
    where
      empty : Last d [] → ⊥
      empty l = omega (arith, ap length l.parts, length-append l.before d)

      go : (u : Bool) → ends_in d [] ≡ u → u ≡ false
      go true q = absurd (empty (ends_last d [] q))
      go false q = refl

  pub data_wait : 0 < length d → DataWait d
  data_wait some = record { waits = λ es never. onward es [] never; ends = λ fs gs l. until fs gs [] (not_yet some) l }
