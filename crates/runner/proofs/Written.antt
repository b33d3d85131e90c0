-- What a statement writes: the data of a cell of some word lie in the pool, and the buffer has room for what they become. Assumes nothing.
use Prim.Native.Nat.{ℕ, ◌+◌, ◌≤◌}
use mathlib.Core.Path.{◌≡◌, refl, sym, ap, ◌∙◌}
use mathlib.Core.List.{List, [], ◌∷◌}
use mathlib.Core.Logic.{inl, inr, ⊎_elim}
use native.Mathlib.Omega.{arith}
use lib.ListN.{length, get_or, set, drop, length-drop}
use lib.Seq.{sets, set-get_or, length-take-le}
use types.Run.{OneOf, miss}
use denote.Enum.Declared.{tag_of}
use Rattle.language.specs.declared.Span.{Span}
use Rattle.language.specs.declared.Cell.{Cell}
use Rattle.language.specs.declared.Cell.TheVariants.{Nothing, Send, Loop, End, WaitTime, WaitData, WaitByte, WaitClock, WaitSignal, Rts, Log, Fchange, Pause, Resume, Nop, Unknown}
use Rattle.language.specs.contracts.Cell.{the_type}
use Rattle.language.specs.Limits.{send_room, log_room}
use Rattle.language.specs.Cell.{decoded}
use Rattle.language.specs.Inside.Right.{cell_right}
use Rattle.language.specs.Table.{data_at}
use Rattle.language.proofs.Cells.{SpanFits, span_fits, code_decode}
use Rattle.process.specs.declared.Reading.{Reading}
use Rattle.record.specs.Logging.{record_of}
use Rattle.statement.specs.declared.outcome.Outcome.{Outcome}
use Rattle.statement.specs.Saying.{outcome_of, counted_by}
use Rattle.runner.specs.Writing.{writes_for}
use Rattle.runner.specs.Inside.Writing.{OfWord}

-- ---- which data a cell can have

pub of_word : {c : Cell} (w : ℕ) → c ≡ decoded w → OfWord c
of_word w e = rw e (⊎_elim inl (λ p. inr p.0) (code_decode w))

pub sent_fits : {c : Cell} {s : Span} → OfWord c → c ≡ Send s → SpanFits 0 send_room s
unfolding cell_right
sent_fits {s = s} h e =
    ⊎_elim (λ u. let z : ◌≡◌ {A = ℕ} 0 1 = cc in absurd (omega arith)) (λ r. span_fits 0 send_room s (sym (ap cell_right e) ∙ r)) h

pub logged_fits : {c : Cell} {s : Span} → OfWord c → c ≡ Log s → SpanFits 0 log_room s
unfolding cell_right
logged_fits {s = s} h e =
    ⊎_elim (λ u. let z : ◌≡◌ {A = ℕ} 0 1 = cc in absurd (omega arith)) (λ r. span_fits 0 log_room s (sym (ap cell_right e) ∙ r)) h

-- data that lie in the pool are as many bytes as they say
pub data_long : (pool : List ℕ) (s : Span) → s.from + s.count ≤ length pool → length (data_at pool s) ≡ s.count
data_long pool s h = let l = length-drop s.from pool in length-take-le s.count (drop s.from pool) (omega arith)

-- ---- by the cell

-- the variants of the code's last arm, by their tags: all but data lines and LOG
abbrev others : List ℕ
others = 0 ∷ 2 ∷ 3 ∷ 4 ∷ 5 ∷ 6 ∷ 7 ∷ 8 ∷ 9 ∷ 11 ∷ 12 ∷ 13 ∷ 14 ∷ 15 ∷ []

-- the other statements write nothing and count nothing
other_none : (pool : List ℕ) (r : Reading) (n : ℕ) (c : Cell) → OneOf others (tag_of the_type c) → (writes_for pool r n c ≡ []) × (counted_by n c ≡ n)
unfolding writes_for counted_by
other_none pool r n Nothing h = (refl, refl)
other_none pool r n (Send s) h = absurd (miss others 1 tt h)
other_none pool r n (Loop k) h = (refl, refl)
other_none pool r n End h = (refl, refl)
other_none pool r n (WaitTime k) h = (refl, refl)
other_none pool r n (WaitData s) h = (refl, refl)
other_none pool r n (WaitByte k) h = (refl, refl)
other_none pool r n (WaitClock c) h = (refl, refl)
other_none pool r n (WaitSignal l) h = (refl, refl)
other_none pool r n (Rts on) h = (refl, refl)
other_none pool r n (Log s) h = absurd (miss others 10 tt h)
other_none pool r n Fchange h = (refl, refl)
other_none pool r n Pause h = (refl, refl)
other_none pool r n Resume h = (refl, refl)
other_none pool r n Nop h = (refl, refl)
other_none pool r n Unknown h = (refl, refl)

module _ (pool : List ℕ) (r : Reading) (at : ℕ) (counts out : List ℕ) where
  -- the answer, and what the lent buffer and the lent counts hold at the end
  abbrev pub Performs : Cell → Outcome → List ℕ → List ℕ → Type 0
  Performs c o x k =
      (o ≡ outcome_of (length (writes_for pool r (get_or counts at 0) c)) c) × (x ≡ sets out 0 (writes_for pool r (get_or counts at 0) c)) × (k ≡ set counts at (counted_by (get_or counts at 0) c))

  -- what does not count on alters no count
  still : (c : Cell) → counted_by (get_or counts at 0) c ≡ get_or counts at 0 → counts ≡ set counts at (counted_by (get_or counts at 0) c)
  still c e = rw (e, set-get_or)

  module _ {c : Cell} {s : Span} {n : ℕ} {x : List ℕ} {o : Outcome} where
    pub send_performs : c ≡ Send s → (n ≡ length (data_at pool s)) × (x ≡ sets out 0 (data_at pool s)) → o ≡ outcome_of n (Send s) → Performs c o x counts
    unfolding writes_for counted_by
    send_performs e w said = rw e (said ∙ rw w.0, w.1, still (Send s) refl)

    pub log_performs : c ≡ Log s → (n ≡ length (record_of r (get_or counts at 0) (data_at pool s))) × (x ≡ sets out 0 (record_of r (get_or counts at 0) (data_at pool s)))
        → {k : ℕ} → k ≡ counted_by (get_or counts at 0) (Log s) → o ≡ outcome_of n (Log s) → Performs c o x (set counts at k)
    unfolding writes_for
    log_performs e w counted said = rw e (said ∙ rw w.0, w.1, rw counted)

  pub other_performs : (c : Cell) {o : Outcome} → OneOf others (tag_of the_type c) → o ≡ outcome_of 0 c → Performs c o out counts
  other_performs c h said = let n = other_none pool r (get_or counts at 0) c h in (said ∙ rw n.0, rw n.0, still c n.1)
