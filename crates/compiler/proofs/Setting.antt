-- THE SETTINGS in the heads are those of the draft: a law for each way on. Assumes nothing.
use Rattle.std.specs.Prelude.{Ok}
use Prim.Native.Nat.{ℕ, ◌+◌, ◌≤◌, ◌<◌}
use mathlib.Core.Path.{◌≡◌, refl, ap}
use mathlib.Core.Bool.{Bool, true}
use mathlib.Core.List.{List, [], ◌∷◌, ◌++◌}
use native.Mathlib.Omega.{arith}
use lib.ListN.{length, take, length-append}
use borrow.Author.Tests.{le-leb, lt-leb}
use Rattle.writer.specs.Put.{put_into}
use Rattle.line_values.specs.Inside.Line.{letters_from}
use Rattle.language.specs.declared.Heads.{Heads}
use Rattle.language.specs.declared.TextFault.TheVariants.{TooManyOmits}
use Rattle.language.specs.Limits.{omit_limit}
use Rattle.language.specs.Script.{set_encode, set_stopbits, set_lfext, Settings}
use Rattle.language.specs.Draft as draft
use Rattle.language.specs.Draft.{Draft, going, with_settings, take_omit}
use Rattle.language.specs.Table.{padded, heads_of}
use Rattle.compiler.specs.declared.drafting.Drafting.{Drafting}
use Rattle.compiler.specs.Inside.Drafting.{stopped, IsDraft, Takes, Fronts}
use Rattle.compiler.proofs.Padding.{padded_length, put_behind, front_of_lem}

-- the work with other heads
abbrev headed : Drafting → Heads → Drafting
headed w heads = record w { table = record w.table { heads = heads } }

sets_on : {st : Draft} {w : Drafting} (s : Settings) {heads : Heads} → heads ≡ heads_of (record { settings = s; body = st.body }) → IsDraft st w
    → IsDraft (with_settings st s) (headed w heads)
unfolding with_settings
sets_on s e h =
    record {
      counted = h.counted;
      written = h.written;
      opened = h.opened;
      long = h.long;
      loops = h.loops;
      begun = h.begun;
      heads = e;
      used = h.used;
      count = h.count;
      words = h.words;
      bytes = h.bytes;
    }

-- heads with another setting
abbrev encoded : ℕ → Heads → Heads
encoded b h = record h { encodes = true; encode = b }

abbrev with_stopbits : Bool → Heads → Heads
with_stopbits two h = record h { two_stop_bits = two }

abbrev omitted : ℕ → List ℕ → Heads → Heads
omitted n bs h = record h { omits = n; omit = bs }

abbrev named : List ℕ → Heads → Heads
named e h = record h { extension = e }

letters : (e : List ℕ) → length e ≤ 3 → letters_from e ≡ padded 3 e
unfolding letters_from
letters [] k = refl
letters (a ∷ []) k = refl
letters (a ∷ b ∷ []) k = refl
letters (a ∷ b ∷ c ∷ []) k = refl
letters (a ∷ b ∷ c ∷ d ∷ e) k = absurd (omega arith)

omits : (st : Draft) (bs : List ℕ) {w : Drafting} {size : ℕ} → size ≡ length bs → IsDraft st w → w.table.heads.omits + size ≡ length (st.settings.omit ++ bs)
unfolding heads_of
omits st bs n h = omega (arith, length-append st.settings.omit bs, ap (λ (x : Heads). x.omits) h.heads)

module _ (row : ℕ) (w : Drafting) where
  -- the last one holds
  pub encode_on : (b : ℕ) → Takes (λ st. draft.take_meaning row st (set_encode b)) w (Ok tt) (headed w (encoded b w.table.heads))
  unfolding draft.take_meaning heads_of
  encode_on b st h = (refl, sets_on _ (ap (encoded b) h.heads) h)

  pub stopbits_on : (two : Bool) → Takes (λ st. draft.take_meaning row st (set_stopbits two)) w (Ok tt) (headed w (with_stopbits two w.table.heads))
  unfolding draft.take_meaning heads_of
  stopbits_on two st h = (refl, sets_on _ (ap (with_stopbits two) h.heads) h)

  pub lfext_on : (l e : List ℕ) → length e ≤ 3 → l ≡ letters_from e → Takes (λ st. draft.take_meaning row st (set_lfext e)) w (Ok tt) (headed w (named l w.table.heads))
  unfolding draft.take_meaning heads_of
  lfext_on l e k x st h = (refl, sets_on _ (rw (x, letters e k) (ap (named (padded 3 e)) h.heads)) h)

  module _ {size : ℕ} (lent bs : List ℕ) (n : size ≡ length bs) where
    pub omit_stop : (w' : Drafting) → omit_limit < w.table.heads.omits + size → Takes (λ st. take_omit row st st.settings bs) w (stopped TooManyOmits row) w'
    unfolding take_omit
    omit_stop w' k st h =
        let m = omits st bs n h in
        rw (lt-leb (length (st.settings.omit ++ bs)) omit_limit (omega arith))

    -- its bytes stand behind those before
    pub omit_on : Fronts lent bs → size ≤ length lent → w.table.heads.omits + size ≤ omit_limit
        → Takes (λ st. take_omit row st st.settings bs) w (Ok tt) (headed w (omitted (w.table.heads.omits + size) (put_into (take size lent) w.table.heads.omit w.table.heads.omits) w.table.heads))
    unfolding take_omit heads_of put_into
    omit_on f i k st h =
        let m = omits st bs n h in
        let o : List ℕ = st.settings.omit in
        let l = length-append o bs in
        let room : length o + length bs ≤ length (padded omit_limit o) = rw (padded_length omit_limit o (omega arith)) (omega arith) in
        let held : take size lent ≡ bs = front_of_lem size lent bs f n i in
        let put : put_into (take size lent) w.table.heads.omit w.table.heads.omits ≡ padded omit_limit (o ++ bs) =
        rw (held, h.heads, le-leb _ _ room) (put_behind omit_limit o bs (omega arith))
        in
        rw (le-leb (length (o ++ bs)) omit_limit (omega arith))
        (refl, sets_on _ (rw (m, put) (ap (omitted (length (o ++ bs)) (padded omit_limit (o ++ bs))) h.heads)) h)
