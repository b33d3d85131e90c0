-- Two outcomes that meet a public function's statement are equal: one law for each shape of statement. Assumes nothing.
use mathlib.Core.Path.{◌≡◌, sym, ap₂, ◌∙◌}
use lib.ListN.{length}
use Rattle.language.specs.Answer.{compiled}
use Rattle.accepted.specs.Accepted.{table_right}
use Rattle.lister.specs.Listed.{list_answer, list_into}
use Rattle.events.specs.Events.{tick_event, reading_event, level_event}
use Rattle.events.specs.Receiving.{byte_event}
use Rattle.events.specs.Gulps.{ticks_event, bytes_event, records_after}
use Rattle.runner.specs.Starting.{start_event, start_counts}
use Rattle.runner.specs.Draining.{drained, buffer_after, counts_after}
use Rattle.promises.specs.Settled.{Settles, Value, Lent, LentTwo, Shapes, Settled}

value_settles : {O : Type 0} (x : O) → Settles (Value x)
value_settles x a b p q = p ∙ sym q

pair : {O L : Type 0} {a b : O × L} → a.0 ≡ b.0 → a.1 ≡ b.1 → a ≡ b
pair {O} {L} p q = ap₂ (λ (x : O) (y : L). (x, y)) p q

lent_settles : {O L : Type 0} (x : O) (l : L) → Settles (Lent x l)
lent_settles x l a b p q = pair (p.0 ∙ sym q.0) (p.1 ∙ sym q.1)

lent_two_settles : {O L M : Type 0} (x : O) (l : L) (m : M) → Settles (LentTwo x l m)
lent_two_settles x l m a b p q = pair (p.0 ∙ sym q.0) (pair (p.1.0 ∙ sym q.1.0) (p.1.1 ∙ sym q.1.1))

pub shapes : Shapes
shapes = record { value = value_settles; lent = lent_settles; lent_two = lent_two_settles }

pub settled : Settled
settled = record {
  compile = λ text. value_settles (compiled text);
  is_accepted = λ t. value_settles (table_right t);
  list = λ t out. lent_settles (list_answer t out) (list_into t out);
  start = λ t s counts. lent_settles (start_event (table_right t) t.heads s) (start_counts (table_right t) counts);
  tick = λ s. value_settles (tick_event s);
  read_clock = λ s r. value_settles (reading_event s r);
  set_level = λ s n on. value_settles (level_event s n on);
  receive = λ pool h s b. value_settles (byte_event pool h s b);
  tick_run = λ s n. value_settles (ticks_event s n);
  receive_run = λ pool h s run out. lent_settles (bytes_event pool h s run (length out)) (records_after pool h s run out);
  drain = λ cells pool s counts out.
      lent_two_settles (drained cells pool s counts (length out)) (buffer_after cells pool s counts out) (counts_after cells s counts (length out));
}
