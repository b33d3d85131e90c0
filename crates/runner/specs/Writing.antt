-- What a statement writes: the data that it sends, or its record.
use Rattle.std.specs.Prelude.{ℕ, List, []}
use Rattle.language.specs.declared.Cell.{Cell}
use Rattle.language.specs.Table.{data_at}
use Rattle.process.specs.declared.Reading.{Reading}
use Rattle.record.specs.Logging.{record_of}
use Rattle.language.specs.View.{view, if_sends, if_logs}

-- the bytes that it sends or records
unfoldable pub writes_for : List ℕ → Reading → ℕ → Cell → List ℕ
writes_for pool r count c = if_sends (view c) (λ s. data_at pool s) (if_logs (view c) (λ s. record_of r count (data_at pool s)) [])
