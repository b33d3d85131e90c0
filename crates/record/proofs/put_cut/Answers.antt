-- `record::put_cut` meets its contract. Assumes nothing.
use Rattle.record.proofs.Putting.{cut_at}
use Rattle.record.proofs.put_cut.Goals as goal

pub returns : goal.returns
returns c =
    let a = c.args in
    cut_at a.bytes.now a.out.now a.at c.min-n.result c.requires.0 c.min-n.ensures c.put_bytes.ensures.1
