-- `record::Shown::put_piece` meets its contract. Assumes nothing.
use Rattle.record.proofs.Signs.{piece_sign, piece_none, piece_one}
use Rattle.record.proofs.Putting.{put_as, put_nothing}
use Rattle.record.proofs.Shown.put_piece.Goals as goal

pub returns-then-signed : goal.returns-then-signed
returns-then-signed c =
    let a = c.args in
    put_as a.dst.now 0 (piece_sign a.self.reading a.self.count a.b c.if-signed.true)
    c.put_sign.ensures

pub returns-then-b-eq64 : goal.returns-then-b-eq64
returns-then-b-eq64 c =
    let a = c.args in
    put_as a.dst.now 0 (piece_none a.self.reading a.self.count a.b c.if-signed.false c.if-b-eq64.true)
    (put_nothing a.dst.now)

pub returns : goal.returns
returns c =
    let a = c.args in
    put_as a.dst.now 0 (piece_one a.self.reading a.self.count a.b c.if-signed.false c.if-b-eq64.false)
    c.put_bytes.ensures
