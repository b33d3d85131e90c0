-- `record::Shown::put_sign` meets its contract: each writer's text is the sign's. Assumes nothing.
use Rattle.record.proofs.Signs.{sign_count, sign_unit, sign_plain}
use Rattle.record.proofs.Putting.{put_as}
use Rattle.record.proofs.Shown.put_sign.Goals as goal

pub returns-then-b-eq99 : goal.returns-then-b-eq99
returns-then-b-eq99 c =
    let a = c.args in
    put_as a.sign.now 0 (sign_count a.self.reading a.self.count a.b c.if-b-eq99.true)
    c.put_decimal.ensures

pub returns-in-Some : goal.returns-in-Some
returns-in-Some c =
    let a = c.args in
    put_as a.sign.now 0 (sign_unit a.self.reading a.self.count a.b c.if-b-eq99.false
    c.unit_of.ensures c.in-Some.is) c.put_two_digits.ensures

pub returns-in-None : goal.returns-in-None
returns-in-None c =
    let a = c.args in
    put_as a.sign.now 0
    (sign_plain a.self.reading a.self.count a.b c.if-b-eq99.false c.unit_of.ensures
    c.in-None.is c.plain.ensures)
    c.put_bytes.ensures
