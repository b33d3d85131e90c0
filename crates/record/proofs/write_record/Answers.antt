-- `record::write_record` meets its contract: each turn of the loop is a law on its state, `Cutting`. Assumes nothing.
use Rattle.std.proofs.Common.{ℕ, List, ap, sym, ◌∙◌, ◌≤◌, length, get_or, arith}
use lib.ListN.{drop_of_length-le}
use Rattle.record.specs.Logging.{written_out}
use Rattle.record.specs.Inside.Signs.{piece}
use Rattle.record.proofs.Signs.{piece_at, piece_few}
use Rattle.record.proofs.Cutting.{cut_on, cut_done}
use Rattle.record.proofs.Putting.{record_small, record_whole, put_some, put_end, put_text, put_long}
use Rattle.record.proofs.write_record.Goals as goal

pub returns-then-out-lt-RECORD : goal.returns-then-out-lt-RECORD
returns-then-out-lt-RECORD c =
    let a = c.args in
    record_small a.r a.count a.text.now a.out.now c.if-out-lt-RECORD.true

pub unwrap-n-requires : goal.unwrap-n-requires
unwrap-n-requires c =
    let a = c.args in
    let l = c.loop-b in
    let text = piece a.r a.count l.signed (get_or a.text.now l.b-index 0) in
    let few : length text ≤ length l.piece = omega (arith, piece_few a.r a.count (get_or a.text.now l.b-index 0) l.signed (omega arith)) in
    put_some text l.piece few c.put_piece.ensures.0 c.put_piece.ensures.1

pub slice_bounds-piece-end : goal.slice_bounds-piece-end
slice_bounds-piece-end c =
    let a = c.args in
    let l = c.loop-b in
    let text = piece a.r a.count l.signed (get_or a.text.now l.b-index 0) in
    let few : length text ≤ length l.piece = omega (arith, piece_few a.r a.count (get_or a.text.now l.b-index 0) l.signed (omega arith)) in
    let put = c.put_piece.ensures in
    omega (arith, few, put_end text l.piece few put.0 put.1 c.unwrap-n.ensures, put_long text l.piece few put.0 put.1)

pub slice_bounds-put_cut-end : goal.slice_bounds-put_cut-end
slice_bounds-put_cut-end c =
    let a = c.args in
    let l = c.loop-b in
    let text = piece a.r a.count l.signed (get_or a.text.now l.b-index 0) in
    let few : length text ≤ length l.piece = omega (arith, piece_few a.r a.count (get_or a.text.now l.b-index 0) l.signed (omega arith)) in
    let put = c.put_piece.ensures in
    put_end text l.piece few put.0 put.1 c.unwrap-n.ensures
    ∙ sym (ap length (put_text text l.piece few put.0 put.1 c.unwrap-n.ensures))

pub loop-b-preserved : goal.loop-b-preserved
loop-b-preserved c =
    let a = c.args in
    let l = c.loop-b in
    let text = piece a.r a.count l.signed (get_or a.text.now l.b-index 0) in
    let few : length text ≤ length l.piece = omega (arith, piece_few a.r a.count (get_or a.text.now l.b-index 0) l.signed (omega arith)) in
    let put = c.put_piece.ensures in
    let cut = rw (put_text text l.piece few put.0 put.1 c.unwrap-n.ensures) at c.put_cut-at.ensures in
    cut_on _ _
    (piece_at a.r a.count a.text.now l.b-index l.signed c.loop-b-test.true c.begins_sign-signed.ensures)
    cut
    l.invariant

pub returns : goal.returns
unfolding written_out
returns c =
    let a = c.args in
    let l = c.loop-b in
    record_whole a.r a.count a.text.now a.out.now l.invariant.room
    (cut_done (ap (λ (t : List ℕ). written_out a.r a.count t l.signed)
    (drop_of_length-le a.text.now c.loop-b-test.false)) l.invariant)
