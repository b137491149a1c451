-- Each look finds the cell of one key more, until one is refused or no key is left.
use Rattle.std.proofs.Common.{length, Err, refl, ap, ◌∙◌, arith}
use Rattle.std.proofs.lemmas.Result.{err_from_is_err_and}
use Rattle.pn_scan.proofs.Getting.{capacity_made, none_at_hand, looking_none, looking_more, capacity_more, looking_fails, looking_ends}
use Rattle.pn_scan.proofs.reads.get.Goals as goal

pub loop-key-init : goal.loop-key-init
loop-key-init g c =
    let made = c.with_capacity.ensures in
    let view = c.args.view.now in
    record {
      got = looking_none g.V.View.looks (g.V.View.bounds view) c.args.keys.now view c.ok-cells.result (none_at_hand c.with_capacity.result c.ok-cells.result c.ok-cells.ensures.value made.items);
      capacity = capacity_made c.with_capacity.result c.ok-cells.result (length c.args.keys.now) c.ok-cells.ensures.value made.capacity made.len;
      bounds = refl;
    }

pub returns-in_err-cells-clause-get : goal.returns-in_err-cells-clause-get
returns-in_err-cells-clause-get g c =
    let was = c.loop-key.invariant in
    let gave = err_from_is_err_and c.from_residual.result c.from_residual.ensures.1 in
    looking_fails c.loop-key.cells was.got c.loop-key-test.true c.key-item.is was.bounds refl c.cell.ensures.look.1 c.in_err-cells.field-0.0 (gave.1 ∙ ap Err gave.2) c.in_err-cells.ensures.fault.0 c.in_err-cells.ensures.fault.1

pub loop-key-preserved : goal.loop-key-preserved
loop-key-preserved g c =
    let was = c.loop-key.invariant in
    let more = c.in_ok-cells.ensures in
    record {
      got = looking_more c.loop-key.cells was.got c.loop-key-test.true c.key-item.is was.bounds refl c.cell.ensures.look.1 c.in_ok-cells.cells more.memory more.cells;
      capacity = capacity_more c.loop-key.cells c.in_ok-cells.cells (length c.args.keys.now) c.loop-key.key-index was.capacity more.kept;
      bounds = c.cell.ensures.layout ∙ was.bounds;
    }

pub returns-clause-get : goal.returns-clause-get
returns-clause-get g c = looking_ends c.loop-key.cells c.loop-key.invariant.got c.ok_or.result c.ok_or.ensures.value (omega arith)
