-- A key and a cell of the same index.
use Rattle.std.proofs.Common.{Some, sym, ◌∙◌}
use Rattle.pn_protocol.proofs.MadeReplies.{zip_both, zip_past_first, zip_past_second}
use Rattle.pn_protocol.proofs.reply.shown_records.keyed_at.Goals as goal

pub returns-in_err-key : goal.returns-in_err-key
returns-in_err-key c = rw c.from_residual.ensures (sym (zip_past_first c.args.keys.now c.args.cells.now c.args.index (sym c.in_err-key.ensures)))

pub returns-in_err-cell : goal.returns-in_err-cell
returns-in_err-cell c =
    rw c.from_residual-in_err-cell.ensures (sym (zip_past_second c.args.keys.now c.args.cells.now c.args.index (sym c.in_err-cell.ensures)))

pub returns : goal.returns
returns c =
    let key = c.in_ok-key.key.now in
    let cell = c.in_ok-cell.cell.now in
    (λ i. Some (key, c.as_ref.ensures.value i)) ∙ sym (zip_both c.args.keys.now c.args.cells.now c.args.index key cell (sym c.in_ok-key.ensures) (sym c.in_ok-cell.ensures))
