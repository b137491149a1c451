-- What the entry found.
use Rattle.std.proofs.Common.{Some}
use Rattle.pn_live.proofs.Knowing.{finds_left}
use Rattle.pn_live.proofs.tablet_reader.TabletReader.look_up_cell.Goals as goal

pub returns-in-Ok : goal.returns-in-Ok
returns-in-Ok c = (
  Some c.state.result.now,
  record {
    sees = finds_left c.args.self c.in-Ok.guard c.in-Ok.ensures c.state.result.now c.leave.result c.state.ensures.found c.leave.ensures;
    sound = c.state.ensures.sound;
    answers = c.cell_of-answer.ensures;
  },
)
