-- What the region found is shown.
use Rattle.std.proofs.Common.{refl}
use Rattle.pn_scan.specs.Views.{cell_at}
use Rattle.pn_region.specs.Reads.{look_for, read_in}
use Rattle.pn_protocol.specs.Command.Meaning.{read}
use Rattle.pn_protocol.specs.Reply.Records.{read_data}
use Rattle.pn_serve.proofs.Turns.{turned_shown, read_shows}
use Rattle.pn_serve.proofs.machine.lookups.read.Goals as goal

pub returns : goal.returns
returns c =
    turned_shown c.args.region.now (read c.args.key c.args.version) (read_data c.args.key) (read_in c.args.region.now.state c.args.key c.args.version) refl refl (λ cell. cell) c.read-found.result c.answer_read.result (read_shows (cell_at c.args.key (look_for c.args.region.now.state c.args.key)) (read_in c.args.region.now.state c.args.key c.args.version) c.read-found.result c.read-found.ensures.read) c.answer_read.ensures
