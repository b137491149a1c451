-- What the region found is shown.
use Rattle.std.proofs.Common.{refl}
use Rattle.pn_region.specs.Reads.{get_in}
use Rattle.pn_protocol.specs.Command.Meaning.{get}
use Rattle.pn_protocol.specs.Reply.Records.{get_data}
use Rattle.pn_serve.proofs.Turns.{turned_shown}
use Rattle.pn_serve.proofs.machine.lookups.get.Goals as goal

pub returns : goal.returns
returns c =
    turned_shown c.args.region.now (get c.args.keys.items) (get_data c.args.keys.items) (get_in c.args.region.now.state c.args.keys.items) refl refl (λ cells. cells.items) c.get-found.result c.answer_get.result (rw c.deref.ensures.value at c.get-found.ensures.get) c.answer_get.ensures
