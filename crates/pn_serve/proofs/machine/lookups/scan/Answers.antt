-- What the region found is shown.
use Rattle.std.proofs.Common.{refl}
use Rattle.pn_region.specs.Reads.{page_in}
use Rattle.pn_protocol.specs.Command.Meaning.{scan}
use Rattle.pn_protocol.specs.Reply.Records.{scan_data}
use Rattle.pn_serve.proofs.Turns.{turned_shown}
use Rattle.pn_serve.proofs.machine.lookups.scan.Goals as goal

pub returns : goal.returns
returns c =
    turned_shown c.args.region.now (scan c.args.query.now) scan_data (page_in c.args.region.now.state c.args.query.now) refl refl (λ page. (page.rows.items, page.next)) c.scan.result c.answer_scan.result c.scan.ensures.page c.answer_scan.ensures
