-- What the looks found is shown.
use Rattle.std.proofs.Common.{refl}
use Rattle.pn_protocol.specs.Reply.Records.{scan_data}
use Rattle.pn_serve.proofs.Lookups.{seen_as, shows_as, scanned_as}
use Rattle.pn_serve.proofs.sessions.lookups.scan.Goals as goal

pub returns-clause-looks_up : goal.returns-clause-looks_up
returns-clause-looks_up c = record {
  seen = c.scan.ensures.scan.0;
  answer = seen_as (λ page. (page.rows.items, page.next)) c.scan.result;
  scanned = scanned_as _ _ _ _ _ c.scan.result _ c.scan.ensures.scan.1;
  reached = c.scan.new.self;
  moved = refl;
  shows = shows_as (λ page. (page.rows.items, page.next)) scan_data c.scan.result c.answer_scan.result c.answer_scan.ensures;
}
