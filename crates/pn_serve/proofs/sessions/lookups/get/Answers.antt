-- What the looks found is shown.
use Rattle.std.proofs.Common.{refl}
use Rattle.pn_protocol.specs.Reply.Records.{get_data}
use Rattle.pn_serve.proofs.Lookups.{seen_as, shows_as, got_as}
use Rattle.pn_serve.proofs.sessions.lookups.get.Goals as goal

pub returns-clause-looks_up : goal.returns-clause-looks_up
returns-clause-looks_up c = record {
  seen = c.get-found.ensures.get.0;
  answer = seen_as (λ cells. cells.items) c.get-found.result;
  got = got_as _ _ _ _ _ c.get-found.result _ (rw c.deref.ensures.value at c.get-found.ensures.get.1);
  reached = c.get-found.new.self;
  moved = refl;
  shows = shows_as (λ cells. cells.items) (get_data c.args.keys.items) c.get-found.result c.answer_get.result c.answer_get.ensures;
}
