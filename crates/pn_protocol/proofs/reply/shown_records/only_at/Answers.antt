-- The only record is the first.
use Rattle.std.proofs.Common.{Some, ◌∙◌}
use Rattle.pn_protocol.specs.Reply.Making.{Found}
use Rattle.pn_protocol.proofs.MadeReplies.{first_record, only_record}
use Rattle.pn_protocol.proofs.reply.shown_records.only_at.Goals as goal

pub returns-then-index-gt0 : goal.returns-then-index-gt0
returns-then-index-gt0 c =
    let found : Found = (c.args.key.now, c.args.cell.now) in
    only_record found c.args.index c.if-index-gt0.true

pub returns : goal.returns
returns c =
    let found : Found = (c.args.key.now, c.args.cell.now) in
    (λ i. Some (c.args.key.now, c.as_ref.ensures.value i)) ∙ first_record found c.args.index c.if-index-gt0.false
