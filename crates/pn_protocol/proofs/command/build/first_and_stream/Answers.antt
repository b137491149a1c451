-- What is found in a value that is no object is nothing, and in an object what its members have.
use Rattle.std.proofs.Common.{◌≡◌, Some, None, codes, sym, ap, ◌∙◌, rules}
use Rattle.serde_json.specs.Find.{as_object}
use Rattle.serde_json.specs.View.{view, members_view}
use Rattle.pn_json.specs.Members.{text_at}
use Rattle.pn_protocol.specs.Command.Lines.{number_at}
use Rattle.pn_protocol.proofs.BatchParts.{nothing_in, found_among}
use Rattle.pn_protocol.proofs.command.build.first_and_stream.Goals as goal

pub returns-in_default-clause-first : goal.returns-in_default-clause-first
returns-in_default-clause-first c =
    let none : as_object (view c.args.batch.now) ≡ None = search rules in
    ap number_at (sym (nothing_in (codes "first") (view c.args.batch.now) none))

pub returns-in_default-clause-stream : goal.returns-in_default-clause-stream
returns-in_default-clause-stream c =
    let none : as_object (view c.args.batch.now) ≡ None = search rules in
    ap text_at (sym (nothing_in (codes "stream") (view c.args.batch.now) none))

pub returns-clause-first : goal.returns-clause-first
returns-clause-first c =
    let some : as_object (view c.args.batch.now) ≡ Some (members_view c.in-Some.members.now.entries) = search rules in
    c.number_or_zero.ensures ∙ ap number_at (c.batch_parts-parts.ensures.first ∙ found_among (codes "first") (view c.args.batch.now) (members_view c.in-Some.members.now.entries) some)

pub returns-clause-stream : goal.returns-clause-stream
returns-clause-stream c =
    let some : as_object (view c.args.batch.now) ≡ Some (members_view c.in-Some.members.now.entries) = search rules in
    c.text_or_empty.ensures ∙ ap text_at (c.batch_parts-parts.ensures.stream ∙ found_among (codes "stream") (view c.args.batch.now) (members_view c.in-Some.members.now.entries) some)
