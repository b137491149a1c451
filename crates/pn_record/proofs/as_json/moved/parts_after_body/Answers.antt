-- The members that were taken in order are those of their names.
use Rattle.std.proofs.Common.{◌≡◌, Some, None, ap, ◌∙◌, rules}
use Rattle.serde_json.specs.Find.{as_object}
use Rattle.serde_json.specs.View.{view, members_view}
use Rattle.pn_json.specs.Members.{text_at}
use Rattle.pn_record.specs.Grammar.{numbers_at}
use Rattle.pn_record.proofs.ImageParts.{object_there, walked}
use Rattle.pn_record.proofs.as_json.moved.parts_after_body.Goals as goal

pub unreachable-requires : goal.unreachable-requires
unreachable-requires c =
    let none : as_object (view c.args.value.now) ≡ None = search rules in
    object_there (view c.args.value.now) c.requires none

pub returns-clause-key : goal.returns-clause-key
returns-clause-key c =
    let members : Some (members_view c.in-Some.members.now.entries) ≡ as_object (view c.args.value.now) = search rules in
    let order = walked (view c.args.value.now) c.in-Some.members.now.entries _ _ _ _ _ _ _ _ _ members c.values-values.ensures.ordered c.requires c.values-values.ensures.rest c.next.ensures.steps c.next-2.ensures.steps c.next-3.ensures.steps c.next-4.ensures.steps in
    c.text_or_empty-key.ensures ∙ ap text_at order.key

pub returns-clause-master : goal.returns-clause-master
returns-clause-master c =
    let members : Some (members_view c.in-Some.members.now.entries) ≡ as_object (view c.args.value.now) = search rules in
    let order = walked (view c.args.value.now) c.in-Some.members.now.entries _ _ _ _ _ _ _ _ _ members c.values-values.ensures.ordered c.requires c.values-values.ensures.rest c.next.ensures.steps c.next-2.ensures.steps c.next-3.ensures.steps c.next-4.ensures.steps in
    c.text_or_empty-master.ensures ∙ ap text_at order.master

pub returns-clause-version : goal.returns-clause-version
returns-clause-version c =
    let members : Some (members_view c.in-Some.members.now.entries) ≡ as_object (view c.args.value.now) = search rules in
    let order = walked (view c.args.value.now) c.in-Some.members.now.entries _ _ _ _ _ _ _ _ _ members c.values-values.ensures.ordered c.requires c.values-values.ensures.rest c.next.ensures.steps c.next-2.ensures.steps c.next-3.ensures.steps c.next-4.ensures.steps in
    c.numbers_or_zeros.ensures ∙ ap numbers_at order.version
