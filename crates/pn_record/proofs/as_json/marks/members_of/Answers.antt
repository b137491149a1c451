-- At first no member is there and all marks are left.
use Rattle.std.proofs.Common.{rules, ◌≡◌, [], ap, ◌∙◌}
use Rattle.std.specs.List.{list_all}
use Rattle.serde_json.specs.Data.{Members, no_members}
use Rattle.serde_json.specs.View.{members_view}
use Rattle.pn_join.specs.Marks.{Positions}
use Rattle.pn_join.specs.Naming.{is_name}
use Rattle.pn_record.proofs.MarksValues.{put_all, put_behind}
use Rattle.pn_record.proofs.as_json.marks.members_of.Goals as goal

pub loop-name-init : goal.loop-name-init
loop-name-init c =
    let marks : Positions = c.args.marks.now in
    let left : Positions = c.into_iter-name-iterator.result in
    let all : left ≡ marks = search rules in
    let none : members_view c.new-members.result.entries ≡ no_members = search rules in
    record {
      members = ap (λ (ms : Members). put_all ms left) none ∙ ap (put_all no_members) all ∙ put_behind [] marks c.iter-name-items.ensures.table.rising;
      names = ap (λ (ms : Positions). list_all (λ mark. is_name mark.0) ms) all;
    }
