use Rattle.std.proofs.Common.{◌≡◌, map, rules}
use Rattle.serde_json.specs.View.{members_view}
use Rattle.pn_record.specs.Showing.{shown_field}
use Rattle.pn_record.specs.Grammar.{fields_of}
use Rattle.pn_record.proofs.MarksValues.{fields_rise}
use Rattle.pn_record.proofs.as_json.read.fields_from.Goals as goal

pub returns-clause-rising : goal.returns-clause-rising
returns-clause-rising c =
    let all : map shown_field c.loop-name.fields.items ≡ fields_of (members_view c.args.members.now.entries) = search rules in
    rw all (fields_rise _ c.len.ensures.ordered)
