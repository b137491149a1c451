use Rattle.pn_record.proofs.MarksValues.{fields_rise}
use Rattle.pn_record.proofs.as_json.unchecked.fields_of.Goals as goal

pub returns-in-Some-clause-rising : goal.returns-in-Some-clause-rising
returns-in-Some-clause-rising c =
    fields_rise c.in-Some.members.now.entries c.has_values_alone.ensures.ordered
