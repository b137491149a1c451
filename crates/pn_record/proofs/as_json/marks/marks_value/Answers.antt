-- Names and positions that fit are read back.
use Rattle.std.proofs.Common.{ap, ◌∙◌}
use Rattle.serde_json.specs.Data.{object}
use Rattle.serde_json.proofs.Views.{view-Object}
use Rattle.pn_record.proofs.MarksValues.{marks_fit, marks_again}
use Rattle.pn_record.proofs.as_json.marks.marks_value.Goals as goal

pub returns-clause-reads_back : goal.returns-clause-reads_back
returns-clause-reads_back c = λ positions.
    marks_again _ c.args.marks.now (record {
      value = view-Object c.in_ok-members_of.field-0 ∙ ap object c.in_ok-members_of.ensures.members;
      fits = marks_fit c.args.marks.now c.in_ok-members_of.ensures.names positions;
    })
