use Rattle.pn_json.proofs.LookUps.{right_same}
use Rattle.pn_record.proofs.MarksValues.{answer_marks, marks_again}
use Rattle.pn_record.proofs.as_json.marks.marks_of.Goals as goal

pub returns-clause-found : goal.returns-clause-found
returns-clause-found c = answer_marks _ c.checked_marks.result c.checked_marks.ensures.exact

pub returns-clause-only : goal.returns-clause-only
returns-clause-only c = λ marks is. right_same _ _ _ _ _ c.checked_marks.ensures.exact (marks_again _ marks is)
