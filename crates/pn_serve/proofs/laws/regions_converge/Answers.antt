-- The laws are lemmas.
use Rattle.std.proofs.Common.{arith, max}
use Rattle.pn_join.specs.Laws.{JoinLaws}
use Rattle.pn_join.specs.Proofs.TableLaws.{key_by_key-laws}
use Rattle.pn_record.specs.Laws.{cell_joined-laws}
use Rattle.pn_serve.proofs.PlainLines.{any_record, nothing_lost}
use Rattle.pn_serve.proofs.ScriptLaws.{both_records, same_replies, line_held, end_held, input_held}
use Rattle.pn_serve.proofs.laws.regions_converge.Goals as goal

pub returns-clause-records : goal.returns-clause-records
returns-clause-records c = λ broker one other took. both_records broker one other took

pub returns-clause-replies : goal.returns-clause-replies
returns-clause-replies c = λ broker one other took waits waits_too text went goes asks. same_replies broker one other took waits waits_too text went goes asks

max-laws : JoinLaws max
max-laws = record {
  commutes = λ a b. omega arith;
  associates = λ a b c. omega arith;
  repeats = λ a. omega arith;
}

pub returns-clause-positions_join : goal.returns-clause-positions_join
returns-clause-positions_join c = max-laws

pub returns-clause-cells_join : goal.returns-clause-cells_join
returns-clause-cells_join c = cell_joined-laws

pub returns-clause-tables_join : goal.returns-clause-tables_join
returns-clause-tables_join c = (key_by_key-laws max-laws, key_by_key-laws cell_joined-laws)

pub returns-clause-no_older : goal.returns-clause-no_older
returns-clause-no_older c = λ told outcome text key. (line_held told outcome text key, end_held told outcome text key)

pub returns-clause-nor_later : goal.returns-clause-nor_later
returns-clause-nor_later c = λ broker told more key honest honest_too serves serves_too. input_held broker told more key honest honest_too serves serves_too

pub returns-clause-any_record : goal.returns-clause-any_record
returns-clause-any_record c = λ broker other told plain. any_record told.layout broker other told.input plain

pub returns-clause-no_losses : goal.returns-clause-no_losses
returns-clause-no_losses c = λ told stay. nothing_lost told.layout told.input stay
