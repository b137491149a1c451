-- The laws are lemmas.
use Rattle.pn_region.proofs.Following.{few_streams, many_streams, never_memory}
use Rattle.pn_region.proofs.laws.new_marks_name_at_most_16_streams.Goals as goal

pub returns-clause-few : goal.returns-clause-few
returns-clause-few c = few_streams

pub returns-clause-too_many : goal.returns-clause-too_many
returns-clause-too_many c = many_streams

pub returns-clause-nothing_else : goal.returns-clause-nothing_else
returns-clause-nothing_else c = never_memory
