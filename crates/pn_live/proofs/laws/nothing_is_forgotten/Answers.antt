-- The laws are lemmas.
use Rattle.pn_live.proofs.Knowing.{looks_know, learning_all_knows, all_know_themselves, all_know_on, all_looks_know}
use Rattle.pn_live.proofs.laws.nothing_is_forgotten.Goals as goal

pub returns : goal.returns
returns c = record {
  looks = looks_know;
  many = all_looks_know;
  fronts = learning_all_knows;
  itself = all_know_themselves;
  on = all_know_on;
}
