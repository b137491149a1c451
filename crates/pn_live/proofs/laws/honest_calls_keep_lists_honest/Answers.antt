-- The laws are lemmas.
use Rattle.pn_live.proofs.HonestLists.{opened_honest, round_honest, loss_honest, adoption_honest, advance_honest}
use Rattle.pn_live.proofs.laws.honest_calls_keep_lists_honest.Goals as goal

pub returns : goal.returns
returns c = record {
  opened = opened_honest;
  round = λ broker old new deliveries is honest. round_honest broker old new is honest deliveries;
  loss = λ broker old new tablet is honest. loss_honest broker old new is honest tablet;
  adoption = λ broker old new copy is honest. adoption_honest broker old new is honest copy;
  advance = advance_honest;
}
