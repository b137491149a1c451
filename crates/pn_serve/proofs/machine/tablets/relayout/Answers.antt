-- The layout was changed, or the bounds are those of none.
use Rattle.std.proofs.Common.{sym, ◌∙◌}
use Rattle.pn_serve.proofs.Relaying.{relaid_obeys, relaid_not}
use Rattle.pn_serve.proofs.machine.tablets.relayout.Goals as goal

pub returns-in-Ok : goal.returns-in-Ok
returns-in-Ok c = relaid_obeys _ _ c.args.bounds.items _ _ (sym c.new.ensures ∙ c.in-Ok.is) c.relayout_to.ensures

pub returns-in-Err : goal.returns-in-Err
returns-in-Err c = relaid_not _ c.args.bounds.items _ (sym c.new.ensures ∙ c.in-Err.is)
