-- The input ended after a part of what was announced.
use Rattle.pn_serve.proofs.Announcing.{came_part}
use Rattle.pn_serve.proofs.machine.adoption.take_last_part.Goals as goal

pub returns : goal.returns
returns g c = came_part c.args.region.now c.adopt.new.region c.args.announced c.args.part.now _ _ c.end.ensures c.adopt.ensures
