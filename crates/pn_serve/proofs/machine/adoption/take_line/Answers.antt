-- An announced line came.
use Rattle.pn_serve.proofs.Announcing.{came_last, came_on}
use Rattle.pn_serve.proofs.machine.adoption.take_line.Goals as goal

pub returns-in-More : goal.returns-in-More
returns-in-More g c = let came = c.in-More.ensures in came_on c.args.region.now c.args.announced c.args.line.now _ came.0 came.1 came.2

pub returns-in-Text : goal.returns-in-Text
returns-in-Text g c = let came = c.in-Text.ensures in came_last c.args.region.now c.args.announced c.args.line.now _ _ _ came.0 came.1 c.adopt.ensures
