-- There are fewer than 2 ^ 64 records.
use Rattle.std.proofs.Common.{length-drop, ap, arith}
use Rattle.pn_scan.specs.Paging.{part_left}
use Rattle.pn_scan.proofs.walk.PartWalk.recall_left.Goals as goal

pub returns : goal.returns
returns c = omega (arith, c.recall_len.ensures, length-drop c.self.inside.place.index c.self.inside.rest, ap part_left c.self.view_is)
