-- The page is as far as its walk, which gets nearer to its end.
use Rattle.std.proofs.Common.{◌≡◌}
use Rattle.pn_scan.proofs.PageSteps.{IsPaging, paging_left}
use Rattle.pn_scan.proofs.pages.page.Given as goal

abbrev pub invariant-steps : goal.invariant-steps
invariant-steps g l = record {
  paging : IsPaging g.V.View.looks (g.V.View.bounds l.initial.view) l.query l.initial.view l.view l.walk;
  bounds : g.V.View.bounds l.view ≡ g.V.View.bounds l.initial.view;
}

abbrev pub decreases-steps : goal.decreases-steps
decreases-steps g l = paging_left l.walk
