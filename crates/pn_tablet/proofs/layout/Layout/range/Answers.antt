-- The bounds of a layout rise.
use Rattle.std.proofs.Common.{subst}
use Rattle.std.specs.List.Sorted.{IsStrictlySortedBy}
use Rattle.pn_record.specs.Sets.{bytes_cmp}
use Rattle.pn_tablet.specs.Layouts.{Bounds}
use Rattle.pn_tablet.proofs.LayoutFacts.{ends_in_order}
use Rattle.pn_tablet.proofs.layout.Layout.range.Goals as goal

pub returns-clause-order : goal.returns-clause-order
returns-clause-order c =
    ends_in_order c.args.self.now c.args.tablet (subst (λ (bounds : Bounds). IsStrictlySortedBy bytes_cmp bounds) c.self.view_is c.self.invariant.rising)
