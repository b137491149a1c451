-- Ranges that follow one another are those of the layout of their bounds.
use Rattle.std.proofs.Common.{◌≡◌, ◌+◌, ◌≤◌, length, map, sym, ap, ◌∙◌, arith}
use Rattle.std.proofs.lemmas.List.{length-map}
use Rattle.pn_tablet.specs.Layouts.{all_ends, begins_of, layout_of, Ends}
use Rattle.pn_tablet.specs.declared.copy.TabletCopy.{TabletCopy}
use Rattle.pn_tablet.specs.declared.layout.TheConstants.{MAX_BOUNDS}
use Rattle.pn_tablet.proofs.CutRanges.{cut, ends_are, fits}
use Rattle.pn_tablet.proofs.layout.layout_in_order.Goals as goal

abbrev range_of : TabletCopy → Ends
range_of copy = copy.range

pub unreachable-requires : goal.unreachable-requires
unreachable-requires c =
    let ranges = map range_of c.args.copies.now in
    let few : length ranges ≤ MAX_BOUNDS + 1 = omega (arith, c.if-copies.false, length-map c.args.copies.now range_of) in
    let parts = cut ranges c.in_ok-follow.ensures.exact c.in_ok-follow.ensures.order in
    let is = sym c.in-Err.is ∙ c.new.ensures ∙ ap layout_of c.in_ok-begins_of.ensures ∙ fits ranges parts few in
    cc

pub returns-clause-ranges : goal.returns-clause-ranges
returns-clause-ranges c =
    let ranges = map range_of c.args.copies.now in
    let few : length ranges ≤ MAX_BOUNDS + 1 = omega (arith, c.if-copies.false, length-map c.args.copies.now range_of) in
    let parts = cut ranges c.in_ok-follow.ensures.exact c.in_ok-follow.ensures.order in
    let is = sym c.in-Ok.is ∙ c.new.ensures ∙ ap layout_of c.in_ok-begins_of.ensures ∙ fits ranges parts few in
    let same : c.in-Ok.layout ≡ begins_of ranges = cc in
    ap all_ends same ∙ ends_are (begins_of ranges) ∙ sym parts.are
