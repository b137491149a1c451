-- Each reader knows no more than is published.
use Rattle.std.proofs.Common.{drop, sym, ◌∙◌}
use Rattle.std.specs.Vec.Iter.{into_iter_items}
use Rattle.pn_live.proofs.Learning.{known_none}
use Rattle.pn_live.proofs.Appending.{nothing_left}
use Rattle.pn_live.proofs.region.closing.was_seen.Goals as goal

pub returns : goal.returns
returns c every =
    let at = c.loop-reader in
    let none = c.in-None.ensures.steps in
    let items = into_iter_items at.reader-iterator in
    at.invariant.seen (known_none (drop at.number c.args.tablets.now) items (nothing_left items (sym at.invariant.left ∙ none.0)) at.invariant.of)
