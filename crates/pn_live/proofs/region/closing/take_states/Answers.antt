-- There is capacity for one state more.
use Rattle.std.proofs.Common.{map, arith}
use Rattle.std.specs.Vec.Iter.{into_iter_items}
use Rattle.std.proofs.lemmas.List.{length-map}
use Rattle.pn_live.specs.PublishedTablets.{state_at}
use Rattle.pn_live.proofs.Appending.{still_fits}
use Rattle.pn_live.proofs.region.closing.take_states.Goals as goal

pub push_reserved-requires : goal.push_reserved-requires
push_reserved-requires g c =
    let at = c.loop-tablet in
    let all = map state_at c.args.tablets.items in
    let capacity = still_fits state_at all at.states.items (into_iter_items at.rest) at.invariant.states c.in-Some.tablet (into_iter_items c.next.new.self) c.in-Some.ensures.cases.0 in
    omega (arith, capacity, length-map c.args.tablets.items state_at, at.invariant.capacity, at.states.ok.0)
