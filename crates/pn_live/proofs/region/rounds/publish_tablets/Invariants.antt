-- The first tablets are published; the next states and the operations of the others are left.
use Rattle.std.proofs.Common.{◌≡◌, ◌++◌, map, take, drop, length}
use Rattle.std.specs.Vec.Iter.{into_iter_items, into_iter_len}
use Rattle.pn_apply.specs.Applying.{all_stepped}
use Rattle.pn_live.specs.PublishedTablets.{books_of, state_at}
use Rattle.pn_live.proofs.Appending.{AppendedFirst}
use Rattle.pn_live.proofs.region.rounds.publish_tablets.Given as goal

abbrev pub invariant-loop-next : goal.invariant-loop-next
invariant-loop-next g l = record {
  done : AppendedFirst l.number l.fn.tablets l.fn.operations.items l.tablets;
  order : l.order ≡ l.fn.order ++ books_of (take l.number l.fn.tablets);
  rest : into_iter_items l.next-iterator.a ≡ drop l.number (all_stepped (map state_at l.fn.tablets) l.fn.operations.items);
  left : into_iter_len l.next-iterator.a ≡ length (into_iter_items l.next-iterator.a);
  ops : into_iter_items l.next-iterator.b ≡ drop l.number l.fn.operations.items;
  ops_left : into_iter_len l.next-iterator.b ≡ length (into_iter_items l.next-iterator.b);
}
