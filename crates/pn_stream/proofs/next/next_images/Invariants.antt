-- The images so far are a run; the line holds what was read of the next one, which is nothing after an image.
use Rattle.std.proofs.Common.{◌≡◌, ◌-◌, ◌+◌, ◌≤◌, ◌^◌, [], None, ◌++◌, length, IfSome, OnSome}
use Rattle.pn_line.specs.Line.{HasShown}
use Rattle.pn_stream.specs.Batches.{SoFar, IsPart}
use Rattle.pn_stream.proofs.next.next_images.Given as goal

abbrev pub invariant-images : goal.invariant-images
invariant-images g l = record {
  within : length l.images.items ≤ l.size.most;
  positions : l.position + length l.images.items ≤ 10 ^ 15;
  part : IsPart l.line;
  taken : 1 ≤ length l.images.items → l.line.bytes ≡ [];
  none_held : l.held ≡ None;
  shown : OnSome (g.S.Source.left l.initial.source) (HasShown l.more (g.S.Source.left l.source));
  so_far : IfSome (g.S.Source.left l.initial.source) (λ text. SoFar l.position (l.initial.line.bytes ++ text) l.images.items l.line.bytes (g.S.Source.left l.source));
}

abbrev pub decreases-images : goal.decreases-images
decreases-images g l = l.size.most - length l.images.items
