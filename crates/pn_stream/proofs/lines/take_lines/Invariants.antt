-- The lines so far were taken from the text; the line holds what was read of the next one, which is nothing after a line.
use Rattle.std.proofs.Common.{◌≡◌, ◌-◌, ◌≤◌, [], None, ◌++◌, length, All, IfSome, OnSome}
use Rattle.pn_line.specs.Line.{HasShown}
use Rattle.pn_stream.specs.Batches.{IsPart, IsWhole, LinesSoFar}
use Rattle.pn_stream.proofs.lines.take_lines.Given as goal

abbrev pub invariant-lines : goal.invariant-lines
invariant-lines g l = record {
  within : length l.lines.items ≤ l.size.most;
  whole : All IsWhole l.lines.items;
  part : IsPart l.line;
  taken : 1 ≤ length l.lines.items → l.line.bytes ≡ [];
  none_held : l.held ≡ None;
  shown : OnSome (g.S.Source.left l.initial.source) (HasShown l.more (g.S.Source.left l.source));
  so_far : IfSome (g.S.Source.left l.initial.source) (λ text. LinesSoFar (l.initial.line.bytes ++ text) l.lines.items l.line.bytes (g.S.Source.left l.source));
}

abbrev pub decreases-lines : goal.decreases-lines
decreases-lines g l = l.size.most - length l.lines.items
