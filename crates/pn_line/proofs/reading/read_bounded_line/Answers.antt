use Rattle.std.proofs.Common.{◌≤◌, ◌<◌, rules, arith}
use Rattle.pn_line.specs.declared.line_buffer.TheConstants.{MAX_LINE_BYTES}
use Rattle.pn_line.proofs.LineLaws.{Takes-trans, known_before}
use Rattle.pn_line.proofs.reading.read_bounded_line.Goals as goal

pub pieces-preserved : goal.pieces-preserved
pieces-preserved g c = Takes-trans c.pieces.invariant (rw c.in-Part.is at c.in_ok-take_some.ensures.takes.takes)

pub returns-then-is_too_long-clause-takes : goal.returns-then-is_too_long-clause-takes
returns-then-is_too_long-clause-takes g c =
    let long : MAX_LINE_BYTES < c.take_some.new.line.count = search rules in
    ((_, Takes-trans c.pieces.invariant c.in_ok-take_some.ensures.takes.takes), long)

pub returns-in-Ended-clause-takes : goal.returns-in-Ended-clause-takes
returns-in-Ended-clause-takes g c =
    let short : c.take_some.new.line.count ≤ MAX_LINE_BYTES = search (arith, rules) in
    (Takes-trans c.pieces.invariant (rw c.in-Ended.is at c.in_ok-take_some.ensures.takes.takes), short, known_before _ _ _ _ c.pieces.invariant.source (rw c.in-Ended.is at c.in_ok-take_some.ensures.takes.more))

pub returns-then-is_too_long-2-clause-takes : goal.returns-then-is_too_long-2-clause-takes
returns-then-is_too_long-2-clause-takes g c =
    let long : MAX_LINE_BYTES < c.take_some.new.line.count = search rules in
    ((_, Takes-trans c.pieces.invariant c.in_ok-take_some.ensures.takes.takes), long)

pub returns-in-NoMore-clause-takes : goal.returns-in-NoMore-clause-takes
returns-in-NoMore-clause-takes g c =
    let short : c.take_some.new.line.count ≤ MAX_LINE_BYTES = search (arith, rules) in
    (Takes-trans c.pieces.invariant (rw c.in-NoMore.is at c.in_ok-take_some.ensures.takes.takes), known_before _ _ _ _ c.pieces.invariant.source (c.in_ok-take_some.ensures.takes.end c.in-NoMore.is), short)
