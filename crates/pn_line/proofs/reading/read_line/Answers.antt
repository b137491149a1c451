use Rattle.std.proofs.Common.{◌≡◌, ◌<◌, refl, rules, arith}
use Rattle.pn_line.specs.declared.line_buffer.TheConstants.{ENDLESS}
use Rattle.pn_line.proofs.LineLaws.{Takes-trans, known_before, on_any}
use Rattle.pn_line.proofs.reading.read_line.Goals as goal

pub pieces-preserved : goal.pieces-preserved
pieces-preserved g c =
    let more = c.in_ok-take_some.ensures.takes.grows c.in-Part.is in record {
      takes = Takes-trans c.pieces.invariant.takes (rw c.in-Part.is at c.in_ok-take_some.ensures.takes.takes);
      grows = omega arith;
      polls = omega (arith, c.in_ok-take_some.ensures.polls);
    }

pub returns-in-Ended-clause-reads : goal.returns-in-Ended-clause-reads
returns-in-Ended-clause-reads g c =
    let below : c.take_some.new.line.count < ENDLESS = (rw c.in-Ended.is at c.in_ok-take_some.ensures.takes.below) (λ is. cc) in record {
      takes = Takes-trans c.pieces.invariant.takes (rw c.in-Ended.is at c.in_ok-take_some.ensures.takes.takes);
      endless = (λ is. cc, λ is. absurd (omega (arith, is, below)));
      below = λ other. below;
      at_end = λ is. cc;
      more = known_before _ _ _ _ c.pieces.invariant.takes.source (rw c.in-Ended.is at c.in_ok-take_some.ensures.takes.more);
    }

pub returns-in-NoMore-clause-reads : goal.returns-in-NoMore-clause-reads
returns-in-NoMore-clause-reads g c =
    let below : c.take_some.new.line.count < ENDLESS = (rw c.in-NoMore.is at c.in_ok-take_some.ensures.takes.below) (λ is. cc) in record {
      takes = Takes-trans c.pieces.invariant.takes (rw c.in-NoMore.is at c.in_ok-take_some.ensures.takes.takes);
      endless = (λ is. cc, λ is. absurd (omega (arith, is, below)));
      below = λ other. below;
      at_end = λ is. known_before _ _ _ _ c.pieces.invariant.takes.source (c.in_ok-take_some.ensures.takes.end c.in-NoMore.is);
      more = on_any _;
    }

pub returns-clause-reads : goal.returns-clause-reads
returns-clause-reads g c =
    let full : c.pieces.line.count ≡ ENDLESS = search (rules, arith) in record {
      takes = c.pieces.invariant.takes;
      endless = (λ is. full, λ is. refl);
      below = λ other. absurd (other refl);
      at_end = λ is. cc;
      more = on_any _;
    }
