-- A line more is gathered, or the text ends.
use Rattle.std.proofs.Common.{◌≡◌, ◌-◌, ◌^◌, ◌<◌, ◌∙◌, [], true, false, Ok, ap, length, refl, rules, arith, sym}
use Rattle.pn_serve.proofs.CopyTexts.{cut-end, cut-faulty, cut-long, cut-part, gathered-line, gathered-none, none-left, nothing}
use Rattle.pn_serve.proofs.CopyTries.{soon-line, soon-none, soon-part, tried-line, tried-none}
use Rattle.pn_serve.proofs.copies.texts.CopyTexts.next_text.Goals as goal

pub loop-lines-init : goal.loop-lines-init
loop-lines-init g c = record {
  gathered = λ bytes is. rw c.new-text.ensures.items (gathered-none bytes _ is);
  tried = λ bytes is. rw c.new-text.ensures.items (tried-none _ c.new-front.ensures);
  next = refl;
  few = search rules;
}

pub loop-lines-preserved : goal.loop-lines-preserved
loop-lines-preserved g c =
    let adds = rw c.in-Line.is at c.in_ok-add_line.ensures.adds in
    let grows = c.in_ok-add_line.ensures.grows (ap Ok c.in-Line.is) in
    record {
      gathered = λ bytes is. gathered-line bytes _ _ _ _ _ (c.loop-lines.invariant.gathered bytes is) adds;
      tried = λ bytes is.
          let looks = c.in_ok-finds_fault-in-Line.ensures in
          let right = rw c.deref.ensures.value at looks.right in
          let later = rw c.deref.ensures.value at looks.later in
          let waits = rw c.deref.ensures.value at looks.waits in
          let some : 0 < length c.add_line.new.text.items = omega (arith, grows) in
          let few : length c.add_line.new.text.items < 2 ^ 64 - 1 = first_of (omega arith, search rules) in
          tried-line _ bytes _ _ _ _ _ (c.loop-lines.invariant.gathered bytes is) (c.loop-lines.invariant.tried bytes is) _ adds some few
          (λ now. right now (ap Ok c.if-branch.false)) later (λ before. (waits before).1);
      next = c.in_ok-add_line.ensures.next ∙ c.loop-lines.invariant.next;
      few = omega (arith, c.loop-lines.invariant.few, grows);
    }

pub returns-then-branch-clause-cut : goal.returns-then-branch-clause-cut
returns-then-branch-clause-cut g c = λ bytes is.
    let adds = rw c.in-Line.is at c.in_ok-add_line.ensures.adds in
    let same = c.in_ok-add_line.ensures.next ∙ c.loop-lines.invariant.next in
    let faulty = (rw c.deref.ensures.value at c.in_ok-finds_fault-in-Line.ensures.faulty) (ap Ok c.if-branch.true) in
    let cut = c.cut_out.ensures in
    rw cut.source (rw cut.cut (cut-faulty _ bytes _ _ _ _ _ _ (c.loop-lines.invariant.gathered bytes is) adds same refl faulty))

pub returns-in-End-clause-cut : goal.returns-in-End-clause-cut
returns-in-End-clause-cut g c = λ bytes is.
    let adds = rw c.in-End.is at c.in_ok-add_line.ensures.adds in
    let same = c.in_ok-add_line.ensures.next ∙ c.loop-lines.invariant.next in
    let cut = c.cut_out-in-End.ensures in
    rw cut.source (rw cut.cut (cut-end _ bytes _ _ _ _ _ _ _ (c.loop-lines.invariant.gathered bytes is) adds same cut.next))

pub returns-in-Last-clause-cut : goal.returns-in-Last-clause-cut
returns-in-Last-clause-cut g c = λ bytes is.
    let adds = rw c.in-Last.is at c.in_ok-add_line.ensures.adds in
    let same = c.in_ok-add_line.ensures.next ∙ c.loop-lines.invariant.next in
    let zero : length c.add_line.new.text.items ≡ 0 = search rules in
    let (all, left) = none-left bytes _ _ _ _ _ (c.loop-lines.invariant.gathered bytes is) adds (nothing _ zero) in
    ([], left, (all, λ i. record { next = same i; bytes = sym all i }))

pub returns-in-Last-2-clause-cut : goal.returns-in-Last-2-clause-cut
returns-in-Last-2-clause-cut g c = λ bytes is.
    let adds = rw c.in-Last-2.is at c.in_ok-add_line.ensures.adds in
    let same = c.in_ok-add_line.ensures.next ∙ c.loop-lines.invariant.next in
    let cut = c.cut_out-in-Last-2.ensures in
    rw cut.source (rw cut.cut (cut-part _ bytes _ _ _ _ _ _ _ (c.loop-lines.invariant.gathered bytes is) adds same cut.next))

pub returns-in-TooLong-clause-cut : goal.returns-in-TooLong-clause-cut
returns-in-TooLong-clause-cut g c = λ bytes is.
    let adds = rw c.in-TooLong.is at c.in_ok-add_line.ensures.adds in
    let same = c.in_ok-add_line.ensures.next ∙ c.loop-lines.invariant.next in
    let cut = c.cut_out-in-TooLong.ensures in
    rw cut.source (rw cut.cut (cut-long _ bytes _ _ _ _ _ _ _ (c.loop-lines.invariant.gathered bytes is) adds same cut.next))

pub returns-then-branch-clause-soon : goal.returns-then-branch-clause-soon
returns-then-branch-clause-soon g c = λ bytes is.
    let adds = rw c.in-Line.is at c.in_ok-add_line.ensures.adds in
    rw c.cut_out.ensures.cut (soon-line _ bytes _ _ _ _ _ (c.loop-lines.invariant.gathered bytes is) (c.loop-lines.invariant.tried bytes is) false adds)

pub returns-in-End-clause-soon : goal.returns-in-End-clause-soon
returns-in-End-clause-soon g c = λ bytes is.
    let adds = rw c.in-End.is at c.in_ok-add_line.ensures.adds in
    rw c.cut_out-in-End.ensures.cut (soon-line _ bytes _ _ _ _ _ (c.loop-lines.invariant.gathered bytes is) (c.loop-lines.invariant.tried bytes is) true adds)

pub returns-in-Last-2-clause-soon : goal.returns-in-Last-2-clause-soon
returns-in-Last-2-clause-soon g c = λ bytes is.
    let adds = rw c.in-Last-2.is at c.in_ok-add_line.ensures.adds in
    rw c.cut_out-in-Last-2.ensures.cut (soon-part _ bytes _ _ _ _ _ (c.loop-lines.invariant.gathered bytes is) (c.loop-lines.invariant.tried bytes is) adds)

pub returns-in-TooLong-clause-soon : goal.returns-in-TooLong-clause-soon
returns-in-TooLong-clause-soon g c = λ bytes is.
    let adds = rw c.in-TooLong.is at c.in_ok-add_line.ensures.adds in
    rw c.cut_out-in-TooLong.ensures.cut (soon-none _ bytes _ _ _ _ _ (c.loop-lines.invariant.gathered bytes is) (c.loop-lines.invariant.tried bytes is) adds)
