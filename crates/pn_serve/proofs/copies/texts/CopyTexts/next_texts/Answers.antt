-- One text more was cut out, or none is left.
use Rattle.std.proofs.Common.{◌+◌, ◌∙◌, ap, length, arith}
use Rattle.std.proofs.lemmas.List.{length_push}
use Rattle.pn_serve.specs.Copies.Cutting.{TextLeft}
use Rattle.pn_serve.proofs.CopyCuts.{faulty-push, to_fault}
use Rattle.pn_serve.proofs.CopyTexts.{cuts-push}
use Rattle.pn_serve.proofs.copies.texts.CopyTexts.next_texts.Goals as goal

pub loop-preserved : goal.loop-preserved
loop-preserved g c = record {
  cuts = λ bytes is.
      let (rest, left_is, are) = c.loop.invariant.cuts bytes is in
      let (later, leaves_is, cut) = (rw c.in-Whole.is at c.in_ok-text.ensures.cut) rest left_is in
      (later, leaves_is, rw c.in_ok-push-in-Whole.ensures.items (cuts-push _ _ _ _ _ are cut));
  count = ap length c.in_ok-push-in-Whole.ensures.items ∙ length_push _ _ ∙ ap (λ n. n + 1) c.loop.invariant.count;
}

pub returns-in-Faulty-clause-cuts : goal.returns-in-Faulty-clause-cuts
returns-in-Faulty-clause-cuts g c = λ bytes is.
    let (rest, left_is, are) = c.loop.invariant.cuts bytes is in
    let (later, leaves_is, cut) = (rw c.in-Faulty.is at c.in_ok-text.ensures.cut) rest left_is in
    (later, leaves_is, rw c.in_ok-push-in-Faulty.ensures.items (faulty-push _ _ _ _ _ are cut))

pub returns-in-Faulty-clause-none : goal.returns-in-Faulty-clause-none
returns-in-Faulty-clause-none g c = λ bytes is empty some.
    absurd (omega (arith, ap length c.in_ok-push-in-Faulty.ensures.items ∙ length_push _ _, ap length empty))

pub returns-in-Nothing-clause-cuts : goal.returns-in-Nothing-clause-cuts
returns-in-Nothing-clause-cuts g c = λ bytes is.
    let (rest, left_is, are) = c.loop.invariant.cuts bytes is in
    let (later, leaves_is, (all, same)) = (rw c.in-Nothing.is at c.in_ok-text.ensures.cut) rest left_is in
    (later, leaves_is, to_fault _ _ _ (rw same are))

pub returns-in-Nothing-clause-none : goal.returns-in-Nothing-clause-none
returns-in-Nothing-clause-none g c = λ bytes is empty some.
    let (rest, left_is, are) = c.loop.invariant.cuts bytes is in
    let (later, leaves_is, (all, same)) = (rw c.in-Nothing.is at c.in_ok-text.ensures.cut) rest left_is in
    ap (λ (left : TextLeft). left.bytes) (rw empty at are) ∙ all

pub returns-clause-cuts : goal.returns-clause-cuts
returns-clause-cuts g c = λ bytes is.
    let (rest, left_is, are) = c.loop.invariant.cuts bytes is in
    (rest, left_is, to_fault _ _ _ are)

pub returns-clause-none : goal.returns-clause-none
returns-clause-none g c = λ bytes is empty some.
    absurd (omega (arith, c.loop.invariant.count, ap length empty, some, c.loop-test.false))
