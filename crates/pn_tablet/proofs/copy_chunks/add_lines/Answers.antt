-- One line more is added, until one has a fault.
use Rattle.std.proofs.Common.{◌≡◌, ◌∷◌, All, length, sym, ap, ◌∙◌, subst, arith}
use Rattle.std.specs.Vec.Iter.{into_iter_items}
use Rattle.std.proofs.lemmas.List.Elements.{All-head, All-tail}
use Rattle.pn_tablet.specs.CopyReading.{IsMarkOrImage, with_lines}
use Rattle.pn_tablet.proofs.CopyChunkLaws.{none_left, with_lines-nil, with_lines-ok, with_lines-err}
use Rattle.pn_tablet.proofs.CopySteps.{passed_on, refused_right}
use Rattle.pn_tablet.proofs.copy_chunks.add_lines.Goals as goal

pub add_line-requires : goal.add_line-requires
add_line-requires c = All-head IsMarkOrImage c.in-Some.line (into_iter_items c.next.new.self) (subst (All IsMarkOrImage) c.in-Some.ensures.steps.0 c.loop-line.invariant.kinds)

pub loop-line-preserved : goal.loop-line-preserved
loop-line-preserved c =
    let at = c.loop-line in
    let left = into_iter_items c.next.new.self in
    let steps : into_iter_items at.line-iterator ≡ c.in-Some.line ∷ left = c.in-Some.ensures.steps.0 in
    record {
      adds = at.invariant.adds ∙ ap (with_lines at.number at.draft) steps ∙ with_lines-ok at.number at.draft c.in_ok-draft.draft c.in-Some.line left c.in_ok-draft.ensures;
      kinds = All-tail IsMarkOrImage c.in-Some.line left (subst (All IsMarkOrImage) steps at.invariant.kinds);
      number = omega (arith, at.invariant.number, ap length steps);
      left = omega (arith, at.invariant.left, c.in-Some.ensures.steps.1, ap length steps);
    }

pub returns-in_err-draft : goal.returns-in_err-draft
returns-in_err-draft c =
    let at = c.loop-line in
    let left = into_iter_items c.next.new.self in
    let steps : into_iter_items at.line-iterator ≡ c.in-Some.line ∷ left = c.in-Some.ensures.steps.0 in
    passed_on c.from_residual.result _ c.in_err-draft.field-0.0 c.from_residual.ensures.1 (λ other.
    at.invariant.adds ∙ ap (with_lines at.number at.draft) steps
    ∙ with_lines-err at.number at.draft c.in-Some.line left c.in_err-draft.field-0.0 (refused_right c.in_err-draft.field-0.0 _ c.in_err-draft.ensures other))

pub returns : goal.returns
returns c =
    let at = c.loop-line in
    let none = none_left (into_iter_items at.line-iterator) (sym at.invariant.left ∙ c.in-None.ensures.steps.0) in
    at.invariant.adds ∙ ap (with_lines at.number at.draft) none ∙ with_lines-nil at.number at.draft
