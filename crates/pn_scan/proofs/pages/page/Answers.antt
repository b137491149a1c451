-- Each step goes on from where the one before it came.
use Rattle.std.proofs.Common.{Err, refl, ap, ◌∙◌}
use Rattle.std.proofs.lemmas.Result.{err_from_is_err_and}
use Rattle.pn_scan.proofs.PageSteps.{paging_none, paging_on, paging_ends, paging_fails, nearer_left}
use Rattle.pn_scan.proofs.pages.page.Goals as goal

pub steps-init : goal.steps-init
steps-init g c = record {
  paging = paging_none g.V.View.looks (g.V.View.bounds c.args.view.now) c.layout.result.now c.args.query.now c.args.view.now c.new-walk.result c.layout.ensures c.new-walk.ensures;
  bounds = refl;
}

pub returns-in_err-step-clause-scan : goal.returns-in_err-step-clause-scan
returns-in_err-step-clause-scan g c =
    let was = c.steps.invariant in
    let gave = err_from_is_err_and c.from_residual.result c.from_residual.ensures.1 in
    paging_fails was.paging was.bounds c.in_err-step.field-0.0 (gave.1 ∙ ap Err gave.2) c.in_err-step.ensures.goes

pub returns-in-Done-clause-scan : goal.returns-in-Done-clause-scan
returns-in-Done-clause-scan g c =
    let was = c.steps.invariant in
    paging_ends was.paging was.bounds c.in_ok-step.step c.in-Done.page c.in_ok-step.ensures.goes c.in-Done.is

pub steps-preserved : goal.steps-preserved
steps-preserved g c =
    let was = c.steps.invariant in
    record {
      paging = paging_on was.paging was.bounds c.in_ok-step.step c.in-Next.next c.in_ok-step.ensures.goes c.in-Next.is;
      bounds = c.in_ok-step.ensures.layout ∙ was.bounds;
    }

pub steps-smaller : goal.steps-smaller
steps-smaller g c = nearer_left c.steps.walk c.in-Next.next c.in_ok-step.step c.in-Next.is c.in_ok-step.ensures.nearer c.recall_steps.ensures
