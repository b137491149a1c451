-- The look that is resumed comes to the same rows.
use Rattle.std.proofs.Common.{◌<◌, ◌*◌, [], ◌++◌, length, max, Option, Result, Err, refl, sym, ap, ◌∙◌, subst, arith}
use Rattle.std.specs.Prelude.{IfSome}
use Rattle.std.proofs.lemmas.Result.{err_from_is_err_and}
use Rattle.pn_scan.specs.Paging.{work_left, rows_to_come, IsOnPage, PagesTo, LooksAtMost, PartValue}
use Rattle.pn_scan.specs.WalkValues.{PageWalkValue, PartWalkValue}
use Rattle.pn_scan.specs.declared.view.ScanFault.{ScanFault}
use Rattle.pn_scan.specs.declared.page_walk.PageStep.{PageStep}
use Rattle.pn_scan.proofs.Walking.{counted_on}
use Rattle.pn_scan.proofs.Paging.{held, gone_on, page_without_memory}
use Rattle.pn_scan.proofs.page_walk.PageWalk.go_on.Goals as goal

pub returns-in_err-part-in-Some-clause-goes : goal.returns-in_err-part-in-Some-clause-goes
returns-in_err-part-in-Some-clause-goes g c = λ trace on.
    let looks = g.V.View.looks in
    let view = c.args.view.now in
    let gave = err_from_is_err_and c.from_residual.result c.from_residual.ensures.1 in
    let begun : 0 < length trace = subst (λ (o : Option PartWalkValue). IfSome o (λ part. 0 < length trace)) (sym (ap (λ (w : PageWalkValue). w.part) c.self.view_is) ∙ c.in-Some.is) on.begun in
    subst (λ (r : Result PageStep ScanFault). PagesTo looks (g.V.View.bounds view) c.args.query.now view view r trace) (sym (gave.1 ∙ ap Err gave.2)) ([], refl, page_without_memory on begun)

pub returns-in_err-with_part-in-Some-clause-goes : goal.returns-in_err-with_part-in-Some-clause-goes
returns-in_err-with_part-in-Some-clause-goes g c = λ trace on.
    let looks = g.V.View.looks in
    let view = c.args.view.now in
    let gave = err_from_is_err_and c.from_residual-in_err-with_part-in-Some.result c.from_residual-in_err-with_part-in-Some.ensures.1 in
    let begun : 0 < length trace = subst (λ (o : Option PartWalkValue). IfSome o (λ part. 0 < length trace)) (sym (ap (λ (w : PageWalkValue). w.part) c.self.view_is) ∙ c.in-Some.is) on.begun in
    subst (λ (r : Result PageStep ScanFault). PagesTo looks (g.V.View.bounds view) c.args.query.now view view r trace) (sym (gave.1 ∙ ap Err gave.2)) ([], refl, page_without_memory on begun)

pub returns-in_ok-with_part-in-Some-clause-goes : goal.returns-in_ok-with_part-in-Some-clause-goes
returns-in_ok-with_part-in-Some-clause-goes g c = λ trace on.
    let query = c.args.query.now in
    let next = c.in_ok-with_part-in-Some.ensures in
    let begun : 0 < length trace = subst (λ (o : Option PartWalkValue). IfSome o (λ part. 0 < length trace)) (sym (ap (λ (w : PageWalkValue). w.part) c.self.view_is) ∙ c.in-Some.is) on.begun in
    let rows = next.rows query
    ∙ ap (λ (part : PartValue). c.self.inside.rows.items ++ part.0) c.in_ok-part-in-Some.ensures.same
    ∙ ap (λ (o : Option PartWalkValue). c.self.inside.rows.items ++ rows_to_come query o) (sym c.in-Some.is) in
    let was = c.self.view_is in
    ([], refl, gone_on (subst (λ (w : PageWalkValue). IsOnPage g.V.View.looks (g.V.View.bounds c.args.view.now) query w trace) (sym was) on) _ rows next.ends.0 next.ends.1 (held _ begun))

pub returns-in_ok-with_part-in-Some-clause-few : goal.returns-in_ok-with_part-in-Some-clause-few
returns-in_ok-with_part-in-Some-clause-few g c =
    let next = c.in_ok-with_part-in-Some.ensures in
    let few = subst (λ n. LooksAtMost c.args.query.now n c.in-Some.part c.in_ok-part-in-Some.part) (sym c.max-most.ensures) c.in_ok-part-in-Some.ensures.few in
    counted_on c.args.query.now c.max-most.result (32 * max c.args.units 64) _ _ _ _ c.in-Some.part c.in_ok-part-in-Some.part (ap (work_left c.args.query.now) (sym (ap (λ (w : PageWalkValue). w.part) c.self.view_is) ∙ c.in-Some.is)) (omega (arith, c.max-most.ensures, c.work_of-work.ensures.work)) (omega (arith, c.max-most.ensures, c.work_of-work.ensures.few)) few next.part next.units
