-- The next tablet is looked into, unless the page is whole.
use Rattle.std.proofs.Common.{◌≡◌, ◌<◌, ◌≤◌, ◌⊎◌, ◌+◌, ◌-◌, ℕ, [], ◌∷◌, length, max, Result, Ok, Err, refl, sym, ap, ◌∙◌, subst, arith}
use Rattle.std.proofs.lemmas.Result.{err_from_is_err_and}
use Rattle.pn_tablet.specs.Layouts.{Bounds, IsLayout}
use Rattle.pn_scan.specs.Paging.{IsOnPage, LookMade, PagesTo, work_left, part_at}
use Rattle.pn_scan.specs.Views.{LooksOnce, rows_at}
use Rattle.pn_scan.specs.WalkValues.{PageWalkValue}
use Rattle.pn_scan.specs.declared.view.ScanFault.{ScanFault}
use Rattle.pn_scan.specs.declared.page_walk.PageStep.{PageStep}
use Rattle.pn_scan.proofs.Walking.{counted_first}
use Rattle.pn_scan.proofs.Paging.{page_ends, full_without_memory, look_fails, looked_on, looked_without_memory}
use Rattle.pn_scan.proofs.page_walk.PageWalk.look_further.Goals as goal

pub returns-in_err-page_of-clause-goes : goal.returns-in_err-page_of-clause-goes
returns-in_err-page_of-clause-goes g c = λ trace is_on.
    let on = subst (λ (w : PageWalkValue). IsOnPage g.V.View.looks (g.V.View.bounds c.args.view.now) c.args.query.now w trace) (sym c.self.view_is) is_on in
    let none = ap (λ (w : PageWalkValue). w.part) c.self.view_is ∙ c.requires in
    let looks = g.V.View.looks in
    let view = c.args.view.now in
    let gave = err_from_is_err_and c.from_residual.result c.from_residual.ensures.1 in
    subst (λ (r : Result PageStep ScanFault). PagesTo looks (g.V.View.bounds view) c.args.query.now view view r trace) (sym (gave.1 ∙ ap Err gave.2))
    ([], refl, full_without_memory on none c.in_err-page_of.ensures.full)

pub returns-then-is_whole-clause-goes : goal.returns-then-is_whole-clause-goes
returns-then-is_whole-clause-goes g c = λ trace is_on.
    let on = subst (λ (w : PageWalkValue). IsOnPage g.V.View.looks (g.V.View.bounds c.args.view.now) c.args.query.now w trace) (sym c.self.view_is) is_on in
    let none = ap (λ (w : PageWalkValue). w.part) c.self.view_is ∙ c.requires in
    let over_layout = subst (λ (w : PageWalkValue). (w.end ≤ w.next) ⊎ (length c.layout.result.now < w.next) ⊎ (c.args.query.now.limit < length w.rows)) (sym c.self.view_is) (c.is_whole.ensures.whole c.if-is_whole.true) in
    let whole = subst (λ (b : Bounds). (c.self.inside.end ≤ c.self.inside.tablet) ⊎ (length b < c.self.inside.tablet) ⊎ (c.args.query.now.limit < length c.self.inside.rows.items)) c.layout.ensures over_layout in
    ([], refl, page_ends on none whole _ c.in_ok-page_of.ensures.page)

pub part-requires : goal.part-requires
part-requires g c =
    let below = ap (λ (w : PageWalkValue). w.next) c.walk.view_is in
    omega (arith, below, ap (λ (b : Bounds). length b) c.layout.ensures, (c.is_whole.ensures.more c.if-is_whole.false).1)

pub returns-in_err-part-clause-goes : goal.returns-in_err-part-clause-goes
returns-in_err-part-clause-goes g c = λ trace is_on.
    let on = subst (λ (w : PageWalkValue). IsOnPage g.V.View.looks (g.V.View.bounds c.args.view.now) c.args.query.now w trace) (sym c.walk.view_is) is_on in
    let none = ap (λ (w : PageWalkValue). w.part) c.walk.view_is ∙ c.requires in
    let looks = g.V.View.looks in
    let old = c.args.view.now in
    let bounds = g.V.View.bounds old in
    let query = c.args.query.now in
    let more = subst (λ (w : PageWalkValue). (w.next < w.end) × (w.next ≤ length c.layout.result.now) × (length w.rows ≤ c.args.query.now.limit)) (sym c.walk.view_is) (c.is_whole.ensures.more c.if-is_whole.false) in
    let look = c.in_err-part.ensures.look in
    let room : c.limit.result + 1 - c.len.result ≡ query.limit + 1 - length c.walk.inside.rows.items = omega arith in
    let once = subst (λ (n : ℕ). LooksOnce looks bounds old c.part.new.self (part_at query) (Err c.in_err-part.field-0.0) (rows_at query n) (c.walk.inside.tablet, look.0)) room look.1 in
    let gave = err_from_is_err_and c.from_residual-in_err-part.result c.from_residual-in_err-part.ensures.1 in
    let lawful = subst IsLayout c.layout.ensures c.is_whole.ensures.lawful in
    subst (λ (r : Result PageStep ScanFault). PagesTo looks bounds query old c.part.new.self r trace) (sym (gave.1 ∙ ap Err gave.2))
    (_ ∷ [], (refl, refl), look_fails on none more.0 more.2 refl once lawful _ once.answers)

pub returns-in_err-with_part-clause-goes : goal.returns-in_err-with_part-clause-goes
returns-in_err-with_part-clause-goes g c = λ trace is_on.
    let on = subst (λ (w : PageWalkValue). IsOnPage g.V.View.looks (g.V.View.bounds c.args.view.now) c.args.query.now w trace) (sym c.walk.view_is) is_on in
    let none = ap (λ (w : PageWalkValue). w.part) c.walk.view_is ∙ c.requires in
    let looks = g.V.View.looks in
    let old = c.args.view.now in
    let bounds = g.V.View.bounds old in
    let query = c.args.query.now in
    let more = subst (λ (w : PageWalkValue). (w.next < w.end) × (w.next ≤ length c.layout.result.now) × (length w.rows ≤ c.args.query.now.limit)) (sym c.walk.view_is) (c.is_whole.ensures.more c.if-is_whole.false) in
    let look = c.in_ok-part.ensures.look in
    let room : c.limit.result + 1 - c.len.result ≡ query.limit + 1 - length c.walk.inside.rows.items = omega arith in
    let once = subst (λ (n : ℕ). LooksOnce looks bounds old c.part.new.self (part_at query) (Ok c.in_ok-part.part) (rows_at query n) (c.walk.inside.tablet, look.0)) room look.1 in
    let gave = err_from_is_err_and c.from_residual-in_err-with_part.result c.from_residual-in_err-with_part.ensures.1 in
    subst (λ (r : Result PageStep ScanFault). PagesTo looks bounds query old c.part.new.self r trace) (sym (gave.1 ∙ ap Err gave.2))
    (_ ∷ [], (refl, refl), looked_without_memory on none more.0 more.2 refl once (part_at query c.in_ok-part.part) once.answers)

pub returns-clause-goes : goal.returns-clause-goes
returns-clause-goes g c = λ trace is_on.
    let on = subst (λ (w : PageWalkValue). IsOnPage g.V.View.looks (g.V.View.bounds c.args.view.now) c.args.query.now w trace) (sym c.walk.view_is) is_on in
    let none = ap (λ (w : PageWalkValue). w.part) c.walk.view_is ∙ c.requires in
    let looks = g.V.View.looks in
    let old = c.args.view.now in
    let bounds = g.V.View.bounds old in
    let query = c.args.query.now in
    let more = subst (λ (w : PageWalkValue). (w.next < w.end) × (w.next ≤ length c.layout.result.now) × (length w.rows ≤ c.args.query.now.limit)) (sym c.walk.view_is) (c.is_whole.ensures.more c.if-is_whole.false) in
    let look = c.in_ok-part.ensures.look in
    let room : c.limit.result + 1 - c.len.result ≡ query.limit + 1 - length c.walk.inside.rows.items = omega arith in
    let once = subst (λ (n : ℕ). LooksOnce looks bounds old c.part.new.self (part_at query) (Ok c.in_ok-part.part) (rows_at query n) (c.walk.inside.tablet, look.0)) room look.1 in
    let next = c.in_ok-with_part.ensures in
    (_ ∷ [], (refl, refl), looked_on on none more.0 more.2 refl once (part_at query c.in_ok-part.part) once.answers _ (next.rows query) next.ends.0 next.ends.1)

pub returns-in_err-page_of-clause-looked : goal.returns-in_err-page_of-clause-looked
returns-in_err-page_of-clause-looked g c = ([], refl, tt)

pub returns-then-is_whole-clause-looked : goal.returns-then-is_whole-clause-looked
returns-then-is_whole-clause-looked g c = ([], refl, tt)

pub returns-in_err-part-clause-looked : goal.returns-in_err-part-clause-looked
returns-in_err-part-clause-looked g c = let look = c.in_err-part.ensures.look in let made : LookMade g.row.V.Denot = record { old = c.args.view.now; look = (_, look.0); new = c.part.new.self } in (made ∷ [], (refl, refl), (look.1.looked, tt))

pub returns-in_err-with_part-clause-looked : goal.returns-in_err-with_part-clause-looked
returns-in_err-with_part-clause-looked g c = let look = c.in_ok-part.ensures.look in let made : LookMade g.row.V.Denot = record { old = c.args.view.now; look = (_, look.0); new = c.part.new.self } in (made ∷ [], (refl, refl), (look.1.looked, tt))

pub returns-clause-looked : goal.returns-clause-looked
returns-clause-looked g c = let look = c.in_ok-part.ensures.look in let made : LookMade g.row.V.Denot = record { old = c.args.view.now; look = (_, look.0); new = c.part.new.self } in (made ∷ [], (refl, refl), (look.1.looked, tt))

pub returns-clause-few : goal.returns-clause-few
returns-clause-few g c =
    let query = c.args.query.now in
    counted_first query c.args.budget.work _ _ _ _ c.in_ok-part.part (ap (work_left query) c.requires) c.in_ok-with_part.ensures.units c.in_ok-part.ensures.few
