-- The cells are those of all keys, unless memory ran out.
use Rattle.std.proofs.Common.{length, Ok, Err, sym, ap, ◌∙◌, subst}
use Rattle.pn_scan.specs.declared.view.ScanFault.TheVariants.{Memory}
use Rattle.pn_live.specs.Lookups.{GetWalkValue, EndsGet, IsOnGet}
use Rattle.pn_live.proofs.Getting.{get_done, get_done_without_memory}
use Rattle.pn_live.proofs.get_walk.GetWalk.end.Goals as goal

pub returns-in-Some-clause-ends : goal.returns-in-Some-clause-ends
returns-in-Some-clause-ends c = λ bounds trace is_on.
    let on = subst (λ (w : GetWalkValue). IsOnGet bounds w trace) (sym c.self.view_is) is_on in
    let all = ap (λ (w : GetWalkValue). w.read) c.self.view_is ∙ c.requires ∙ ap (λ (w : GetWalkValue). length w.keys) (sym c.self.view_is) in
    subst (λ (w : GetWalkValue). EndsGet bounds w.keys (Ok c.in-Some.cells.items) trace) c.self.view_is (get_done c.self.inside.cells on c.in-Some.cells c.in-Some.is all)

pub returns-in-None-clause-ends : goal.returns-in-None-clause-ends
returns-in-None-clause-ends c = λ bounds trace is_on.
    let on = subst (λ (w : GetWalkValue). IsOnGet bounds w trace) (sym c.self.view_is) is_on in
    subst (λ (w : GetWalkValue). EndsGet bounds w.keys (Err Memory) trace) c.self.view_is (get_done_without_memory c.self.inside.cells on)
