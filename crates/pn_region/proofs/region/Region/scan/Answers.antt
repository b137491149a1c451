-- The tablets that may have rows exist and were found in their present states.
use Rattle.std.proofs.Common.{ap, subst}
use Rattle.std.specs.Borrow.{Bor}
use Rattle.pn_json.specs.Answers.{ShowsUnless}
use Rattle.pn_scan.specs.declared.view.ScanFault.TheVariants as fault
use Rattle.pn_region.proofs.Common.{LoggedRegion, IsRegion, page_in}
use Rattle.pn_region.proofs.ReadLaws.{scan_entered}
use Rattle.pn_region.proofs.Standing.{page_tells, page_begins}
use Rattle.pn_region.proofs.region.Region.scan.Goals as goal

pub returns-clause-page : goal.returns-clause-page
returns-clause-page c =
    let scan = c.page.ensures.scan in
    page_tells (λ (view : Bor LoggedRegion). view.now.state) (λ old new look looked. looked) c.args.self c.page.new.view scan.0 (subst IsRegion (ap (λ (r : LoggedRegion). r.state) c.self.view_is) c.self.invariant.is_region)
    c.args.query.now (λ page. (page.rows.items, page.next)) c.page.result scan.1

pub returns-clause-entered : goal.returns-clause-entered
returns-clause-entered c = λ is.
    scan_entered c.args.self.now.state c.args.query.now (subst IsRegion (ap (λ (r : LoggedRegion). r.state) c.self.view_is) c.self.invariant.is_region)
    (subst (λ answer. ShowsUnless fault.Memory (λ page. (page.rows.items, page.next)) answer (page_in c.args.self.now.state c.args.query.now)) is (returns-clause-page c))

pub returns-clause-memory : goal.returns-clause-memory
returns-clause-memory c =
    let scan = c.page.ensures.scan in
    page_begins (λ (view : Bor LoggedRegion). view.now.state) (λ old new look looked. looked) c.args.self c.page.new.view scan.0 (subst IsRegion (ap (λ (r : LoggedRegion). r.state) c.self.view_is) c.self.invariant.is_region)
    c.args.query.now (λ page. (page.rows.items, page.next)) c.page.result scan.1
