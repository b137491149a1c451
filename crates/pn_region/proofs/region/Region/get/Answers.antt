-- The tablets of the keys exist and were found in their present states.
use Rattle.std.proofs.Common.{ap, subst}
use Rattle.std.specs.Borrow.{Bor}
use Rattle.pn_json.specs.Answers.{ShowsUnless}
use Rattle.pn_scan.specs.declared.view.ScanFault.TheVariants as fault
use Rattle.pn_region.proofs.Common.{LoggedRegion, IsRegion, get_in}
use Rattle.pn_region.proofs.ReadLaws.{get_entered}
use Rattle.pn_region.proofs.Standing.{get_tells, get_read}
use Rattle.pn_region.proofs.region.Region.get.Goals as goal

pub returns-clause-get : goal.returns-clause-get
returns-clause-get c =
    let got = c.get.ensures.get in
    get_tells (λ (view : Bor LoggedRegion). view.now.state) (λ old new look looked. looked) c.args.self c.get.new.view got.0 c.args.keys.now (λ cells. cells.items) c.get.result got.1

pub returns-clause-memory : goal.returns-clause-memory
returns-clause-memory c =
    let got = c.get.ensures.get in
    get_read (λ (view : Bor LoggedRegion). view.now.state) (λ old new look looked. looked) c.args.self c.get.new.view got.0 c.args.keys.now (λ cells. cells.items) c.get.result got.1 got.2

pub returns-clause-entered : goal.returns-clause-entered
returns-clause-entered c = λ is.
    get_entered c.args.self.now.state c.args.keys.now (subst IsRegion (ap (λ (r : LoggedRegion). r.state) c.self.view_is) c.self.invariant.is_region)
    (subst (λ answer. ShowsUnless fault.Memory (λ cells. cells.items) answer (get_in c.args.self.now.state c.args.keys.now)) is (returns-clause-get c))
