-- The fault of the marks is that of the round.
use Rattle.std.proofs.Common.{◌≡◌, ap, ◌∙◌, subst}
use Rattle.std.proofs.lemmas.Result.{IfErr-weaker, on_ok_weaker}
use Rattle.std.specs.Prelude.{IsOk, IfErr, OnOk}
use Rattle.pn_tablet.specs.Steps.{Refuses}
use Rattle.pn_apply.specs.Applying.{IsSomeOld}
use Rattle.pn_region.specs.Log.{refused_log}
use Rattle.pn_region.specs.Rounds.{is_memory, round, Leaves}
use Rattle.pn_region.proofs.GapLaws.{themselves, round_passes, round_refused, left_alone, unbroken}
use Rattle.pn_region.proofs.Common.{LoggedRegion, RegionValue}
use Rattle.pn_region.proofs.RoundEnds.{one_left}
use Rattle.pn_region.proofs.region.Region.check.Goals as goal

pub returns-clause-ok : goal.returns-clause-ok
returns-clause-ok c =
    let inside = c.self.inside in
    let old : RegionValue = record { layout = inside.layout; tablets = inside.tablets.items; marks = inside.marks } in
    let ds = c.args.deliveries.now in
    subst (λ (r : RegionValue). OnOk c.check_marks.result (IsOk (round r ds))) (ap (λ (l : LoggedRegion). l.state) c.self.view_is)
    (on_ok_weaker c.check_marks.result (λ is. round_passes old ds _ (themselves inside.marks ds ∙ is)) c.check_marks.ensures.ok)

pub returns-clause-refused : goal.returns-clause-refused
returns-clause-refused c =
    let inside = c.self.inside in
    let old : RegionValue = record { layout = inside.layout; tablets = inside.tablets.items; marks = inside.marks } in
    let ds = c.args.deliveries.now in
    subst (λ (r : RegionValue). IfErr c.check_marks.result (λ fault. Refuses is_memory fault (round r ds))) (ap (λ (l : LoggedRegion). l.state) c.self.view_is)
    (IfErr-weaker c.check_marks.result _ (λ fault. Refuses is_memory fault (round old ds)) (λ fault is. round_refused old ds fault (themselves inside.marks ds ∙ is)) c.check_marks.ensures.refused)

pub returns-clause-err : goal.returns-clause-err
returns-clause-err c =
    let inside = c.self.inside in
    let old : RegionValue = record { layout = inside.layout; tablets = inside.tablets.items; marks = inside.marks } in
    let ds = c.args.deliveries.now in
    subst (λ (r : RegionValue). IfErr c.check_marks.result (λ fault. Leaves fault r ds r)) (ap (λ (l : LoggedRegion). l.state) c.self.view_is)
    (IfErr-weaker c.check_marks.result _ (λ fault. Leaves fault old ds old) (λ fault is. left_alone old ds fault (themselves inside.marks ds ∙ is)) c.check_marks.ensures.refused)

pub returns-clause-broken : goal.returns-clause-broken
returns-clause-broken c =
    let inside = c.self.inside in
    let old : RegionValue = record { layout = inside.layout; tablets = inside.tablets.items; marks = inside.marks } in
    let ds = c.args.deliveries.now in
    let log = c.args.self.now.log in
    IfErr-weaker c.check_marks.result _ (λ fault. log ≡ refused_log log fault) (λ fault is. unbroken old ds log fault (themselves inside.marks ds ∙ is)) c.check_marks.ensures.refused

pub returns-clause-left : goal.returns-clause-left
returns-clause-left c =
    let inside = c.self.inside in
    let old : RegionValue = record { layout = inside.layout; tablets = inside.tablets.items; marks = inside.marks } in
    subst (λ (r : RegionValue). IsSomeOld r.tablets r.tablets) (ap (λ (l : LoggedRegion). l.state) c.self.view_is) (one_left old c.self.invariant.is_region)
