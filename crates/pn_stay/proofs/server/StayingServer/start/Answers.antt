-- The new live region is of the settings' layout.
use Rattle.std.proofs.Common.{sym, subst}
use Rattle.std.proofs.lemmas.Result.{IfOk-weaker}
use Rattle.pn_live.specs.LiveRegions.{LiveRegionValue}
use Rattle.pn_live.specs.Prelude.{IsNewLive}
use Rattle.pn_stay.proofs.server.StayingServer.start.Goals as goal

pub returns-clause-is_new : goal.returns-clause-is_new
returns-clause-is_new g c =
    let is_new = subst (λ layout. IsNewLive layout c.in_ok-opened.opened.live) c.into_parts-layout.ensures.layout c.in_ok-opened.ensures.is_new in
    IfOk-weaker c.start_from.result _ _ (λ server same. subst (λ (live : LiveRegionValue). IsNewLive c.args.settings.layout live) (sym same) is_new)
    c.start_from.ensures.live
