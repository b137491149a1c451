-- A region that was opened is served; else it ends with `Start`.
use Rattle.std.proofs.Common.{◌≡◌, inl, inr, ap, subst, Err}
use Rattle.pn_tablet.specs.Layouts.{Bounds}
use Rattle.pn_live.specs.LiveRegions.{IsNewLive}
use Rattle.pn_serve.proofs.server.serve.Goals as goal

pub returns-in-Ok-clause-ends : goal.returns-in-Ok-clause-ends
returns-in-Ok-clause-ends g c =
    inl record {
      opened = c.in-Ok.opened.live;
      is_new = subst (λ (layout : Bounds). IsNewLive layout c.in-Ok.opened.live) c.into_parts-layout.ensures.layout c.in-Ok.ensures.is_new;
      ends = c.serve_opened.ensures.ends;
    }

pub returns-in-Ok-clause-honest : goal.returns-in-Ok-clause-honest
returns-in-Ok-clause-honest g c = λ broker known honest.
    inl record {
      opened = c.in-Ok.opened.live;
      is_new = subst (λ (layout : Bounds). IsNewLive layout c.in-Ok.opened.live) c.into_parts-layout.ensures.layout c.in-Ok.ensures.is_new;
      ends = c.serve_opened.ensures.honest broker known honest;
    }

pub returns-in-Err-clause-ends : goal.returns-in-Err-clause-ends
returns-in-Err-clause-ends g c = inr (ap Err c.in-Err.ensures.fault)

pub returns-in-Err-clause-honest : goal.returns-in-Err-clause-honest
returns-in-Err-clause-honest g c = λ broker known honest. inr (ap Err c.in-Err.ensures.fault)
