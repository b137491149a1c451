-- One operation more is published, and nothing else changes.
use Rattle.std.proofs.Common.{◌≡◌, ◌++◌, ◌∷◌, [], sym, ap, ◌∙◌}
use Rattle.logbook.specs.Pages.{Book}
use Rattle.pn_tablet.specs.Steps.{after_step}
use Rattle.pn_tablet.specs.Tablets.{TabletStateValue}
use Rattle.pn_live.specs.PublishedTablets.{PublishedTabletValue, state_at, with_op}
use Rattle.pn_live.specs.Published.{state_in}
use Rattle.pn_region.proofs.Events.{range_stays}
use Rattle.pn_live.proofs.published_tablet.PublishedTablet.publish.Goals as goal

pub returns-clause-list : goal.returns-clause-list
returns-clause-list g c =
    let now = c.args.self.now in
    let op = c.args.operation in
    let said = c.publish.ensures in
    let here : state_at now ≡ state_in c.self.inside.live = ap state_at (sym c.self.view_is) ∙ sym c.self.invariant in
    let range = ap (λ (t : TabletStateValue). t.range) (said.state ∙ sym (ap (after_step (state_at now)) c.requires.next)) ∙ range_stays (state_at now) op ∙ ap (λ (t : TabletStateValue). t.range) here in
    (λ i. record { book = said.book i; range = range i; list = said.list i }) ∙ ap (λ (p : PublishedTabletValue). with_op p op) c.self.view_is

pub returns-clause-order : goal.returns-clause-order
returns-clause-order g c =
    c.add.ensures
    ∙ ap (λ (b : Book). c.args.order.now ++ b ∷ []) (ap (λ p. p.seen.book) c.position.ensures ∙ c.publish.ensures.book ∙ ap (λ (p : PublishedTabletValue). p.book) c.self.view_is)
