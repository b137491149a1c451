-- The key's own tablet was found in its present state.
use Rattle.std.proofs.Common.{◌≡◌, ℕ, Some, refl, ap, ◌∙◌, subst}
use Rattle.pn_scan.specs.Views.{IsStateOf, Answers, cell_at}
use Rattle.pn_region.proofs.Common.{slice_get, Bounds, tablet_of}
use Rattle.pn_region.proofs.reads.RefRegionView.cell.Goals as goal

pub returns-clause-look : goal.returns-clause-look
returns-clause-look c =
    let region = c.args.self.now.now.state in
    let key = c.args.key.now in
    let state = c.state.result.now in
    let named : c.tablet_of-tablet.result ≡ tablet_of region.layout key = c.tablet_of-tablet.ensures.tablet ∙ ap (λ (bounds : Bounds). tablet_of bounds key) c.layout.ensures.layout in (
      Some state,
      record {
        looked = (refl, record { stands = subst (λ (n : ℕ). slice_get region.tablets n ≡ Some state) named c.state.ensures.there; entered = refl });
        found = subst (λ (n : ℕ). IsStateOf region.layout n state) named c.state.ensures.of;
        answers = subst (λ (n : ℕ). Answers (λ cell. cell) c.cell_of.result (cell_at key (n, Some state))) named c.cell_of.ensures;
      },
    )
