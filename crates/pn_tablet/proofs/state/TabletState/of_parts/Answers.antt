-- Cells with a spare copy of their reach.
use Rattle.std.proofs.Common.{true, refl, ap, subst, sym, ◌∙◌, ◌≡◌}
use Rattle.pn_record.specs.Cells.{spell, Entries, table_of}
use Rattle.pn_tablet.specs.Tablets.{CoverageValue, lie_in}
use Rattle.pn_tablet.proofs.SpelledImages.{spelled_own}
use Rattle.pn_tablet.proofs.state.TabletState.of_parts.Goals as goal

pub invariant_of-result : goal.invariant_of-result
invariant_of-result c =
    let same = c.of.ensures in
    record {
      inside = subst (λ (es : Entries). lie_in c.args.range es ≡ true) (sym same) c.requires.inside;
      spelled = same ∙ spelled_own c.args.cells c.recall_table.ensures ∙ ap (λ (es : Entries). table_of (spell es)) (sym same);
      needed_positions = refl;
      has_need = c.in_ok-spare.ensures ∙ sym (ap (λ (p : CoverageValue). p.reach) c.of_parts.ensures);
    }
