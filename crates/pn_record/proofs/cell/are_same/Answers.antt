-- Contents that tie one by one are the same.
use Rattle.std.proofs.Common.{sym, ap, ◌∙◌}
use Rattle.std.proofs.lemmas.Cmp.{eq_by_cmp_equiv, lists_equiv}
use Rattle.std.specs.Cmp.Lexicographic.{pointwise}
use Rattle.std.specs.Ordering.{eq_by_cmp}
use Rattle.pn_record.specs.Laws.{content_cmp_total, tied_lists}
use Rattle.pn_record.specs.Sets.{content_cmp}
use Rattle.pn_record.proofs.cell.are_same.Goals as goal

pub returns : goal.returns
returns c = (
  λ same. tied_lists _ _ (sym c.eq.ensures ∙ same),
  λ same. c.eq.ensures ∙ ap (pointwise (eq_by_cmp content_cmp) c.args.contents.now) (sym same) ∙ (lists_equiv (eq_by_cmp_equiv content_cmp_total)).refl c.args.contents.now,
)
