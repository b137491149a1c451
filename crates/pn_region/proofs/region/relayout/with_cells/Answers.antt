-- The slice of all that lie in the range is they themselves.
use Rattle.std.proofs.Common.{◌++◌, ap, ◌∙◌, filter}
use Rattle.pn_region.proofs.Common.{Entries, in_range}
use Rattle.pn_region.proofs.Pieces.{whole_slice}
use Rattle.pn_region.proofs.region.relayout.with_cells.Goals as goal

pub returns : goal.returns
returns c =
    c.in_ok-both.ensures ∙ ap (λ (es : Entries). c.args.cells ++ es) (whole_slice c.in_ok-more.more c.len.result c.len.ensures.count ∙ c.in_ok-more.ensures ∙ ap (λ (es : Entries). filter (λ entry. in_range c.args.range.now entry.0) es) c.cells.ensures.cells)
