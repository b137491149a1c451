-- Keys before it are below `from`, or not above `after`.
use Rattle.std.proofs.Common.{ap, ◌∙◌, drop}
use Rattle.pn_join.proofs.Rising.{Rising-from_sorted}
use Rattle.pn_record.specs.Sets.{bytes_cmp}
use Rattle.pn_scan.specs.Shown.{shown_rows}
use Rattle.pn_scan.proofs.Walking.{lesser_at, begin_there}
use Rattle.pn_scan.proofs.part.first_index.Goals as goal

pub returns : goal.returns
returns c =
    let query = c.args.query.now in
    let cells = c.args.cells.now in
    ap (λ n. shown_rows query (drop n cells)) c.max.ensures
    ∙ begin_there query cells c.index_of.result c.index_of-2.result (Rising-from_sorted bytes_cmp cells c.requires)
    (c.index_of.ensures.index ∙ ap (λ end. lesser_at end cells) c.from.ensures)
    (c.index_of-2.ensures.index ∙ ap (λ end. lesser_at end cells) c.after.ensures)
