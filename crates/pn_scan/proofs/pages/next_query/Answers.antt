-- The last row is that at the last index.
use Rattle.std.proofs.Common.{ℕ, List, Some, option_map, sym, ap, ◌∙◌}
use Rattle.pn_record.specs.Sets.{CellValue}
use Rattle.pn_scan.specs.Queries.{query_after}
use Rattle.pn_scan.proofs.Scans.{last_index}
use Rattle.pn_scan.proofs.pages.next_query.Goals as goal

pub returns-in_ok-continue_after-in-Some : goal.returns-in_ok-continue_after-in-Some
returns-in_ok-continue_after-in-Some c =
    let query = c.args.query.now in
    ap Some (c.in_ok-continue_after-in-Some.ensures ∙ ap (λ (row : List ℕ × CellValue). query_after query row.0) c.row.view_is)
    ∙ ap (option_map (λ (row : List ℕ × CellValue). query_after query row.0)) (c.in-Some.ensures.value ∙ sym (last_index c.args.rows.now))
