-- The names that contracts of the crates above cite, passed on. Declares nothing.
pub use Rattle.pn_scan.specs.Pages.{Look, PageValue, first_page}
pub use Rattle.pn_scan.specs.Paging.{Gaps, IsPreorder, LookMade, LooksAfter, Moving, Stays, part_at}
pub use Rattle.pn_scan.specs.Queries.{QueryValue}
pub use Rattle.pn_scan.specs.Views.{AnswersAfter, IsGet, IsRead, unless_behind, IsStateOf, Looks, cell_at, rows_at, IsScan, left_by, rows_of}
pub use Rattle.pn_scan.specs.Shown.{shown_rows}
pub use Rattle.pn_scan.specs.declared.query.TheConstants.{MAX_CONDITIONS, MAX_PAGE_ROWS}
