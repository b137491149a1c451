-- Reads of a region: records, whether they are still held, and pages one after another, while it may change.
use Rattle.std.specs.Prelude.{◌≡◌, ◌⊎◌, IsTrue, Option, None, Some, ℕ, List, map, slice_get, IsSome, IsSomeAnd, Result, Ok}
use Rattle.std.specs.FinMap.{contains_key, find}
use Rattle.std.specs.Ordering.{is_lt}
use Rattle.std.specs.List.{AllByRecursion}
use Rattle.pn_record.specs.Limits.{ContentValue}
use Rattle.pn_record.specs.Sets.{version_cmp, bytes_cmp, CellValue, Stamp}
use Rattle.pn_record.specs.Cells.{Entries}
use Rattle.pn_tablet.specs.Layouts.{tablet_of}
use Rattle.pn_tablet.specs.declared.state.Status.TheVariants.{Serving}
use Rattle.pn_scan.specs.Queries.{QueryValue}
use Rattle.pn_scan.specs.Pages.{Look, cells_in, candidates_of, PageValue, refusal, first_refusal, unless, page_of}
use Rattle.pn_scan.specs.Views.{read_of, looks_of, ArePages}
use Rattle.pn_scan.specs.declared.view.ScanFault.{ScanFault}
use Rattle.pn_region.specs.Regions.{RegionValue, IsRegion, all_cells}

-- Records that are still held.

-- a record is still there: at a greater version, or at the same one with all its contents
abbrev pub HoldsStill : Option CellValue → Option CellValue → Type 0
HoldsStill None now = Unit {0}
HoldsStill (Some was) None = ⊥
HoldsStill (Some was) (Some now) =
    IsTrue (is_lt (version_cmp was.0 now.0))
    ⊎ ((now.0 ≡ was.0) × ((content : ContentValue) → IsTrue (contains_key was.1 content) → IsTrue (contains_key now.1 content)))

-- Reads of a region.

-- a key's tablet in its present state
abbrev pub look_for : RegionValue → List ℕ → Look
look_for region key = (tablet_of region.layout key, slice_get region.tablets (tablet_of region.layout key))

-- all tablets in their present states
abbrev pub all_looks : RegionValue → List Look
all_looks region = looks_of region.layout region.tablets

-- the tablet exists and was found in its present state
pub record IsThere (region : RegionValue) (look : Look) : Type 0 where
  pub stands : slice_get region.tablets look.0 ≡ look.1
  pub entered : IsSome look.1

-- the cell of a key, at a required version or a later one; or why it is refused
abbrev pub read_in : RegionValue → List ℕ → Option Stamp → Result (Option CellValue) ScanFault
read_in region key wanted = read_of key wanted (look_for region key)

-- the cells of keys, unless one of their tablets cannot be read
abbrev pub get_in : RegionValue → List (List ℕ) → Result (List (Option CellValue)) ScanFault
get_in region keys = unless (first_refusal (map (look_for region) keys)) (map (λ key. find bytes_cmp key (cells_in (look_for region key).1)) keys)

-- the page of a query
abbrev pub page_in : RegionValue → QueryValue → Result PageValue ScanFault
page_in region query = page_of region.layout query (all_looks region)

-- there is a tablet that may have rows of the page, and the first of these can be read
abbrev pub BeginsToRead : RegionValue → QueryValue → Type 0
BeginsToRead region query = IsSomeAnd (slice_get (candidates_of region.layout query (all_looks region)) 0) (λ look. refusal look ≡ None)

-- Regions whose tablets all serve, and pages that follow one another.

-- every tablet serves
abbrev pub AllServe : RegionValue → Type 0
AllServe region = AllByRecursion (λ tablet. tablet.status ≡ Serving) region.tablets

-- the tablet of the key serves
abbrev pub ServesAt : RegionValue → List ℕ → Type 0
ServesAt region key = IsSomeAnd (slice_get region.tablets (tablet_of region.layout key)) (λ tablet. tablet.status ≡ Serving)

-- pages of the region, each continuing the one before
abbrev pub ArePagesOf : RegionValue → Option QueryValue → List PageValue → Type 0
ArePagesOf region asked pages = ArePages (λ query page. page_in region query ≡ Ok page) asked pages

-- Pages that a region answers one after another, while it may change.

-- some region answers the query with the page
abbrev pub IsAnswered : QueryValue → PageValue → Type 0
IsAnswered query page = (region : RegionValue) × IsRegion region × (page_in region query ≡ Ok page)

-- some region with these cells does
abbrev pub IsAnsweredOf : Entries → QueryValue → PageValue → Type 0
IsAnsweredOf cells query page = (region : RegionValue) × IsRegion region × (all_cells region ≡ cells) × (page_in region query ≡ Ok page)
