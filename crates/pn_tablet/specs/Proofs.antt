-- How the states of tablets, copies of them, and drafts of copies are stored in a proof.
use Rattle.std.specs.Prelude.{◌≡◌, Option, None, Some, refl, ℕ, List}
use Rattle.std.specs.Coded.{Coded, code_by, coded×, coded_ℕ, coded_list, coded_option}
use Rattle.std.specs.FinMap as map
use base.Stored.{coded_unit}
use Rattle.pn_join.specs.Marks.{Positions}
use Rattle.pn_record.specs.Cells.{Entries}
use Rattle.pn_record.specs.Showing.{shown_code}
use Rattle.pn_record.specs.Limits.{ContentValue}
use Rattle.pn_record.specs.declared.records.Image.{Image}
use Rattle.pn_tablet.specs.Layouts.{Ends}
use Rattle.pn_tablet.specs.Copies.{TabletCopyValue, DraftValue}
use Rattle.pn_tablet.specs.Tablets.{TabletStateValue, CoverageValue}
use Rattle.pn_tablet.specs.declared.state.Status.{Status}
use Rattle.pn_tablet.specs.declared.state.Status.TheVariants.{Serving, Recovering}

-- How the states of tablets, and copies of them, are stored in a proof.

-- the ends of a range as a pair
abbrev pub ends_code : Coded Ends
ends_code = coded× (coded_option (coded_list coded_ℕ)) (coded_option (coded_list coded_ℕ))

-- cells by key as pairs
abbrev pub entries_code : Coded Entries
entries_code = coded_list (coded× (coded_list coded_ℕ) (coded× (coded× coded_ℕ coded_ℕ) (map.code shown_code coded_unit)))

-- positions by name as pairs
abbrev pub positions_code : Coded Positions
positions_code = coded_list (coded× (coded_list coded_ℕ) coded_ℕ)

-- the need, if there is one
abbrev pub need_of : Status → Option Positions
need_of Serving = None
need_of (Recovering need) = Some need

-- the status of a need, if there is one
abbrev pub status_of : Option Positions → Status
status_of None = Serving
status_of (Some need) = Recovering need

-- a status is that of its need
abbrev pub status_of-need : (status : Status) → status_of (need_of status) ≡ status
status_of-need Serving = refl
status_of-need (Recovering need) = refl

-- a status as its need, if there is one
abbrev pub status_code : Coded Status
status_code = code_by (Option Positions) (coded_option positions_code) need_of status_of status_of-need

-- a tablet as pairs
abbrev pub tablet_code : Coded TabletStateValue
tablet_code =
    code_by ((Ends × Entries) × ((Positions × Positions) × Status)) (coded× (coded× ends_code entries_code) (coded× (coded× positions_code positions_code) status_code))
    (λ t. ((t.range, t.cells), ((t.cover, t.reach), t.status)))
    (λ p. record { range = p.0.0; cells = p.0.1; cover = p.1.0.0; reach = p.1.0.1; status = p.1.1 })
    (λ _. refl)

-- a cover and a reach as a pair
abbrev pub coverage_code : Coded CoverageValue
coverage_code =
    code_by (Positions × Positions) (coded× positions_code positions_code)
    (λ p. (p.cover, p.reach))
    (λ p. record { cover = p.0; reach = p.1 })
    (λ _. refl)

-- a copy as pairs
abbrev pub copy_code : Coded TabletCopyValue
copy_code =
    code_by ((Ends × Entries) × Positions) (coded× (coded× ends_code entries_code) positions_code)
    (λ c. ((c.range, c.cells), c.marks))
    (λ p. record { range = p.0.0; cells = p.0.1; marks = p.1 })
    (λ _. refl)

-- How drafts of copies are stored in a proof.

-- an image as pairs
abbrev pub image_code : Coded Image
image_code =
    code_by ((List ℕ × (ℕ × ℕ)) × ContentValue) (coded× (coded× (coded_list coded_ℕ) (coded× coded_ℕ coded_ℕ)) shown_code)
    (λ i. ((i.key, i.version), i.content))
    (λ p. record { key = p.0.0; version = p.0.1; content = p.1 })
    (λ _. refl)

-- a draft as pairs
abbrev pub draft_code : Coded DraftValue
draft_code =
    code_by ((Ends × Positions) × (Entries × Option Image)) (coded× (coded× ends_code positions_code) (coded× entries_code (coded_option image_code)))
    (λ d. ((d.range, d.marks), (d.cells, d.last)))
    (λ p. record { range = p.0.0; marks = p.0.1; cells = p.1.0; last = p.1.1 })
    (λ _. refl)
