-- Regions and logs as pairs and lists.
use Rattle.std.specs.Prelude.{◌≡◌, ℕ, List, Option, None, Some, refl}
use Rattle.std.specs.Coded.{Coded, code_by, coded×, coded_ℕ, coded_list, coded_option}
use Rattle.pn_join.specs.Marks.{Positions}
use Rattle.pn_tablet.specs.Proofs.{tablet_code, positions_code}
use Rattle.pn_tablet.specs.Layouts.{Bounds}
use Rattle.pn_tablet.specs.Tablets.{TabletStateValue}
use Rattle.pn_tablet.specs.declared.change.Change.{Change}
use Rattle.pn_region.specs.Log.{LoggedRegion}
use Rattle.pn_region.specs.Regions.{RegionValue}
use Rattle.pn_region.specs.declared.notices.Entry.{Entry}
use Rattle.pn_region.specs.declared.notices.Entry.TheVariants.{Changed, Break}

-- a region as pairs
abbrev pub region_code : Coded RegionValue
region_code =
    code_by ((Bounds × List TabletStateValue) × Positions) (coded× (coded× (coded_list (coded_list coded_ℕ)) (coded_list tablet_code)) positions_code)
    (λ r. ((r.layout, r.tablets), r.marks))
    (λ p. record { layout = p.0.0; tablets = p.0.1; marks = p.1 })
    (λ _. refl)

-- a change as pairs
abbrev pub change_code : Coded Change
change_code =
    code_by ((List ℕ × Option (ℕ × ℕ)) × (ℕ × ℕ)) (coded× (coded× (coded_list coded_ℕ) (coded_option (coded× coded_ℕ coded_ℕ))) (coded× coded_ℕ coded_ℕ))
    (λ c. ((c.key, c.before), c.after))
    (λ p. record { key = p.0.0; before = p.0.1; after = p.1 })
    (λ _. refl)

-- an entry as its change, if it has one
abbrev pub change_in : Entry → Option Change
change_in (Changed change) = Some change
change_in Break = None

abbrev pub entry_from : Option Change → Entry
entry_from (Some change) = Changed change
entry_from None = Break

abbrev pub same_entry : (entry : Entry) → entry_from (change_in entry) ≡ entry
same_entry (Changed change) = refl
same_entry Break = refl

abbrev pub entry_code : Coded Entry
entry_code = code_by (Option Change) (coded_option change_code) change_in entry_from same_entry

-- a region with its log as a pair
abbrev pub logged_code : Coded LoggedRegion
logged_code =
    code_by (RegionValue × List Entry) (coded× region_code (coded_list entry_code)) (λ r. (r.state, r.log)) (λ p. record { state = p.0; log = p.1 }) (λ _. refl)
