-- The answers of a log, what it keeps of its entries, the answer after a number, and regions with their logs.
use Rattle.std.specs.Prelude.{ℕ, ◌+◌, min, nat_le, Bool, ◌&&◌, if◌then◌else◌, List, [], ◌∷◌, length, drop, map, Option, None, Some, option_map, ◌≡◌, ◌⊎◌, suc, ◌≤◌, ◌++◌}
use Rattle.circular_buffer.specs.Buffer.{Buffer, keep_last}
use Rattle.pn_tablet.specs.declared.change.Change.{Change}
use Rattle.pn_tablet.specs.Steps.{changes}
use Rattle.pn_tablet.specs.Layouts.{Bounds}
use Rattle.pn_region.specs.declared.notices.Entry.{Entry}
use Rattle.pn_region.specs.declared.notices.Entry.TheVariants.{Changed, Break}
use Rattle.pn_region.specs.declared.notices.TheConstants.{MAX_NOTICES, LAST_NUMBER}
use Rattle.pn_region.specs.declared.notices.Notice.{Notice}
use Rattle.pn_region.specs.declared.notices.Since.{Since}
use Rattle.pn_region.specs.declared.notices.Since.TheVariants.{Notices, Missed}
use Rattle.pn_region.specs.declared.notices.Past.{Past, After', Start}
use Rattle.pn_region.specs.Regions.{RegionValue, new_region, all_cells}
use Rattle.pn_region.specs.declared.fault.RoundFault.{RoundFault}
use Rattle.pn_region.specs.declared.fault.RoundFault.TheVariants.{Memory}

-- The answers of a log.

-- an entry for each change
abbrev pub entries_of : List Change → List Entry
entries_of changes = map Changed changes

-- the changes of the entries, or none if one of them is a break
abbrev pub changes_in : List Entry → Option (List Change)
changes_in [] = Some []
changes_in (Changed change ∷ entries) = option_map (λ changes. change ∷ changes) (changes_in entries)
changes_in (Break ∷ entries) = None

-- at most 1,024 numbers follow the number, and no entry came after the last number
abbrev pub is_recent : List Entry → ℕ → Bool
is_recent entries n = nat_le n (length entries) && nat_le (length entries) (n + MAX_NOTICES) && nat_le (length entries) LAST_NUMBER

-- the changes after a number, if they are recent and without a break
abbrev pub changes_after : List Entry → ℕ → Option (List Change)
changes_after entries n = if is_recent entries n then changes_in (drop n entries) else None

-- changes as notices, numbered from the next number on
abbrev pub notices_from : ℕ → List Change → List Notice
notices_from n [] = []
notices_from n (change ∷ changes) = record { number = n + 1; change = change } ∷ notices_from (n + 1) changes

-- the last number that was given
abbrev pub last_of : List Entry → ℕ
last_of entries = min (length entries) LAST_NUMBER

-- What a log keeps of its entries.

-- there are no entries, or the last one is a break
abbrev pub EndsInBreak : List Entry → Type 0
EndsInBreak entries = (entries ≡ []) ⊎ ((before : List Entry) × (entries ≡ before ++ Break ∷ []))

-- the last changes after the last break are kept
pub record AreKept (entries : List Entry) (kept : List Change) : Type 0 where
  pub before : List Entry
  pub later : List Change
  pub parts : entries ≡ before ++ entries_of later
  pub is_cut : EndsInBreak before
  pub last : kept ≡ keep_last MAX_NOTICES later

-- the changes that are kept after one more entry
abbrev pub kept_with : Entry → ℕ → List Change → List Change
kept_with (Changed change) most kept = keep_last most (kept ++ change ∷ [])
kept_with Break most kept = []

-- a log has the number of its last entry, or one above the greatest number, and the changes that it keeps
pub record IsLog (entries : List Entry) (last : ℕ) (kept : Buffer Change) : Type 0 where
  pub number : last ≡ min (length entries) (suc LAST_NUMBER)
  pub capacity : kept.capacity ≡ MAX_NOTICES
  pub are_kept : length entries ≤ LAST_NUMBER → AreKept entries kept.items

-- The answer of a log after a number.

-- the notices after the number, or that they were missed; and the last number
abbrev pub IsSince : List Entry → ℕ → Since → Type 0
IsSince entries n (Notices next list) = (next ≡ last_of entries) × (option_map (notices_from n) (changes_after entries n) ≡ Some list.items)
IsSince entries n (Missed next) = (next ≡ last_of entries) × (changes_after entries n ≡ None)

-- The items of a history.

-- the items, in the order in which they were added
abbrev pub items : {T : Type 0} → Past T → List T
items Start = []
items (After' marker before item) = items before ++ item.value ∷ []

-- Regions with their logs.

-- the state of a region, and the entries of its log
pub record LoggedRegion : Type 0 where
  pub state : RegionValue
  pub log : List Entry

-- a region that has taken nothing, and whose log is empty
abbrev pub new_logged : Bounds → LoggedRegion
new_logged bounds = record { state = new_region bounds; log = [] }

-- the log after the changes from one state of a region to another, in key order
abbrev pub with_notices : List Entry → RegionValue → RegionValue → List Entry
with_notices log old new = log ++ entries_of (changes (all_cells old) (all_cells new))

-- the log after a break
abbrev pub with_break : List Entry → List Entry
with_break log = log ++ Break ∷ []

-- the log after a refused round: out of memory leaves a break, since tablets may have changed
abbrev pub refused_log : List Entry → RoundFault → List Entry
refused_log log Memory = with_break log
refused_log log _ = log
