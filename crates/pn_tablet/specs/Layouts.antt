-- Ranges of keys, from one end, inclusive, to another, exclusive; layouts, whose bounds divide all keys into ranges; and which ranges are those of a layout.
use Rattle.std.specs.Prelude.{ℕ, Bool, true, not, ◌&&◌, List, Option, Some, None, zero, suc, ◌≤◌, nat_lt, if◌then◌else◌, [], ◌∷◌, length, slice_get, count_by, option_map, Result, Ok, Err, ◌≡◌, ◌+◌, map, IsTrue}
use Rattle.std.specs.Ordering.{is_lt}
use Rattle.std.specs.List.Sorted.{IsStrictlySortedBy, IsSortedByKey}
use Rattle.std.specs.List.{range_with_len}
use Rattle.std.specs.Option.{option_cmp}
use Rattle.std.specs.declared.cmp.Ordering.{Ordering}
use Rattle.std.specs.declared.cmp.Ordering.TheVariants.{Less, Equal, Greater}
use Rattle.serde_json.specs.Data.{Data, null, string}
use Rattle.pn_json.specs.Answers.{◌>>=◌}
use Rattle.pn_record.specs.Limits.{is_key}
use Rattle.pn_record.specs.Sets.{bytes_cmp}
use Rattle.pn_tablet.specs.declared.layout.LayoutFault.{LayoutFault}
use Rattle.pn_tablet.specs.declared.layout.LayoutFault.TheVariants.{TooMany, NotRising}
use Rattle.pn_tablet.specs.declared.layout.TheConstants.{MAX_BOUNDS}
use Rattle.pn_tablet.specs.declared.layout.CutFault.{CutFault}
use Rattle.pn_tablet.specs.declared.layout.CutFault.TheVariants.{NoCopy, TwoCopies, TooMany as TooManyRanges}

-- Ranges of keys, from one end, inclusive, to another, exclusive. Without an end a range is open there.

-- the ends of a range
abbrev pub Ends : Type 0
Ends = Option (List ℕ) × Option (List ℕ)

-- an end of a range is a key, or open
abbrev pub is_end : Option (List ℕ) → Bool
is_end None = true
is_end (Some key) = is_key key

-- the JSON of an end: its key, or null where the range is open
abbrev pub key_data : Option (List ℕ) → Data
key_data None = null
key_data (Some key) = string key

-- one key is less than the other by its bytes
abbrev pub is_below : List ℕ → List ℕ → Bool
is_below key other = is_lt (bytes_cmp key other)

-- the key is not less than the end, if there is one
abbrev pub is_from : Option (List ℕ) → List ℕ → Bool
is_from None key = true
is_from (Some from) key = not (is_below key from)

-- the key is less than the end, if there is one
abbrev pub is_before : Option (List ℕ) → List ℕ → Bool
is_before None key = true
is_before (Some to) key = is_below key to

-- the key is in the range of these ends
abbrev pub in_range : Ends → List ℕ → Bool
in_range ends key = is_from ends.0 key && is_before ends.1 key

-- the first end is less than the other, where there are both
abbrev pub are_ends : Ends → Bool
are_ends (None, to) = true
are_ends (Some from, to) = is_before to from

-- each range begins before the other ends; ranges that are open below always meet
abbrev pub meet : Ends → Ends → Bool
meet a b = are_ends (a.0, b.1) && are_ends (b.0, a.1)

-- Layouts: bounds that divide all keys into tablets.

-- the keys at which tablets begin, but for the first tablet
abbrev pub Bounds : Type 0
Bounds = List (List ℕ)

-- at most 63 bounds, each less than those after it
pub record IsLayout (bounds : Bounds) : Type 0 where
  pub few : length bounds ≤ MAX_BOUNDS
  pub rising : IsStrictlySortedBy bytes_cmp bounds

-- the index of the first bound that is not greater than the one before it
abbrev pub first_fall : Bounds → Option ℕ
first_fall [] = None
first_fall (bound ∷ []) = None
first_fall (bound ∷ next ∷ bounds) = if is_below bound next then option_map suc (first_fall (next ∷ bounds)) else Some 1

-- the layout of bounds that do not fall, or the index where they do
abbrev pub rising_layout : Option ℕ → Bounds → Result Bounds LayoutFault
rising_layout None bounds = Ok bounds
rising_layout (Some index) bounds = Err (NotRising index)

-- the layout of bounds, or its first fault
abbrev pub layout_of : Bounds → Result Bounds LayoutFault
layout_of bounds = if nat_lt MAX_BOUNDS (length bounds) then Err TooMany else rising_layout (first_fall bounds) bounds

-- the tablet of a key: the number of bounds that are not greater
abbrev pub tablet_of : Bounds → List ℕ → ℕ
tablet_of bounds key = count_by (λ bound. not (is_below key bound)) bounds

-- the ends of a tablet: the bounds before and after it
abbrev pub tablet_ends : Bounds → ℕ → Ends
tablet_ends bounds zero = (None, slice_get bounds 0)
tablet_ends bounds (suc tablet) = (slice_get bounds tablet, slice_get bounds (suc tablet))

-- Ranges that cut all keys: those of a layout's tablets.

-- the least text that is not below an end: the empty one where the range is open
abbrev pub begin_of : Option (List ℕ) → List ℕ
begin_of None = []
begin_of (Some key) = key

-- an end is no empty text, as no key is
abbrev pub IsNoEmpty : Option (List ℕ) → Type 0
IsNoEmpty None = Unit {0}
IsNoEmpty (Some key) = IsTrue (is_below [] key)

-- how many of the ranges have the key
abbrev pub count_having : List Ends → List ℕ → ℕ
count_having ranges key = count_by (λ range. in_range range key) ranges

-- each key is in exactly one of the ranges
abbrev pub CutAllKeys : List Ends → Type 0
CutAllKeys ranges = (key : List ℕ) → count_having ranges key ≡ 1

-- each key below this one is in exactly one of the ranges
abbrev pub CutBelow : List ℕ → List Ends → Type 0
CutBelow key ranges = (other : List ℕ) → IsTrue (is_below other key) → count_having ranges other ≡ 1

-- no range begins before the one that stands before it; one that is open below begins first
abbrev pub BeginInOrder : List Ends → Type 0
BeginInOrder ranges = IsSortedByKey (λ range. range.0) (option_cmp bytes_cmp) ranges

-- the ranges of a layout's tablets, in order
abbrev pub all_ends : Bounds → List Ends
all_ends bounds = map (tablet_ends bounds) (range_with_len 0 (length bounds + 1))

-- a range begins where those before it end: otherwise what is between is in none, or where it begins is in two
abbrev pub by_order : Ordering → Option (List ℕ) → Option (List ℕ) → Result (Unit {0}) CutFault
by_order Less from begin = Err (NoCopy from)
by_order Equal from begin = Ok tt
by_order Greater from begin = Err (TwoCopies begin)

abbrev pub begins_at : Option (List ℕ) → Option (List ℕ) → Result (Unit {0}) CutFault
begins_at from begin = by_order (option_cmp bytes_cmp from begin) from begin

-- no range is left past one that is open above
abbrev pub ends_open : List Ends → Result (Unit {0}) CutFault
ends_open [] = Ok tt
ends_open (range ∷ ranges) = Err (TwoCopies range.0)

-- what comes after a range that ends here
abbrev pub by_end : {A : Type 0} → Option (List ℕ) → A → A → A
by_end None past on = past
by_end (Some to) past on = on

-- the ranges follow one another from here on to the last key; or the first fault
unfoldable pub follow_from : Option (List ℕ) → List Ends → Result (Unit {0}) CutFault
follow_from from [] = Err (NoCopy from)
follow_from from (range ∷ ranges) = begins_at from range.0 >>= λ _. by_end range.1 (ends_open ranges) (follow_from range.1 ranges)

-- the keys at which ranges begin
abbrev pub begins_of : List Ends → Bounds
begins_of [] = []
begins_of ((None, to) ∷ ranges) = begins_of ranges
begins_of ((Some key, to) ∷ ranges) = key ∷ begins_of ranges

-- the layout of at most 64 ranges, in their order; or the first fault
unfoldable pub layout_with : List Ends → Result Bounds CutFault
layout_with ranges =
    if nat_lt (MAX_BOUNDS + 1) (length ranges) then Err TooManyRanges
    else follow_from None ranges >>= λ _. Ok (begins_of ranges)
