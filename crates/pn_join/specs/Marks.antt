-- Marks: positions of streams by name. An absent name counts as 0.
use Rattle.std.specs.Prelude.{ℕ, zero, suc, ◌≤◌, max, min, Bool, ◌&&◌, nat_lt, nat_le, List, [], ◌∷◌, Option, None, Some, unwrap_or}
use Rattle.std.specs.declared.cmp.Ordering.{Ordering}
use Rattle.std.specs.Ordering.{nat_cmp}
use Rattle.std.specs.Cmp.Lexicographic.{slice_cmp}
use Rattle.std.specs.List.{filter_map, list_all, position}
use Rattle.std.specs.FinMap.{find, put}
use Rattle.pn_join.specs.declared.marks.TheConstants.{LAST_POSITION}

-- names and their positions, in byte order of names
abbrev pub Positions : Type 0
Positions = List (List ℕ × ℕ)

-- names are ordered by their bytes
abbrev pub name_cmp : List ℕ → List ℕ → Ordering
name_cmp = slice_cmp nat_cmp

-- the position of a name, 0 if it is absent
abbrev pub position_of : Positions → List ℕ → ℕ
position_of marks name = unwrap_or (find name_cmp name marks) 0

-- no position of the need is greater
abbrev pub Reaches : Positions → Positions → Type 0
Reaches marks need = (name : List ℕ) → position_of need name ≤ position_of marks name

-- the marks have a lesser position at this name
abbrev pub falls_short : Positions → List ℕ × ℕ → Bool
falls_short marks wanted = nat_lt (position_of marks wanted.0) wanted.1

-- the index in the need of the first name at which the marks fall short
abbrev pub shortfall : Positions → Positions → Option ℕ
shortfall marks need = position (falls_short marks) need

-- at each name of either the greater position
abbrev pub raised_marks : Positions → Positions → Positions
raised_marks marks [] = marks
raised_marks marks (other ∷ others) = put name_cmp other.0 (max (position_of marks other.0) other.1) (raised_marks marks others)

-- the mark of a name at a position, if that is not 0
abbrev pub if_position : List ℕ → ℕ → Option (List ℕ × ℕ)
if_position name zero = None
if_position name (suc n) = Some (name, suc n)

-- the lesser of the two positions at the name of a mark, if that is not 0
abbrev pub least_at : Positions → Positions → List ℕ × ℕ → Option (List ℕ × ℕ)
least_at marks others mark = if_position mark.0 (min (position_of marks mark.0) (position_of others mark.0))

-- at each name of both the lesser position
abbrev pub least_marks : Positions → Positions → Positions
least_marks marks others = filter_map (least_at marks others) marks

-- a position of a message: from 1 to the last position
abbrev pub is_position : ℕ → Bool
is_position n = nat_le 1 n && nat_le n LAST_POSITION

-- each position is that of a message
abbrev pub are_positions : Positions → Bool
are_positions marks = list_all (λ mark. is_position mark.1) marks
