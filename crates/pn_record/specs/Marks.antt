-- Marks as JSON: an object from the names of streams to positions.
use Rattle.std.specs.Prelude.{◌≡◌, ℕ, Bool, true, not, ◌&&◌, if◌then◌else◌, List, [], ◌∷◌, unwrap_or, is_some, IsTrue, Result, Ok, Err}
use Rattle.std.specs.Option.{ok_or}
use Rattle.std.specs.List.{list_all}
use Rattle.pn_join.specs.Naming.{is_name}
use Rattle.pn_join.specs.Marks.{Positions, is_position}
use Rattle.serde_json.specs.Data.{Data, number, object, unsigned, Members, no_members, member}
use Rattle.serde_json.specs.Find.{as_object}
use Rattle.pn_json.specs.Answers.{◌>>=◌}
use Rattle.pn_json.specs.Members.{whole_number}
use Rattle.pn_record.specs.declared.fault.Member.TheVariants.{At}
use Rattle.pn_record.specs.declared.fault.ImageFault.{ImageFault}
use Rattle.pn_record.specs.declared.fault.ImageFault.TheVariants.{BadShape, OutOfRange}

-- a member for each name, with its position
abbrev pub positions_data : Positions → Members
positions_data [] = no_members
positions_data (mark ∷ marks) = member mark.0 (number (unsigned mark.1)) (positions_data marks)

-- the object of all names and positions
abbrev pub marks_data : Positions → Data
marks_data marks = object (positions_data marks)

-- the name of a stream, and a position of 1 to 10^15
abbrev pub is_mark : List ℕ × ℕ → Bool
is_mark mark = is_name mark.0 && is_position mark.1

-- the value is the JSON of the marks, which keep their limits
pub record IsMarks (d : Data) (marks : Positions) : Type 0 where
  pub value : d ≡ marks_data marks
  pub fits : IsTrue (list_all is_mark marks)

-- each member is a whole number
abbrev pub all_whole : Members → Bool
all_whole no_members = true
all_whole (member name d ms) = is_some (whole_number d) && all_whole ms

-- the names and numbers of members that are all whole numbers
abbrev pub positions_of : Members → Positions
positions_of no_members = []
positions_of (member name d ms) = (name, unwrap_or (whole_number d) 0) ∷ positions_of ms

-- the marks that members spell: shapes are checked before limits
abbrev pub positions_in : Members → Result Positions ImageFault
positions_in ms =
    if not (all_whole ms) then Err (BadShape At) else
    (if list_all is_mark (positions_of ms) then Ok (positions_of ms) else Err (OutOfRange At))

-- the marks that the value spells, or its first fault
unfoldable pub marks_in : Data → Result Positions ImageFault
marks_in d = do
  members ← ok_or (as_object d) (BadShape At)
  positions_in members
