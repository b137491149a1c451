-- The commands that lose a tablet, copy it, adopt a copy, and change the layout.
use Rattle.std.specs.Prelude.{[], Option, Some, None, Result, Ok, Err, codes}
use Rattle.serde_json.specs.Data.{Data, null, Members}
use Rattle.serde_json.specs.Find.{get_member}
use Rattle.pn_join.specs.Marks.{Positions}
use Rattle.pn_json.specs.Answers.{fault_as, ◌>>=◌}
use Rattle.pn_json.specs.Members.{whole_number, member_as}
use Rattle.pn_record.specs.Marks.{marks_in}
use Rattle.pn_record.specs.declared.fault.ImageFault.{ImageFault}
use Rattle.pn_record.specs.declared.fault.ImageFault.TheVariants as fault
use Rattle.pn_protocol.specs.declared.refusal.MemberName.TheVariants.{Need, Bounds, Lines, Tablet}
use Rattle.pn_protocol.specs.declared.refusal.Refusal.{Refusal}
use Rattle.pn_protocol.specs.declared.refusal.Refusal.TheVariants.{TooLong, NotJson, BadShape, OutOfRange, Memory}
use Rattle.pn_protocol.specs.Command.Meaning.{may_announce, CommandValue, adopt, copy, lose, relayout}
use Rattle.pn_protocol.specs.Command.Checks.{bounds_fit, fits, keys_alone, named_alone, number_alone}
use Rattle.pn_protocol.specs.Command.Words.{members_of}
use Rattle.pn_protocol.specs.declared.command.word.CommandWord.TheVariants.{Adopt, Copy, Lose, Relayout}

-- The need of a `copy` command: its shape is checked with the other members, its ranges after them.

-- the refusal of a line for what is at fault in a need
abbrev pub need_refusal : ImageFault → Refusal
need_refusal fault.TooLong = TooLong
need_refusal fault.NotJson = NotJson
need_refusal fault.Memory = Memory
need_refusal (fault.BadShape at) = BadShape Need
need_refusal (fault.OutOfRange at) = OutOfRange Need

-- the marks that a value says, or none where it is null
abbrev pub need_in : Data → Result Positions Refusal
need_in null = Ok []
need_in d = fault_as need_refusal (marks_in d)

-- the marks that a member says, or none where it is absent
abbrev pub need_at : Option Data → Result Positions Refusal
need_at None = Ok []
need_at (Some d) = need_in d

-- it has the shape of marks, whatever their ranges
abbrev pub need_shape : Result Positions Refusal → Result (Unit {0}) Refusal
need_shape (Err (BadShape member_name)) = Err (BadShape member_name)
need_shape read = Ok tt

-- the number of lines that an `adopt` command announces
unfoldable pub adopt_in : Members → Result CommandValue Refusal
adopt_in members = do
  lines ← number_alone (codes "lines") (members_of Adopt) Lines members
  fit ← fits Lines (may_announce lines)
  Ok (adopt lines)

-- the marks that a copy has to reach, and the tablet's number
unfoldable pub copy_in : Members → Result CommandValue Refusal
copy_in members = do
  shape ← need_shape (need_at (get_member (codes "need") members))
  tablet ← member_as whole_number (BadShape Tablet) (get_member (codes "tablet") members)
  named ← named_alone (members_of Copy) members
  need ← need_at (get_member (codes "need") members)
  Ok (copy need tablet)

-- the number of the tablet of a `lose` command
unfoldable pub lose_in : Members → Result CommandValue Refusal
lose_in members = do
  tablet ← number_alone (codes "tablet") (members_of Lose) Tablet members
  Ok (lose tablet)

-- the bounds of a `relayout` command
unfoldable pub relayout_in : Members → Result CommandValue Refusal
relayout_in members = do
  bounds ← keys_alone (codes "bounds") (members_of Relayout) Bounds members
  fit ← bounds_fit bounds
  Ok (relayout bounds)
