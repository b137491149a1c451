-- Errors, with their names and details; what the reply to a command that was not run says; and which reply refuses a command.
use Rattle.std.specs.Prelude.{ℕ, List, [], ◌∷◌, codes, Option, map, ◌≡◌, ◌≢◌, Vec, Some, None, Result, IfOk, MatchResult}
use Rattle.std.specs.Borrow.{Bor}
use Rattle.std.specs.List.{flat_map}
use Rattle.std.specs.declared.alloc.Global.{Global}
use Rattle.json.specs.Token.{Token}
use Rattle.serde_json.specs.Data.{Data, number, string, object, unsigned, Members, no_members, member}
use Rattle.pn_join.specs.declared.memory.NoMemory.{NoMemory}
use Rattle.pn_json.specs.Tokens.{member_tokens, line_of}
use Rattle.pn_record.specs.Sets.{Stamp}
use Rattle.pn_tablet.specs.declared.fault.CopyFault.{CopyFault}
use Rattle.pn_tablet.specs.declared.fault.CopyTextFault.{CopyTextFault}
use Rattle.pn_tablet.specs.declared.fault.OpFault.{OpFault as AdoptFault}
use Rattle.pn_tablet.specs.declared.fault.CopyFault.TheVariants as copy
use Rattle.pn_tablet.specs.declared.fault.CopyTextFault.TheVariants as text
use Rattle.pn_tablet.specs.declared.fault.OpFault.TheVariants as adoption
use Rattle.pn_scan.specs.declared.view.ScanFault.{ScanFault}
use Rattle.pn_scan.specs.declared.view.ScanFault.TheVariants as lookup
use Rattle.pn_region.specs.declared.fault.AdvanceFault.{AdvanceFault}
use Rattle.pn_region.specs.declared.fault.RelayoutFault.{RelayoutFault}
use Rattle.pn_region.specs.declared.fault.RoundFault.{RoundFault}
use Rattle.pn_region.specs.declared.fault.AdvanceFault.TheVariants as advance
use Rattle.pn_region.specs.declared.fault.RelayoutFault.TheVariants as relayout
use Rattle.pn_region.specs.declared.fault.RoundFault.TheVariants as round
use Rattle.pn_protocol.specs.Reply.Records.{version_or_null}
use Rattle.pn_protocol.specs.declared.reply.refusals.Detail.{Detail}
use Rattle.pn_protocol.specs.declared.reply.refusals.Detail.TheVariants.{Number, Stream, Version}
use Rattle.pn_protocol.specs.declared.refusal.Refusal.TheVariants.{Memory}
use Rattle.pn_protocol.specs.declared.reply.Reply.{Reply}
use Rattle.pn_protocol.specs.declared.reply.Reply.TheVariants.{Refused, NotTaken}
use Rattle.pn_protocol.specs.declared.reply.refusals.CommandFault.{CommandFault}
use Rattle.pn_protocol.specs.declared.reply.refusals.CommandFault.TheVariants.{Lookup, Copy, CopyText, Adoption, Round, Relayout, Advance}

-- Errors: their names and details, as values and as tokens.

-- an error: its name and its details
abbrev pub error_data : List ℕ → Members → Data
error_data name details = object (member (codes "error") (string name) details)

-- a number, before further members
abbrev pub with_number : List ℕ → ℕ → Members → Members
with_number name value others = member name (number (unsigned value)) others

-- a stream, before further members
abbrev pub with_stream : List ℕ → Members → Members
with_stream stream others = member (codes "stream") (string stream) others

-- the version of a record, or null, before further members
abbrev pub with_version : List ℕ → Option Stamp → Members → Members
with_version name version others = member name (version_or_null version) others

-- the value of a detail
abbrev pub detail_data : Detail → Data
detail_data (Number value) = number (unsigned value)
detail_data (Stream stream) = string stream
detail_data (Version version) = version_or_null version

-- the name and the value of a detail
abbrev pub detail_member : Bor (List ℕ) × Detail → List ℕ × Data
detail_member detail = (detail.0.now, detail_data detail.1)

-- named values, as members
abbrev pub members_of : List (List ℕ × Data) → Members
members_of [] = no_members
members_of (part ∷ parts) = member part.0 part.1 (members_of parts)

-- named details, as members of the error's object
abbrev pub details_members : List (Bor (List ℕ) × Detail) → Members
details_members details = members_of (map detail_member details)

-- the tokens of such members
abbrev pub details_tokens : List (Bor (List ℕ) × Detail) → List Token
details_tokens details = flat_map (λ part. member_tokens part.0 part.1) (map detail_member details)

-- What the reply to a command that was not run says, by its fault.

-- an error at a line of a copy's text
abbrev pub at_line : List ℕ → ℕ → Data
at_line error line = error_data error (with_number (codes "line") line no_members)

-- an error that says what there is of a stream, under this name, and what is wanted
abbrev pub short_data : List ℕ → List ℕ → ℕ → List ℕ → ℕ → Data
short_data error name there stream wanted = error_data error (with_number name there (with_stream stream (with_number (codes "wanted") wanted no_members)))

-- an error that says what a copy has of a stream, and what is needed
abbrev pub too_old_data : List ℕ → ℕ → ℕ → Data
too_old_data stream has needs = error_data (codes "too-old") (with_number (codes "has") has (with_number (codes "needs") needs (with_stream stream no_members)))

-- the reply to a delivery whose round was refused
unfoldable pub round_fault_data : RoundFault → Data
round_fault_data (round.Gap stream wanted got) = short_data (codes "gap") (codes "got") got stream wanted
round_fault_data round.TooManyStreams = error_data (codes "too-many-streams") no_members
round_fault_data round.Memory = error_data (codes "memory") no_members

-- the reply to a read, a get or a scan that was refused
unfoldable pub lookup_fault_data : ScanFault → Data
lookup_fault_data (lookup.Recovering tablet) = error_data (codes "recovering") (with_number (codes "tablet") tablet no_members)
lookup_fault_data (lookup.Behind has) = error_data (codes "behind") (with_version (codes "has") has no_members)
lookup_fault_data lookup.Memory = error_data (codes "memory") no_members
lookup_fault_data lookup.NoEntry = error_data (codes "no-entry") no_members

-- the reply where there is no copy of the tablet of this number
abbrev pub copy_fault_data : ℕ → CopyFault → Data
copy_fault_data tablet copy.Recovering = error_data (codes "recovering") (with_number (codes "tablet") tablet no_members)
copy_fault_data tablet (copy.Behind stream has wanted) = short_data (codes "behind") (codes "has") has stream wanted
copy_fault_data tablet copy.Memory = error_data (codes "memory") no_members
copy_fault_data tablet copy.NoEntry = error_data (codes "no-entry") no_members

-- the reply where a text is no copy
abbrev pub copy_text_fault_data : CopyTextFault → Data
copy_text_fault_data text.Truncated = error_data (codes "truncated") no_members
copy_text_fault_data (text.BadLine line) = at_line (codes "bad-line") line
copy_text_fault_data (text.OutsideRange line) = at_line (codes "outside-range") line
copy_text_fault_data (text.NotRising line) = at_line (codes "not-rising") line
copy_text_fault_data text.BadEnd = error_data (codes "bad-end") no_members
copy_text_fault_data text.Memory = error_data (codes "memory") no_members

-- the reply where a copy is not adopted
abbrev pub adopt_fault_data : AdoptFault → Data
adopt_fault_data adoption.WrongRange = error_data (codes "wrong-range") no_members
adopt_fault_data (adoption.TooOld stream has needs) = too_old_data stream has needs
adopt_fault_data adoption.Memory = error_data (codes "memory") no_members

-- the reply where the layout stays
abbrev pub relayout_fault_data : RelayoutFault → Data
relayout_fault_data (relayout.StillRecovering tablet) = error_data (codes "still-recovering") (with_number (codes "tablet") tablet no_members)
relayout_fault_data relayout.Memory = error_data (codes "memory") no_members

-- the reply where the marks stay
unfoldable pub advance_fault_data : AdvanceFault → Data
advance_fault_data advance.TooManyStreams = error_data (codes "too-many-streams") no_members
advance_fault_data advance.Memory = error_data (codes "memory") no_members

-- Which reply refuses a command that was read: why it is not run, or that memory ran out.

-- the reply of a refusal that is known to be right says this, or that memory ran out
abbrev pub Tells : Type 0 → Data → Reply → Type 0
Tells right said (NotTaken text) = right × (text.items ≡ line_of said)
Tells right said reply = reply ≡ Refused Memory

-- the line that says why, or none where the fault is that memory ran out
abbrev pub SaysWhy : {F : Type 0} → F → F → Data → Option (Result (Vec ℕ Global) NoMemory) → Type 0
SaysWhy memory fault said None = fault ≡ memory
SaysWhy memory fault said (Some line) = (fault ≢ memory) × IfOk line (λ text. text.items ≡ line_of said)

-- the reply is that line, if there is one, and else says that memory ran out
abbrev pub RefusesWith : Option (Result (Vec ℕ Global) NoMemory) → Reply → Type 0
RefusesWith None reply = reply ≡ Refused Memory
RefusesWith (Some line) reply = MatchResult line (λ text. reply ≡ NotTaken text) (λ _. reply ≡ Refused Memory)

-- the reply to a command with this fault: why it was not run, or that memory ran out
abbrev pub Refuses : CommandFault → Reply → Type 0
Refuses (Lookup fault) reply = Tells (fault ≢ lookup.Memory) (lookup_fault_data fault) reply
Refuses (Copy tablet fault) reply = Tells (fault ≢ copy.Memory) (copy_fault_data tablet fault) reply
Refuses (CopyText fault) reply = Tells (fault ≢ text.Memory) (copy_text_fault_data fault) reply
Refuses (Adoption fault) reply = Tells (fault ≢ adoption.Memory) (adopt_fault_data fault) reply
Refuses (Round fault) reply = Tells (fault ≢ round.Memory) (round_fault_data fault) reply
Refuses (Relayout fault) reply = Tells (fault ≢ relayout.Memory) (relayout_fault_data fault) reply
Refuses (Advance fault) reply = Tells (fault ≢ advance.Memory) (advance_fault_data fault) reply
