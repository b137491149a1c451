-- What a command does if memory does not run out, and what losses, copies, adoptions and changes of the layout do.
use Rattle.std.specs.Prelude.{ℕ, true, false, List, Option, Some, None, Result, Ok, Err, slice_get, ◌+◌, length, [], is_err}
use Rattle.serde_json.specs.Data.{Data}
use Rattle.pn_join.specs.Marks.{Positions}
use Rattle.pn_json.specs.Tokens.{line_of}
use Rattle.pn_tablet.specs.Copies.{TabletCopyValue, copy_of}
use Rattle.pn_tablet.specs.CopyReading.{copy_at}
use Rattle.pn_tablet.specs.Tablets.{TabletStateValue}
use Rattle.pn_tablet.specs.declared.fault.CopyFault.{CopyFault}
use Rattle.pn_tablet.specs.declared.fault.CopyTextFault.{CopyTextFault}
use Rattle.pn_tablet.specs.declared.fault.OpFault.{OpFault as AdoptFault}
use Rattle.pn_tablet.specs.Layouts.{Bounds, layout_of}
use Rattle.pn_tablet.specs.declared.layout.LayoutFault.{LayoutFault}
use Rattle.pn_scan.specs.declared.view.ScanFault.{ScanFault}
use Rattle.pn_region.specs.Log.{LoggedRegion, with_break, with_notices}
use Rattle.pn_region.specs.Recovery.{after_loss, after_adoption, after_relayout}
use Rattle.pn_region.specs.Regions.{RegionValue}
use Rattle.pn_region.specs.declared.fault.RelayoutFault.{RelayoutFault}
use Rattle.pn_region.specs.Reads.{read_in, get_in, page_in}
use Rattle.pn_region.specs.Rounds.{changed_count, round as taken_round}
use Rattle.pn_region.specs.declared.fault.RoundFault.{RoundFault}
use Rattle.pn_protocol.specs.declared.refusal.MemberName.TheVariants.{Tablet}
use Rattle.pn_protocol.specs.declared.refusal.Refusal.TheVariants.{OutOfRange, Memory}
use Rattle.pn_protocol.specs.Reply.Texts.{copy_reply}
use Rattle.pn_protocol.specs.Reply.Faults.{copy_fault_data, copy_text_fault_data, adopt_fault_data, relayout_fault_data, lookup_fault_data, round_fault_data}
use Rattle.pn_protocol.specs.Reply.Short.{lost_data, adopted_data, relaid_data, changed_data, marks_reply_data, tablets_data}
use Rattle.pn_protocol.specs.Command.Meaning.{CommandValue, adopt, copy, deliver, get, lose, marks, notices, read, relayout, scan, tablets}
use Rattle.pn_protocol.specs.Reply.Records.{since_data, read_data, get_data, scan_data}
use Rattle.pn_protocol.specs.declared.refusal.MemberName.TheVariants as member_name
use Rattle.pn_serve.specs.Machine.Outcomes.{Machine, Turn, machine_over, refusal_turn, reply_turn, announced, silent_turn}

-- What losses, copies and adoptions do to what is served, and their replies.

-- what is done to the tablet of this number, if there is one
abbrev pub at_tablet : Machine → Option TabletStateValue → (TabletStateValue → Turn) → Turn
at_tablet machine None does = refusal_turn machine (OutOfRange Tablet)
at_tablet machine (Some state) does = does state

-- a tablet is lost
abbrev pub loss_turn : Machine → ℕ → Turn
loss_turn machine tablet =
    at_tablet machine (slice_get machine.region.tablets tablet) (λ state. record { machine = record machine { region = after_loss machine.region tablet; log = with_break machine.log }; reply = line_of (lost_data tablet); refused = false })

-- a copy is shown, or why there is none
abbrev pub copy_reply_turn : Machine → ℕ → Result TabletCopyValue CopyFault → Turn
copy_reply_turn machine tablet (Ok shown) = reply_turn machine (copy_reply shown)
copy_reply_turn machine tablet (Err fault) = record { machine = machine; reply = line_of (copy_fault_data tablet fault); refused = true }

-- a tablet is copied
abbrev pub copy_turn : Machine → Positions → ℕ → Turn
copy_turn machine need tablet = at_tablet machine (slice_get machine.region.tablets tablet) (λ state. copy_reply_turn machine tablet (copy_of state need))

-- a region takes a copy, or refuses it
abbrev pub adoption_turn : LoggedRegion → Result (ℕ × RegionValue) AdoptFault → Turn
adoption_turn old (Ok (tablet, after)) = record { machine = machine_over (record { state = after; log = with_break old.log }); reply = line_of (adopted_data tablet); refused = false }
adoption_turn old (Err fault) = record { machine = machine_over old; reply = line_of (adopt_fault_data fault); refused = true }

-- a region takes the copy of a text, or the text is no copy
abbrev pub read_adoption_turn : LoggedRegion → Result TabletCopyValue CopyTextFault → Turn
read_adoption_turn old (Ok shown) = adoption_turn old (after_adoption old.state shown)
read_adoption_turn old (Err fault) = record { machine = machine_over old; reply = line_of (copy_text_fault_data fault); refused = true }

-- a region takes the copy of an announced text, unless memory ran out
abbrev pub text_adoption_turn : LoggedRegion → Option (List ℕ) → Turn
text_adoption_turn old None = refusal_turn (machine_over old) Memory
text_adoption_turn old (Some text) = read_adoption_turn old (copy_at text)

-- What changes of the layout do to what is served, and their replies.

-- the layout becomes another, of this many tablets, or stays; the log stays
abbrev pub relaid_turn : Machine → ℕ → Result RegionValue RelayoutFault → Turn
relaid_turn machine count (Ok after) = record { machine = record machine { region = after }; reply = line_of (relaid_data count); refused = false }
relaid_turn machine count (Err fault) = record { machine = machine; reply = line_of (relayout_fault_data fault); refused = true }

-- the layout becomes that of these bounds, if there is one
abbrev pub relayout_turn : Machine → Result Bounds LayoutFault → Turn
relayout_turn machine (Ok bounds) = relaid_turn machine (length bounds + 1) (after_relayout machine.region bounds)
relayout_turn machine (Err fault) = refusal_turn machine (OutOfRange member_name.Bounds)

-- What a command does if memory does not run out.

-- what a delivery does if its round ends so
abbrev pub delivery_turn : Machine → Result RegionValue RoundFault → Turn
delivery_turn machine (Ok after) = record { machine = record machine { region = after; log = with_notices machine.log machine.region after }; reply = line_of (changed_data (changed_count machine.region after)); refused = false }
delivery_turn machine (Err fault) = record { machine = machine; reply = line_of (round_fault_data fault); refused = true }

-- the reply for what a lookup found, or for why it was refused
abbrev pub found_data : {A : Type 0} → (A → Data) → Result A ScanFault → Data
found_data show (Ok found) = show found
found_data show (Err fault) = lookup_fault_data fault

-- what a lookup does if it finds this
abbrev pub lookup_turn : {A : Type 0} → Machine → (A → Data) → Result A ScanFault → Turn
lookup_turn machine show right = record { machine = machine; reply = line_of (found_data show right); refused = is_err right }

-- what a command does if memory does not run out; an adoption waits for the lines that it announces
abbrev pub plain_turn : Machine → CommandValue → Turn
plain_turn machine (adopt lines) = silent_turn (record machine { mode = announced lines (Some []) })
plain_turn machine (copy need tablet) = copy_turn machine need tablet
plain_turn machine (deliver deliveries) = delivery_turn machine (taken_round machine.region deliveries)
plain_turn machine (get keys) = lookup_turn machine (get_data keys) (get_in machine.region keys)
plain_turn machine (lose tablet) = loss_turn machine tablet
plain_turn machine marks = reply_turn machine (line_of (marks_reply_data machine.region.marks))
plain_turn machine (notices since) = reply_turn machine (line_of (since_data machine.log since))
plain_turn machine (read key version) = lookup_turn machine (read_data key) (read_in machine.region key version)
plain_turn machine (relayout bounds) = relayout_turn machine (layout_of bounds)
plain_turn machine (scan query) = lookup_turn machine scan_data (page_in machine.region query)
plain_turn machine tablets = reply_turn machine (line_of (tablets_data machine.region.tablets))
