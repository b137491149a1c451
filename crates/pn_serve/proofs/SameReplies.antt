-- Machines with the same region, which wait for the same, reply alike to lines that ask for no notices.
use Rattle.std.proofs.Common.{◌≡◌, ℕ, ◌+◌, ◌-◌, nat_le, Bool, true, false, if◌then◌else◌, List, [], ◌∷◌, length, refl, ◌∙◌}
use Rattle.std.specs.Prelude.{Result, Ok, Err, Option, Some, None, slice_get}
use Rattle.pn_join.specs.Marks.{Positions}
use Rattle.pn_tablet.specs.Copies.{TabletCopyValue, copy_of}
use Rattle.pn_tablet.specs.CopyReading.{copy_at}
use Rattle.pn_tablet.specs.Layouts.{Bounds, layout_of}
use Rattle.pn_tablet.specs.Tablets.{TabletStateValue}
use Rattle.pn_tablet.specs.declared.fault.CopyTextFault.{CopyTextFault}
use Rattle.pn_tablet.specs.declared.fault.CopyFault.{CopyFault}
use Rattle.pn_tablet.specs.declared.layout.LayoutFault.{LayoutFault}
use Rattle.pn_tablet.specs.declared.fault.OpFault.{OpFault as AdoptFault}
use Rattle.pn_region.specs.Log.{with_break}
use Rattle.pn_region.specs.Recovery.{after_loss, after_adoption, after_relayout}
use Rattle.pn_region.specs.Regions.{RegionValue}
use Rattle.pn_region.specs.Rounds.{round as taken_round}
use Rattle.pn_region.specs.declared.notices.Entry.{Entry}
use Rattle.pn_region.specs.declared.fault.RelayoutFault.{RelayoutFault}
use Rattle.pn_region.specs.declared.fault.RoundFault.{RoundFault}
use Rattle.pn_json.specs.Tokens.{line_of}
use Rattle.pn_protocol.specs.declared.refusal.Refusal.{Refusal}
use Rattle.pn_protocol.specs.Command.Lines.{command_at}
use Rattle.pn_protocol.specs.Command.Meaning.{CommandValue, adopt, copy, deliver, get, lose, marks, notices, read, relayout, scan, tablets}
use Rattle.pn_protocol.specs.Reply.Short.{lost_data}
use Rattle.pn_serve.specs.Machine.Turns.{unless_call, with_line, last_command_turn, last_of, end_in, end_turn, command_turn, turn_of, outcome_at, turn_in, turn}
use Rattle.pn_serve.specs.Machine.Doing.{delivery_turn, at_tablet, copy_reply_turn, copy_turn, loss_turn, adoption_turn, read_adoption_turn, text_adoption_turn, relaid_turn, relayout_turn}
use Rattle.pn_serve.specs.Machine.Outcomes.{Outcome, done, line, call, round, Mode, awaits_command, announced, Machine, Turn, logged_region, silent_turn}
use Rattle.pn_serve.specs.Script.Written.{AsksNoNotices}
use Rattle.pn_serve.proofs.RepeatLaws.{Same}

module _ (mode : Mode) (region : RegionValue) (log others : List Entry) where
  abbrev m : Machine
  m = record { mode = mode; region = region; log = log }

  abbrev n : Machine
  n = record { mode = mode; region = region; log = others }

  -- the turns reply alike
  abbrev Replies : Turn → Turn → Type 0
  Replies turned other = turned.reply ≡ other.reply

  shown_replies : (tablet : ℕ) (right : Result TabletCopyValue CopyFault) → Replies (copy_reply_turn m tablet right) (copy_reply_turn n tablet right)
  shown_replies tablet (Ok given) = refl
  shown_replies tablet (Err fault) = refl

  copy_replies : (need : Positions) (tablet : ℕ) → Replies (copy_turn m need tablet) (copy_turn n need tablet)
  copy_replies need tablet = at (slice_get region.tablets tablet)
    where
      at : (found : Option TabletStateValue) → Replies (at_tablet m found (λ state. copy_reply_turn m tablet (copy_of state need))) (at_tablet n found (λ state. copy_reply_turn n tablet (copy_of state need)))
      at None = refl
      at (Some state) = shown_replies tablet (copy_of state need)

  round_replies : (right : Result RegionValue RoundFault) → Replies (delivery_turn m right) (delivery_turn n right)
  round_replies (Ok after) = refl
  round_replies (Err fault) = refl

  abbrev losing_found : Machine → ℕ → Option TabletStateValue → Turn
  losing_found k tablet found = at_tablet k found (λ state. record { machine = record k { region = after_loss k.region tablet; log = with_break k.log }; reply = line_of (lost_data tablet); refused = false })

  loss_by : (tablet : ℕ) (found : Option TabletStateValue) → Replies (losing_found m tablet found) (losing_found n tablet found)
  loss_by tablet None = refl
  loss_by tablet (Some state) = refl

  loss_replies : (tablet : ℕ) → Replies (loss_turn m tablet) (loss_turn n tablet)
  loss_replies tablet = loss_by tablet (slice_get region.tablets tablet)

  relaid_replies : (count : ℕ) (right : Result RegionValue RelayoutFault) → Replies (relaid_turn m count right) (relaid_turn n count right)
  relaid_replies count (Ok after) = refl
  relaid_replies count (Err fault) = refl

  layout_replies : (right : Result Bounds LayoutFault) → Replies (relayout_turn m right) (relayout_turn n right)
  layout_replies (Ok bounds) = relaid_replies (length bounds + 1) (after_relayout region bounds)
  layout_replies (Err fault) = refl

  obey_replies : (outcome : Outcome) (command : CommandValue) → AsksNoNotices (Ok command) → Replies (command_turn m outcome command) (command_turn n outcome command)
  obey_replies done (adopt lines) free = refl
  obey_replies line (adopt lines) free = refl
  obey_replies call (adopt lines) free = refl
  obey_replies (round flags) (adopt lines) free = refl
  obey_replies done (copy need tablet) free = copy_replies need tablet
  obey_replies line (copy need tablet) free = copy_replies need tablet
  obey_replies call (copy need tablet) free = refl
  obey_replies (round flags) (copy need tablet) free = copy_replies need tablet
  obey_replies done (deliver deliveries) free = round_replies (taken_round region deliveries)
  obey_replies line (deliver deliveries) free = round_replies (taken_round region deliveries)
  obey_replies call (deliver deliveries) free = refl
  obey_replies (round flags) (deliver deliveries) free = refl
  obey_replies done (get keys) free = refl
  obey_replies line (get keys) free = refl
  obey_replies call (get keys) free = refl
  obey_replies (round flags) (get keys) free = refl
  obey_replies done (lose tablet) free = loss_replies tablet
  obey_replies line (lose tablet) free = loss_replies tablet
  obey_replies call (lose tablet) free = loss_replies tablet
  obey_replies (round flags) (lose tablet) free = loss_replies tablet
  obey_replies done marks free = refl
  obey_replies line marks free = refl
  obey_replies call marks free = refl
  obey_replies (round flags) marks free = refl
  obey_replies outcome (notices since) free = absurd free
  obey_replies done (read key version) free = refl
  obey_replies line (read key version) free = refl
  obey_replies call (read key version) free = refl
  obey_replies (round flags) (read key version) free = refl
  obey_replies done (relayout bounds) free = layout_replies (layout_of bounds)
  obey_replies line (relayout bounds) free = layout_replies (layout_of bounds)
  obey_replies call (relayout bounds) free = refl
  obey_replies (round flags) (relayout bounds) free = layout_replies (layout_of bounds)
  obey_replies done (scan query) free = refl
  obey_replies line (scan query) free = refl
  obey_replies call (scan query) free = refl
  obey_replies (round flags) (scan query) free = refl
  obey_replies done tablets free = refl
  obey_replies line tablets free = refl
  obey_replies call tablets free = refl
  obey_replies (round flags) tablets free = refl

  said_replies : (outcome : Outcome) (said : Result CommandValue Refusal) → AsksNoNotices said → Replies (turn_of m outcome said) (turn_of n outcome said)
  said_replies line said free = refl
  said_replies done (Ok command) free = obey_replies done command free
  said_replies call (Ok command) free = obey_replies call command free
  said_replies (round flags) (Ok command) free = obey_replies (round flags) command free
  said_replies done (Err refusal) free = refl
  said_replies call (Err refusal) free = refl
  said_replies (round flags) (Err refusal) free = refl

  adopted_replies : (right : Result (ℕ × RegionValue) AdoptFault) → Replies (adoption_turn (logged_region m) right) (adoption_turn (logged_region n) right)
  adopted_replies (Ok (tablet, after)) = refl
  adopted_replies (Err fault) = refl

  read_replies : (right : Result TabletCopyValue CopyTextFault) → Replies (read_adoption_turn (logged_region m) right) (read_adoption_turn (logged_region n) right)
  read_replies (Ok given) = adopted_replies (after_adoption region given)
  read_replies (Err fault) = refl

  text_replies : (text : Option (List ℕ)) → Replies (text_adoption_turn (logged_region m) text) (text_adoption_turn (logged_region n) text)
  text_replies None = refl
  text_replies (Some text) = read_replies (copy_at text)

  came_replies : (left : ℕ) (text : Option (List ℕ)) (last : Bool)
      → Replies (if last then text_adoption_turn (logged_region m) text else silent_turn (record m { mode = announced (left - 1) text })) (if last then text_adoption_turn (logged_region n) text else silent_turn (record n { mode = announced (left - 1) text }))
  came_replies left text true = text_replies text
  came_replies left text false = refl

  mode_replies : (how : Mode) (outcome : Outcome) (text : List ℕ) → AsksNoNotices (command_at text) → Replies (turn_in how m outcome text) (turn_in how n outcome text)
  mode_replies awaits_command outcome text free = said_replies (outcome_at outcome text) (command_at text) free
  mode_replies (announced left came) outcome text free = came_replies left (unless_call outcome (with_line came text (10 ∷ []))) (nat_le left 1)

  obey_last_replies : (outcome : Outcome) (command : CommandValue) → AsksNoNotices (Ok command) → Replies (last_command_turn m outcome command) (last_command_turn n outcome command)
  obey_last_replies outcome (adopt lines) free = text_replies (unless_call outcome (Some []))
  obey_last_replies outcome (copy need tablet) free = obey_replies outcome (copy need tablet) free
  obey_last_replies outcome (deliver deliveries) free = obey_replies outcome (deliver deliveries) free
  obey_last_replies outcome (get keys) free = obey_replies outcome (get keys) free
  obey_last_replies outcome (lose tablet) free = obey_replies outcome (lose tablet) free
  obey_last_replies outcome marks free = obey_replies outcome marks free
  obey_last_replies outcome (notices since) free = absurd free
  obey_last_replies outcome (read key version) free = obey_replies outcome (read key version) free
  obey_last_replies outcome (relayout bounds) free = obey_replies outcome (relayout bounds) free
  obey_last_replies outcome (scan query) free = obey_replies outcome (scan query) free
  obey_last_replies outcome tablets free = obey_replies outcome tablets free

  last_replies : (outcome : Outcome) (said : Result CommandValue Refusal) → AsksNoNotices said → Replies (last_of m outcome said) (last_of n outcome said)
  last_replies line said free = refl
  last_replies done (Ok command) free = obey_last_replies done command free
  last_replies call (Ok command) free = obey_last_replies call command free
  last_replies (round flags) (Ok command) free = obey_last_replies (round flags) command free
  last_replies done (Err refusal) free = refl
  last_replies call (Err refusal) free = refl
  last_replies (round flags) (Err refusal) free = refl

  end_replies : (how : Mode) (outcome : Outcome) (part : List ℕ) → AsksNoNotices (command_at part) → Replies (end_in how m outcome part) (end_in how n outcome part)
  end_replies awaits_command outcome [] free = refl
  end_replies awaits_command outcome (b ∷ part) free = last_replies (outcome_at outcome (b ∷ part)) (command_at (b ∷ part)) free
  end_replies (announced left came) outcome part free = text_replies (unless_call outcome (with_line came part []))

module _ (one other : Machine) (same : Same one other) (outcome : Outcome) (text : List ℕ) (free : AsksNoNotices (command_at text)) where
  pub same_line : (turn one outcome text).reply ≡ (turn other outcome text).reply
  same_line =
      mode_replies one.mode one.region one.log other.log one.mode outcome text free
      ∙ (λ i. (turn (record { mode = same.mode i; region = same.region i; log = other.log }) outcome text).reply)

  pub same_end : (end_turn one outcome text).reply ≡ (end_turn other outcome text).reply
  same_end =
      end_replies one.mode one.region one.log other.log one.mode outcome text free
      ∙ (λ i. (end_turn (record { mode = same.mode i; region = same.region i; log = other.log }) outcome text).reply)
