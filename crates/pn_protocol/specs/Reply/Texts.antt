-- The bytes of replies, what they begin with and what comes after that, and the reply that shows what was found.
use Rattle.std.specs.Prelude.{ℕ, Bool, true, false, List, [], ◌++◌, codes, map, ◌≡◌, ◌⊎◌, Result, Ok, Err}
use Rattle.serde_json.specs.View.{items_of}
use Rattle.serde_json.specs.Written.{items_text}
use Rattle.serde_json.specs.Data.{Data}
use Rattle.pn_json.specs.Tokens.{line_of}
use Rattle.pn_tablet.specs.Copies.{TabletCopyValue}
use Rattle.pn_tablet.specs.CopyWriting.{lines_of_copy, copy_text}
use Rattle.pn_tablet.specs.declared.fault.CopyFault.{CopyFault}
use Rattle.pn_scan.specs.Pages.{PageValue}
use Rattle.pn_scan.specs.declared.view.ScanFault.{ScanFault}
use Rattle.pn_protocol.specs.declared.reply.Reply.{Reply}
use Rattle.pn_protocol.specs.declared.reply.Reply.TheVariants.{Adopted, Changed, Copy, Lost, Page, Record, Records, Relaid, Silent, Stopping, Text, Refused, NotTaken}
use Rattle.pn_protocol.specs.Reply.Records.{get_data, read_data, row_data, scan_data}
use Rattle.pn_protocol.specs.Reply.Short.{refusal_data, adopted_data, changed_data, lines_data, lost_data, relaid_data, stopping_data}
use Rattle.pn_protocol.specs.declared.refusal.Refusal.TheVariants.{Memory}
use Rattle.pn_protocol.specs.declared.reply.text.Head.{Head}
use Rattle.pn_protocol.specs.declared.reply.text.Head.TheVariants.{Short, Long}
use Rattle.pn_protocol.specs.declared.reply.text.Rest.{Rest}
use Rattle.pn_protocol.specs.Reply.Faults.{Refuses}
use Rattle.pn_protocol.specs.declared.reply.text.Rest.TheVariants as rest
use Rattle.pn_protocol.specs.declared.reply.refusals.CommandFault.TheVariants as refused

-- The bytes of replies.

-- the reply to a copy: how many lines its text has, and the text
abbrev pub copy_reply : TabletCopyValue → List ℕ
copy_reply copy = line_of (lines_data (lines_of_copy copy)) ++ copy_text copy

-- the bytes of a reply
abbrev pub reply_text : Reply → List ℕ
reply_text (Adopted tablet) = line_of (adopted_data tablet)
reply_text (Changed count) = line_of (changed_data count)
reply_text (Copy copy) = line_of (lines_data (lines_of_copy copy.copy)) ++ copy.left
reply_text (Page page) = page.head.items ++ items_text false (items_of (map row_data page.rows.items)) ++ codes "}\n"
reply_text (Record key cell) = line_of (read_data key cell)
reply_text (Records keys cells) = line_of (get_data keys.items cells.items)
reply_text (Lost tablet) = line_of (lost_data tablet)
reply_text (Relaid count) = line_of (relaid_data count)
reply_text Silent = []
reply_text (Stopping seconds) = line_of (stopping_data seconds)
reply_text (Text text) = text.items
reply_text (Refused refusal) = line_of (refusal_data refusal)
reply_text (NotTaken text) = text.items

-- whether a reply is a refusal
abbrev pub is_refusal : Reply → Bool
is_refusal (Refused refusal) = true
is_refusal (NotTaken text) = true
is_refusal reply = false

-- The text of a reply: what it begins with, and what comes after that.

-- what a reply begins with
abbrev pub head_bytes : Head → List ℕ
head_bytes (Short text) = text
head_bytes (Long text) = text.items

-- what comes after that
abbrev pub rest_bytes : Rest → List ℕ
rest_bytes rest.Nothing = []
rest_bytes (rest.Rows rows) = rows
rest_bytes (rest.Lines copy) = copy.left

-- the reply, unless it shows records or has a long text: then the refusal out of memory
abbrev pub IsShortFor : Reply → Reply → Type 0
IsShortFor (Copy copy) short = short ≡ Refused Memory
IsShortFor (Page page) short = short ≡ Refused Memory
IsShortFor (Record key cell) short = short ≡ Refused Memory
IsShortFor (Records names cells) short = short ≡ Refused Memory
IsShortFor (Text text) short = short ≡ Refused Memory
IsShortFor reply short = short ≡ reply

-- The reply that shows what was found, or says why nothing was.

-- the reply shows what a lookup found, or says why it was refused, or that memory ran out
abbrev pub ShowsFound : {A : Type 0} → (A → Data) → Result A ScanFault → Reply → Type 0
ShowsFound show (Ok found) reply = ((is_refusal reply ≡ false) × (reply_text reply ≡ line_of (show found))) ⊎ (reply ≡ Refused Memory)
ShowsFound show (Err fault) reply = Refuses (refused.Lookup fault) reply

-- the reply is the copy, or says that memory ran out
abbrev pub ShowsCopy : TabletCopyValue → Reply → Type 0
ShowsCopy copy reply = ((is_refusal reply ≡ false) × (reply_text reply ≡ copy_reply copy)) ⊎ (reply ≡ Refused Memory)

-- the reply is the page, or says that memory ran out
abbrev pub ShowsPage : PageValue → Reply → Type 0
ShowsPage page reply = ((is_refusal reply ≡ false) × (reply_text reply ≡ line_of (scan_data page))) ⊎ (reply ≡ Refused Memory)

-- the reply shows the copy of the tablet of this number, or says why there is none
abbrev pub ShowsCopyOf : ℕ → Result TabletCopyValue CopyFault → Reply → Type 0
ShowsCopyOf tablet (Ok copy) reply = ShowsCopy copy reply
ShowsCopyOf tablet (Err fault) reply = Refuses (refused.Copy tablet fault) reply
