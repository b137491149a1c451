-- What a session does with a line, by what its reader found; lines are counted by their kinds.
use Rattle.std.specs.Prelude.{◌≡◌, ◌⊎◌, ◌<◌, ◌≤◌, ℕ, List, length, Option, Result, false, [], ◌∷◌, Ok, Err, ◌+◌, ◌-◌, ◌^◌, min, Bool, if◌then◌else◌}
use Rattle.pn_join.specs.Marks.{Positions}
use Rattle.pn_record.specs.Sets.{Stamp, CellValue}
use Rattle.pn_tablet.specs.Copies.{TabletCopyValue}
use Rattle.pn_tablet.specs.Layouts.{tablet_of}
use Rattle.pn_tablet.specs.Tablets.{TabletStateValue}
use Rattle.pn_tablet.specs.declared.fault.CopyFault.{CopyFault}
use Rattle.pn_scan.specs.Pages.{Look, PageValue, first_page}
use Rattle.pn_scan.specs.Paging.{LooksAfter, Moving}
use Rattle.pn_scan.specs.Queries.{QueryValue}
use Rattle.pn_scan.specs.Views.{IsRead, IsGet, IsScan}
use Rattle.pn_scan.specs.declared.view.ScanFault.{ScanFault}
use Rattle.pn_protocol.specs.declared.refusal.MemberName.TheVariants.{Tablet}
use Rattle.pn_protocol.specs.declared.refusal.Refusal.TheVariants.{OutOfRange, ReadOnly, Memory}
use Rattle.pn_protocol.specs.declared.reply.Reply.{Reply}
use Rattle.pn_protocol.specs.declared.reply.Reply.TheVariants.{Refused, Silent}
use Rattle.pn_protocol.specs.Reply.Texts.{ShowsFound, ShowsCopyOf}
use Rattle.pn_protocol.specs.Reply.Records.{read_data, get_data, scan_data}
use Rattle.pn_protocol.specs.declared.refusal.Refusal.{Refusal}
use Rattle.pn_protocol.specs.Command.Lines.{is_too_long, lookup_at}
use Rattle.pn_protocol.specs.Command.Meaning.{CommandValue, copy, get, read, scan}
use Rattle.pn_protocol.specs.declared.command.word.LineKind.{LineKind}
use Rattle.pn_protocol.specs.declared.command.word.LineKind.TheVariants.{Copy, Get, Other, Read, Scan}
use Rattle.pn_protocol.specs.declared.reply.line_stats.LineCounts.{LineCounts}
use Rattle.pn_protocol.specs.declared.reply.line_stats.LineKinds.{LineKinds}
use Rattle.pn_lines.specs.Driving.{Start}
use Rattle.pn_live.specs.Lookups.{IsCopied}
use Rattle.pn_live.specs.Readers.{LiveReaderValue, LooksLive}

-- Lookups of a session, answered by what its reader found.

-- the record of a key was looked up, by one look into the key's tablet
pub record LooksUpKey (old : LiveReaderValue) (key : List ℕ) (wanted : Option Stamp) (new : LiveReaderValue) (reply : Reply) : Type 0 where
  pub found : Option TabletStateValue
  pub answer : Result (Option CellValue) ScanFault
  pub read : IsRead LooksLive old.layout key wanted old new answer (tablet_of old.layout key, found)
  pub shows : ShowsFound (read_data key) answer reply

-- the records of keys were looked up, key by key; in between the reader may move
pub record LooksUpKeys (moves : Moving LiveReaderValue) (old : LiveReaderValue) (keys : List (List ℕ)) (new : LiveReaderValue) (reply : Reply) : Type 0 where
  pub seen : List Look
  pub answer : Result (List (Option CellValue)) ScanFault
  pub reached : LiveReaderValue
  pub got : IsGet (LooksAfter moves LooksLive) old.layout keys old reached (λ cells. cells) answer seen
  pub moved : moves reached new
  pub shows : ShowsFound (get_data keys) answer reply

-- the page of a query was looked up, tablet by tablet; in between the reader may move
pub record LooksUpPage (moves : Moving LiveReaderValue) (old : LiveReaderValue) (query : QueryValue) (new : LiveReaderValue) (reply : Reply) : Type 0 where
  pub seen : List Look
  pub answer : Result PageValue ScanFault
  pub reached : LiveReaderValue
  pub scanned : IsScan (LooksAfter moves LooksLive) old.layout query old reached (λ page. page) answer (first_page query) seen
  pub moved : moves reached new
  pub shows : ShowsFound scan_data answer reply

-- a tablet was copied, by one look; after it the reader may move
pub record CopiesTablet (moves : Moving LiveReaderValue) (old : LiveReaderValue) (need : Positions) (tablet : ℕ) (new : LiveReaderValue) (reply : Reply) : Type 0 where
  pub within : tablet ≤ length old.layout
  pub found : Option TabletStateValue
  pub answer : Result TabletCopyValue CopyFault
  pub reached : LiveReaderValue
  pub copied : IsCopied old need reached answer (tablet, found)
  pub moved : moves reached new
  pub shows : ShowsCopyOf tablet answer reply

-- a tablet was copied, or there is none of this number
abbrev pub LooksUpCopy : Moving LiveReaderValue → LiveReaderValue → Positions → ℕ → LiveReaderValue → Reply → Type 0
LooksUpCopy moves old need tablet new reply = CopiesTablet moves old need tablet new reply ⊎ ((length old.layout < tablet) × (new ≡ old) × (reply ≡ Refused (OutOfRange Tablet)))

-- What a session does with a line: its reply, and the reader afterwards.

-- nothing was looked up, and the line was refused
abbrev pub RefusesLine : LiveReaderValue → Refusal → LiveReaderValue → Reply → Type 0
RefusesLine old refusal new reply = (new ≡ old) × (reply ≡ Refused refusal)

-- a command was answered: a lookup, or a command that a session refuses
abbrev pub LooksUp : Moving LiveReaderValue → LiveReaderValue → CommandValue → LiveReaderValue → Reply → Type 0
LooksUp moves old (copy need tablet) new reply = LooksUpCopy moves old need tablet new reply
LooksUp moves old (get keys) new reply = LooksUpKeys moves old keys new reply
LooksUp moves old (read key wanted) new reply = LooksUpKey old key wanted new reply
LooksUp moves old (scan query) new reply = LooksUpPage moves old query new reply
LooksUp moves old command new reply = RefusesLine old ReadOnly new reply

-- a line that reads as this was answered
abbrev pub Tells : Moving LiveReaderValue → LiveReaderValue → Result CommandValue Refusal → LiveReaderValue → Reply → Type 0
Tells moves old (Ok command) new reply = LooksUp moves old command new reply
Tells moves old (Err refusal) new reply = RefusesLine old refusal new reply

-- a line was answered as it reads; or memory ran out before it was read, unless it is too long
abbrev pub AnswersLine : Moving LiveReaderValue → LiveReaderValue → List ℕ → LiveReaderValue → Reply → Type 0
AnswersLine moves old line new reply = Tells moves old (lookup_at line) new reply ⊎ ((is_too_long line ≡ false) × RefusesLine old Memory new reply)

-- the input ended after this part of a line; if it is not empty, it was answered as a line
abbrev pub EndsLines : Moving LiveReaderValue → LiveReaderValue → List ℕ → LiveReaderValue → Reply → Type 0
EndsLines moves old [] new reply = (new ≡ old) × (reply ≡ Silent)
EndsLines moves old (b ∷ part) new reply = AnswersLine moves old (b ∷ part) new reply

-- what a session begins with
abbrev pub session_start : LiveReaderValue → Option (List ℕ) → Option (List ℕ) → Start LiveReaderValue
session_start reader left written = record { machine = reader; left = left; written = written }

-- Lines of sessions, counted by their kinds.

-- the next number, up to the greatest
abbrev pub next : ℕ → ℕ
next count = min (count + 1) (2 ^ 64 - 1)

-- one line more, which was refused or not
abbrev pub one_line_more : Bool → LineCounts → LineCounts
one_line_more refused counts = record { answered = next counts.answered; refused = if refused then next counts.refused else counts.refused }

-- one line more of a kind
abbrev pub counted : LineKind → Bool → LineKinds → LineKinds
counted Copy refused kinds = record kinds { copy = one_line_more refused kinds.copy }
counted Get refused kinds = record kinds { get = one_line_more refused kinds.get }
counted Other refused kinds = record kinds { other = one_line_more refused kinds.other }
counted Read refused kinds = record kinds { read = one_line_more refused kinds.read }
counted Scan refused kinds = record kinds { scan = one_line_more refused kinds.scan }

-- one answered line less
abbrev pub one_line_less : LineCounts → LineCounts
one_line_less counts = record counts { answered = counts.answered - 1 }

-- one answered line of a kind less
abbrev pub taken_back : LineKind → LineKinds → LineKinds
taken_back Copy kinds = record kinds { copy = one_line_less kinds.copy }
taken_back Get kinds = record kinds { get = one_line_less kinds.get }
taken_back Other kinds = record kinds { other = one_line_less kinds.other }
taken_back Read kinds = record kinds { read = one_line_less kinds.read }
taken_back Scan kinds = record kinds { scan = one_line_less kinds.scan }
