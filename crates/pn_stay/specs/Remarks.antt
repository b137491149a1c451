-- What a publisher says of its stream, and what is said to it: positions, and faults in words.
use Rattle.std.specs.Prelude.{◌≡◌, ℕ, max, nat_eq, nat_lt, Bool, true, ◌&&◌, not, if◌then◌else◌, List, [], ◌∷◌, length, codes, Option, Some, None, Result, Ok, Err, ◌<◌, ◌≤◌, ◌⊎◌, false, take, ◌++◌, decimal}
use Rattle.std.specs.List.{starts_with}
use Rattle.std.specs.Option.{ok_or}
use Rattle.std.specs.Str.{bytes_eq}
use Rattle.serde_json.specs.Data.{Data, object, string, no_members, member}
use Rattle.serde_json.specs.Find.{as_object, as_str, get}
use Rattle.pn_join.specs.declared.marks.TheConstants.{LAST_POSITION}
use Rattle.pn_json.specs.Answers.{◌>>=◌, fault_as}
use Rattle.pn_json.specs.Members.{member_as, no_others, whole_number}
use Rattle.pn_record.specs.Prelude.{max_line_bytes, value_at}
use Rattle.pn_record.specs.Grammar.{word_of, word_of_fault}
use Rattle.pn_record.specs.declared.fault.ImageFault.{ImageFault}
use Rattle.pn_record.specs.declared.fault.ImageFault.TheVariants.{TooLong, NotJson, Memory as no_memory, BadShape, OutOfRange}
use Rattle.pn_stream.specs.declared.fault.StreamFault.{StreamFault}
use Rattle.pn_stream.specs.declared.fault.StreamFault.TheVariants.{Read, LineTooLong, BadMessage, OutOfStep, Memory, Failed}
use Rattle.pn_stream.specs.declared.fault.ResumeFault.{ResumeFault}
use Rattle.pn_stream.specs.declared.fault.ResumeFault.TheVariants.{Stream, Gap}
use Rattle.pn_serve.specs.Server.Reports.{IsShown}
use Rattle.pn_stay.specs.declared.streams.remarks.TheConstants.{MAX_IDENTITY_BYTES}
use Rattle.pn_stay.specs.declared.streams.remarks.RemarkFault.{RemarkFault}
use Rattle.pn_stay.specs.declared.streams.remarks.RemarkFault.TheVariants.{Other}
use Rattle.pn_stay.specs.declared.streams.remarks.LineKind.{LineKind}
use Rattle.pn_stay.specs.declared.streams.remarks.LineKind.TheVariants.{Message, Newest, Unknown}
use Rattle.pn_stay.specs.declared.streams.remarks.Step.{Step}
use Rattle.pn_stay.specs.declared.streams.remarks.Step.TheVariants.{Give, Hear}

-- The positions that publishers of a stream are sent.

-- a publisher goes on after the greater of what was handed to rounds and a mark of the stream
pub record GoesOn (handed after : ℕ) : Type 0 where
  pub taken : ℕ
  pub is_mark : IsShown taken
  pub is : after ≡ max handed taken

-- What a publisher says of its stream, and which publishers of a stream are taken.

-- what a line begins with that says whose stream it is
abbrev pub stream_words : List ℕ
stream_words = codes "{\"stream\":"

-- what a line begins with that says how far the broker is
abbrev pub newest_words : List ℕ
newest_words = codes "{\"newest\":"

-- the bytes begin with the first ones, or are the beginning of them
abbrev pub agrees : List ℕ → List ℕ → Bool
agrees first bytes = if nat_lt (length bytes) (length first) then starts_with nat_eq first bytes else starts_with nat_eq bytes first

-- the value of a line that begins with the first bytes
unfoldable pub remark_at : List ℕ → List ℕ → Result Data RemarkFault
remark_at first line = if agrees first line then fault_as (λ fault. Other) (value_at line) else Err Other

-- the bytes may be the beginning of a line that begins with the first ones
abbrev pub may_go_on : List ℕ → List ℕ → Bool
may_go_on first bytes = not (nat_lt max_line_bytes (length bytes)) && agrees first bytes

-- a text that may say whose stream it is
abbrev pub is_identity : List ℕ → Bool
is_identity text = not (nat_lt (length text) 1) && not (nat_lt MAX_IDENTITY_BYTES (length text))

-- whose stream a value says it is
unfoldable pub stream_in : Data → Result (List ℕ) RemarkFault
stream_in d = do
  members ← ok_or (as_object d) Other
  stream ← member_as as_str Other (get (codes "stream") d)
  named ← no_others (codes "stream" ∷ []) Other members
  if is_identity stream then Ok stream else Err Other

-- whose stream a line says it is
unfoldable pub stream_at : List ℕ → Result (List ℕ) RemarkFault
stream_at line = remark_at stream_words line >>= stream_in

-- the newest position that a value says
unfoldable pub newest_in : Data → Result ℕ RemarkFault
newest_in d = do
  members ← ok_or (as_object d) Other
  newest ← member_as whole_number Other (get (codes "newest") d)
  named ← no_others (codes "newest" ∷ []) Other members
  if nat_lt LAST_POSITION newest then Err Other else Ok newest

-- the newest position that a line says
unfoldable pub newest_at : List ℕ → Result ℕ RemarkFault
newest_at line = remark_at newest_words line >>= newest_in

-- that the region has another stream than its publisher's
abbrev pub other_stream_data : List ℕ → List ℕ → Data
other_stream_data has got =
    object (member (codes "error") (string (codes "other-stream")) (member (codes "got") (string got) (member (codes "has") (string has) no_members)))

-- the stream of a region after what a publisher says: the first one that was said
abbrev pub kept_after : Option (List ℕ) → Option (List ℕ) → Option (List ℕ)
kept_after None said = said
kept_after (Some has) said = Some has

-- a publisher is taken that says nothing, the first one that says something, and one that says the same
abbrev pub is_taken : Option (List ℕ) → Option (List ℕ) → Bool
is_taken has None = true
is_taken None (Some got) = true
is_taken (Some has) (Some got) = bytes_eq has got

-- What comes next of a publisher's bytes.

-- what a line is, of which the beginning went on or not, and whose newline is there or not
abbrev pub IsKind : Bool → List ℕ → Bool → LineKind → Type 0
IsKind inside line ended Message = (inside ≡ true) ⊎ ((ended ≡ true) × (newest_at line ≡ Err Other)) ⊎ (may_go_on newest_words line ≡ false)
IsKind inside line ended (Newest newest) = (inside ≡ false) × (ended ≡ true) × (newest_at line ≡ Ok newest)
IsKind inside line ended Unknown = (ended ≡ false) × (may_go_on newest_words line ≡ true)

-- the step takes some of the bytes: as many as there is room for, or a line that says how far the broker is
abbrev pub IsStep : Bool → List ℕ → ℕ → Step → Type 0
IsStep inside bytes room (Give count after) = (1 ≤ count) × (count ≤ room) × (count ≤ length bytes)
IsStep inside bytes room (Hear line newest) = (line < length bytes) × (inside ≡ false) × (newest_at (take line bytes) ≡ Ok newest)

-- What is said of a fault of a publisher, in words and in a line for the publisher.

-- what is wrong with a publisher's input
abbrev pub stream_word : StreamFault → List ℕ
stream_word Read = codes "read"
stream_word LineTooLong = codes "too-long"
stream_word (BadMessage position fault) = word_of_fault fault
stream_word (OutOfStep wanted got) = codes "out-of-step"
stream_word Memory = codes "memory"
stream_word Failed = codes "read"

-- the member at fault, as a member of the line for the publisher
abbrev pub member_detail : ImageFault → List ℕ
member_detail TooLong = []
member_detail NotJson = []
member_detail no_memory = []
member_detail (BadShape part) = codes ",\"member\":\"" ++ (word_of part ++ codes "\"")
member_detail (OutOfRange part) = codes ",\"member\":\"" ++ (word_of part ++ codes "\"")

-- what the line for the publisher says beside the word
abbrev pub stream_detail : StreamFault → List ℕ
stream_detail Read = []
stream_detail LineTooLong = []
stream_detail (BadMessage position fault) = member_detail fault
stream_detail (OutOfStep wanted got) = codes ",\"got\":" ++ decimal got
stream_detail Memory = []
stream_detail Failed = []

-- the line for the publisher, where the message at this position was wanted
abbrev pub refusal_line : ResumeFault → ℕ → List ℕ
refusal_line (Gap got wanted) position = codes "{\"error\":\"gap\",\"got\":" ++ (decimal got ++ (codes ",\"wanted\":" ++ (decimal wanted ++ codes "}\n")))
refusal_line (Stream fault) position =
    codes "{\"at\":" ++ (decimal position ++ (codes ",\"error\":\"" ++ (stream_word fault ++ (codes "\"" ++ (stream_detail fault ++ codes "}\n")))))

-- the image's fault in words
abbrev pub image_words : ImageFault → List ℕ
image_words TooLong = word_of_fault TooLong
image_words NotJson = word_of_fault NotJson
image_words no_memory = word_of_fault no_memory
image_words (BadShape part) = codes "bad-shape " ++ word_of part
image_words (OutOfRange part) = codes "out-of-range " ++ word_of part

-- the fault of a stream in words
abbrev pub stream_fault_words : StreamFault → List ℕ
stream_fault_words Read = stream_word Read
stream_fault_words LineTooLong = stream_word LineTooLong
stream_fault_words (BadMessage position fault) = image_words fault
stream_fault_words (OutOfStep wanted got) = codes "out-of-step, got " ++ decimal got
stream_fault_words Memory = stream_word Memory
stream_fault_words Failed = stream_word Failed

-- the fault of a publisher in words
abbrev pub reason_words : ResumeFault → List ℕ
reason_words (Gap got wanted) = codes "gap, got " ++ (decimal got ++ (codes ", wanted " ++ decimal wanted))
reason_words (Stream fault) = stream_fault_words fault

-- a stream that failed at a position, on a line of its publisher's input
abbrev pub failure_words : List ℕ → ResumeFault → ℕ → ℕ → List ℕ
failure_words name fault position line =
    codes "stream " ++ (name ++ (codes " failed at " ++ (decimal position ++ (codes " (line " ++ (decimal line ++ (codes "): " ++ reason_words fault))))))
