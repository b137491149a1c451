-- The words of commands, and the kinds of the lines of sessions.
use Rattle.std.specs.Prelude.{ℕ, List, [], ◌∷◌, codes, if◌then◌else◌, Option, Some, None, option_and_then, Result, Ok, Err}
use Rattle.std.specs.Str.{bytes_eq}
use Rattle.std.specs.Option.{ok_or}
use Rattle.serde_json.specs.Data.{Data}
use Rattle.serde_json.specs.Find.{as_str, as_object, get_member}
use Rattle.pn_json.specs.Answers.{◌>>=◌}
use Rattle.pn_json.specs.Members.{member_as}
use Rattle.pn_record.specs.Reading.{value_at}
use Rattle.pn_record.specs.declared.fault.ImageFault.{ImageFault}
use Rattle.pn_protocol.specs.declared.command.word.CommandUsers.{CommandUsers}
use Rattle.pn_protocol.specs.declared.command.word.CommandUsers.TheVariants.{Controls, Scripts, Sessions}
use Rattle.pn_protocol.specs.declared.command.word.CommandWord.{CommandWord}
use Rattle.pn_protocol.specs.declared.command.word.CommandWord.TheVariants.{Adopt, Copy, Deliver, Get, Lose, Marks, Notices, Read, Relayout, Scan, Tablets}
use Rattle.pn_protocol.specs.declared.command.word.LineKind.{LineKind}
use Rattle.pn_protocol.specs.declared.refusal.MemberName.TheVariants.{Do, Whole}
use Rattle.pn_protocol.specs.declared.refusal.Refusal.{Refusal}
use Rattle.pn_protocol.specs.declared.refusal.Refusal.TheVariants.{BadShape}
use Rattle.pn_protocol.specs.declared.command.word.LineKind.TheVariants as kind

-- The words of commands.

-- the word that a text is
abbrev pub word_of : List ℕ → Option CommandWord
word_of text =
    if bytes_eq text (codes "adopt") then Some Adopt else
    (if bytes_eq text (codes "copy") then Some Copy else
    (if bytes_eq text (codes "deliver") then Some Deliver else
    (if bytes_eq text (codes "get") then Some Get else
    (if bytes_eq text (codes "lose") then Some Lose else
    (if bytes_eq text (codes "marks") then Some Marks else
    (if bytes_eq text (codes "notices") then Some Notices else
    (if bytes_eq text (codes "read") then Some Read else
    (if bytes_eq text (codes "relayout") then Some Relayout else
    (if bytes_eq text (codes "scan") then Some Scan else
    (if bytes_eq text (codes "tablets") then Some Tablets else None))))))))))

-- who may say a command
abbrev pub users_of : CommandWord → CommandUsers
users_of Adopt = Controls
users_of Copy = Sessions
users_of Deliver = Scripts
users_of Get = Sessions
users_of Lose = Controls
users_of Marks = Controls
users_of Notices = Controls
users_of Read = Sessions
users_of Relayout = Scripts
users_of Scan = Sessions
users_of Tablets = Controls

-- the names of the members of a command
abbrev pub members_of : CommandWord → List (List ℕ)
members_of Adopt = codes "do" ∷ codes "lines" ∷ []
members_of Copy = codes "do" ∷ codes "need" ∷ codes "tablet" ∷ []
members_of Deliver = codes "batches" ∷ codes "do" ∷ []
members_of Get = codes "do" ∷ codes "keys" ∷ []
members_of Lose = codes "do" ∷ codes "tablet" ∷ []
members_of Marks = codes "do" ∷ []
members_of Notices = codes "do" ∷ codes "since" ∷ []
members_of Read = codes "do" ∷ codes "key" ∷ codes "version" ∷ []
members_of Relayout = codes "bounds" ∷ codes "do" ∷ []
members_of Scan = codes "do" ∷ codes "query" ∷ []
members_of Tablets = codes "do" ∷ []

-- the word that a value is
abbrev pub word_in : Data → Option CommandWord
word_in d = option_and_then word_of (as_str d)

-- The kinds of the lines of sessions.

-- the word of the command that a value says, whatever its other members are
abbrev pub word_at : Data → Result CommandWord Refusal
word_at d = ok_or (as_object d) (BadShape Whole) >>= (λ members. member_as word_in (BadShape Do) (get_member (codes "do") members))

-- the kind of a command: what sessions have, and all others
abbrev pub kind_of : CommandWord → LineKind
kind_of Adopt = kind.Other
kind_of Copy = kind.Copy
kind_of Deliver = kind.Other
kind_of Get = kind.Get
kind_of Lose = kind.Other
kind_of Marks = kind.Other
kind_of Notices = kind.Other
kind_of Read = kind.Read
kind_of Relayout = kind.Other
kind_of Scan = kind.Scan
kind_of Tablets = kind.Other

-- the kind of a word; what is no word is one of the others
abbrev pub kind_of_word : Result CommandWord Refusal → LineKind
kind_of_word (Ok word) = kind_of word
kind_of_word (Err refusal) = kind.Other

-- the kind of what was read of a line
abbrev pub kind_read : Result Data ImageFault → LineKind
kind_read (Ok d) = kind_of_word (word_at d)
kind_read (Err fault) = kind.Other

-- the kind of a line, which it has also where it is refused
abbrev pub kind_at : List ℕ → LineKind
kind_at line = kind_read (value_at line)
