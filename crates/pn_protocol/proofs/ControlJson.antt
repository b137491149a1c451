-- A value that is read as a command of a control session is the JSON of that command, and that JSON is read as the command.
use Rattle.std.proofs.Common.{◌≡◌, inl, inr, ℕ, List, [], ◌∷◌, codes, Bool, true, false, cond, Option, Some, None, option_and_then, Result, Ok, Err, bytes_eq, refl, sym, ap, ◌∙◌, subst}
use Rattle.std.proofs.lemmas.Bool.{and_parts, and_from}
use Rattle.std.proofs.lemmas.Slice.Eq.{bytes_eq-Decides}
use Rattle.std.specs.Option.{ok_or}
use Rattle.serde_json.specs.Data.{Data, null, boolean, number, string, array, object, unsigned, Members, no_members, member}
use Rattle.serde_json.specs.Find.{get, get_member, as_str, as_object}
use Rattle.pn_json.specs.Answers.{◌>>=◌}
use Rattle.pn_json.specs.Members.{whole_number, member_as}
use Rattle.pn_json.proofs.LookUps.{bind_ok, ok_or_ok, and_then_some, string_from_as_str, number_from_whole}
use Rattle.pn_record.proofs.ReadImages.{InOrder}
use Rattle.pn_protocol.specs.Command.Controls.{AreSeconds, waiting_command, stop_command, SaysControl, is_shared, is_control, IsControl, ControlValue, script, notices, advance, stats, stop, control_members, control_word_of, control_word_in, are_seconds, may_adopt, seconds_in, seconds_at, alone_as, adoption_in, waiting_in, stop_in, script_as, control_as, control_in}
use Rattle.pn_protocol.specs.Command.Grammar.{Says, adopt_command, copy_command}
use Rattle.pn_protocol.specs.Command.Meaning.{may_be_asked, is_command, CommandValue, adopt, copy, deliver, lose, marks, read, relayout, scan, tablets}
use Rattle.pn_protocol.specs.Command.Meaning as meaning
use Rattle.pn_protocol.specs.Command.Lines.{allowed_word, allowed_in, command_in}
use Rattle.pn_protocol.specs.Command.Checks.{fits, named_alone, number_alone}
use Rattle.pn_protocol.specs.Command.Words.{word_in}
use Rattle.pn_protocol.specs.declared.command.control.ControlWord.{ControlWord}
use Rattle.pn_protocol.specs.declared.command.control.ControlWord.TheVariants.{Adopt, Advance, Notices, Stats, Stop}
use Rattle.pn_protocol.specs.declared.command.control.TheConstants.{STOP_SECONDS}
use Rattle.pn_protocol.specs.declared.command.parse.AllowedCommands.TheVariants.{Controls}
use Rattle.pn_protocol.specs.declared.refusal.MemberName.{MemberName}
use Rattle.pn_protocol.specs.declared.refusal.MemberName.TheVariants.{Whole, Do, Lines, Seconds, Since, Wait}
use Rattle.pn_protocol.specs.declared.refusal.Refusal.{Refusal}
use Rattle.pn_protocol.specs.declared.refusal.Refusal.TheVariants.{BadShape, ReadOnly}
use Rattle.pn_protocol.proofs.CommandJson.{named_object, number_parts, command_found, command_again}
use Rattle.pn_protocol.proofs.CommandLimits.{fits_true}
use Rattle.pn_protocol.proofs.CommandParts.{number_at, object_of}

-- the text of a word
abbrev text_of : ControlWord → List ℕ
text_of Adopt = codes "adopt"
text_of Advance = codes "advance"
text_of Notices = codes "notices"
text_of Stats = codes "stats"
text_of Stop = codes "stop"

this_or_next : (b : Bool) (text : List ℕ) (one word : ControlWord) (next : Option ControlWord) → bytes_eq text (text_of one) ≡ b → cond b (Some one) next ≡ Some word → (next ≡ Some word → text ≡ text_of word) → text ≡ text_of word
this_or_next true text one word next is found further = let same : one ≡ word = cc in (bytes_eq-Decides text (text_of one)).0 is ∙ ap text_of same
this_or_next false text one word next is found further = further found

text_from_word : (text : List ℕ) (word : ControlWord) → control_word_of text ≡ Some word → text ≡ text_of word
text_from_word text word found =
    this_or_next _ text Adopt word _ refl found (λ found. this_or_next _ text Advance word _ refl found (λ found. this_or_next _ text Notices word _ refl found (λ found.
    this_or_next _ text Stats word _ refl found (λ found. this_or_next _ text Stop word _ refl found (λ none. absurd (cc))))))

word_at : (o : Option Data) (word : ControlWord) → control_word_in o ≡ Some word → o ≡ Some (string (text_of word))
word_at o word is =
    let text = and_then_some (option_and_then as_str o) control_word_of word is in
    let found = and_then_some o as_str text.0 text.1 in
    found.1 ∙ ap Some (string_from_as_str found.0 text.0 found.2 ∙ ap string (text_from_word text.0 word text.2))

-- what is read of a member are its seconds
usual_seconds : (o : Option Data) (usual seconds : ℕ) → (seconds ≡ usual → AreSeconds usual o seconds) → ◌≡◌ {A = Result ℕ Refusal} (Ok usual) (Ok seconds) → AreSeconds usual o seconds
usual_seconds o usual seconds so is = so (cc)

number_said : (d : Data) (usual : ℕ) (member_name : MemberName) (seconds : ℕ) → ok_or (whole_number d) (BadShape member_name) ≡ Ok seconds → AreSeconds usual (Some d) seconds
number_said d usual member_name seconds is = inr (number_from_whole d seconds (ok_or_ok (whole_number d) (BadShape member_name) seconds is))

seconds_said : (d : Data) (usual : ℕ) (member_name : MemberName) (seconds : ℕ) → seconds_in usual member_name d ≡ Ok seconds → AreSeconds usual (Some d) seconds
seconds_said null usual member_name seconds is = usual_seconds (Some null) usual seconds (λ same. inl (refl, same)) is
seconds_said (boolean b) usual member_name seconds is = number_said (boolean b) usual member_name seconds is
seconds_said (number n) usual member_name seconds is = number_said (number n) usual member_name seconds is
seconds_said (string s) usual member_name seconds is = number_said (string s) usual member_name seconds is
seconds_said (array ds) usual member_name seconds is = number_said (array ds) usual member_name seconds is
seconds_said (object ms) usual member_name seconds is = number_said (object ms) usual member_name seconds is

seconds_found : (o : Option Data) (usual : ℕ) (member_name : MemberName) (seconds : ℕ) → seconds_at usual member_name o ≡ Ok seconds → AreSeconds usual o seconds
seconds_found None usual member_name seconds is = usual_seconds None usual seconds (λ same. same) is
seconds_found (Some d) usual member_name seconds is = seconds_said d usual member_name seconds is

-- the seconds of a member are read of it
seconds_again : (o : Option Data) (usual : ℕ) (member_name : MemberName) (seconds : ℕ) → AreSeconds usual o seconds → seconds_at usual member_name o ≡ Ok seconds
seconds_again None usual member_name seconds same = ap Ok (sym same)
seconds_again (Some d) usual member_name seconds (inl (absent, same)) = ap (seconds_in usual member_name) absent ∙ ap Ok (sym same)
seconds_again (Some d) usual member_name seconds (inr says) = ap (seconds_in usual member_name) says

-- what the members of a word's object say
module _ (ms : Members) (order : InOrder (object ms)) where
  alone_found : (word : ControlWord) (said command : ControlValue) → SaysControl (object (member (codes "do") (string (text_of word)) no_members)) said → is_control said ≡ true
      → control_members word ≡ codes "do" ∷ [] → get_member (codes "do") ms ≡ Some (string (text_of word)) → alone_as word said ms ≡ Ok command → IsControl (object ms) command
  unfolding alone_as
  alone_found word said command value limits names says is =
      let named = bind_ok (named_alone (control_members word) ms) _ command is in
      let same : said ≡ command = cc in
      let whole = named_object ms order (codes "do" ∷ []) (member (codes "do") (string (text_of word)) no_members)
      (subst (λ (ns : List (List ℕ)). named_alone ns ms ≡ Ok tt) names named.1) tt refl (says, tt) in
      subst (λ c. IsControl (object ms) c) same (record { value = subst (λ d. SaysControl d said) (sym whole) value; limits = limits })

  adoption_found : (command : ControlValue) → get_member (codes "do") ms ≡ Some (string (codes "adopt")) → adoption_in ms ≡ Ok command → IsControl (object ms) command
  unfolding adoption_in
  adoption_found command says is =
      let lines = bind_ok (number_alone (codes "lines") (control_members Adopt) Lines ms) _ command is in
      let parts = number_parts ms order (codes "lines") (control_members Adopt) Lines lines.0 lines.1 in
      let fit = bind_ok (fits Lines (may_adopt lines.0)) _ command lines.2 in
      let same : script (adopt lines.0) ≡ command = cc in
      let whole = named_object ms order (control_members Adopt) (member (codes "do") (string (codes "adopt")) (member (codes "lines") (number (unsigned lines.0)) no_members)) parts.1 tt refl
      (says, (parts.0, tt)) in
      subst (λ c. IsControl (object ms) c) same (record { value = whole; limits = fits_true Lines (may_adopt lines.0) fit.1 })

  waiting_members : (since : ℕ) (o : Option Data) → get_member (codes "wait") ms ≡ o → get_member (codes "do") ms ≡ Some (string (codes "notices")) → get_member (codes "since") ms ≡ Some (number (unsigned since))
      → named_alone (control_members Notices) ms ≡ Ok tt → object ms ≡ waiting_command since o
  waiting_members since None at says there named =
      named_object ms order (control_members Notices) (member (codes "do") (string (codes "notices")) (member (codes "since") (number (unsigned since)) no_members)) named tt refl
      (says, (there, (at, tt)))
  waiting_members since (Some d) at says there named =
      named_object ms order (control_members Notices)
      (member (codes "do") (string (codes "notices")) (member (codes "since") (number (unsigned since)) (member (codes "wait") d no_members))) named tt refl
      (says, (there, (at, tt)))

  waiting_found : (command : ControlValue) → get_member (codes "do") ms ≡ Some (string (codes "notices")) → waiting_in ms ≡ Ok command → IsControl (object ms) command
  unfolding waiting_in
  waiting_found command says is =
      let since = bind_ok (member_as whole_number (BadShape Since) (get_member (codes "since") ms)) _ command is in
      let wait = bind_ok (seconds_at 0 Wait (get_member (codes "wait") ms)) _ command since.2 in
      let named = bind_ok (named_alone (control_members Notices) ms) _ command wait.2 in
      let asked = bind_ok (fits Since (may_be_asked since.0)) _ command named.2 in
      let fit = bind_ok (fits Wait (are_seconds wait.0)) _ command asked.2 in
      let same : notices since.0 wait.0 ≡ command = cc in
      let whole = waiting_members since.0 _ refl says (number_at Since _ since.0 since.1) named.1 in
      let kept = and_from (may_be_asked since.0) (are_seconds wait.0) (fits_true Since _ asked.1) (fits_true Wait _ fit.1) in
      subst (λ c. IsControl (object ms) c) same
      (record { value = (get_member (codes "wait") ms, seconds_found _ 0 Wait wait.0 wait.1, whole); limits = kept })

  stop_members : (o : Option Data) → get_member (codes "seconds") ms ≡ o → get_member (codes "do") ms ≡ Some (string (codes "stop")) → named_alone (control_members Stop) ms ≡ Ok tt
      → object ms ≡ stop_command o
  stop_members None at says named = named_object ms order (control_members Stop) (member (codes "do") (string (codes "stop")) no_members) named tt refl (says, (at, tt))
  stop_members (Some d) at says named =
      named_object ms order (control_members Stop) (member (codes "do") (string (codes "stop")) (member (codes "seconds") d no_members)) named tt refl (says, (at, tt))

  stop_found : (command : ControlValue) → get_member (codes "do") ms ≡ Some (string (codes "stop")) → stop_in ms ≡ Ok command → IsControl (object ms) command
  unfolding stop_in
  stop_found command says is =
      let seconds = bind_ok (seconds_at STOP_SECONDS Seconds (get_member (codes "seconds") ms)) _ command is in
      let named = bind_ok (named_alone (control_members Stop) ms) _ command seconds.2 in
      let fit = bind_ok (fits Seconds (are_seconds seconds.0)) _ command named.2 in
      let same : stop seconds.0 ≡ command = cc in
      let whole = stop_members _ refl says named.1 in
      subst (λ c. IsControl (object ms) c) same
      (record { value = (get_member (codes "seconds") ms, seconds_found _ STOP_SECONDS Seconds seconds.0 seconds.1, whole); limits = fits_true Seconds _ fit.1 })

-- a command that control sessions may give is one that may be given
all_allowed : (d : Data) (command : CommandValue) → allowed_in Controls d ≡ Ok command → command_in d ≡ Ok command
unfolding allowed_in
all_allowed d command is =
    let members = bind_ok (ok_or (as_object d) (BadShape Whole)) _ command is in
    let word = bind_ok (member_as word_in (BadShape Do) (get_member (codes "do") members.0)) _ command members.2 in
    let may = bind_ok (allowed_word Controls word.0) _ command word.2 in
    rw (members.1, word.1) may.2

never : (command : CommandValue) → ◌≡◌ {A = Result CommandValue Refusal} (Err ReadOnly) (Ok command) → ⊥
never command is = cc

not_this : (word : ControlWord) → ◌≡◌ {A = Option ControlWord} (Some word) None → ⊥
not_this word is = cc

-- with another word it is a command that control sessions have as scripts have it
shared_found : (d : Data) (command : CommandValue) → control_word_in (get (codes "do") d) ≡ None → allowed_in Controls d ≡ Ok command → Says d command → is_shared command ≡ true
unfolding allowed_in
shared_found d (adopt lines) other is says = absurd (not_this Adopt (sym (ap (λ e. control_word_in (get (codes "do") e)) says) ∙ other))
shared_found d (deliver deliveries) other is says = absurd (never (deliver deliveries) (sym (ap (allowed_in Controls) says) ∙ is))
shared_found d (meaning.notices since) other is says = absurd (not_this Notices (sym (ap (λ e. control_word_in (get (codes "do") e)) says) ∙ other))
shared_found d (relayout bounds) other is says = absurd (never (relayout bounds) (sym (ap (allowed_in Controls) says) ∙ is))
shared_found d command other is says = refl

false_true : {A : Type 0} → ◌≡◌ {A = Bool} false true → A
false_true is = absurd (cc)

shared_kept : (command : CommandValue) → is_shared command ≡ true → is_command command ≡ true → is_control (script command) ≡ true
shared_kept (adopt lines) shared keeps = false_true shared
shared_kept command shared keeps = and_from (is_shared command) (is_command command) shared keeps

script_found : (d : Data) (command : ControlValue) → InOrder d → control_word_in (get (codes "do") d) ≡ None → script_as d ≡ Ok command → IsControl d command
script_found d command order other is =
    let read = bind_ok (allowed_in Controls d) _ command is in
    let same : script read.0 ≡ command = cc in
    let found = command_found d read.0 order (all_allowed d read.0 read.1) in
    let kept = shared_kept read.0 (shared_found d read.0 other read.1 found.value) found.limits in
    subst (λ c. IsControl d c) same (record { value = found.value; limits = kept })

word_found : (ms : Members) → InOrder (object ms) → (word : Option ControlWord) (command : ControlValue) → control_word_in (get_member (codes "do") ms) ≡ word → control_as word (object ms) ms ≡ Ok command
    → IsControl (object ms) command
word_found ms order (Some Adopt) command says is = adoption_found ms order command (word_at _ Adopt says) is
word_found ms order (Some Advance) command says is = alone_found ms order Advance advance command refl refl refl (word_at _ Advance says) is
word_found ms order (Some Notices) command says is = waiting_found ms order command (word_at _ Notices says) is
word_found ms order (Some Stats) command says is = alone_found ms order Stats stats command refl refl refl (word_at _ Stats says) is
word_found ms order (Some Stop) command says is = stop_found ms order command (word_at _ Stop says) is
word_found ms order None command says is = script_found (object ms) command order says is

-- a value that is read as a command of a control session is the command's
pub control_found : (d : Data) (command : ControlValue) → InOrder d → control_in d ≡ Ok command → IsControl d command
unfolding control_in
control_found d command order is =
    let members = bind_ok (ok_or (as_object d) (BadShape Whole)) _ command is in
    let whole = object_of d (BadShape Whole) members.0 members.1 in
    let read = subst (λ e. control_as (control_word_in (get_member (codes "do") members.0)) e members.0 ≡ Ok command) whole members.2 in
    subst (λ e. IsControl e command) (sym whole) (word_found members.0 (subst InOrder whole order) _ command refl read)

-- it is read as scripts read it
abbrev IsReadAlike : Data → Type 0
IsReadAlike d = control_in d ≡ (command_in d >>= λ command. Ok (script command))

copied_alike : (said : Option Data) (tablet : ℕ) → IsReadAlike (copy_command said tablet)
unfolding control_in allowed_in
copied_alike None tablet = refl
copied_alike (Some need) tablet = refl

read_alike : (d : Data) (command : CommandValue) → Says d command → is_shared command ≡ true → IsReadAlike d
unfolding control_in allowed_in
read_alike d (adopt lines) says shared = false_true shared
read_alike d (copy need tablet) (said, about, says) shared = subst IsReadAlike (sym says) (copied_alike said tablet)
read_alike d (deliver deliveries) says shared = false_true shared
read_alike d (meaning.get keys) says shared = subst IsReadAlike (sym says) refl
read_alike d (lose tablet) says shared = subst IsReadAlike (sym says) refl
read_alike d marks says shared = subst IsReadAlike (sym says) refl
read_alike d (meaning.notices since) says shared = false_true shared
read_alike d (read key required) (others, about, says) shared = subst IsReadAlike (sym says) refl
read_alike d (relayout bounds) says shared = false_true shared
read_alike d (scan query) (asked, shape, says) shared = subst IsReadAlike (sym says) refl
read_alike d tablets says shared = subst IsReadAlike (sym says) refl

script_again : (d : Data) (command : CommandValue) → Says d command → is_shared command ≡ true → is_command command ≡ true → control_in d ≡ Ok (script command)
script_again d command says shared keeps =
    read_alike d command says shared ∙ ap (λ read. read >>= λ said. Ok (script said)) (command_again d command (record { value = says; limits = keeps }))

adoption_again : (lines : ℕ) → may_adopt lines ≡ true → control_in (adopt_command lines) ≡ Ok (script (adopt lines))
unfolding control_in adoption_in
adoption_again lines keeps = rw keeps refl

waiting_again : (since : ℕ) (said : Option Data) (wait : ℕ) → seconds_at 0 Wait said ≡ Ok wait → may_be_asked since ≡ true → are_seconds wait ≡ true → control_in (waiting_command since said) ≡ Ok (notices since wait)
unfolding control_in waiting_in
waiting_again since None wait is asked kept =
    let none : 0 ≡ wait = cc in
    rw asked (ap (λ seconds. Ok (notices since seconds)) none)
waiting_again since (Some d) wait is asked kept = rw (is, asked, kept) refl

stop_again : (said : Option Data) (seconds : ℕ) → seconds_at STOP_SECONDS Seconds said ≡ Ok seconds → are_seconds seconds ≡ true → control_in (stop_command said) ≡ Ok (stop seconds)
unfolding control_in stop_in
stop_again None seconds is kept =
    let none : STOP_SECONDS ≡ seconds = cc in
    ap (λ usual. Ok (stop usual)) none
stop_again (Some d) seconds is kept = rw (is, kept) refl

says_again : (d : Data) (command : ControlValue) → SaysControl d command → is_control command ≡ true → control_in d ≡ Ok command
unfolding control_in alone_as
says_again d (script (adopt lines)) says keeps = ap control_in says ∙ adoption_again lines keeps
says_again d (script command) says keeps =
    let parts = and_parts (is_shared command) (is_command command) keeps in
    script_again d command says parts.0 parts.1
says_again d (notices since wait) (said, about, says) keeps =
    let parts = and_parts (may_be_asked since) (are_seconds wait) keeps in
    ap control_in says ∙ waiting_again since said wait (seconds_again said 0 Wait wait about) parts.0 parts.1
says_again d advance says keeps = ap control_in says
says_again d stats says keeps = ap control_in says
says_again d (stop seconds) (said, about, says) keeps =
    ap control_in says ∙ stop_again said seconds (seconds_again said STOP_SECONDS Seconds seconds about) keeps

-- the JSON of a command is read as the command
pub control_again : (d : Data) (command : ControlValue) → IsControl d command → control_in d ≡ Ok command
control_again d command is = says_again d command is.value is.limits
