-- A value that is read as a command is the JSON of that command, and that JSON is read as the command.
use Rattle.std.proofs.Common.{◌≡◌, inl, inr, ℕ, List, [], ◌∷◌, map, codes, true, Option, Some, None, Ok, refl, sym, ap, ◌∙◌, subst}
use Rattle.std.specs.List.{list_all}
use Rattle.std.specs.Option.{ok_or}
use Rattle.serde_json.specs.Data.{Data, number, string, array, object, unsigned, Members, no_members, member}
use Rattle.serde_json.specs.Find.{get_member, as_str, as_array, as_object}
use Rattle.serde_json.specs.View.{items_of}
use Rattle.pn_json.specs.Members.{whole_number, member_as, each_in, only_named}
use Rattle.pn_record.specs.Limits.{is_key}
use Rattle.pn_json.proofs.LookUps.{bind_ok, Rise, SameAt, same_by_name}
use Rattle.std.proofs.lemmas.Bool.{and_parts}
use Rattle.pn_scan.proofs.SameQuery.{query_again}
use Rattle.pn_scan.specs.Queries.{QueryValue}
use Rattle.pn_record.specs.Sets.{Stamp}
use Rattle.pn_join.specs.Marks.{Positions}
use Rattle.pn_protocol.specs.Command.Grammar.{delivery_data, tablet_member, adopt_command, copy_command, deliver_command, notices_command, read_command, scan_command, IsRequired, Says, IsCommand}
use Rattle.pn_protocol.specs.Command.Lines.{deliver_in, alone_in, command_as, allowed_in, command_in}
use Rattle.pn_protocol.specs.Command.Lookups.{get_in, notices_in, read_in, scan_in, query_at, query_shape, fitting_query}
use Rattle.pn_protocol.specs.Command.Meaning.{may_announce, may_be_asked, may_be_required, is_delivery, is_command, CommandValue, adopt, copy, deliver, lose, marks, notices, read, relayout, scan, tablets}
use Rattle.pn_protocol.specs.Command.Meaning as meaning
use Rattle.pn_protocol.specs.Command.Tablets.{need_at, need_shape, adopt_in, copy_in, lose_in, relayout_in}
use Rattle.pn_protocol.specs.Command.Checks.{fits, batches_fit, bounds_fit, keys_fit, fitting_version, named_alone, number_alone, keys_alone, batch_shape, key_shape, version_shape}
use Rattle.pn_protocol.specs.Command.Words.{members_of, word_in}
use Rattle.pn_protocol.specs.declared.command.word.CommandWord.{CommandWord}
use Rattle.pn_protocol.specs.declared.command.word.CommandWord.TheVariants.{Adopt, Copy, Deliver, Get, Lose, Marks, Notices, Read, Relayout, Scan, Tablets}
use Rattle.pn_protocol.specs.declared.refusal.MemberName.{MemberName}
use Rattle.pn_protocol.specs.declared.refusal.MemberName.TheVariants.{Whole, Do, Batches, Bounds, Key, Keys, Lines, Since, Tablet}
use Rattle.pn_protocol.specs.declared.refusal.Refusal.TheVariants.{BadShape}
use Rattle.pn_protocol.proofs.CommandLimits.{need_found, need_again, fits_true, deliver_members, deliveries_kept, deliveries_again, bounds_kept, bounds_again, keys_kept, keys_again, read_kept, version_again, as_ok}
use Rattle.pn_record.proofs.ReadImages.{InOrder}
use Rattle.pn_protocol.proofs.CommandParts.{text_at, number_at, array_at, object_of, are_named, rises, in_order, each_found, each_again, each_kept_again, array_in_order, batch_found, batch_again, text_of, word_at, key_found, key_again, after_key, version_required, query_there}

-- what the members of a word's object say
module _ (ms : Members) (order : InOrder (object ms)) where
  abbrev Found : CommandWord → Type 0
  Found word =
      (command : CommandValue) → get_member (codes "do") ms ≡ Some (string (text_of word)) → command_as word ms ≡ Ok command → IsCommand (object ms) command

  -- an object of these members alone
  pub named_object : (names : List (List ℕ)) (ns : Members) → named_alone names ms ≡ Ok tt → Rise ns → only_named names ns ≡ true → SameAt names ms ns → object ms ≡ object ns
  named_object names ns named rise also same = ap object (same_by_name names ms ns (rises (object ms) ms refl order) rise (are_named names ms named) also same)

  -- the number of a command, and the names of its members
  pub number_parts : (name : List ℕ) (names : List (List ℕ)) (member_name : MemberName) (n : ℕ) → number_alone name names member_name ms ≡ Ok n
      → (get_member name ms ≡ Some (number (unsigned n))) × (named_alone names ms ≡ Ok tt)
  number_parts name names member_name n is =
      let value = bind_ok (member_as whole_number (BadShape member_name) (get_member name ms)) _ n is in
      let named = bind_ok (named_alone names ms) _ n value.2 in
      let same : value.0 ≡ n = cc in
      (number_at member_name _ value.0 value.1 ∙ ap (λ m. Some (number (unsigned m))) same, named.1)

  -- the keys of a command, and the names of its members
  keys_parts : (name : List ℕ) (names : List (List ℕ)) (member_name : MemberName) (keys : List (List ℕ)) → keys_alone name names member_name ms ≡ Ok keys
      → (get_member name ms ≡ Some (array (items_of (map string keys)))) × (named_alone names ms ≡ Ok tt)
  keys_parts name names member_name keys is =
      let items = bind_ok (member_as as_array (BadShape member_name) (get_member name ms)) _ keys is in
      let texts = bind_ok (each_in (key_shape member_name) items.0) _ keys items.2 in
      let named = bind_ok (named_alone names ms) _ keys texts.2 in
      let same : texts.0 ≡ keys = cc in
      let there = array_at member_name _ items.0 items.1 in
      let inside = array_in_order name ms items.0 (in_order (object ms) ms refl order) there in (
        there ∙ ap (λ ds. Some (array ds)) (each_found (key_shape member_name) string (key_found member_name) items.0 texts.0 inside texts.1)
            ∙ ap (λ (texts : List (List ℕ)). Some (array (items_of (map string texts)))) same,
        named.1,
      )

  adopt_found : Found Adopt
  unfolding adopt_in
  adopt_found command says is =
      let lines = bind_ok (number_alone (codes "lines") (members_of Adopt) Lines ms) _ command is in
      let parts = number_parts (codes "lines") (members_of Adopt) Lines lines.0 lines.1 in
      let fit = bind_ok (fits Lines (may_announce lines.0)) _ command lines.2 in
      let same : adopt lines.0 ≡ command = cc in
      let whole = named_object (members_of Adopt) (member (codes "do") (string (codes "adopt")) (member (codes "lines") (number (unsigned lines.0)) no_members)) parts.1 tt refl
      (says, (parts.0, tt)) in
      subst (λ c. IsCommand (object ms) c) same (record { value = whole; limits = fits_true Lines (may_announce lines.0) fit.1 })

  copy_members : (tablet : ℕ) (o : Option Data) → get_member (codes "need") ms ≡ o → get_member (codes "do") ms ≡ Some (string (codes "copy")) → get_member (codes "tablet") ms ≡ Some (number (unsigned tablet))
      → named_alone (members_of Copy) ms ≡ Ok tt → object ms ≡ copy_command o tablet
  copy_members tablet None at says there named =
      named_object (members_of Copy) (member (codes "do") (string (codes "copy")) (tablet_member tablet)) named tt refl (says, (at, (there, tt)))
  copy_members tablet (Some d) at says there named =
      named_object (members_of Copy) (member (codes "do") (string (codes "copy")) (member (codes "need") d (tablet_member tablet))) named tt refl (says, (at, (there, tt)))

  copy_found : Found Copy
  unfolding copy_in
  copy_found command says is =
      let shape = bind_ok (need_shape (need_at (get_member (codes "need") ms))) _ command is in
      let tablet = bind_ok (member_as whole_number (BadShape Tablet) (get_member (codes "tablet") ms)) _ command shape.2 in
      let named = bind_ok (named_alone (members_of Copy) ms) _ command tablet.2 in
      let need = bind_ok (need_at (get_member (codes "need") ms)) _ command named.2 in
      let same : copy need.0 tablet.0 ≡ command = cc in
      let there = need_found (get_member (codes "need") ms) need.0 need.1 in
      let whole = copy_members tablet.0 _ refl says (number_at Tablet _ tablet.0 tablet.1) named.1 in
      subst (λ c. IsCommand (object ms) c) same (record { value = (get_member (codes "need") ms, there.0, whole); limits = there.1 })

  deliver_found : Found Deliver
  unfolding deliver_in
  deliver_found command says is =
      let items = bind_ok (member_as as_array (BadShape Batches) (get_member (codes "batches") ms)) _ command is in
      let batches = bind_ok (each_in batch_shape items.0) _ command items.2 in
      let named = bind_ok (named_alone (members_of Deliver) ms) _ command batches.2 in
      let fit = bind_ok (batches_fit batches.0) _ command named.2 in
      let same : deliver batches.0 ≡ command = cc in
      let at_batches = array_at Batches _ items.0 items.1 in
      let inside = array_in_order (codes "batches") ms items.0 (in_order (object ms) ms refl order) at_batches in
      let value : object ms ≡ deliver_command batches.0 =
      named_object (members_of Deliver) (deliver_members batches.0) named.1 tt refl
      (at_batches ∙ ap (λ ds. Some (array ds)) (each_found batch_shape delivery_data batch_found items.0 batches.0 inside batches.1), (says, tt)) in
      subst (λ c. IsCommand (object ms) c) same (record { value = value; limits = deliveries_kept batches.0 (subst InOrder value order) fit.1 })

  get_found : Found Get
  unfolding get_in
  get_found command says is =
      let keys = bind_ok (keys_alone (codes "keys") (members_of Get) Keys ms) _ command is in
      let parts = keys_parts (codes "keys") (members_of Get) Keys keys.0 keys.1 in
      let fit = bind_ok (keys_fit keys.0) _ command keys.2 in
      let same : meaning.get keys.0 ≡ command = cc in
      let whole = named_object (members_of Get) (member (codes "do") (string (codes "get")) (member (codes "keys") (array (items_of (map string keys.0))) no_members)) parts.1 tt refl
      (says, (parts.0, tt)) in
      subst (λ c. IsCommand (object ms) c) same (record { value = whole; limits = keys_kept keys.0 fit.1 })

  lose_found : Found Lose
  unfolding lose_in
  lose_found command says is =
      let tablet = bind_ok (number_alone (codes "tablet") (members_of Lose) Tablet ms) _ command is in
      let parts = number_parts (codes "tablet") (members_of Lose) Tablet tablet.0 tablet.1 in
      let same : lose tablet.0 ≡ command = cc in
      let whole = named_object (members_of Lose) (member (codes "do") (string (codes "lose")) (tablet_member tablet.0)) parts.1 tt refl (says, (parts.0, tt)) in
      subst (λ c. IsCommand (object ms) c) same (record { value = whole; limits = refl })

  alone_found : (word : CommandWord) (said : CommandValue) → members_of word ≡ codes "do" ∷ [] → Says (object (member (codes "do") (string (text_of word)) no_members)) said → is_command said ≡ true
      → get_member (codes "do") ms ≡ Some (string (text_of word)) → named_alone (codes "do" ∷ []) ms ≡ Ok tt → IsCommand (object ms) said
  alone_found word said names value limits says named =
      let whole = named_object (codes "do" ∷ []) (member (codes "do") (string (text_of word)) no_members) named tt refl (says, tt) in
      record { value = subst (λ d. Says d said) (sym whole) value; limits = limits }

  marks_found : Found Marks
  unfolding alone_in
  marks_found command says is =
      let named = bind_ok (named_alone (members_of Marks) ms) _ command is in
      let same : marks ≡ command = cc in
      subst (λ c. IsCommand (object ms) c) same (alone_found Marks marks refl refl refl says named.1)

  notices_found : Found Notices
  unfolding notices_in
  notices_found command says is =
      let since = bind_ok (number_alone (codes "since") (members_of Notices) Since ms) _ command is in
      let parts = number_parts (codes "since") (members_of Notices) Since since.0 since.1 in
      let fit = bind_ok (fits Since (may_be_asked since.0)) _ command since.2 in
      let same : notices since.0 ≡ command = cc in
      let whole = named_object (members_of Notices) (member (codes "do") (string (codes "notices")) (member (codes "since") (number (unsigned since.0)) no_members)) parts.1 tt refl
      (says, (parts.0, tt)) in
      subst (λ c. IsCommand (object ms) c) same (record { value = whole; limits = fits_true Since (may_be_asked since.0) fit.1 })

  read_members : (key : List ℕ) (o : Option Data) → get_member (codes "version") ms ≡ o → get_member (codes "do") ms ≡ Some (string (codes "read")) → get_member (codes "key") ms ≡ Some (string key)
      → named_alone (members_of Read) ms ≡ Ok tt → object ms ≡ read_command key (after_key o)
  read_members key None at says there named =
      named_object (members_of Read) (member (codes "do") (string (codes "read")) (member (codes "key") (string key) no_members)) named tt refl (says, (there, (at, tt)))
  read_members key (Some d) at says there named =
      named_object (members_of Read) (member (codes "do") (string (codes "read")) (member (codes "key") (string key) (member (codes "version") d no_members))) named tt refl (says, (there, (at, tt)))

  read_found : Found Read
  unfolding read_in
  read_found command says is =
      let text = bind_ok (member_as as_str (BadShape Key) (get_member (codes "key") ms)) _ command is in
      let numbers = bind_ok (version_shape (get_member (codes "version") ms)) _ command text.2 in
      let named = bind_ok (named_alone (members_of Read) ms) _ command numbers.2 in
      let fit = bind_ok (fits Key (is_key text.0)) _ command named.2 in
      let version = bind_ok (fitting_version numbers.0) _ command fit.2 in
      let kept = read_kept text.0 numbers.0 version.0 fit.1 version.1 in
      let same : read text.0 version.0 ≡ command = cc in
      let whole = read_members text.0 _ refl says (text_at Key _ text.0 text.1) named.1 in
      subst (λ c. IsCommand (object ms) c) (ap (read text.0) kept.0 ∙ same)
      (record { value = (after_key (get_member (codes "version") ms), version_required _ numbers.0 numbers.1, whole); limits = kept.1 })

  relayout_found : Found Relayout
  unfolding relayout_in
  relayout_found command says is =
      let bounds = bind_ok (keys_alone (codes "bounds") (members_of Relayout) Bounds ms) _ command is in
      let parts = keys_parts (codes "bounds") (members_of Relayout) Bounds bounds.0 bounds.1 in
      let fit = bind_ok (bounds_fit bounds.0) _ command bounds.2 in
      let same : relayout bounds.0 ≡ command = cc in
      let whole = named_object (members_of Relayout) (member (codes "bounds") (array (items_of (map string bounds.0))) (member (codes "do") (string (codes "relayout")) no_members)) parts.1 tt refl
      (parts.0, (says, tt)) in
      subst (λ c. IsCommand (object ms) c) same (record { value = whole; limits = bounds_kept bounds.0 fit.1 })

  scan_found : Found Scan
  unfolding scan_in
  scan_found command says is =
      let shape = bind_ok (query_shape (query_at (get_member (codes "query") ms))) _ command is in
      let named = bind_ok (named_alone (members_of Scan) ms) _ command shape.2 in
      let query = bind_ok (fitting_query (query_at (get_member (codes "query") ms))) _ command named.2 in
      let same : scan query.0 ≡ command = cc in
      let there = query_there (get_member (codes "query") ms) query.0 (as_ok _ _ query.0 query.1) in
      let whole = named_object (members_of Scan) (member (codes "do") (string (codes "scan")) (member (codes "query") there.0 no_members)) named.1 tt refl (says, (there.1, tt)) in
      subst (λ c. IsCommand (object ms) c) same (record { value = (there.0, there.2, whole); limits = there.3 })

  tablets_found : Found Tablets
  unfolding alone_in
  tablets_found command says is =
      let named = bind_ok (named_alone (members_of Tablets) ms) _ command is in
      let same : tablets ≡ command = cc in
      subst (λ c. IsCommand (object ms) c) same (alone_found Tablets tablets refl refl refl says named.1)

  word_found : (word : CommandWord) → Found word
  word_found Adopt = adopt_found
  word_found Copy = copy_found
  word_found Deliver = deliver_found
  word_found Get = get_found
  word_found Lose = lose_found
  word_found Marks = marks_found
  word_found Notices = notices_found
  word_found Read = read_found
  word_found Relayout = relayout_found
  word_found Scan = scan_found
  word_found Tablets = tablets_found

-- a value that is read as a command is the command's
pub command_found : (d : Data) (command : CommandValue) → InOrder d → command_in d ≡ Ok command → IsCommand d command
unfolding allowed_in
command_found d command order is =
    let members = bind_ok (ok_or (as_object d) (BadShape Whole)) _ command is in
    let word = bind_ok (member_as word_in (BadShape Do) (get_member (codes "do") members.0)) _ command members.2 in
    let whole = object_of d (BadShape Whole) members.0 members.1 in
    subst (λ e. IsCommand e command) (sym whole)
    (word_found members.0 (subst InOrder whole order) word.0 command (word_at _ word.0 word.1) word.2)

read_again : (key : List ℕ) (required : Option Stamp) (others : Members) → IsRequired others required → is_key key ≡ true → fitting_version required ≡ Ok required
    → command_in (read_command key others) ≡ Ok (read key required)
unfolding allowed_in read_in
read_again key None others (inl absent) fits version = rw (absent, fits) refl
read_again key None others (inr none) fits version = rw (none, fits) refl
read_again key (Some required) others there fits version = rw (there, fits, version) refl

scan_again : (asked : Data) (query : QueryValue) → query_at (Some asked) ≡ Ok query → command_in (scan_command asked) ≡ Ok (scan query)
unfolding allowed_in scan_in
scan_again asked query is = rw is refl

adopt_again : (lines : ℕ) → may_announce lines ≡ true → command_in (adopt_command lines) ≡ Ok (adopt lines)
unfolding allowed_in adopt_in
adopt_again lines keeps = rw keeps refl

notices_again : (since : ℕ) → may_be_asked since ≡ true → command_in (notices_command since) ≡ Ok (notices since)
unfolding allowed_in notices_in
notices_again since keeps = rw keeps refl

copy_again : (said : Option Data) (need : Positions) (tablet : ℕ) → need_at said ≡ Ok need → command_in (copy_command said tablet) ≡ Ok (copy need tablet)
unfolding allowed_in copy_in
copy_again None need tablet is = let none : [] ≡ need = cc in ap (λ (marks : Positions). Ok (copy marks tablet)) none
copy_again (Some d) need tablet is = rw is refl

-- a command's value is read as the command
says_again : (d : Data) (command : CommandValue) → Says d command → is_command command ≡ true → command_in d ≡ Ok command
unfolding allowed_in deliver_in get_in lose_in relayout_in alone_in
says_again d (adopt lines) says keeps = ap command_in says ∙ adopt_again lines keeps
says_again d (copy need tablet) (said, is, says) keeps = ap command_in says ∙ copy_again said need tablet (need_again said need is keeps)
says_again d (deliver deliveries) says keeps =
    let parts = and_parts _ (list_all is_delivery deliveries) keeps in
    ap command_in says ∙ rw (each_kept_again batch_shape delivery_data is_delivery batch_again deliveries parts.1, deliveries_again deliveries keeps) refl
says_again d (meaning.get keys) says keeps = ap command_in says ∙ rw (each_again (key_shape Keys) string (key_again Keys) keys, keys_again keys keeps) refl
says_again d (lose tablet) says keeps = ap command_in says
says_again d marks says keeps = ap command_in says
says_again d (notices since) says keeps = ap command_in says ∙ notices_again since keeps
says_again d (read key required) (others, about, says) keeps =
    let parts = and_parts (is_key key) (may_be_required required) keeps in
    ap command_in says ∙ read_again key required others about parts.0 (version_again required parts.1)
says_again d (relayout bounds) says keeps = ap command_in says ∙ rw (each_again (key_shape Bounds) string (key_again Bounds) bounds, bounds_again bounds keeps) refl
says_again d (scan query) (asked, shape, says) keeps =
    ap command_in says ∙ scan_again asked query (query_again asked query (shape, keeps))
says_again d tablets says keeps = ap command_in says

pub command_again : (d : Data) (command : CommandValue) → IsCommand d command → command_in d ≡ Ok command
command_again d command is = says_again d command is.value is.limits
