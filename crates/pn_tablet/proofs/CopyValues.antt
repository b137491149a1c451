-- What a line of a copy is read as, its value is the JSON of; and that JSON is read as it.
use Rattle.std.proofs.Common.{◌≡◌, ℕ, List, [], ◌∷◌, length, codes, Bool, true, false, cond, ◌==◌, Option, Some, None, is_some, Result, Ok, Err, ltb, refl, sym, ap, ◌∙◌, subst, eqb-true}
use Rattle.std.proofs.lemmas.Bool.{le-ltb}
use Rattle.std.specs.Option.{ok_or}
use Rattle.serde_json.specs.Data.{Data, null, boolean, number, string, array, object, unsigned, Members, no_members, member}
use Rattle.serde_json.specs.Find.{get, get_member, as_str, as_object}
use Rattle.pn_json.specs.Answers.{◌>>=◌}
use Rattle.pn_json.specs.Members.{whole_number, member_as, no_others, only_named}
use Rattle.pn_json.proofs.LookUps.{bind_ok, guard_ok, no_fault, ok_or_ok, and_then_some, string_from_as_str, object_from_as_object, number_from_whole, Rise, same_by_name}
use Rattle.pn_record.specs.declared.fault.ImageFault.TheVariants.{TooLong, NotJson}
use Rattle.pn_record.specs.Grammar.{image_in}
use Rattle.pn_record.specs.Limits.{Field}
use Rattle.pn_record.specs.Marks.{is_mark}
use Rattle.pn_record.specs.Reading.{IsLine, value_at, reading}
use Rattle.pn_record.specs.Writing.{image_data}
use Rattle.pn_record.proofs.ImageLines as lines
use Rattle.pn_record.proofs.ReadImages.{image_in_order, InOrder, in_order}
use Rattle.pn_record.proofs.SameImage.{image_again}
use Rattle.pn_tablet.specs.CopyTexts.{Head, head_data, is_range, IsHead, IsValue, form_number, form_at, may_hold}
use Rattle.pn_tablet.specs.Layouts.{key_data, Ends}
use Rattle.pn_tablet.specs.CopyReading.{or_as, if_fits, end_of, head_in, mark_in, end_in, record_in, line_in, head_at, line_at}
use Rattle.pn_tablet.specs.declared.copy.Form.{Form}
use Rattle.pn_tablet.specs.declared.copy.Form.TheVariants.{Texts, Numbers}
use Rattle.pn_tablet.specs.declared.copy_line.CopyLine.{CopyLine}
use Rattle.pn_tablet.specs.declared.copy_line.CopyLine.TheVariants.{Mark, Record, End}

-- ---- members

at_found : {A F : Type 0} (kind : Data → Option A) (written : A → Data) → ((d : Data) (a : A) → kind d ≡ Some a → d ≡ written a)
    → (fault : F) (o : Option Data) (a : A) → member_as kind fault o ≡ Ok a → o ≡ Some (written a)
at_found kind written one fault o a is =
    let found = and_then_some o kind a (ok_or_ok _ fault a is) in
    found.1 ∙ ap Some (one found.0 a found.2)

end_found : (d : Data) (key : Option (List ℕ)) → end_of d ≡ Some key → d ≡ key_data key
end_found null key is = let same : None ≡ key = cc in ap key_data same
end_found (string text) key is = let same : Some text ≡ key = cc in ap key_data same
end_found (boolean b) key is = absurd (cc)
end_found (number n) key is = absurd (cc)
end_found (array ds) key is = absurd (cc)
end_found (object ms) key is = absurd (cc)

-- the form of a number has that number
form_found : (n : ℕ) (form : Form) → form_at n ≡ Some form → n ≡ form_number form
form_found n form is = one_of (n == 1) (n == 2) refl refl is
  where
    one_of : (first second : Bool) → (n == 1) ≡ first → (n == 2) ≡ second → cond first (Some Texts) (cond second (Some Numbers) None) ≡ Some form → n ≡ form_number form
    one_of true second one two is = let same : Texts ≡ form = cc in eqb-true n 1 one ∙ ap form_number same
    one_of false true one two is = let same : Numbers ≡ form = cc in eqb-true n 2 two ∙ ap form_number same
    one_of false false one two is = absurd (cc)

rises : (d : Data) (ms : Members) → d ≡ object ms → InOrder d → Rise ms
rises d ms is order = let inside : InOrder (object ms) = subst InOrder is order in inside.0

module _ {F : Type 0} (fault : F) where
  -- the member of a name in an object
  stands : (d : Data) (ms : Members) (name : List ℕ) (e : Data) → d ≡ object ms → get name d ≡ Some e → get_member name ms ≡ Some e
  stands d ms name e whole is = ap (get name) (sym whole) ∙ is

  named_of : (names : List (List ℕ)) (ms : Members) (u : Unit {0}) → no_others names fault ms ≡ Ok u → only_named names ms ≡ true
  named_of names ms u is = (guard_ok (only_named names ms) tt u fault is).0

  -- ---- heads

  abbrev ranged : Form → Ends → Bool → Result Head F
  ranged form range fits = if_fits fits fault range >>= (λ r. Ok (form, r))

  head_again_of : (form : Form) (from to : Option (List ℕ)) → is_range (from, to) ≡ true → head_in fault (head_data (form, (from, to))) ≡ Ok (form, (from, to))
  unfolding head_in
  head_again_of Texts None None fits = refl
  head_again_of Texts None (Some to) fits = ap (ranged Texts (None, Some to)) fits
  head_again_of Texts (Some from) None fits = ap (ranged Texts (Some from, None)) fits
  head_again_of Texts (Some from) (Some to) fits = ap (ranged Texts (Some from, Some to)) fits
  head_again_of Numbers None None fits = refl
  head_again_of Numbers None (Some to) fits = ap (ranged Numbers (None, Some to)) fits
  head_again_of Numbers (Some from) None fits = ap (ranged Numbers (Some from, None)) fits
  head_again_of Numbers (Some from) (Some to) fits = ap (ranged Numbers (Some from, Some to)) fits

  head_again : (d : Data) (head : Head) → IsHead d head → head_in fault d ≡ Ok head
  head_again d head is = ap (head_in fault) is.value ∙ head_again_of head.0 head.1.0 head.1.1 is.limits

  head_says : (form : Form) (ends range : Ends) (head : Head) → ends ≡ range → ◌≡◌ {A = Result Head F} (Ok (form, range)) (Ok head) → ◌≡◌ {A = Head} (form, ends) head
  head_says form ends range head same is = let whole : ◌≡◌ {A = Head} (form, range) head = cc in ap (λ (r : Ends). (form, r)) same ∙ whole

  head_found : (d : Data) (head : Head) → InOrder d → head_in fault d ≡ Ok head → IsHead d head
  unfolding head_in
  head_found d head order is =
      let members = bind_ok (ok_or (as_object d) fault) _ head is in
      let at_copy = bind_ok (member_as whole_number fault (get (codes "copy") d)) _ head members.2 in
      let from = bind_ok (member_as end_of fault (get (codes "from") d)) _ head at_copy.2 in
      let to = bind_ok (member_as end_of fault (get (codes "to") d)) _ head from.2 in
      let names = codes "copy" ∷ codes "from" ∷ codes "to" ∷ [] in
      let named = bind_ok (no_others names fault members.0) _ head to.2 in
      let form = bind_ok (ok_or (form_at at_copy.0) fault) _ head named.2 in
      let range = bind_ok (if_fits (is_range (from.0, to.0)) fault (from.0, to.0)) _ head form.2 in
      let fits = guard_ok (is_range (from.0, to.0)) (from.0, to.0) range.0 fault range.1 in
      let says = head_says form.0 (from.0, to.0) range.0 head fits.1 range.2 in
      let ms = members.0 in
      let whole : d ≡ object ms = object_from_as_object d ms (ok_or_ok (as_object d) fault ms members.1) in
      let n_is : at_copy.0 ≡ form_number form.0 = form_found at_copy.0 form.0 (ok_or_ok (form_at at_copy.0) fault form.0 form.1) in
      let at_form : get_member (codes "copy") ms ≡ Some (number (unsigned (form_number form.0))) =
      stands d ms (codes "copy") _ whole (at_found whole_number (λ n. number (unsigned n)) number_from_whole fault _ at_copy.0 at_copy.1 ∙ ap (λ n. Some (number (unsigned n))) n_is) in
      let at_from = stands d ms (codes "from") _ whole (at_found end_of key_data end_found fault _ from.0 from.1) in
      let at_to = stands d ms (codes "to") _ whole (at_found end_of key_data end_found fault _ to.0 to.1) in
      let written = member (codes "copy") (number (unsigned (form_number form.0))) (member (codes "from") (key_data from.0) (member (codes "to") (key_data to.0) no_members)) in
      let same : ms ≡ written = same_by_name names ms written (rises d ms whole order) tt (named_of names ms named.0 named.1) refl (at_form, (at_from, (at_to, tt))) in
      subst (IsHead d) says (record { value = whole ∙ ap object same; limits = fits.0 })

  -- ---- lines after the head

  mark_found : (form : Form) (d : Data) (says : CopyLine) → InOrder d → mark_in fault d ≡ Ok says → IsValue form d says
  unfolding mark_in
  mark_found form d says order is =
      let members = bind_ok (ok_or (as_object d) fault) _ says is in
      let position = bind_ok (member_as whole_number fault (get (codes "at") d)) _ says members.2 in
      let name = bind_ok (member_as as_str fault (get (codes "stream") d)) _ says position.2 in
      let names = codes "at" ∷ codes "stream" ∷ [] in
      let named = bind_ok (no_others names fault members.0) _ says name.2 in
      let fits = guard_ok (is_mark (name.0, position.0)) (Mark name.0 position.0) says fault named.2 in
      let ms = members.0 in
      let whole : d ≡ object ms = object_from_as_object d ms (ok_or_ok (as_object d) fault ms members.1) in
      let at_position = stands d ms (codes "at") _ whole (at_found whole_number (λ n. number (unsigned n)) number_from_whole fault _ position.0 position.1) in
      let at_name = stands d ms (codes "stream") _ whole (at_found as_str string string_from_as_str fault _ name.0 name.1) in
      let mark = member (codes "at") (number (unsigned position.0)) (member (codes "stream") (string name.0) no_members) in
      let same : ms ≡ mark = same_by_name names ms mark (rises d ms whole order) tt (named_of names ms named.0 named.1) refl (at_position, (at_name, tt)) in
      subst (IsValue form d) fits.1 (whole ∙ ap object same, fits.0)

  end_line_found : (form : Form) (d : Data) (says : CopyLine) → InOrder d → end_in fault d ≡ Ok says → IsValue form d says
  unfolding end_in
  end_line_found form d says order is =
      let members = bind_ok (ok_or (as_object d) fault) _ says is in
      let count = bind_ok (member_as whole_number fault (get (codes "end") d)) _ says members.2 in
      let names = codes "end" ∷ [] in
      let named = bind_ok (no_others names fault members.0) _ says count.2 in
      let ms = members.0 in
      let whole : d ≡ object ms = object_from_as_object d ms (ok_or_ok (as_object d) fault ms members.1) in
      let at_count = stands d ms (codes "end") _ whole (at_found whole_number (λ n. number (unsigned n)) number_from_whole fault _ count.0 count.1) in
      let last = member (codes "end") (number (unsigned count.0)) no_members in
      let same : ms ≡ last = same_by_name names ms last (rises d ms whole order) tt (named_of names ms named.0 named.1) refl (at_count, tt) in
      let says_end : End count.0 ≡ says = cc named.2 in
      subst (IsValue form d) says_end (whole ∙ ap object same)

  as_ok : {A E : Type 0} (read : Result A E) (a : A) → or_as fault read ≡ Ok a → read ≡ Ok a
  as_ok (Ok x) a is = cc
  as_ok (Err e) a is = absurd (cc)

  record_found : (form : Form) (d : Data) (says : CopyLine) → InOrder d → record_in form fault d ≡ Ok says → IsValue form d says
  unfolding record_in
  record_found form d says order is =
      let image = bind_ok (or_as fault (image_in d)) _ says is in
      let holds = guard_ok (may_hold form image.0) (Record image.0) says fault image.2 in
      subst (IsValue form d) holds.1 (image_in_order d image.0 order (as_ok (image_in d) image.0 image.1), holds.0)

  either : {A : Type 0} {P : Type 0} (b : Bool) (x y : Result A F) (a : A) → (x ≡ Ok a → P) → (y ≡ Ok a → P) → cond b x y ≡ Ok a → P
  either true x y a first second is = first is
  either false x y a first second is = second is

  line_found : (form : Form) (d : Data) (says : CopyLine) → InOrder d → line_in form fault d ≡ Ok says → IsValue form d says
  unfolding line_in
  line_found form d says order is =
      let has_at = is_some (get (codes "at") d) in
      let has_end = is_some (get (codes "end") d) in
      either has_at (mark_in fault d) (cond has_end (end_in fault d) (record_in form fault d)) says (mark_found form d says order) (λ other.
      either has_end (end_in fault d) (record_in form fault d) says (end_line_found form d says order) (record_found form d says order) other) is

  no_image_at : (key master : List ℕ) (version : ℕ × ℕ) (f : Option (List Field)) → get (codes "at") (image_data (record { key = key; version = version; content = (f, master) })) ≡ None
  no_image_at key master version None = refl
  no_image_at key master version (Some fields) = refl

  no_image_end : (key master : List ℕ) (version : ℕ × ℕ) (f : Option (List Field)) → get (codes "end") (image_data (record { key = key; version = version; content = (f, master) })) ≡ None
  no_image_end key master version None = refl
  no_image_end key master version (Some fields) = refl

  line_again : (form : Form) (d : Data) (says : CopyLine) → IsValue form d says → line_in form fault d ≡ Ok says
  unfolding line_in mark_in end_in record_in
  line_again form d (Mark name position) is = rw (is.0, is.1) refl
  line_again form d (Record image) is =
      let at : get (codes "at") d ≡ None = ap (get (codes "at")) is.0.value ∙ no_image_at image.key image.content.1 image.version image.content.0 in
      let end : get (codes "end") d ≡ None = ap (get (codes "end")) is.0.value ∙ no_image_end image.key image.content.1 image.version image.content.0 in
      rw (at, end, image_again d image is.0, is.1) refl
  line_again form d (End count) is = rw is refl

  -- ---- and so of lines

  value_of_line : {A : Type 0} (IsSpelled : Data → A → Type 0) (line : List ℕ) (meant : A) → (is : IsLine IsSpelled line meant) → value_at line ≡ Ok is.value
  unfolding value_at
  value_of_line IsSpelled line meant is = rw (le-ltb 65536 (length line) is.short, is.read) refl

  value_in_order : (line : List ℕ) (d : Data) → value_at line ≡ Ok d → InOrder d
  unfolding value_at
  value_in_order line d is = in_order line d (ok_or_ok (reading line) NotJson d (no_fault (ltb 65536 (length line)) TooLong _ d is).1)

  pub head_at-found : (line : List ℕ) (head : Head) → head_at fault line ≡ Ok head → IsLine IsHead line head
  unfolding head_at
  head_at-found line head is =
      let read = bind_ok (or_as fault (value_at line)) (head_in fault) head is in
      let value = as_ok (value_at line) read.0 read.1 in
      lines.line_found IsHead line read.0 head value (head_found read.0 head (value_in_order line read.0 value) read.2)

  pub head_at-again : (line : List ℕ) (head : Head) → IsLine IsHead line head → head_at fault line ≡ Ok head
  unfolding head_at
  head_at-again line head is = rw (value_of_line IsHead line head is) (head_again is.value head is.spelled)

  pub line_at-found : (form : Form) (line : List ℕ) (says : CopyLine) → line_at form fault line ≡ Ok says → IsLine (IsValue form) line says
  unfolding line_at
  line_at-found form line says is =
      let read = bind_ok (or_as fault (value_at line)) (line_in form fault) says is in
      let value = as_ok (value_at line) read.0 read.1 in
      lines.line_found (IsValue form) line read.0 says value (line_found form read.0 says (value_in_order line read.0 value) read.2)

  pub line_at-again : (form : Form) (line : List ℕ) (says : CopyLine) → IsLine (IsValue form) line says → line_at form fault line ≡ Ok says
  unfolding line_at
  line_at-again form line says is = rw (value_of_line (IsValue form) line says is) (line_again form is.value says is.spelled)
