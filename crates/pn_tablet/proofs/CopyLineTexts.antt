-- The text of a value has no newline, and that of a line of a copy is short.
use Rattle.std.proofs.Common.{◌≡◌, ◌≢◌, ℕ, zero, suc, pos, negsuc, ◌+◌, ◌/◌, ◌%◌, ◌^◌, ◌<◌, ◌≤◌, ◌==◌, ◌||◌, List, [], ◌∷◌, ◌++◌, length, codes, Bool, true, false, not, cond, ◌&&◌, Option, Some, None, decimal, ltb, leb, refl, sym, ap, ◌∙◌, arith, length-append}
use Rattle.std.proofs.lemmas.Bool.{and_parts, false≢true, ltb-false, leb-true}
use Rattle.std.proofs.lemmas.Fmt.{length-decimal-le}
use Rattle.std.specs.Fmt.{digits, digits_onto, digit_glyph}
use Rattle.std.proofs.lemmas.List.Elements.{All-nil, All-cons, All-append}
use Rattle.std.specs.Char.{digit_char}
use Rattle.std.specs.List.{list_all, sum_by}
use Rattle.json.specs.Print.{escape_byte, escape_letter, escape, quoted}
use Rattle.serde_json.specs.Data.{Data, null, boolean, number, string, array, object, unsigned, negative, float, Items, no_items, item, Members, no_members, member}
use Rattle.serde_json.specs.Written.{compact_text, items_text, members_text, comma_if}
use Rattle.pn_join.specs.Marks.{is_position}
use Rattle.pn_join.specs.Naming.{is_name, is_name_byte}
use Rattle.pn_join.specs.declared.marks.TheConstants.{LAST_POSITION}
use Rattle.pn_line.specs.Line.{IsUnbroken}
use Rattle.pn_record.specs.Limits.{field_size, fields_fit, names_rise, is_body, Field, is_field, is_version}
use Rattle.pn_record.specs.declared.version.TheConstants.{MAX_VERSION_NUMBER}
use Rattle.pn_record.specs.Marks.{is_mark}
use Rattle.pn_record.specs.Writing.{value_data, fields_data, body_data, image_data}
use Rattle.pn_record.proofs.ImageText.{length-quoted}
use Rattle.pn_record.proofs.ShapeParts.{field_value}
use Rattle.pn_tablet.specs.CopyTexts.{head_data, mark_data, end_data, form_number}
use Rattle.pn_tablet.specs.Layouts.{key_data, is_end}
use Rattle.pn_tablet.specs.declared.copy.Form.{Form}
use Rattle.pn_tablet.specs.declared.copy.Form.TheVariants.{Texts, Numbers}

also : (x : ℕ) (xs : List ℕ) → x ≢ 10 → IsUnbroken xs → IsUnbroken (x ∷ xs)
also x xs other unbroken = All-cons (λ b. b ≢ 10) x xs other unbroken

none : IsUnbroken []
none = All-nil (λ b. b ≢ 10)

both : (xs ys : List ℕ) → IsUnbroken xs → IsUnbroken ys → IsUnbroken (xs ++ ys)
both xs ys first second = All-append (λ b. b ≢ 10) xs ys first second

-- bytes that can be looked at
literal : (xs : List ℕ) → list_all (λ x. not (x == 10)) xs ≡ true → IsUnbroken xs
literal [] is = none
literal (x ∷ xs) is =
    let parts = and_parts (not (x == 10)) (list_all (λ y. not (y == 10)) xs) is in
    also x xs (λ ten. false≢true (sym (ap (λ y. not (y == 10)) ten) ∙ parts.0)) (literal xs parts.1)

-- ---- strings and numbers

letter_not : (a : Bool) (x y : ℕ) → (a ≡ true → x ≢ 10) → y ≢ 10 → cond a x y ≢ 10
letter_not true x y one two = one refl
letter_not false x y one two = two

escape_letter-not : (x : ℕ) → escape_letter x ≢ 10
escape_letter-not x =
    letter_not ((x == 34) || (x == 92)) x _ (λ is ten. false≢true (sym (ap (λ y. (y == 34) || (y == 92)) ten) ∙ is))
    (letter_not (x == 8) 98 _ (λ _ e. omega (arith, e))
    (letter_not (x == 12) 102 _ (λ _ e. omega (arith, e))
    (letter_not (x == 10) 110 _ (λ _ e. omega (arith, e))
    (letter_not (x == 13) 114 _ (λ _ e. omega (arith, e))
    (letter_not (x == 9) 116 0 (λ _ e. omega (arith, e)) (λ e. omega (arith, e)))))))

digit_char-not : (d : ℕ) → digit_char d ≢ 10
digit_char-not d = letter_not (ltb d 10) (48 + d) (87 + d) (λ _ e. omega (arith, e)) (λ e. omega (arith, e))

either : (b : Bool) (xs ys : List ℕ) → IsUnbroken xs → (b ≡ false → IsUnbroken ys) → IsUnbroken (cond b xs ys)
either true xs ys first second = first
either false xs ys first second = second refl

escape_byte-unbroken : (x : ℕ) → IsUnbroken (escape_byte x)
unfolding escape_byte
escape_byte-unbroken x =
    let hex : List ℕ = 92 ∷ 117 ∷ 48 ∷ 48 ∷ digit_char (x / 16) ∷ digit_char (x % 16) ∷ [] in
    either (ltb 0 (escape_letter x)) (92 ∷ escape_letter x ∷ []) (cond (ltb x 32) hex (x ∷ []))
    (also 92 (escape_letter x ∷ []) (λ e. omega (arith, e)) (also (escape_letter x) [] (escape_letter-not x) none)) (λ _.
    either (ltb x 32) hex (x ∷ [])
    (both (92 ∷ 117 ∷ 48 ∷ 48 ∷ []) (digit_char (x / 16) ∷ digit_char (x % 16) ∷ []) (literal (92 ∷ 117 ∷ 48 ∷ 48 ∷ []) refl)
    (also (digit_char (x / 16)) (digit_char (x % 16) ∷ []) (digit_char-not (x / 16)) (also (digit_char (x % 16)) [] (digit_char-not (x % 16)) none)))
    (λ great. also x [] (λ e. omega (arith, e, ltb-false x 32 great)) none))

escape-unbroken : (s : List ℕ) → IsUnbroken (escape s)
escape-unbroken [] = none
escape-unbroken (x ∷ s) = both (escape_byte x) (escape s) (escape_byte-unbroken x) (escape-unbroken s)

quoted-unbroken : (s : List ℕ) → IsUnbroken (quoted s)
quoted-unbroken s = also 34 (escape s ++ 34 ∷ []) (λ e. omega (arith, e)) (both (escape s) (34 ∷ []) (escape-unbroken s) (literal (34 ∷ []) refl))

glyph-not : (d : ℕ) → digit_glyph false d ≢ 10
glyph-not d = letter_not (ltb d 10) (48 + d) (87 + d) (λ _ e. omega (arith, e)) (λ e. omega (arith, e))

digits-unbroken : (k n : ℕ) (after : List ℕ) → IsUnbroken after → IsUnbroken (digits_onto k 10 false n after)
digits-unbroken zero n after unbroken = unbroken
digits-unbroken (suc k) n after unbroken =
    let more = also (digit_glyph false (n % 10)) after (glyph-not (n % 10)) unbroken in
    either (n / 10 == 0) (digit_glyph false (n % 10) ∷ after) (digits_onto k 10 false (n / 10) (digit_glyph false (n % 10) ∷ after)) more (λ _. digits-unbroken k (n / 10) (digit_glyph false (n % 10) ∷ after) more)

decimal-unbroken : (n : ℕ) → IsUnbroken (decimal n)
unfolding digits
decimal-unbroken n = digits-unbroken 64 n [] none

-- ---- values

comma_if-unbroken : (later : Bool) → IsUnbroken (comma_if later)
comma_if-unbroken true = literal (44 ∷ []) refl
comma_if-unbroken false = none

mutual
  pub text-unbroken : (d : Data) → IsUnbroken (compact_text d)
  text-unbroken null = literal (110 ∷ 117 ∷ 108 ∷ 108 ∷ []) refl
  text-unbroken (boolean true) = literal (116 ∷ 114 ∷ 117 ∷ 101 ∷ []) refl
  text-unbroken (boolean false) = literal (102 ∷ 97 ∷ 108 ∷ 115 ∷ 101 ∷ []) refl
  text-unbroken (number (unsigned n)) = decimal-unbroken n
  text-unbroken (number (negative (pos n))) = decimal-unbroken n
  text-unbroken (number (negative (negsuc n))) = also 45 (decimal (suc n)) (λ e. omega (arith, e)) (decimal-unbroken (suc n))
  text-unbroken (number (float x)) = none
  text-unbroken (string s) = quoted-unbroken s
  text-unbroken (array ds) = also 91 (items_text false ds) (λ e. omega (arith, e)) (items-unbroken false ds)
  text-unbroken (object ms) = also 123 (members_text false ms) (λ e. omega (arith, e)) (members-unbroken false ms)

  items-unbroken : (later : Bool) (ds : Items) → IsUnbroken (items_text later ds)
  items-unbroken later no_items = literal (93 ∷ []) refl
  items-unbroken later (item d ds) =
      both (comma_if later) (compact_text d ++ items_text true ds) (comma_if-unbroken later)
      (both (compact_text d) (items_text true ds) (text-unbroken d) (items-unbroken true ds))

  members-unbroken : (later : Bool) (ms : Members) → IsUnbroken (members_text later ms)
  members-unbroken later no_members = literal (125 ∷ []) refl
  members-unbroken later (member name d ms) =
      both (comma_if later) (quoted name ++ 58 ∷ (compact_text d ++ members_text true ms)) (comma_if-unbroken later)
      (both (quoted name) (58 ∷ (compact_text d ++ members_text true ms)) (quoted-unbroken name)
      (also 58 (compact_text d ++ members_text true ms) (λ e. omega (arith, e))
      (both (compact_text d) (members_text true ms) (text-unbroken d) (members-unbroken true ms))))

-- each field of a body that fits is a field
pub fields_are : (fields : List Field) → is_body (Some fields) ≡ true → list_all is_field fields ≡ true
fields_are fields is =
    let fits = and_parts (fields_fit fields) (names_rise fields) is in
    let together = and_parts (leb (length fields) 64 && list_all is_field fields) (leb (sum_by field_size fields) 8192) fits.0 in
    (and_parts (leb (length fields) 64) (list_all is_field fields) together.0).1

below_word : (n : ℕ) → leb n MAX_VERSION_NUMBER ≡ true → n < 2 ^ 64
below_word n is = omega (arith, leb-true n MAX_VERSION_NUMBER is)

pub below_version : (version : ℕ × ℕ) → is_version version ≡ true → (version.0 < 2 ^ 64) × (version.1 < 2 ^ 64)
below_version version is =
    let second = and_parts (leb 1 version.0 && leb version.0 MAX_VERSION_NUMBER) (leb version.1 MAX_VERSION_NUMBER) is in
    let first = and_parts (leb 1 version.0) (leb version.0 MAX_VERSION_NUMBER) second.0 in
    (below_word version.0 first.1, below_word version.1 second.1)

pub below_mark : (name : List ℕ) (position : ℕ) → is_mark (name, position) ≡ true → position < 2 ^ 64
below_mark name position is =
    let parts = and_parts (is_name name) (is_position position) is in
    below_word position (and_parts (leb 1 position) (leb position LAST_POSITION) parts.1).1

pub small_form : (form : Form) → form_number form < 2 ^ 64
small_form Texts = omega arith
small_form Numbers = omega arith

-- ---- lengths

short_number : (n : ℕ) → n < 2 ^ 64 → length (decimal n) ≤ 20
short_number n small = length-decimal-le 20 n (omega arith) (omega arith) small

pub short_end : (count : ℕ) → count < 2 ^ 64 → length (compact_text (end_data count)) ≤ 4000
short_end count small = omega (arith, length-append (quoted (codes "end")) (58 ∷ (decimal count ++ 125 ∷ [])), length-append (decimal count) (125 ∷ []), length-quoted (codes "end"), short_number count small)

pub short_mark : (name : List ℕ) (position : ℕ) → is_name name ≡ true → position < 2 ^ 64 → length (compact_text (mark_data (name, position))) ≤ 4000
short_mark name position is small =
    let named = and_parts (leb 1 (length name) && leb (length name) 32) (list_all is_name_byte name) is in
    let size = and_parts (leb 1 (length name)) (leb (length name) 32) named.0 in
    let last = quoted name ++ 125 ∷ [] in
    let stream = quoted (codes "stream") ++ 58 ∷ last in
    omega (
      arith,
      length-append (quoted (codes "at")) (58 ∷ (decimal position ++ 44 ∷ stream)),
      length-append (decimal position) (44 ∷ stream),
      length-append (quoted (codes "stream")) (58 ∷ last),
      length-append (quoted name) (125 ∷ []),
      length-quoted (codes "at"),
      length-quoted (codes "stream"),
      length-quoted name,
      short_number position small,
      leb-true (length name) 32 size.1,
    )

short_key : (key : Option (List ℕ)) → is_end key ≡ true → length (compact_text (key_data key)) ≤ 1600
short_key None is = omega arith
short_key (Some key) is = let size = and_parts (leb 1 (length key)) (leb (length key) 256) is in omega (arith, length-quoted key, leb-true (length key) 256 size.1)

pub short_head : (form : Form) (from to : Option (List ℕ)) → is_end from ≡ true → is_end to ≡ true → length (compact_text (head_data (form, (from, to)))) ≤ 4000
short_head form from to from_is to_is =
    let last = compact_text (key_data to) ++ 125 ∷ [] in
    let to_part = quoted (codes "to") ++ 58 ∷ last in
    let from_text = compact_text (key_data from) in
    let from_part = quoted (codes "from") ++ 58 ∷ (from_text ++ 44 ∷ to_part) in
    omega (
      arith,
      length-append (quoted (codes "copy")) (58 ∷ (decimal (form_number form) ++ 44 ∷ from_part)),
      length-append (decimal (form_number form)) (44 ∷ from_part),
      length-append (quoted (codes "from")) (58 ∷ (from_text ++ 44 ∷ to_part)),
      length-append from_text (44 ∷ to_part),
      length-append (quoted (codes "to")) (58 ∷ last),
      length-append (compact_text (key_data to)) (125 ∷ []),
      length-quoted (codes "copy"),
      length-quoted (codes "from"),
      length-quoted (codes "to"),
      short_number (form_number form) (small_form form),
      short_key from from_is,
      short_key to to_is,
    )
