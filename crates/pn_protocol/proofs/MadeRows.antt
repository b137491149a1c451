-- The rows of records, made a piece at a time.
use Rattle.std.proofs.Common.{◌≡◌, ◌≢◌, ℕ, zero, suc, ◌+◌, ◌<◌, ◌≤◌, inl, inr, Bool, true, false, cond, ◌&&◌, ◌==◌, leb, ltb, List, [], ◌∷◌, ◌++◌, map, length, drop, get_or, Option, Some, None, codes, refl, sym, ap, ◌∙◌, subst, append_assoc, append-nil, arith, length-append, ◌-◌}
use Rattle.std.specs.Prelude.{◌↔◌, IfSome, IsTrue, Vec}
use Rattle.std.specs.declared.alloc.Global.{Global}
use Rattle.std.specs.FinMap.{keys}
use Rattle.std.specs.List.{slice_get}
use Rattle.std.proofs.lemmas.Bool.{and_parts, leb-true, eq-eqb, ne_eqb, lt-ltb}
use Rattle.std.proofs.lemmas.List.{drop_all}
use Rattle.serde_json.specs.Data.{Data, string, array, object, Items, no_members, member}
use Rattle.serde_json.specs.View.{items_of}
use Rattle.serde_json.specs.Written.{comma_if, compact_text, items_text}
use Rattle.serde_json.proofs.OnLiterals.{serde_json_on_literals}
use Rattle.pn_json.specs.Tokens.{AppendsText, MakesPiece}
use Rattle.json.specs.Print.{quoted}
use Rattle.pn_json.proofs.AppendedTexts.{appended_both, appended_none}
use Rattle.pn_record.specs.Limits.{ContentValue, is_key}
use Rattle.pn_record.specs.Sets.{CellValue, state_of}
use Rattle.pn_record.specs.Writing.{content_data, version_data}
use Rattle.pn_record.specs.declared.cell.CellState.{CellState}
use Rattle.pn_record.specs.declared.cell.CellState.TheVariants.{One, Deleted, Conflict}
use Rattle.pn_record.proofs.ImageText.{length-quoted}
use Rattle.pn_protocol.specs.declared.reply.rows_text.RowsCursor.{RowsCursor}
use Rattle.pn_protocol.specs.declared.reply.rows_text.RowsCursor.TheVariants.{Record, End}
use Rattle.pn_protocol.specs.declared.reply.shown_records.ShownRecords.{ShownRecords}
use Rattle.pn_protocol.specs.declared.reply.shown_records.ShownRecords.TheVariants as shown
use Rattle.pn_protocol.specs.Reply.Making.{Found, HasContent, IsCursorOf, MakesRecord, next_cursor, after_part, before_text, end_of, found_in, cursor_rest, record_rest, record_text, rest_from, row_end, rows_text}
use Rattle.pn_protocol.specs.Reply.Records.{row_data, state_word}

-- ---- lengths

length_state : (state : CellState) → length (state_word state) ≤ 8
length_state One = omega arith
length_state Deleted = omega arith
length_state Conflict = omega arith

pub length-row_end : (key : List ℕ) (cell : CellValue) → is_key key ≡ true → length (compact_text (version_data cell.0)) ≤ 64 → length (row_end key cell) ≤ 2000
length-row_end key cell is version =
    let long = and_parts (leb 1 (length key)) (leb (length key) 256) is in
    let after = compact_text (version_data cell.0) ++ codes "}" in
    let state = state_word (state_of cell) ++ (codes "\",\"version\":" ++ after) in
    omega (
      arith,
      leb-true (length key) 256 long.1,
      length-quoted key,
      length-append (quoted key) (codes ",\"state\":\"" ++ state),
      length-append (state_word (state_of cell)) (codes "\",\"version\":" ++ after),
      length-append (compact_text (version_data cell.0)) (codes "}"),
      length_state (state_of cell),
      version,
    )

-- ---- one row

row_with : (state : CellState) (contents : Items) (key : List ℕ) (version : Data)
    → compact_text (object (member (codes "contents") (array contents) (member (codes "key") (string key) (member (codes "state") (string (state_word state)) (member (codes "version") version no_members)))))
    ≡ codes "{\"contents\":[" ++ (items_text false contents ++ (codes ",\"key\":" ++ (quoted key ++ (codes ",\"state\":\"" ++ (state_word state ++ (codes "\",\"version\":" ++ (compact_text version ++ codes "}")))))))
unfolding serde_json_on_literals
row_with One contents key version = refl
row_with Deleted contents key version = refl
row_with Conflict contents key version = refl

-- a row is its contents and what comes after them
row_text : (key : List ℕ) (cell : CellValue) → compact_text (row_data (key, cell)) ≡ codes "{\"contents\":[" ++ (items_text false (items_of (map content_data (keys cell.1))) ++ row_end key cell)
unfolding row_data
row_text key cell = row_with (state_of cell) (items_of (map content_data (keys cell.1))) key (version_data cell.0)

-- the first of the contents that are left, and those after it
left_from : (contents : List ContentValue) (n : ℕ) (shown : ContentValue) → shown ≡ get_or contents n shown → n < length contents → drop n contents ≡ shown ∷ drop (suc n) contents
left_from [] n shown here within = absurd (omega (arith, within))
left_from (first ∷ contents) zero shown here within = ap (λ (x : ContentValue). x ∷ contents) (sym here)
left_from (first ∷ contents) (suc n) shown here within = left_from contents n shown here (omega (arith, within))

abbrev contents_rest : ℕ → List ℕ → CellValue → List ℕ
contents_rest n key cell = items_text true (items_of (map content_data (drop n (keys cell.1)))) ++ row_end key cell

-- a content, with what comes before it
content_rest : (n : ℕ) (key : List ℕ) (cell : CellValue) (shown : ContentValue) → shown ≡ get_or (keys cell.1) n shown → n < length (keys cell.1)
    → record_rest n (key, Some cell) ≡ (before_text n ++ compact_text (content_data shown)) ++ contents_rest (suc n) key cell
content_rest zero key cell shown here within =
    let text = compact_text (content_data shown) in
    let rest = items_text true (items_of (map content_data (drop 1 (keys cell.1)))) in
    row_text key cell ∙ ap (λ (contents : List ContentValue). before_text 0 ++ (items_text false (items_of (map content_data contents)) ++ row_end key cell)) (left_from (keys cell.1) 0 shown here within)
    ∙ ap (λ (l : List ℕ). before_text 0 ++ l) (append_assoc text rest (row_end key cell)) ∙ sym (append_assoc (before_text 0) text (rest ++ row_end key cell))
content_rest (suc n) key cell shown here within =
    let text = compact_text (content_data shown) in
    let rest = items_text true (items_of (map content_data (drop (suc (suc n)) (keys cell.1)))) in
    ap (λ (contents : List ContentValue). items_text true (items_of (map content_data contents)) ++ row_end key cell) (left_from (keys cell.1) (suc n) shown here within)
    ∙ ap (λ (l : List ℕ). 44 ∷ l) (append_assoc text rest (row_end key cell))

length_before : (n : ℕ) → (0 < length (before_text n)) × (length (before_text n) ≤ 13)
length_before zero = (omega arith, omega arith)
length_before (suc n) = (omega arith, omega arith)

-- a content of a row that is there
pub content_within : (n : ℕ) (key : List ℕ) (cell : CellValue) → HasContent n (key, Some cell) → 0 < length (keys cell.1) → n < length (keys cell.1)
content_within zero key cell is some = some
content_within (suc n) key cell is some = is

-- a content that others follow
pub content_then : (n next : ℕ) (key : List ℕ) (cell : CellValue) (shown : ContentValue) (old new : Vec ℕ Global) → shown ≡ get_or (keys cell.1) n shown → next ≡ n + 1 → next < length (keys cell.1)
    → AppendsText old new (before_text n ++ compact_text (content_data shown)) → length (compact_text (content_data shown)) ≤ 52000 → MakesRecord (key, Some cell) n old new next
content_then n next key cell shown old new here is within appended short =
    let after : suc n ≡ next = omega (arith, is) in
    let before = length_before n in
    subst (λ (k : ℕ). MakesRecord (key, Some cell) n old new k) after (record {
      part = before_text n ++ compact_text (content_data shown);
      appended = appended;
      split = content_rest n key cell shown here (omega (arith, is, within));
      short = omega (arith, length-append (before_text n) (compact_text (content_data shown)), short);
      some = omega (arith, length-append (before_text n) (compact_text (content_data shown)));
      next_is = omega (arith, is, within);
    })

-- the last content, and what comes after it
pub content_last : (n : ℕ) (key : List ℕ) (cell : CellValue) (shown : ContentValue) (old new : Vec ℕ Global) → shown ≡ get_or (keys cell.1) n shown → n < length (keys cell.1) → length (keys cell.1) ≤ n + 1
    → AppendsText old new ((before_text n ++ compact_text (content_data shown)) ++ (93 ∷ [] ++ row_end key cell)) → length (compact_text (content_data shown)) ≤ 52000 → length (row_end key cell) ≤ 2000 → MakesRecord (key, Some cell) n old new 0
content_last n key cell shown old new here within last appended short end =
    let text = before_text n ++ compact_text (content_data shown) in
    let none : drop (suc n) (keys cell.1) ≡ [] = drop_all (suc n) (keys cell.1) (omega (arith, last)) in
    let before = length_before n in
    let over = ap (λ (contents : List ContentValue). text ++ (items_text true (items_of (map content_data contents)) ++ row_end key cell)) none in
    record {
      part = text ++ (93 ∷ [] ++ row_end key cell);
      appended = appended;
      split = content_rest n key cell shown here within ∙ over ∙ sym (append-nil (text ++ (93 ∷ [] ++ row_end key cell)));
      short = omega (arith, length-append (before_text n) (compact_text (content_data shown)), length-append text (93 ∷ row_end key cell), short, end);
      some = omega (arith, length-append (before_text n) (compact_text (content_data shown)), length-append text (93 ∷ row_end key cell));
      next_is = tt;
    }

-- a record that is not there
pub null_made : (content : ℕ) (key : List ℕ) (old new : Vec ℕ Global) → HasContent content (key, None) → AppendsText old new (codes "null") → MakesRecord (key, None) content old new 0
null_made zero key old new is appended = record { part = codes "null"; appended = appended; split = refl; short = omega arith; some = omega arith; next_is = tt }
null_made (suc n) key old new is appended = absurd is

-- ---- several rows

pub length_end : (records : ShownRecords) → (0 < length (end_of records)) × (length (end_of records) ≤ 4)
length_end (shown.One key cell) = (omega arith, omega arith)
length_end (shown.Keys names cells) = (omega arith, omega arith)
length_end (shown.Rows rows) = (omega arith, omega arith)

length_rows : (later : Bool) (records : List Found) (end : List ℕ) → length end ≤ length (rows_text later records end)
length_rows later [] end = omega arith
length_rows later (found ∷ records) end =
    omega (arith, length-append (comma_if later) (record_text found ++ rows_text true records end), length-append (record_text found) (rows_text true records end), length_rows true records end)

length_from : (content : ℕ) (records : List Found) (end : List ℕ) → length end ≤ length (rest_from content records end)
length_from content [] end = omega arith
length_from content (found ∷ records) end = omega (arith, length-append (record_rest content found) (rows_text true records end), length_rows true records end)

-- before the end something is left
pub rest_some : (records : List Found) (end : List ℕ) (index content : ℕ) → 0 < length end → cursor_rest records end (Record index content) ≢ []
rest_some records end index zero some none = omega (arith, ap length none, length_rows (ltb 0 index) (drop index records) end)
rest_some records end index (suc n) some none = omega (arith, ap length none, length_from (suc n) (drop index records) end)

drop_past : {X : Type 0} (xs : List X) (i : ℕ) → slice_get xs i ≡ None → drop i xs ≡ []
drop_past [] zero there = refl
drop_past [] (suc i) there = refl
drop_past (x ∷ xs) zero there = absurd (cc)
drop_past (x ∷ xs) (suc i) there = drop_past xs i there

drop_at : {X : Type 0} (xs : List X) (i : ℕ) (x : X) → slice_get xs i ≡ Some x → drop i xs ≡ x ∷ drop (suc i) xs
drop_at [] i x there = absurd (cc)
drop_at (y ∷ xs) zero x there = cc
drop_at (y ∷ xs) (suc i) x there = drop_at xs i x there

-- after the last record comes the end
pub end_left : (records : List Found) (end : List ℕ) (index content : ℕ) → slice_get records index ≡ None → cursor_rest records end (Record index content) ≡ end
end_left records end index zero none = ap (λ (l : List Found). rows_text (ltb 0 index) l end) (drop_past records index none)
end_left records end index (suc n) none = ap (λ (l : List Found). rest_from (suc n) l end) (drop_past records index none)

pub end_made : (records : ShownRecords) (index content : ℕ) (old new : Vec ℕ Global) → slice_get (found_in records) index ≡ None → AppendsText old new (end_of records)
    → MakesPiece 65536 (cursor_rest (found_in records) (end_of records) (Record index content)) [] old new
end_made records index content old new none appended =
    let sizes = length_end records in
    record {
      piece = end_of records;
      appended = appended;
      split = end_left (found_in records) (end_of records) index content none ∙ sym (append-nil (end_of records));
      short = omega (arith, sizes.1);
      some = inr sizes.0;
    }

abbrev comma_before : ℕ → ℕ → List ℕ
comma_before index content = comma_if (ltb 0 index && content == 0)

-- a record, with the comma before it, and those after it
record_left : (records : List Found) (end : List ℕ) (index content : ℕ) (found : Found) → slice_get records index ≡ Some found
    → cursor_rest records end (Record index content) ≡ comma_before index content ++ (record_rest content found ++ rows_text true (drop (suc index) records) end)
record_left records end index zero found there =
    ap (λ (l : List Found). rows_text (ltb 0 index) l end) (drop_at records index found there)
    ∙ ap (λ (b : Bool). comma_if b ++ (record_text found ++ rows_text true (drop (suc index) records) end)) (and_true (ltb 0 index) ∙ ap (λ (b : Bool). ltb 0 index && b) (sym (eq-eqb 0 0 refl)))
  where
    and_true : (b : Bool) → b ≡ (b && true)
    and_true true = refl
    and_true false = refl
record_left records end index (suc n) found there =
    ap (λ (l : List Found). rest_from (suc n) l end) (drop_at records index found there)
    ∙ ap (λ (b : Bool). comma_if b ++ (record_rest (suc n) found ++ rows_text true (drop (suc index) records) end))
    (and_false (ltb 0 index) ∙ ap (λ (b : Bool). ltb 0 index && b) (sym (ne_eqb (suc n) 0 (λ e. omega (arith, e)))))
  where
    and_false : (b : Bool) → false ≡ (b && false)
    and_false true = refl
    and_false false = refl

-- where the next content is the first, the next record comes
next_is_first : (index : ℕ) → next_cursor index 0 ≡ Record (index + 1) 0
next_is_first index = ap (λ (b : Bool). cond b (Record (index + 1) 0) (Record index 0)) (eq-eqb 0 0 refl)

next_is_later : (index n : ℕ) → next_cursor index (suc n) ≡ Record index (suc n)
next_is_later index n = ap (λ (b : Bool). cond b (Record (index + 1) 0) (Record index (suc n))) (ne_eqb (suc n) 0 (λ e. omega (arith, e)))

next_left : (records : List Found) (end : List ℕ) (index next : ℕ) (found : Found) → slice_get records index ≡ Some found
    → cursor_rest records end (next_cursor index next) ≡ after_part next found ++ rows_text true (drop (suc index) records) end
next_left records end index zero found there =
    let after : index + 1 ≡ suc index = omega arith in
    ap (cursor_rest records end) (next_is_first index) ∙ ap (λ (k : ℕ). rows_text (ltb 0 k) (drop k records) end) after
    ∙ ap (λ (b : Bool). rows_text b (drop (suc index) records) end) (lt-ltb 0 (suc index) (omega arith))
next_left records end index (suc n) found there = ap (cursor_rest records end) (next_is_later index n) ∙ ap (λ (l : List Found). rest_from (suc n) l end) (drop_at records index found there)

length_comma : (b : Bool) → length (comma_if b) ≤ 1
length_comma true = omega arith
length_comma false = omega arith

pub record_made : (records : List Found) (end : List ℕ) (index content next : ℕ) (found : Found) (old mid new : Vec ℕ Global) → slice_get records index ≡ Some found
    → AppendsText old mid (comma_if (ltb 0 index && content == 0)) → MakesRecord found content mid new next
    → MakesPiece 65536 (cursor_rest records end (Record index content)) (cursor_rest records end (next_cursor index next)) old new
record_made records end index content next found old mid new there comma made =
    let rest = rows_text true (drop (suc index) records) end in
    let before = comma_before index content in
    let short = made.short in
    let some = made.some in
    record {
      piece = before ++ made.part;
      appended = appended_both comma made.appended;
      split = record_left records end index content found there
          ∙ ap (λ (l : List ℕ). before ++ l) (ap (λ (l : List ℕ). l ++ rest) made.split ∙ append_assoc made.part (after_part next found) rest ∙ ap (λ (l : List ℕ). made.part ++ l) (sym (next_left records end index next found there)))
          ∙ sym (append_assoc before made.part (cursor_rest records end (next_cursor index next)));
      short = omega (arith, length-append before made.part, length_comma (ltb 0 index && content == 0));
      some = inr (omega (arith, length-append before made.part));
    }

pub at_found : (P : Found → Type 0) (o : Option Found) (found : Found) → o ≡ Some found → IfSome o P → P found
at_found P o found there holds = subst (λ (p : Option Found). IfSome p P) there holds

in_first : (o : Option Found) → IfSome o (HasContent 0)
in_first None = tt
in_first (Some found) = tt

pub first_cursor : (records : List Found) (index : ℕ) → IsCursorOf records (Record index 0)
first_cursor records index = in_first (slice_get records index)

pub cursor_after : (records : List Found) (index next : ℕ) (found : Found) → slice_get records index ≡ Some found → HasContent next found → IsCursorOf records (next_cursor index next)
cursor_after records index zero found there is = subst (IsCursorOf records) (sym (next_is_first index)) (first_cursor records (index + 1))
cursor_after records index (suc n) found there is = subst (IsCursorOf records) (sym (next_is_later index n)) (subst (λ (o : Option Found). IfSome o (HasContent (suc n))) (sym there) is)

-- ---- cursors

end_of_cursor : (records : List Found) (end : List ℕ) (cursor : RowsCursor) → 0 < length end → cursor_rest records end cursor ≡ [] → cursor ≡ End
end_of_cursor records end (Record index content) some none = absurd (rest_some records end index content some none)
end_of_cursor records end End some none = refl

-- nothing is left exactly at the end
pub made_where : (records : ShownRecords) (cursor : RowsCursor) (made : Bool) → (IsTrue made ↔ (cursor ≡ End)) → (IsTrue made ↔ (cursor_rest (found_in records) (end_of records) cursor ≡ []))
made_where records cursor made is =
    let sizes = length_end records in
    (λ yes. ap (cursor_rest (found_in records) (end_of records)) (is.0 yes), λ none. is.1 (end_of_cursor (found_in records) (end_of records) cursor sizes.0 none))

pub nothing_made : (left : List ℕ) (v : Vec ℕ Global) → left ≡ [] → MakesPiece 65536 left left v v
nothing_made left v none = record { piece = []; appended = appended_none v; split = refl; short = omega arith; some = inl none }
