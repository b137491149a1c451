-- The texts of replies: what they begin with, the records that they show, and refusals.
use Rattle.std.proofs.Common.{◌≡◌, ℕ, zero, suc, ◌+◌, ◌<◌, ◌≤◌, List, [], ◌∷◌, length, take, zip, Some, None, refl, sym, ap, ◌∙◌, arith, ◌-◌, ◌≢◌, inl, inr, Bool, true, false, ◌++◌, map, drop, Option, codes, subst, append_assoc, length-append, length-drop, drop-drop, Result, Ok, Err}
use Rattle.std.specs.Prelude.{◌↔◌, IsTrue, Vec, min}
use Rattle.std.specs.List.{slice_get, sum_by}
use Rattle.std.proofs.lemmas.List.Sums.{sum_by-cons, sum_by_more}
use Rattle.std.proofs.lemmas.Option.{get_or_from_slice_get, slice_get_within}
use Rattle.std.specs.declared.alloc.Global.{Global}
use Rattle.std.proofs.lemmas.List.{drop_all, length-take, take-append-drop}
use Rattle.serde_json.specs.Data.{Data, array}
use Rattle.serde_json.specs.View.{items_of}
use Rattle.serde_json.specs.Written.{comma_if, compact_text, items_text}
use Rattle.serde_json.proofs.OnLiterals.{serde_json_on_literals}
use Rattle.json.specs.Print.{print}
use Rattle.json.specs.Written.{Written}
use Rattle.serde_json.proofs.Texts.{print-outline}
use Rattle.pn_join.specs.declared.memory.NoMemory.{NoMemory}
use Rattle.pn_json.specs.Tokens.{AppendsText, MakesPiece, line_of, HasValue}
use Rattle.pn_record.specs.Cells.{Entries}
use Rattle.pn_record.specs.Sets.{CellValue}
use Rattle.pn_tablet.specs.Copies.{TabletCopyValue}
use Rattle.pn_tablet.specs.CopyWriting.{CopyTextValue, lines_of_copy, copy_text}
use Rattle.pn_scan.specs.Queries.{QueryValue}
use Rattle.pn_protocol.specs.declared.reply.Reply.TheVariants.{Copy}
use Rattle.pn_protocol.specs.Reply.Making.{Found, record_data, record_text, rows_text}
use Rattle.pn_protocol.specs.Reply.Records.{get_data, read_data, row_data, head_text, next_data, scan_data}
use Rattle.pn_protocol.specs.Reply.Texts.{ShowsCopy}
use Rattle.pn_protocol.specs.Reply.Short.{lines_data}
use Rattle.pn_protocol.specs.declared.reply.Reply.{Reply}
use Rattle.pn_protocol.specs.Reply.Faults.{Tells, SaysWhy, RefusesWith}

-- The records that a reply shows, by their indices.

-- a record, or the only one
pub only_record : {X : Type 0} (x : X) (index : ℕ) → 0 < index → None ≡ slice_get (x ∷ []) index
only_record x zero some = absurd (omega (arith, some))
only_record x (suc n) some = refl

pub first_record : {X : Type 0} (x : X) (index : ℕ) → index ≤ 0 → Some x ≡ slice_get (x ∷ []) index
first_record x zero none = refl
first_record x (suc n) none = absurd (omega (arith, none))

pub zip_both : {X Y : Type 0} (xs : List X) (ys : List Y) (i : ℕ) (x : X) (y : Y) → slice_get xs i ≡ Some x → slice_get ys i ≡ Some y → slice_get (zip xs ys) i ≡ Some (x, y)
zip_both [] ys i x y first second = absurd (cc)
zip_both (z ∷ xs) [] i x y first second = absurd (cc)
zip_both (z ∷ xs) (w ∷ ys) zero x y first second = cc
zip_both (z ∷ xs) (w ∷ ys) (suc i) x y first second = zip_both xs ys i x y first second

pub length-zip_le : {X Y : Type 0} (xs : List X) (ys : List Y) → length (zip xs ys) ≤ length xs
length-zip_le [] ys = omega arith
length-zip_le (x ∷ xs) [] = omega arith
length-zip_le (x ∷ xs) (y ∷ ys) = omega (arith, length-zip_le xs ys)

-- past the end of either
pub zip_past_first : {X Y : Type 0} (xs : List X) (ys : List Y) (i : ℕ) → slice_get xs i ≡ None → slice_get (zip xs ys) i ≡ None
zip_past_first [] ys i none = refl
zip_past_first (z ∷ xs) [] i none = refl
zip_past_first (z ∷ xs) (w ∷ ys) zero none = absurd (cc)
zip_past_first (z ∷ xs) (w ∷ ys) (suc i) none = zip_past_first xs ys i none

pub zip_past_second : {X Y : Type 0} (xs : List X) (ys : List Y) (i : ℕ) → slice_get ys i ≡ None → slice_get (zip xs ys) i ≡ None
zip_past_second [] ys i none = refl
zip_past_second (z ∷ xs) [] i none = refl
zip_past_second (z ∷ xs) (w ∷ ys) zero none = absurd (cc)
zip_past_second (z ∷ xs) (w ∷ ys) (suc i) none = zip_past_second xs ys i none

-- one more is weighed, or all are
pub weighed_more : {X : Type 0} (weigh : X → ℕ) (xs : List X) (i : ℕ) (x : X) → slice_get xs i ≡ Some x → sum_by weigh (take (i + 1) xs) ≡ sum_by weigh (take i xs) + weigh x
weighed_more {X = X} weigh xs i x here =
    sum_by_more weigh xs i x (slice_get_within xs i x here) ∙ ap (λ (y : X). sum_by weigh (take i xs) + weigh y) (get_or_from_slice_get xs i x x here)

pub weighed_all : {X : Type 0} (weigh : X → ℕ) (xs : List X) (i : ℕ) → slice_get xs i ≡ None → sum_by weigh (take i xs) ≡ sum_by weigh xs
weighed_all weigh [] zero none = refl
weighed_all weigh [] (suc i) none = refl
weighed_all weigh (x ∷ xs) zero none = absurd (cc)
weighed_all weigh (x ∷ xs) (suc i) none =
    sum_by-cons weigh x (take i xs) ∙ ap (λ n. weigh x + n) (weighed_all weigh xs i none) ∙ sym (sum_by-cons weigh x xs)

-- The texts of replies: what they begin with, and the rows or the lines after that.

-- ---- whole replies

-- rows of an array, with what comes after them
rows_items : (later : Bool) (records : List Found) (rest : List ℕ) → items_text later (items_of (map record_data records)) ++ rest ≡ rows_text later records (93 ∷ rest)
rows_items later [] rest = refl
rows_items later (found ∷ records) rest =
    append_assoc (comma_if later) (record_text found ++ items_text true (items_of (map record_data records))) rest
    ∙ ap (λ (l : List ℕ). comma_if later ++ l) (append_assoc (record_text found) (items_text true (items_of (map record_data records))) rest ∙ ap (λ (l : List ℕ). record_text found ++ l) (rows_items true records rest))

pub read_made : (key : List ℕ) (cell : Option CellValue) → codes "{\"row\":" ++ rows_text false ((key, cell) ∷ []) (codes "}\n") ≡ line_of (read_data key cell)
unfolding line_of read_data serde_json_on_literals
read_made key cell = ap (λ (l : List ℕ). codes "{\"row\":" ++ l) (sym (append_assoc (record_text (key, cell)) (codes "}") (codes "\n")))

pub get_made : (names : List (List ℕ)) (cells : List (Option CellValue)) → codes "{\"rows\":[" ++ rows_text false (zip names cells) (codes "]}\n") ≡ line_of (get_data names cells)
unfolding line_of get_data serde_json_on_literals
get_made names cells =
    let rows = items_text false (items_of (map record_data (zip names cells))) in
    ap (λ (l : List ℕ). codes "{\"rows\":[" ++ l) (sym (rows_items false (zip names cells) (codes "}\n")) ∙ sym (append_assoc rows (codes "}") (codes "\n")))

shown_rows : (rows : Entries) → map record_data (map (λ (row : List ℕ × CellValue). (row.0, Some row.1)) rows) ≡ map row_data rows
shown_rows [] = refl
shown_rows (row ∷ rows) = ap (λ (l : List Data). row_data row ∷ l) (shown_rows rows)

pub page_made : (head : List ℕ) (rows : Entries) → head ++ rows_text false (map (λ (row : List ℕ × CellValue). (row.0, Some row.1)) rows) (codes "]}\n") ≡ (head ++ items_text false (items_of (map row_data rows))) ++ codes "}\n"
page_made head rows =
    let records = map (λ (row : List ℕ × CellValue). (row.0, Some row.1)) rows in
    ap (λ (l : List ℕ). head ++ l) (sym (rows_items false records (codes "}\n")) ∙ ap (λ (ds : List Data). items_text false (items_of ds) ++ codes "}\n") (shown_rows rows))
    ∙ sym (append_assoc head (items_text false (items_of (map row_data rows))) (codes "}\n"))

-- ---- pieces

-- part of a head was made
pub head_part : (head rest : List ℕ) (made end most : ℕ) (old new : Vec ℕ Global) → made < length head → end ≡ made + min (length head - made) most → 0 < most → AppendsText old new (take (end - made) (drop made head))
    → MakesPiece most (drop made head ++ rest) (drop end head ++ rest) old new
head_part head rest made end most old new within is some appended =
    let part = take (end - made) (drop made head) in
    let same : made + (end - made) ≡ end = omega (arith, is, within) in
    let after : drop (end - made) (drop made head) ≡ drop end head = drop-drop (end - made) made head ∙ ap (λ (k : ℕ). drop k head) same in
    let split : drop made head ≡ part ++ drop end head = sym (take-append-drop (end - made) (drop made head)) ∙ ap (λ (l : List ℕ). part ++ l) after in
    let left = length-drop made head in
    let size = length-take (end - made) (drop made head) in
    record {
      piece = part;
      appended = appended;
      split = ap (λ (l : List ℕ). l ++ rest) split ∙ append_assoc part (drop end head) rest;
      short = omega (arith, size, left, is, within);
      some = inr (omega (arith, size, left, is, within, some));
    }

-- the head is made, and a piece of the rest
pub rest_part : (head left rest : List ℕ) (made most : ℕ) (old new : Vec ℕ Global) → length head ≤ made → MakesPiece most left rest old new → MakesPiece most (drop made head ++ left) (drop made head ++ rest) old new
rest_part head left rest made most old new over piece =
    subst (λ (l : List ℕ). MakesPiece most (l ++ left) (l ++ rest) old new) (sym (drop_all made head over)) piece

-- while the head is not made, something is left
pub head_left : (head rest : List ℕ) (made : ℕ) → made < length head → drop made head ++ rest ≢ []
head_left head rest made within none = omega (arith, ap length none, length-append (drop made head) rest, length-drop made head)

-- after the head, what is left is of the rest
pub rest_left : (head rest : List ℕ) (made : ℕ) (all : Bool) → length head ≤ made → (IsTrue all ↔ (rest ≡ [])) → (IsTrue all ↔ (drop made head ++ rest ≡ []))
rest_left head rest made all over is = subst (λ (l : List ℕ). IsTrue all ↔ (l ++ rest ≡ [])) (sym (drop_all made head over)) is

-- ---- pages

-- the value that was written is the whole text
pub value_text : (d : Data) (line : Written) (text : List ℕ) → HasValue line d → text ≡ line.before ++ print line.tokens → text ≡ compact_text d
value_text d line text has is =
    let before = has.before in
    let tokens = has.tokens in
    is ∙ (λ i. before i ++ print (tokens i)) ∙ print-outline d

-- a head, its rows and the end are the reply to a scan
pub page_text : (rows : Entries) (next : Option QueryValue) → (head_text next ++ items_text false (items_of (map row_data rows))) ++ codes "}\n" ≡ line_of (scan_data (rows, next))
unfolding line_of scan_data serde_json_on_literals
page_text rows next =
    let query = compact_text (next_data next) in
    let shown = items_text false (items_of (map row_data rows)) in
    append_assoc (head_text next) shown (codes "}\n")
    ∙ ap (λ (l : List ℕ). codes "{\"next\":" ++ l)
    (append_assoc query (codes ",\"rows\":[") (shown ++ codes "}\n")
    ∙ ap (λ (l : List ℕ). query ++ (codes ",\"rows\":[" ++ l)) (sym (append_assoc shown (codes "}") (codes "\n")))
    ∙ sym (append_assoc query (codes ",\"rows\":[" ++ (shown ++ codes "}")) (codes "\n")))

-- the text of a copy, after the number of its lines
pub copy_made : (copy : TabletCopyValue) (text : CopyTextValue) → text.copy ≡ copy → text.left ≡ copy_text copy → ShowsCopy copy (Copy text)
copy_made copy text same all = inl (refl, λ i. line_of (lines_data (lines_of_copy (same i))) ++ all i)

-- A refusal with the line that says why, or one that memory ran out.

-- it tells why only where the fault is not that memory ran out
pub told : {F : Type 0} (memory fault : F) (said : Data) (line : Option (Result (Vec ℕ Global) NoMemory)) (reply : Reply) → SaysWhy memory fault said line → RefusesWith line reply → Tells (fault ≢ memory) said reply
told memory fault said None reply why is = subst (Tells (fault ≢ memory) said) (sym is) refl
told memory fault said (Some (Ok text)) reply why is = subst (Tells (fault ≢ memory) said) (sym is) why
told memory fault said (Some (Err failed)) reply why is = subst (Tells (fault ≢ memory) said) (sym is) refl
