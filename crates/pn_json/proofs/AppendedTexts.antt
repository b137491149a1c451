-- Texts and tokens that are added to a buffer one after another, and how far a text is plain.
use Rattle.std.proofs.Common.{◌≡◌, ℕ, ◌+◌, ◌*◌, ◌%◌, ◌^◌, ◌<◌, ◌≤◌, ltb, Bool, true, false, not, cond, eqb, List, [], ◌∷◌, map, length, drop, replicate, refl, sym, ap, ap₂, ◌∙◌, arith, w8, Fits, ◌-◌, ◌≢◌, ◌⊎◌, inl, inr, ◌++◌, take, get_or, Vec, vec_capacity, subst, append_assoc, append-nil, length-append, zero, suc, slice_get, option_to_list, Ok, add-one}
use Rattle.std.specs.Prelude.{Some}
use Rattle.std.proofs.lemmas.Bool.{agree_below_at, eq-eqb, ne_eqb}
use Rattle.std.proofs.lemmas.List.{length-drop, length-map, drop_all, map_more, map-append}
use Rattle.std.proofs.lemmas.List.Folds.{prefix_len-append}
use Rattle.std.proofs.lemmas.List.Sums.{prefix_len-le-length}
use Rattle.std.proofs.lemmas.Simd.{chunk-drop, length-chunk, leading_from_mask_l, mask_l-mod, trailing_mask_l, zip2_splat}
use Rattle.std.specs.List.{prefix_len, flat_map}
use Rattle.std.specs.declared.alloc.Global.{Global}
use Rattle.std.proofs.lemmas.Grind.{flat_map-append}
use lib.Bits.{bit_or}
use lib.Count.{count_trailing_zeros}
use lib.Lanes.{Each1, chunk, mask_l, top, zip2}
use Rattle.json.specs.Run.{is_plain, is_stop}
use Rattle.json.specs.Print.{escape, escape_byte, print}
use Rattle.json.proofs.Printed.Strings.{escape_to_stop, escape_at}
use Rattle.json.specs.Token.{Token, begin_array, end_array, begin_object, end_object}
use Rattle.json.specs.Tree.{items_tokens, members_tokens}
use Rattle.json.specs.Written.{Written, Writes}
use Rattle.serde_json.specs.Data.{Data, Members, no_members, member, array, object}
use Rattle.serde_json.specs.View.{items_of}
use Rattle.serde_json.specs.Written.{items_outline, members_outline}
use Rattle.serde_json.proofs.Texts.{print-outline}
use Rattle.pn_json.specs.Tokens.{AppendsText, MakesPiece, line_of, IsBegun, HasValue, Appends, value_tokens, values_tokens, member_tokens}

-- How far a text is plain, seen a vector of bytes at a time by a mask of those that need an escape.

pub run_within : (d : List ℕ) (i : ℕ) → i ≤ length d → i + prefix_len is_plain (drop i d) ≤ length d
run_within d i within = omega (arith, prefix_len-le-length is_plain (drop i d), length-drop i d)

-- ---- from a mask to a run

no_bit : (b : Bool) (n l m : ℕ) → n ≤ l → cond (not b) (1 + n) 0 ≡ 1 + l → (n ≡ l → m ≡ 0) → cond b 1 0 + 2 * m ≡ 0
no_bit true n l m short all rest = let no : ⊥ = omega arith in absurd no
no_bit false n l m short all rest = let none = rest (omega arith) in omega arith

-- where all bytes are plain, no bit is set
empty_mask : (xs : List ℕ) → prefix_len is_plain xs ≡ length xs → mask_l (map is_stop xs) ≡ 0
empty_mask [] all = refl
empty_mask (x ∷ xs) all = no_bit (is_stop x) _ (length xs) _ (prefix_len-le-length is_plain xs) (omega arith) (empty_mask xs)

-- a run ends in the first n bytes, or goes on after them
parted : (d : List ℕ) (i n : ℕ) → prefix_len is_plain (drop i d) ≡ cond (eqb (prefix_len is_plain (chunk i n d)) (length (chunk i n d))) (length (chunk i n d) + prefix_len is_plain (drop (i + n) d)) (prefix_len is_plain (chunk i n d))
parted d i n = ap (prefix_len is_plain) (chunk-drop i n d) ∙ prefix_len-append is_plain (chunk i n d) (drop (i + n) d)

pub run_goes_on : (d : List ℕ) (i n : ℕ) → i + n ≤ length d → mask_l (map is_stop (chunk i n d)) ≡ 0 → prefix_len is_plain (drop i d) ≡ n + prefix_len is_plain (drop (i + n) d)
run_goes_on d i n room none =
    let c = chunk i n d in
    parted d i n ∙ ap (λ b. cond b (length c + prefix_len is_plain (drop (i + n) d)) (prefix_len is_plain c)) (eq-eqb _ _ (leading_from_mask_l is_stop c none))
    ∙ ap (λ k. k + prefix_len is_plain (drop (i + n) d)) (length-chunk i n d room)

pub run_ends : (d : List ℕ) (i n : ℕ) → i + n ≤ length d → n ≤ 64 → 0 < mask_l (map is_stop (chunk i n d)) → prefix_len is_plain (drop i d) ≡ count_trailing_zeros 64 (mask_l (map is_stop (chunk i n d)))
run_ends d i n room few some =
    let c = chunk i n d in
    parted d i n ∙ ap (λ b. cond b (length c + prefix_len is_plain (drop (i + n) d)) (prefix_len is_plain c)) (ne_eqb _ _ (λ (all : prefix_len is_plain c ≡ length c). omega (arith, empty_mask c all)))
    ∙ sym (trailing_mask_l is_stop 64 c (omega (arith, length-chunk i n d room)) some)

-- ---- from the tests of a vector to a mask

abbrev same_lane : ℕ → ℕ → ℕ
same_lane a b = cond (eqb a b) 255 0

abbrev less_lane : ℕ → ℕ → ℕ
less_lane a b = cond (ltb a b) 255 0

-- what the three tests make of a byte
abbrev stop_lane : ℕ → ℕ
stop_lane x = bit_or (bit_or (same_lane x 34) (same_lane x 92)) (less_lane x 32)

either_lane : (f g : ℕ → ℕ) (v : List ℕ) → zip2 bit_or (map f v) (map g v) ≡ map (λ x. bit_or (f x) (g x)) v
either_lane f g [] = refl
either_lane f g (x ∷ xs) = ap (λ r. bit_or (f x) (g x) ∷ r) (either_lane f g xs)

both_lanes : (f g : ℕ → ℕ) (v : List ℕ) {a b : List ℕ} → a ≡ map f v → b ≡ map g v → zip2 bit_or a b ≡ map (λ x. bit_or (f x) (g x)) v
both_lanes f g v p q = ap₂ (zip2 bit_or) p q ∙ either_lane f g v

each_stop : (v : List ℕ) → Each1 (Fits w8) v → map (top 7) (map stop_lane v) ≡ map is_stop v
each_stop [] fits = refl
each_stop (x ∷ xs) fits = ap₂ (λ a b. a ∷ b) (agree_below_at (λ y. top 7 (stop_lane y)) is_stop 256 x refl fits.0.fits) (each_stop xs fits.1)

-- the three tests of a vector of n bytes, as the code makes them
pub mask_of_stops : (v : List ℕ) (n : ℕ) → length v ≡ n → n ≤ 64 → Each1 (Fits w8) v
    → mask_l (map (top 7) (zip2 bit_or (zip2 bit_or (zip2 same_lane v (replicate n 34)) (zip2 same_lane v (replicate n 92))) (zip2 less_lane v (replicate n 32)))) % 2 ^ 64 ≡ mask_l (map is_stop v)
mask_of_stops v n long few fits =
    let quote = both_lanes _ _ v (zip2_splat same_lane v n 34 long) (zip2_splat same_lane v n 92 long) in
    let tests = both_lanes _ _ v quote (zip2_splat less_lane v n 32 long) in
    ap (λ l. mask_l l % 2 ^ 64) (ap (map (top 7)) tests ∙ each_stop v fits) ∙ mask_l-mod (map is_stop v) 64 (omega (arith, length-map v is_stop))

-- Texts that are added to a buffer one after another.

pub appended_none : (v : Vec ℕ Global) → AppendsText v v []
appended_none v = record { items = λ room. sym (append-nil v.items); capacity = omega arith }

pub appended_as : {a b : Vec ℕ Global} {xs ys : List ℕ} → xs ≡ ys → AppendsText a b xs → AppendsText a b ys
appended_as {a} {b} same adds = subst (λ (text : List ℕ). AppendsText a b text) same adds

pub appended_both : {a b c : Vec ℕ Global} {xs ys : List ℕ} → AppendsText a b xs → AppendsText b c ys → AppendsText a c (xs ++ ys)
appended_both {a} {b} {c} {xs} {ys} first second = record {
  items = λ room.
      let all : length (xs ++ ys) ≡ length xs + length ys = length-append xs ys in
      let fits : length a.items + length xs ≤ vec_capacity a = omega arith in
      let once : b.items ≡ a.items ++ xs = first.items fits in
      let longer : length b.items ≡ length a.items + length xs = ap length once ∙ length-append a.items xs in
      let wide = first.capacity in
      let then : length b.items + length ys ≤ vec_capacity b = omega arith in
      second.items then ∙ ap (λ (text : List ℕ). text ++ ys) once ∙ append_assoc a.items xs ys;
  capacity = let one = first.capacity in let two = second.capacity in omega arith;
}

-- a first part of a whole was added, and the rest is still to come
pub record AppendsPart (old now : Vec ℕ Global) (rest whole : List ℕ) : Type 0 where
  pub part : List ℕ
  pub adds : AppendsText old now part
  pub whole_is : part ++ rest ≡ whole

pub part_none : (v : Vec ℕ Global) (whole : List ℕ) → AppendsPart v v whole whole
part_none v whole = record { part = []; adds = appended_none v; whole_is = refl }

pub part_more : {old now new : Vec ℕ Global} {rest whole next more : List ℕ} → AppendsPart old now rest whole → rest ≡ more ++ next → AppendsText now new more → AppendsPart old new next whole
part_more {next = next} {more = more} begun split adds = record {
  part = begun.part ++ more;
  adds = appended_both begun.adds adds;
  whole_is = append_assoc begun.part more next ∙ ap (λ (text : List ℕ). begun.part ++ text) (sym split) ∙ begun.whole_is;
}

pub part_last : {old now new : Vec ℕ Global} {rest whole : List ℕ} → AppendsPart old now rest whole → AppendsText now new rest → AppendsText old new whole
part_last begun adds = appended_as begun.whole_is (appended_both begun.adds adds)

pub part_all : {old now : Vec ℕ Global} {whole : List ℕ} → AppendsPart old now [] whole → AppendsText old now whole
part_all {now = now} begun = part_last begun (appended_none now)

-- ---- strings

-- plain bytes stand for themselves
pub to_stop : (bytes : List ℕ) (from end : ℕ) → end ≡ from + prefix_len is_plain (drop from bytes) → escape (drop from bytes) ≡ take (end - from) (drop from bytes) ++ escape (drop end bytes)
to_stop bytes from end is =
    sym (append-nil (escape (drop from bytes))) ∙ escape_to_stop bytes from end [] is ∙ ap (λ (text : List ℕ). take (end - from) (drop from bytes) ++ text) (append-nil (escape (drop end bytes)))

pub from_stop : (bytes : List ℕ) (end : ℕ) → end < length bytes → escape (drop end bytes) ≡ escape_byte (get_or bytes end 0) ++ escape (drop (end + 1) bytes)
from_stop bytes end within =
    sym (append-nil (escape (drop end bytes))) ∙ escape_at bytes end [] within ∙ ap (λ (text : List ℕ). escape_byte (get_or bytes end 0) ++ text) (append-nil (escape (drop (end + 1) bytes)))

pub none_after : (bytes : List ℕ) (end : ℕ) → length bytes ≤ end → escape (drop end bytes) ≡ []
none_after bytes end over = ap escape (drop_all end bytes over)

-- ---- pieces

-- where the buffer has room, what it holds and what is left stay the whole
pub piece_whole : {most : ℕ} {left rest : List ℕ} {old new : Vec ℕ Global} → MakesPiece most left rest old new → length old.items + most ≤ vec_capacity old → new.items ++ rest ≡ old.items ++ left
piece_whole {rest = rest} {old = old} made room =
    let short = made.short in
    let fits : length old.items + length made.piece ≤ vec_capacity old = omega arith in
    ap (λ (text : List ℕ). text ++ rest) (made.appended.items fits) ∙ append_assoc old.items made.piece rest ∙ ap (λ (text : List ℕ). old.items ++ text) (sym made.split)

pub piece_short : {most : ℕ} {left rest : List ℕ} {old new : Vec ℕ Global} → MakesPiece most left rest old new → length old.items + most ≤ vec_capacity old → length new.items ≤ length old.items + most
piece_short {old = old} made room =
    let short = made.short in
    let fits : length old.items + length made.piece ≤ vec_capacity old = omega arith in
    omega (arith, ap length (made.appended.items fits), length-append old.items made.piece)

-- and less is left
pub piece_some : {most : ℕ} {left rest : List ℕ} {old new : Vec ℕ Global} → MakesPiece most left rest old new → left ≢ [] → length rest < length left
piece_some {left = left} {rest = rest} made some = by made.some
  where
    by : (left ≡ []) ⊎ (0 < length made.piece) → length rest < length left
    by (inl none) = absurd (some none)
    by (inr more) = omega (arith, ap length made.split, length-append made.piece rest, more)

-- a smaller bound will do
pub piece_within : {few most : ℕ} {left rest : List ℕ} {old new : Vec ℕ Global} → few ≤ most → MakesPiece few left rest old new → MakesPiece most left rest old new
piece_within less made = let short = made.short in record { piece = made.piece; appended = made.appended; split = made.split; short = omega arith; some = made.some }

-- Tokens that are written one after another, for lists of items and of members, and whole lines.

-- ---- what was written

pub appends_none : (w : Written) → Appends w w []
appends_none w = record { before = refl; tokens = sym (append-nil w.tokens) }

pub appends_token : {E : Type 0} {u : Unit {0}} {old new : Written} {t : Token} → Writes {E = E} (Ok u) old new t → Appends old new (t ∷ [])
appends_token w = record { before = w.room.0; tokens = w.ok }

pub appends_both : {a b c : Written} {ts us : List Token} → Appends a b ts → Appends b c us → Appends a c (ts ++ us)
appends_both {a} {b} {c} {ts} {us} first then = record {
  before = then.before ∙ first.before;
  tokens = then.tokens ∙ ap (λ l. l ++ us) first.tokens ∙ append_assoc a.tokens ts us;
}

pub appends_as : {a b : Written} {ts us : List Token} → ts ≡ us → Appends a b ts → Appends a b us
appends_as {a} {b} e w = record { before = w.before; tokens = w.tokens ∙ ap (λ l. a.tokens ++ l) e }

-- ---- arrays and objects

items_by_items : (ds : List Data) → items_tokens (items_outline (items_of ds)) ≡ values_tokens ds ++ end_array ∷ []
items_by_items [] = refl
items_by_items (d ∷ ds) = ap (λ l. value_tokens d ++ l) (items_by_items ds) ∙ sym (append_assoc (value_tokens d) _ _)

-- tokens between brackets are an array
pub whole_array : {a b c d : Written} (ds : List Data) → Appends a b (begin_array ∷ []) → Appends b c (values_tokens ds) → Appends c d (end_array ∷ []) → Appends a d (value_tokens (array (items_of ds)))
whole_array ds first inside last = appends_as (ap (λ l. begin_array ∷ l) (sym (items_by_items ds))) (appends_both (appends_both first inside) last)

-- the tokens of members made from a list
abbrev pub each_member : {X : Type 0} → (X → List ℕ) → (X → Data) → List X → List Token
each_member name value xs = flat_map (λ x. member_tokens (name x) (value x)) xs

module _ {X : Type 0} (name : X → List ℕ) (value : X → Data) (all : List X → Members) (none : all [] ≡ no_members) (more : (x : X) (xs : List X) → all (x ∷ xs) ≡ member (name x) (value x) (all xs)) where
  members_by_members : (xs : List X) → members_tokens (members_outline (all xs)) ≡ each_member name value xs ++ end_object ∷ []
  members_by_members [] = ap (λ ms. members_tokens (members_outline ms)) none
  members_by_members (x ∷ xs) =
      ap (λ ms. members_tokens (members_outline ms)) (more x xs)
      ∙ ap (λ l. member_tokens (name x) (value x) ++ l) (members_by_members xs) ∙ sym (append_assoc (member_tokens (name x) (value x)) (each_member name value xs) (end_object ∷ []))

  -- tokens between braces are an object
  pub whole_object : {a b c d : Written} (xs : List X) → Appends a b (begin_object ∷ []) → Appends b c (each_member name value xs) → Appends c d (end_object ∷ []) → Appends a d (value_tokens (object (all xs)))
  whole_object xs first inside last = appends_as (ap (λ l. begin_object ∷ l) (sym (members_by_members xs))) (appends_both (appends_both first inside) last)

-- ---- one more of a list

-- one more element, by its index
pub one_more : {Y X : Type 0} (f : Y → X) (g : X → List Token) (ys : List Y) (i : ℕ) (y : Y) → y ≡ get_or ys i y → i < length ys
    → flat_map g (map f (take i ys)) ++ g (f y) ≡ flat_map g (map f (take (i + 1) ys))
one_more {Y = Y} {X = X} f g ys i y here inside =
    let step = ap (flat_map g) (map_more f ys i y inside) ∙ flat_map-append g (map f (take i ys)) (f (get_or ys i y) ∷ []) in
    let alone = append-nil (g (f (get_or ys i y))) ∙ ap (λ (z : Y). g (f z)) (sym here) in
    sym (step ∙ ap (λ l. flat_map g (map f (take i ys)) ++ l) alone)

taken_suc : {X : Type 0} (xs : List X) (i : ℕ) → take i xs ++ option_to_list (slice_get xs i) ≡ take (suc i) xs
taken_suc [] zero = refl
taken_suc [] (suc i) = refl
taken_suc (x ∷ xs) zero = refl
taken_suc (x ∷ xs) (suc i) = ap (λ l. x ∷ l) (taken_suc xs i)

-- the first elements with the next, if there is one
pub taken_next : {X : Type 0} (xs : List X) (i : ℕ) → take i xs ++ option_to_list (slice_get xs i) ≡ take (i + 1) xs
taken_next xs i = taken_suc xs i ∙ ap (λ n. take n xs) (sym (add-one i))

-- the tokens of one more element, if there is one
pub tokens_next : {X : Type 0} (g : X → List Token) (xs : List X) (i : ℕ) → flat_map g (take i xs) ++ flat_map g (option_to_list (slice_get xs i)) ≡ flat_map g (take (i + 1) xs)
tokens_next g xs i = sym (flat_map-append g (take i xs) (option_to_list (slice_get xs i))) ∙ ap (flat_map g) (taken_next xs i)

-- one more item, which is there
pub one_more_item : {Y : Type 0} (f : Y → Data) (ys : List Y) (i : ℕ) (y : Y) → slice_get ys i ≡ Some y
    → values_tokens (map f (take i ys)) ++ value_tokens (f y) ≡ values_tokens (map f (take (i + 1) ys))
one_more_item {Y = Y} f ys i y there =
    ap (λ (l : List Token). values_tokens (map f (take i ys)) ++ l) (sym (append-nil (value_tokens (f y))))
    ∙ ap (λ o. values_tokens (map f (take i ys)) ++ values_tokens (map f (option_to_list o))) (sym there)
    ∙ sym (flat_map-append value_tokens (map f (take i ys)) (map f (option_to_list (slice_get ys i))))
    ∙ ap values_tokens (sym (map-append f (take i ys) (option_to_list (slice_get ys i))))
    ∙ ap (λ (l : List Y). values_tokens (map f l)) (taken_next ys i)

-- there is an element at each index
pub there_at : {Y : Type 0} (ys : List Y) (i : ℕ) → i < length ys → (y : Y) × (slice_get ys i ≡ Some y)
there_at [] i within = absurd (omega (arith, within))
there_at (y ∷ ys) zero within = (y, refl)
there_at (y ∷ ys) (suc i) within = there_at ys i (omega (arith, within))

-- ---- whole lines

-- a value that was written from the beginning
pub has_value : (d : Data) (old new : Written) → IsBegun old → Appends old new (value_tokens d) → HasValue new d
has_value d old new begun written = record {
  before = written.before ∙ begun.before;
  tokens = written.tokens ∙ ap (λ (l : List Token). l ++ value_tokens d) begun.tokens;
}

-- its text, and a newline, is its line
pub line_written : (d : Data) (line : Written) (text : List ℕ) → HasValue line d → text ≡ (line.before ++ print line.tokens) ++ 10 ∷ [] → text ≡ line_of d
unfolding line_of
line_written d line text has ends =
    let before = has.before in
    let tokens = has.tokens in
    ends ∙ ap (λ (l : List ℕ). l ++ 10 ∷ []) ((λ i. before i ++ print (tokens i)) ∙ print-outline d)
