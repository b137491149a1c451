-- What is found in a value at each name, and what that says of the value.
use Rattle.std.proofs.Common.{◌≡◌, ℕ, List, Bool, true, false, cond, not, Option, Some, None, option_map, option_and_then, unwrap_or, Result, Ok, Err, refl, ap, subst, ◌<◌, [], ◌∷◌, bytes_eq, ◌∙◌, get_or, length, zero, suc, sym, arith, T, ◌&&◌, Ordering, Less, Equal, Greater, nat_cmp, is_eq, string_bytes, string_cmp, String, Global, ◌||◌}
use Rattle.std.specs.Option.{ok_or}
use Rattle.std.proofs.lemmas.Bool.{or_left, or_right, and_parts, false≢true}
use Rattle.std.specs.Borrow.{Bor}
use Rattle.std.specs.List.{list_any, AllByRecursion}
use Rattle.std.proofs.lemmas.Cmp.{nat_list_cmp_total}
use Rattle.std.proofs.lemmas.Map.Text.{is_eq-slice_cmp}
use Rattle.std.proofs.lemmas.Slice.Eq.{bytes_eq-Decides}
use Rattle.std.specs.Cmp.Lexicographic.{slice_cmp}
use Rattle.std.specs.FinMap.Entries.{find, is_sorted, below_all, same_entries}
use Rattle.std.specs.List.Sorted.{IsStrictlySortedBy}
use Rattle.std.specs.Map.{keys_of}
use Rattle.std.specs.Ordering.{match_ordering, is_lt}
use Rattle.serde_json.specs.Data.{Num, unsigned, negative, float, Data, null, boolean, number, string, array, object, Items, Members, no_members, member}
use Rattle.serde_json.specs.Find.{as_bool, as_u64, as_str, as_array, as_object, get_member}
use Rattle.serde_json.specs.View.{members_view}
use Rattle.serde_json.specs.declared.value.Value.{Value}
use Rattle.pn_json.specs.Answers.{◌>>=◌, ShowsUnless}
use Rattle.pn_json.specs.Members.{whole_number, texts, only_named}

-- What a look into a value found, the value is; and what was right stays right.

-- a check after another that passed
pub bind_ok : {A B E : Type 0} (first : Result A E) (next : A → Result B E) (b : B) → (first >>= next) ≡ Ok b → (a : A) × (first ≡ Ok a) × (next a ≡ Ok b)
bind_ok (Ok a) next b is = (a, refl, is)
bind_ok (Err e) next b is = cc

-- a check that passed lets the next one decide
pub passed : {A E : Type 0} (b : Bool) (e : E) (next : Result A E) (a : A) → cond (not b) (Err e) next ≡ Ok a → (b ≡ true) × (next ≡ Ok a)
passed true e next a is = (refl, is)
passed false e next a is = absurd (cc)

-- and so does a fault that is not there
pub no_fault : {A E : Type 0} (b : Bool) (e : E) (next : Result A E) (a : A) → cond b (Err e) next ≡ Ok a → (b ≡ false) × (next ≡ Ok a)
no_fault true e next a is = absurd (cc)
no_fault false e next a is = (refl, is)

-- a value that is answered where a check passed
pub guard_ok : {A E : Type 0} (b : Bool) (x y : A) (e : E) → cond b (Ok x) (Err e) ≡ Ok y → (b ≡ true) × (x ≡ y)
guard_ok true x y e is = (refl, cc)
guard_ok false x y e is = absurd (cc)

pub ok_or_ok : {A E : Type 0} (o : Option A) (e : E) (a : A) → ok_or o e ≡ Ok a → o ≡ Some a
ok_or_ok None e a is = cc
ok_or_ok (Some x) e a is = cc

pub and_then_some : {A B : Type 0} (o : Option A) (f : A → Option B) (b : B) → option_and_then f o ≡ Some b → (a : A) × (o ≡ Some a) × (f a ≡ Some b)
and_then_some None f b is = cc
and_then_some (Some a) f b is = (a, refl, is)

pub map_some : {A B : Type 0} (o : Option A) (f : A → B) (b : B) → option_map f o ≡ Some b → (a : A) × (o ≡ Some a) × (f a ≡ b)
map_some None f b is = cc
map_some (Some a) f b is = (a, refl, cc)

pub true_from_as_bool : (d : Data) → unwrap_or (as_bool d) false ≡ true → d ≡ boolean true
true_from_as_bool null is = cc
true_from_as_bool (boolean b) is = ap boolean is
true_from_as_bool (number n) is = cc
true_from_as_bool (string s) is = cc
true_from_as_bool (array ds) is = cc
true_from_as_bool (object ms) is = cc

pub string_from_as_str : (d : Data) (s : List ℕ) → as_str d ≡ Some s → d ≡ string s
string_from_as_str null s is = cc
string_from_as_str (boolean b) s is = cc
string_from_as_str (number n) s is = cc
string_from_as_str (string t) s is = cc
string_from_as_str (array ds) s is = cc
string_from_as_str (object ms) s is = cc

pub array_from_as_array : (d : Data) (ds : Items) → as_array d ≡ Some ds → d ≡ array ds
array_from_as_array null ds is = cc
array_from_as_array (boolean b) ds is = cc
array_from_as_array (number n) ds is = cc
array_from_as_array (string t) ds is = cc
array_from_as_array (array es) ds is = cc
array_from_as_array (object ms) ds is = cc

pub object_from_as_object : (d : Data) (ms : Members) → as_object d ≡ Some ms → d ≡ object ms
object_from_as_object null ms is = cc
object_from_as_object (boolean b) ms is = cc
object_from_as_object (number n) ms is = cc
object_from_as_object (string t) ms is = cc
object_from_as_object (array es) ms is = cc
object_from_as_object (object ns) ms is = cc

unsigned_from_as_u64 : (n : Num) (m : ℕ) → as_u64 n ≡ Some m → n ≡ unsigned m
unsigned_from_as_u64 (unsigned k) m is = cc
unsigned_from_as_u64 (negative z) m is = cc
unsigned_from_as_u64 (float x) m is = cc

pub number_from_whole : (d : Data) (m : ℕ) → whole_number d ≡ Some m → d ≡ number (unsigned m)
number_from_whole null m is = cc
number_from_whole (boolean b) m is = cc
number_from_whole (number n) m is = ap number (unsigned_from_as_u64 n m is)
number_from_whole (string t) m is = cc
number_from_whole (array es) m is = cc
number_from_whole (object ns) m is = cc

-- what is answered is right where the right answer is this one
pub right_same : {A B F : Type 0} (memory : F) (show : A → B) (answer : Result A F) (right other : Result B F) → ShowsUnless memory show answer right → right ≡ other → ShowsUnless memory show answer other
right_same {B = B} {F = F} memory show answer right other gives is = subst (λ (r : Result B F). ShowsUnless memory show answer r) is gives

-- Names among borrowed texts.

-- a text that a name equals is among the texts
pub found_among : (name : List ℕ) (names : List (Bor (List ℕ))) (index : ℕ) (other : Bor (List ℕ))
    → index < length names → other ≡ get_or names index other → bytes_eq name other.now ≡ true → list_any (bytes_eq name) (texts names) ≡ true
found_among name [] index other within there same = absurd (omega arith)
found_among name (first ∷ names) zero other within there same =
    or_left (bytes_eq name first.now) _ (ap (λ (text : Bor (List ℕ)). bytes_eq name text.now) (sym there) ∙ same)
found_among name (first ∷ names) (suc index) other within there same =
    or_right (bytes_eq name first.now) _ (found_among name names index other (omega arith) there same)

-- Members in name order are determined by what is found at each name.

-- the members as a list
abbrev pub entries_of : Members → List (List ℕ × Data)
entries_of no_members = []
entries_of (member name d ms) = (name, d) ∷ entries_of ms

abbrev members_from : List (List ℕ × Data) → Members
members_from [] = no_members
members_from (e ∷ es) = member e.0 e.1 (members_from es)

members_from-entries_of : (ms : Members) → members_from (entries_of ms) ≡ ms
members_from-entries_of no_members = refl
members_from-entries_of (member name d ms) = ap (member name d) (members_from-entries_of ms)

-- the names strictly rise
abbrev pub Rise : Members → Type 0
Rise ms = T (is_sorted (slice_cmp nat_cmp) (entries_of ms))

same_names : (xs ys : List ℕ) → slice_cmp nat_cmp xs ys ≡ Equal → xs ≡ ys
same_names xs ys is = (bytes_eq-Decides xs ys).0 (sym (is_eq-slice_cmp xs ys) ∙ ap is_eq is)

step_at : (o : Ordering) (b : Bool) (d : Data) (rest : Option Data) → is_eq o ≡ b → match_ordering o rest (Some d) rest ≡ cond b (Some d) rest
step_at Less b d rest is = rw (← is) refl
step_at Equal b d rest is = rw (← is) refl
step_at Greater b d rest is = rw (← is) refl

-- the first member, where its name is the one
pub get_member-member : (q name : List ℕ) (d : Data) (ms : Members) → get_member q (member name d ms) ≡ cond (bytes_eq q name) (Some d) (get_member q ms)
get_member-member q name d ms = step_at (slice_cmp nat_cmp q name) (bytes_eq q name) d (get_member q ms) (is_eq-slice_cmp q name)

find-entries_of : (q : List ℕ) (ms : Members) → find (slice_cmp nat_cmp) q (entries_of ms) ≡ get_member q ms
find-entries_of q no_members = refl
find-entries_of q (member name d ms) =
    ap (λ b. cond b (Some d) (find (slice_cmp nat_cmp) q (entries_of ms))) (is_eq-slice_cmp q name)
    ∙ ap (λ rest. cond (bytes_eq q name) (Some d) rest) (find-entries_of q ms) ∙ sym (get_member-member q name d ms)

-- the same found at each name
pub same_members : (ms ns : Members) → Rise ms → Rise ns → ((q : List ℕ) → get_member q ms ≡ get_member q ns) → ms ≡ ns
same_members ms ns rise risen same =
    sym (members_from-entries_of ms)
    ∙ ap members_from (same_entries (slice_cmp nat_cmp) nat_list_cmp_total same_names (entries_of ms) (entries_of ns) rise risen (λ q. find-entries_of q ms ∙ same q ∙ sym (find-entries_of q ns)))
    ∙ members_from-entries_of ns

other_name : (q name : List ℕ) (names : List (List ℕ)) (b : Bool) → bytes_eq q name ≡ b → list_any (bytes_eq name) names ≡ true → list_any (bytes_eq q) names ≡ false → b ≡ false
other_name q name names false is among apart = refl
other_name q name names true is among apart =
    let same : q ≡ name = (bytes_eq-Decides q name).0 is in
    absurd (false≢true (sym apart ∙ ap (λ x. list_any (bytes_eq x) names) same ∙ among))

-- nothing is found at a name that no member may have
pub get_member-unnamed : (names : List (List ℕ)) (ms : Members) (q : List ℕ) → only_named names ms ≡ true → list_any (bytes_eq q) names ≡ false → get_member q ms ≡ None
get_member-unnamed names no_members q named apart = refl
get_member-unnamed names (member name d ms) q named apart =
    let parts = and_parts (list_any (bytes_eq name) names) (only_named names ms) named in
    let apart_here : bytes_eq q name ≡ false = other_name q name names (bytes_eq q name) refl parts.0 apart in
    get_member-member q name d ms ∙ rw apart_here (get_member-unnamed names ms q parts.1 apart)

both : (a b : Bool) → T a → T b → T (a && b)
both true b first second = second
both false b first second = first

below_members : (name : String Global) (entries : List (String Global × Value)) → AllByRecursion (λ other. string_cmp name other ≡ Less) (keys_of entries)
    → T (below_all (slice_cmp nat_cmp) (string_bytes name) (entries_of (members_view entries)))
below_members name [] below = tt
below_members name (entry ∷ entries) below = both _ _ (subst (λ o. T (is_lt o)) (sym below.0) tt) (below_members name entries below.1)

-- the members of a map rise
pub Rise-map : (entries : List (String Global × Value)) → IsStrictlySortedBy string_cmp (keys_of entries) → Rise (members_view entries)
unfolding IsStrictlySortedBy
Rise-map [] ordered = tt
Rise-map (entry ∷ entries) ordered = both _ _ (below_members entry.0 entries ordered.0) (Rise-map entries ordered.1)

-- at this name both have the same, so it is the other names that are left to look at
pub or_elsewhere : (q name : List ℕ) (ms ns : Members) (o : Option Data) → get_member name ms ≡ o → get_member name ns ≡ o → (bytes_eq q name ≡ false → get_member q ms ≡ get_member q ns) → get_member q ms ≡ get_member q ns
or_elsewhere q name ms ns o one two other = elim (bytes_eq q name) as (λ b. bytes_eq q name ≡ b → get_member q ms ≡ get_member q ns) [
  | true ↦ λ is. let same : q ≡ name = (bytes_eq-Decides q name).0 is in
      ap (λ x. get_member x ms) same ∙ one ∙ sym two ∙ ap (λ x. get_member x ns) (sym same)
  | false ↦ other
] refl

-- Members that have the same values at each of their names are the same.

-- the same is found at each of the names
abbrev pub SameAt : List (List ℕ) → Members → Members → Type 0
SameAt [] ms ns = Unit {0}
SameAt (name ∷ names) ms ns = (get_member name ms ≡ get_member name ns) × SameAt names ms ns

split : {A : Type 0} (b : Bool) → (b ≡ true → A) → (b ≡ false → A) → A
split true here there = here refl
split false here there = there refl

other_one : (a b : Bool) → a ≡ false → (a || b) ≡ true → b ≡ true
other_one true b apart is = absurd (cc)
other_one false b apart is = is

same_among : (names : List (List ℕ)) (ms ns : Members) (q : List ℕ) → SameAt names ms ns → list_any (bytes_eq q) names ≡ true → get_member q ms ≡ get_member q ns
same_among [] ms ns q same among = absurd (cc)
same_among (name ∷ names) ms ns q same among =
    or_elsewhere q name ms ns (get_member name ns) same.0 refl (λ apart.
    same_among names ms ns q same.1 (other_one (bytes_eq q name) (list_any (bytes_eq q) names) apart among))

pub same_by_name : (names : List (List ℕ)) (ms ns : Members) → Rise ms → Rise ns → only_named names ms ≡ true → only_named names ns ≡ true → SameAt names ms ns → ms ≡ ns
same_by_name names ms ns rise risen named also same =
    same_members ms ns rise risen (λ q.
    split (list_any (bytes_eq q) names) (same_among names ms ns q same) (λ apart.
    get_member-unnamed names ms q named apart ∙ sym (get_member-unnamed names ns q also apart)))
