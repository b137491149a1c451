-- What is in its ranges keeps the limits, one by one and all together, and what keeps the limits is in its ranges.
use Rattle.std.proofs.Common.{◌≡◌, ℕ, zero, suc, ◌<◌, Bool, true, false, cond, List, [], ◌∷◌, length, get_or, Result, Ok, Err, IsOk, refl, ap, ◌∙◌, arith, rules, ◌++◌, subst, slice_index_or, IsTrue, map, codes, ◌&&◌, nat_le, Option, Some, None, inl, inr, sym}
use Rattle.std.proofs.lemmas.Bool.{and_parts, and_from}
use Rattle.std.specs.Borrow.{Bor}
use Rattle.std.specs.List.{list_all}
use Rattle.serde_json.specs.Data.{Members, Data, number, string, array, object, unsigned, member, no_members, null, boolean}
use Rattle.serde_json.specs.View.{view, items_view, items_of}
use Rattle.serde_json.specs.declared.value.Value.{Value}
use Rattle.pn_join.specs.Naming.{is_name}
use Rattle.pn_join.specs.Marks.{Positions}
use Rattle.pn_json.specs.Answers.{◌>>=◌, fault_as}
use Rattle.pn_json.specs.Members.{only_named, each_in, texts}
use Rattle.pn_json.proofs.LookUps.{guard_ok}
use Rattle.pn_record.specs.Grammar.{ranges_in}
use Rattle.pn_record.specs.declared.records.Image.{Image}
use Rattle.pn_record.specs.Reading.{is_image}
use Rattle.pn_record.specs.Limits.{is_key, is_version}
use Rattle.pn_record.specs.Sets.{Stamp}
use Rattle.pn_record.specs.Writing.{image_data}
use Rattle.pn_record.proofs.SameImage.{in_ranges as image_in_ranges, image_from_ranges}
use Rattle.pn_record.proofs.ReadImages.{fields_rise, InOrder, ItemsInOrder, MembersInOrder, in_order-at}
use Rattle.pn_record.specs.Marks.{is_mark, marks_data, marks_in}
use Rattle.pn_record.proofs.MarksValues.{marks_again, marks_found}
use Rattle.pn_tablet.specs.Layouts.{Bounds}
use Rattle.pn_tablet.specs.declared.layout.TheConstants.{MAX_BOUNDS}
use Rattle.pn_stream.specs.Brokers.{DeliveryValue, are_positions}
use Rattle.pn_protocol.specs.Command.Checks.{each_fits, image_fits, fits, batch_fits, batches_fit, bounds_fit, key_fits, keys_fit, fitting_version, named_alone}
use Rattle.pn_protocol.specs.declared.refusal.MemberName.TheVariants.{Other, Batches, First, Key, Keys, Stream, Version}
use Rattle.pn_protocol.specs.declared.refusal.Refusal.{Refusal}
use Rattle.pn_protocol.specs.declared.refusal.Refusal.TheVariants.{BadShape, Memory, OutOfRange}
use Rattle.pn_protocol.specs.Command.Grammar.{delivery_data, deliver_command, IsNeed}
use Rattle.pn_protocol.specs.Command.Meaning.{is_delivery, are_few, may_be_required, is_command, deliver, get, read, relayout}
use Rattle.pn_protocol.specs.declared.command.ranges.TheConstants.{MAX_KEYS}
use Rattle.pn_protocol.specs.declared.refusal.MemberName.{MemberName}
use Rattle.pn_protocol.specs.Command.Tablets.{need_refusal, need_in, need_at}
use Rattle.pn_protocol.specs.declared.refusal.MemberName.TheVariants as member_name

-- A check of all is a check of each.

-- both of two checks passed
pub both_fit : (first second : Result (Unit {0}) Refusal) → (first >>= λ passed. second) ≡ Ok tt → (first ≡ Ok tt) × (second ≡ Ok tt)
both_fit (Ok tt) second is = (refl, is)
both_fit (Err e) second is = absurd (cc)

pub fits_at : {A : Type 0} (check : A → Result (Unit {0}) Refusal) (xs : List A) (i : ℕ) (x : A) → i < length xs → x ≡ get_or xs i x → each_fits check xs ≡ Ok tt → check x ≡ Ok tt
fits_at check [] i x inside here is = absurd (omega arith)
fits_at check (y ∷ xs) zero x inside here is = ap check here ∙ (both_fit (check y) (each_fits check xs) is).0
fits_at check (y ∷ xs) (suc i) x inside here is =
    fits_at check xs i x (omega arith) here (both_fit (check y) (each_fits check xs) is).1

-- a result without a fault under another name has none
pub as_ok : {A E F : Type 0} (name : E → F) (r : Result A E) (a : A) → fault_as name r ≡ Ok a → r ≡ Ok a
as_ok name (Ok x) a is = cc
as_ok name (Err e) a is = absurd (cc)

passed : {E F : Type 0} (name : E → F) (r : Result (Unit {0}) E) → fault_as name r ≡ Ok tt → IsOk r
passed name (Ok tt) is = search rules
passed name (Err e) is = absurd (cc)

-- an image that fits breaks no range
pub in_ranges : (image : Image) → image_fits image ≡ Ok tt → IsOk (ranges_in image)
in_ranges image is = passed _ (ranges_in image) is

-- a member by another name is not that memory ran out
pub never_memory : (names : List (List ℕ)) (ms : Members) → named_alone names ms ≡ Err Memory → ⊥
never_memory names ms is = by_test (only_named names ms) is
  where
    by_test : (b : Bool) → ◌≡◌ {A = Result (Unit {0}) Refusal} (cond b (Ok tt) (Err (BadShape Other))) (Err Memory) → ⊥
    by_test true is = cc
    by_test false is = cc

-- Reading the items of an array up to the first fault.

-- the values so far, then those of the rest
abbrev pub onto : {A F : Type 0} → List A → Result (List A) F → Result (List A) F
onto done rest = rest >>= λ values. Ok (done ++ values)

first_ok : {A B F : Type 0} (first : Result A F) (next : A → Result B F) → IsOk (first >>= next) → IsOk first
first_ok (Ok a) next found = refl
first_ok (Err e) next found = found

-- if all items are read, the next one is
pub next_there : {A F : Type 0} (reading : Data → Result A F) (all : Result (List A) F) (done : List A) (left rest : List Value) (value : Value) → all ≡ onto done (each_in reading (items_view left)) → left ≡ value ∷ rest
    → IsOk all → IsOk (reading (view value))
next_there reading all done left rest value is next found =
    let here = is ∙ ap (λ values. onto done (each_in reading (items_view values))) next in
    first_ok (reading (view value)) _ (first_ok (each_in reading (items_view (value ∷ rest))) (λ values. Ok (done ++ values)) (subst IsOk here found))

-- What is in its ranges keeps the limits, and what keeps the limits is in its ranges.

members_in_order : (ms : Members) → InOrder (object ms) → MembersInOrder ms
members_in_order ms order = order.1

image_kept : (image : Image) → InOrder (image_data image) → image_fits image ≡ Ok tt → is_image image ≡ true
image_kept image order is = image_from_ranges image (as_ok _ (ranges_in image) tt is) (fields_rise image.content.0 _ order)

image_again : (image : Image) → is_image image ≡ true → image_fits image ≡ Ok tt
image_again image keeps = rw (image_in_ranges image keeps) refl

kept_each : {A : Type 0} (written : A → Data) (check : A → Result (Unit {0}) Refusal) (test : A → Bool) → ((a : A) → InOrder (written a) → check a ≡ Ok tt → test a ≡ true)
    → (xs : List A) → ItemsInOrder (items_of (map written xs)) → each_fits check xs ≡ Ok tt → list_all test xs ≡ true
kept_each written check test so [] order is = refl
kept_each written check test so (x ∷ xs) order is =
    let parts = both_fit (check x) (each_fits check xs) is in
    and_from (test x) (list_all test xs) (so x order.0 parts.0) (kept_each written check test so xs order.1 parts.1)

fit_each : {A : Type 0} (check : A → Result (Unit {0}) Refusal) (test : A → Bool) → ((a : A) → test a ≡ true → check a ≡ Ok tt) → (xs : List A) → list_all test xs ≡ true → each_fits check xs ≡ Ok tt
fit_each check test so [] keeps = refl
fit_each check test so (x ∷ xs) keeps =
    let parts = and_parts (test x) (list_all test xs) keeps in
    rw (so x parts.0, fit_each check test so xs parts.1) refl

pub fits_true : (member_name : MemberName) (test : Bool) → fits member_name test ≡ Ok tt → test ≡ true
fits_true member_name true is = refl
fits_true member_name false is = absurd (cc)

abbrev pub delivery_members : DeliveryValue → Members
delivery_members delivery =
    member (codes "first") (number (unsigned delivery.first)) (member (codes "images") (array (items_of (map image_data delivery.images))) (member (codes "stream") (string delivery.stream) no_members))

delivery_kept : (delivery : DeliveryValue) → InOrder (delivery_data delivery) → batch_fits delivery ≡ Ok tt → is_delivery delivery ≡ true
unfolding batch_fits
delivery_kept delivery order is =
    let first = both_fit (fits First (are_positions delivery.first (length delivery.images))) _ is in
    let rest = both_fit (each_fits image_fits delivery.images) (fits Stream (is_name delivery.stream)) first.1 in
    let inside = in_order-at (codes "images") (delivery_members delivery) (array (items_of (map image_data delivery.images))) (members_in_order (delivery_members delivery) order) refl in
    and_from _ _ (and_from _ _ (fits_true Stream _ rest.1) (fits_true First _ first.0)) (kept_each image_data image_fits is_image image_kept delivery.images inside rest.0)

delivery_again : (delivery : DeliveryValue) → is_delivery delivery ≡ true → batch_fits delivery ≡ Ok tt
unfolding batch_fits
delivery_again delivery keeps =
    let parts = and_parts (is_name delivery.stream && are_positions delivery.first (length delivery.images)) (list_all is_image delivery.images) keeps in
    let named = and_parts (is_name delivery.stream) (are_positions delivery.first (length delivery.images)) parts.0 in
    rw (named.0, named.1, fit_each image_fits is_image image_again delivery.images parts.1) refl

abbrev pub deliver_members : List DeliveryValue → Members
deliver_members deliveries =
    member (codes "batches") (array (items_of (map delivery_data deliveries))) (member (codes "do") (string (codes "deliver")) no_members)

-- deliveries whose JSON is in order, and that are in their ranges
pub deliveries_kept : (deliveries : List DeliveryValue) → InOrder (deliver_command deliveries) → batches_fit deliveries ≡ Ok tt → is_command (deliver deliveries) ≡ true
unfolding batches_fit
deliveries_kept deliveries order is =
    let count = both_fit (fits Batches _) (each_fits batch_fits deliveries) is in
    let inside = in_order-at (codes "batches") (deliver_members deliveries) (array (items_of (map delivery_data deliveries))) (members_in_order (deliver_members deliveries) order) refl in
    and_from _ _ (fits_true Batches _ count.0) (kept_each delivery_data batch_fits is_delivery delivery_kept deliveries inside count.1)

-- deliveries that keep their limits
pub deliveries_again : (deliveries : List DeliveryValue) → is_command (deliver deliveries) ≡ true → batches_fit deliveries ≡ Ok tt
unfolding batches_fit
deliveries_again deliveries keeps =
    let parts = and_parts _ (list_all is_delivery deliveries) keeps in
    rw (parts.0, fit_each batch_fits is_delivery delivery_again deliveries parts.1) refl

all_keys : (member_name : MemberName) (keys : List (List ℕ)) → each_fits (key_fits member_name) keys ≡ Ok tt → list_all is_key keys ≡ true
all_keys member_name [] is = refl
all_keys member_name (key ∷ keys) is =
    let parts = both_fit (key_fits member_name key) (each_fits (key_fits member_name) keys) is in
    and_from (is_key key) (list_all is_key keys) (fits_true member_name (is_key key) parts.0) (all_keys member_name keys parts.1)

key_again : (member_name : MemberName) (key : List ℕ) → is_key key ≡ true → key_fits member_name key ≡ Ok tt
key_again member_name key keeps = rw keeps refl

-- each of texts that are keys
pub key_at : (keys : List (Bor (List ℕ))) (i : ℕ) (other : Bor (List ℕ)) → i < length keys → IsTrue (list_all is_key (texts keys)) → IsTrue (is_key (slice_index_or keys i other).now)
key_at [] i other inside are = absurd (omega (arith, inside))
key_at (key ∷ keys) zero other inside are = (and_parts (is_key key.now) (list_all is_key (texts keys)) are).0
key_at (key ∷ keys) (suc i) other inside are = key_at keys i other (omega (arith, inside)) (and_parts (is_key key.now) (list_all is_key (texts keys)) are).1

keys_in : (keys : List (List ℕ)) → keys_fit keys ≡ Ok tt → (are_few MAX_KEYS keys ≡ true) × (list_all is_key keys ≡ true)
unfolding keys_fit
keys_in keys is =
    let count = both_fit (fits Keys _) (each_fits (key_fits Keys) keys) is in
    (fits_true Keys _ count.0, all_keys Keys keys count.1)

bounds_in : (bounds : Bounds) → bounds_fit bounds ≡ Ok tt → (nat_le (length bounds) MAX_BOUNDS ≡ true) × (list_all is_key bounds ≡ true)
unfolding bounds_fit
bounds_in bounds is =
    let count = both_fit (fits member_name.Bounds _) (each_fits (key_fits member_name.Bounds) bounds) is in
    (fits_true member_name.Bounds _ count.0, all_keys member_name.Bounds bounds count.1)

-- keys and bounds that are in their ranges are keys
pub are_keys : (keys : List (List ℕ)) → keys_fit keys ≡ Ok tt → IsTrue (list_all is_key keys)
are_keys keys is = (keys_in keys is).1

pub bounds_are_keys : (bounds : Bounds) → bounds_fit bounds ≡ Ok tt → IsTrue (list_all is_key bounds)
bounds_are_keys bounds is = (bounds_in bounds is).1

-- keys that are in their ranges
pub keys_kept : (keys : List (List ℕ)) → keys_fit keys ≡ Ok tt → is_command (get keys) ≡ true
keys_kept keys is = let both = keys_in keys is in and_from _ _ both.0 both.1

-- bounds that are in their ranges
pub bounds_kept : (bounds : Bounds) → bounds_fit bounds ≡ Ok tt → is_command (relayout bounds) ≡ true
bounds_kept bounds is = let both = bounds_in bounds is in and_from _ _ both.0 both.1

-- keys that keep their limits
pub keys_again : (keys : List (List ℕ)) → is_command (get keys) ≡ true → keys_fit keys ≡ Ok tt
unfolding keys_fit
keys_again keys keeps =
    let parts = and_parts _ (list_all is_key keys) keeps in
    rw (parts.0, fit_each (key_fits Keys) is_key (key_again Keys) keys parts.1) refl

-- bounds that keep their limits
pub bounds_again : (bounds : Bounds) → is_command (relayout bounds) ≡ true → bounds_fit bounds ≡ Ok tt
unfolding bounds_fit
bounds_again bounds keeps =
    let parts = and_parts (nat_le (length bounds) MAX_BOUNDS) (list_all is_key bounds) keeps in
    rw (parts.0, fit_each (key_fits member_name.Bounds) is_key (key_again member_name.Bounds) bounds parts.1) refl

version_kept : (required version : Option Stamp) → fitting_version required ≡ Ok version → (required ≡ version) × (may_be_required required ≡ true)
version_kept None version is = (cc, refl)
version_kept (Some required) version is =
    let kept = guard_ok (is_version required) (Some required) version (OutOfRange Version) is in (kept.1, kept.0)

-- a key and a version that are in their ranges
pub read_kept : (key : List ℕ) (required version : Option Stamp) → fits Key (is_key key) ≡ Ok tt → fitting_version required ≡ Ok version → (required ≡ version) × (is_command (read key required) ≡ true)
read_kept key required version key_fits is =
    let kept = version_kept required version is in
    (kept.0, and_from (is_key key) (may_be_required required) (fits_true Key (is_key key) key_fits) kept.1)

-- a version that keeps its limits
pub version_again : (required : Option Stamp) → may_be_required required ≡ true → fitting_version required ≡ Ok required
version_again None keeps = refl
version_again (Some required) keeps = rw keeps refl

-- How far a copy has to reach: what is read of a member is what it says, and what it says is read.

-- what is read of a member is its need, whose names and positions keep their limits
abbrev Read : Option Data → Positions → Type 0
Read o need = IsNeed o need × (list_all is_mark need ≡ true)

no_need : (o : Option Data) (need : Positions) → ([] ≡ need → IsNeed o need) → ◌≡◌ {A = Result Positions Refusal} (Ok []) (Ok need) → Read o need
no_need o need so is =
    let none : [] ≡ need = cc in
    (so none, subst (λ marks. list_all is_mark marks ≡ true) none refl)

marks_needed : (d : Data) (need : Positions) → fault_as need_refusal (marks_in d) ≡ Ok need → Read (Some d) need
marks_needed d need is = let found = marks_found d need (as_ok need_refusal (marks_in d) need is) in (inr found.value, found.fits)

value_needed : (d : Data) (need : Positions) → need_in d ≡ Ok need → Read (Some d) need
value_needed null need is = no_need (Some null) need (λ none. inl (refl, sym none)) is
value_needed (boolean b) need is = marks_needed (boolean b) need is
value_needed (number n) need is = marks_needed (number n) need is
value_needed (string s) need is = marks_needed (string s) need is
value_needed (array ds) need is = marks_needed (array ds) need is
value_needed (object ms) need is = marks_needed (object ms) need is

pub need_found : (o : Option Data) (need : Positions) → need_at o ≡ Ok need → Read o need
need_found None need is = no_need None need (λ none. sym none) is
need_found (Some d) need is = value_needed d need is

pub need_again : (o : Option Data) (need : Positions) → IsNeed o need → list_all is_mark need ≡ true → need_at o ≡ Ok need
need_again None need is keeps = ap Ok (sym is)
need_again (Some d) need (inl (absent, none)) keeps = ap need_in absent ∙ ap Ok (sym none)
need_again (Some d) need (inr says) keeps = ap need_in says ∙ ap (fault_as need_refusal) (marks_again (marks_data need) need (record { value = refl; fits = keeps }))
