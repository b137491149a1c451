-- A value has the shape of a query exactly where its members are those of one; else its fault is the first.
use Rattle.std.proofs.Common.{◌≡◌, ◌↔◌, inl, inr, ℕ, true, ◌&&◌, cond, List, [], length, nat_le, codes, Option, Some, None, Ok, Err, IsTrue, refl, sym, ap, ◌∙◌, ◌∷◌, Bool, false, Result, if◌then◌else◌}
use Rattle.std.specs.List.{list_all}
use Rattle.std.specs.Option.{ok_or}
use Rattle.std.proofs.lemmas.Bool.{and_parts}
use Rattle.serde_json.specs.Data.{Data, null, boolean, number, string, array, object, unsigned, Members, Items, no_items, item}
use Rattle.serde_json.specs.Find.{get, get_member, as_object, as_array}
use Rattle.pn_json.specs.Members.{whole_number, only_named, no_others, each_in}
use Rattle.pn_json.proofs.LookUps.{bind_ok, guard_ok, ok_or_ok, object_from_as_object, number_from_whole}
use Rattle.pn_json.specs.Answers.{◌>>=◌}
use Rattle.pn_tablet.specs.Layouts.{is_end, key_data}
use Rattle.pn_scan.specs.Queries.{ConditionValue, QueryValue, is_limit, is_condition, query_fits, is_query, operand_fits}
use Rattle.pn_scan.specs.declared.query.TheConstants.{MAX_CONDITIONS, USUAL_PAGE}
use Rattle.pn_scan.specs.QueryReading.{conditions_data, query_data, conditions_in, condition_in, condition_at, query_members, key_of, key_in, limit_in, shape_in, query_in, IsGiven}
use Rattle.pn_scan.specs.declared.query_json.QueryFault.TheVariants.{BadShape, OutOfRange}
use Rattle.pn_scan.proofs.SameConditions.{conditions_fit, each_again, conditions_found}
use Rattle.pn_scan.specs.declared.query_json.QueryFault.{QueryFault}

-- A value has the shape of a query exactly where its members are those of the query.

-- ---- members

where_found : (o : Option Data) (cs : List ConditionValue) → conditions_in o ≡ Ok cs → IsGiven o (conditions_data cs) (cs ≡ []) × IsTrue (list_all operand_fits cs)
where_found None cs is = let none : [] ≡ cs = cc is in (inr (refl, sym none), ap (list_all operand_fits) (sym none))
where_found (Some d) cs is = let found = conditions_found d cs is in (inl (ap Some found.0), found.1)

where_again : (o : Option Data) (cs : List ConditionValue) → IsGiven o (conditions_data cs) (cs ≡ []) → list_all operand_fits cs ≡ true → conditions_in o ≡ Ok cs
where_again o cs (inl is) fit = rw is (each_again cs fit)
where_again o cs (inr is) fit = rw (is.0, is.1) refl

key_at_found : (d : Data) (key : Option (List ℕ)) → key_of d ≡ Ok key → d ≡ key_data key
key_at_found null None is = refl
key_at_found null (Some key) is = absurd (cc)
key_at_found (boolean b) key is = absurd (cc)
key_at_found (number n) key is = absurd (cc)
key_at_found (string s) None is = absurd (cc)
key_at_found (string s) (Some key) is = cc
key_at_found (array ds) key is = absurd (cc)
key_at_found (object ms) key is = absurd (cc)

key_found : (o : Option Data) (key : Option (List ℕ)) → key_in o ≡ Ok key → IsGiven o (key_data key) (key ≡ None)
key_found None None is = inr (refl, refl)
key_found None (Some key) is = absurd (cc)
key_found (Some d) key is = inl (ap Some (key_at_found d key is))

key_again : (o : Option Data) (key : Option (List ℕ)) → IsGiven o (key_data key) (key ≡ None) → key_in o ≡ Ok key
key_again o None (inl is) = rw is refl
key_again o (Some key) (inl is) = rw is refl
key_again o key (inr is) = rw (is.0, is.1) refl

limit_found : (o : Option Data) (limit : ℕ) → limit_in o ≡ Ok limit → IsGiven o (number (unsigned limit)) (limit ≡ USUAL_PAGE)
limit_found None limit is = inr (refl, cc)
limit_found (Some d) limit is = inl (ap Some (number_from_whole d limit (ok_or_ok (whole_number d) BadShape limit is)))

limit_again : (o : Option Data) (limit : ℕ) → IsGiven o (number (unsigned limit)) (limit ≡ USUAL_PAGE) → limit_in o ≡ Ok limit
limit_again o limit (inl is) = rw is refl
limit_again o limit (inr is) = rw (is.0, is.1) refl

-- ---- queries

-- an object of the members of a query, each given, or absent where that is usual
abbrev IsObjectOf : Data → QueryValue → Type 0
IsObjectOf d query = (ms : Members) × (d ≡ object ms) × IsTrue (only_named query_members ms)
    × IsGiven (get_member (codes "after") ms) (key_data query.after) (query.after ≡ None)
    × IsGiven (get_member (codes "from") ms) (key_data query.from) (query.from ≡ None)
    × IsGiven (get_member (codes "limit") ms) (number (unsigned query.limit)) (query.limit ≡ USUAL_PAGE)
    × IsGiven (get_member (codes "to") ms) (key_data query.to) (query.to ≡ None)
    × IsGiven (get_member (codes "where") ms) (conditions_data query.conditions) (query.conditions ≡ [])
    × IsTrue (list_all operand_fits query.conditions)

shape_found : (d : Data) (query : QueryValue) → shape_in d ≡ Ok query → IsObjectOf d query
unfolding shape_in
shape_found d query is =
    let members = bind_ok (ok_or (as_object d) BadShape) _ query is in
    let after = bind_ok (key_in (get (codes "after") d)) _ query members.2 in
    let from = bind_ok (key_in (get (codes "from") d)) _ query after.2 in
    let limit = bind_ok (limit_in (get (codes "limit") d)) _ query from.2 in
    let to = bind_ok (key_in (get (codes "to") d)) _ query limit.2 in
    let conditions = bind_ok (conditions_in (get (codes "where") d)) _ query to.2 in
    let named = bind_ok (no_others query_members BadShape members.0) _ query conditions.2 in
    let made : record { from = from.0; to = to.0; after = after.0; conditions = conditions.0; limit = limit.0 } ≡ query = cc named.2 in
    let whole : d ≡ object members.0 = object_from_as_object d members.0 (ok_or_ok (as_object d) BadShape members.0 members.1) in
    let given = where_found _ conditions.0 (ap (λ d. conditions_in (get (codes "where") d)) (sym whole) ∙ conditions.1) in
    rw (← made) (
      members.0,
      whole,
      (guard_ok (only_named query_members members.0) tt named.0 BadShape named.1).0,
      key_found _ after.0 (ap (λ d. key_in (get (codes "after") d)) (sym whole) ∙ after.1),
      key_found _ from.0 (ap (λ d. key_in (get (codes "from") d)) (sym whole) ∙ from.1),
      limit_found _ limit.0 (ap (λ d. limit_in (get (codes "limit") d)) (sym whole) ∙ limit.1),
      key_found _ to.0 (ap (λ d. key_in (get (codes "to") d)) (sym whole) ∙ to.1),
      given.0,
      given.1,
    )

shape_again : (d : Data) (query : QueryValue) → IsObjectOf d query → shape_in d ≡ Ok query
unfolding shape_in
shape_again d query (ms, whole, named, after, from, limit, to, conditions, fit) =
    rw (whole, key_again _ query.after after, key_again _ query.from from, limit_again _ query.limit limit, key_again _ query.to to, where_again _ query.conditions conditions fit, named) refl

-- a value has the shape of a query exactly where its members are those of the query
pub shape_alone : (d : Data) (query : QueryValue) → (shape_in d ≡ Ok query) ↔ IsObjectOf d query
shape_alone d query = (shape_found d query, shape_again d query)

-- a value is read as the query whose shape it has, where that keeps the limits
pub query_found : (d : Data) (query : QueryValue) → query_in d ≡ Ok query → (shape_in d ≡ Ok query) × IsTrue (is_query query)
unfolding query_in
query_found d query is =
    let shape = bind_ok (shape_in d) (λ q. cond (is_query q) (Ok q) (Err OutOfRange)) query is in
    let fits = guard_ok (is_query shape.0) shape.0 query OutOfRange shape.2 in
    rw (← fits.1) (shape.1, fits.0)

pub query_again : (d : Data) (query : QueryValue) → (shape_in d ≡ Ok query) × IsTrue (is_query query) → query_in d ≡ Ok query
unfolding query_in
query_again d query is = rw (is.0, is.1) refl

-- ---- what is written

numbers_fit : (query : QueryValue) → is_query query ≡ true → list_all operand_fits query.conditions ≡ true
numbers_fit query limits =
    let fits = and_parts (is_end query.after && is_end query.from && is_end query.to) (query_fits query.conditions query.limit) limits in
    conditions_fit query.conditions (and_parts (is_limit query.limit && nat_le (length query.conditions) MAX_CONDITIONS) (list_all is_condition query.conditions) fits.1).1

-- the JSON of a query is read as the query
pub written_again : (query : QueryValue) → is_query query ≡ true → query_in (query_data query) ≡ Ok query
written_again query limits =
    query_again (query_data query) query (shape_again (query_data query) query (_, refl, refl, inl refl, inl refl, inl refl, inl refl, inl refl, numbers_fit query limits), limits)

pub query_written : (d : Data) (query : QueryValue) → d ≡ query_data query → is_query query ≡ true → query_in d ≡ Ok query
query_written d query is limits = ap query_in is ∙ written_again query limits

-- Which values are of a bad shape, and which out of range.

-- a fault, if there is one, is of the shape
abbrev OfShape : {A : Type 0} → Result A QueryFault → Type 0
OfShape (Ok a) = Unit {0}
OfShape (Err fault) = fault ≡ BadShape

both_of_shape : {A B : Type 0} (r : Result A QueryFault) (next : A → Result B QueryFault) → OfShape r → ((a : A) → OfShape (next a)) → OfShape (r >>= next)
both_of_shape (Ok a) next first rest = rest a
both_of_shape (Err fault) next first rest = first

there : {A : Type 0} (o : Option A) → OfShape (ok_or o BadShape)
there None = refl
there (Some a) = tt

named_or_not : (b : Bool) → OfShape {A = Unit {0}} (if b then Ok tt else Err BadShape)
named_or_not true = tt
named_or_not false = refl

key_at : (d : Data) → OfShape (key_of d)
key_at null = tt
key_at (boolean b) = refl
key_at (number n) = refl
key_at (string s) = tt
key_at (array ds) = refl
key_at (object ms) = refl

key_there : (o : Option Data) → OfShape (key_in o)
key_there None = tt
key_there (Some d) = key_at d

limit_there : (o : Option Data) → OfShape (limit_in o)
limit_there None = tt
limit_there (Some d) = there (whole_number d)

each_there : (ds : Items) → OfShape (each_in condition_at ds)
each_there no_items = tt
each_there (item d ds) =
    both_of_shape (condition_at d) (λ c. each_in condition_at ds >>= (λ cs. Ok (c ∷ cs))) (there (condition_in d))
    (λ c. both_of_shape (each_in condition_at ds) (λ cs. Ok (c ∷ cs)) (each_there ds) (λ cs. tt))

conditions_there : (o : Option Data) → OfShape (conditions_in o)
conditions_there None = tt
conditions_there (Some d) = both_of_shape (ok_or (as_array d) BadShape) (each_in condition_at) (there (as_array d)) each_there

-- a value without the shape has a bad one
shape_faults : (d : Data) → OfShape (shape_in d)
unfolding shape_in
shape_faults d =
    both_of_shape (ok_or (as_object d) BadShape) _ (there (as_object d)) (λ members.
    both_of_shape (key_in (get (codes "after") d)) _ (key_there (get (codes "after") d)) (λ after.
    both_of_shape (key_in (get (codes "from") d)) _ (key_there (get (codes "from") d)) (λ from.
    both_of_shape (limit_in (get (codes "limit") d)) _ (limit_there (get (codes "limit") d)) (λ limit.
    both_of_shape (key_in (get (codes "to") d)) _ (key_there (get (codes "to") d)) (λ to.
    both_of_shape (conditions_in (get (codes "where") d)) _ (conditions_there (get (codes "where") d)) (λ conditions.
    both_of_shape (no_others query_members BadShape members) (λ (named : Unit {0}). Ok (record { from = from; to = to; after = after; conditions = conditions; limit = limit })) (named_or_not (only_named query_members members)) (λ named. tt)))))))

-- what is read where the shape is this one
abbrev after_shape : Result QueryValue QueryFault → Result QueryValue QueryFault
after_shape shape = shape >>= (λ q. cond (is_query q) (Ok q) (Err OutOfRange))

no_bad : (b : Bool) (query : QueryValue) → cond b (Ok query) (Err OutOfRange) ≡ Err BadShape → ⊥
no_bad true query bad = cc
no_bad false query bad = cc

bad_alone : (shape : Result QueryValue QueryFault) (query : QueryValue) → shape ≡ Ok query → after_shape shape ≡ Err BadShape → ⊥
bad_alone (Ok other) query is bad = no_bad (is_query other) other bad
bad_alone (Err fault) query is bad = cc

bad_where_none : (d : Data) (shape : Result QueryValue QueryFault) → shape_in d ≡ shape → OfShape shape → ¬ ((query : QueryValue) × (shape_in d ≡ Ok query)) → after_shape shape ≡ Err BadShape
bad_where_none d (Ok query) is fault none = absurd (none (query, is))
bad_where_none d (Err fault) is of_shape none = ap Err of_shape

-- of a bad shape is what has the shape of no query
pub bad_shape : (d : Data) → query_in d ≡ Err BadShape ↔ ¬ ((query : QueryValue) × (shape_in d ≡ Ok query))
unfolding query_in
bad_shape d = (
  (λ bad found. bad_alone (shape_in d) found.0 found.1 bad),
  bad_where_none d (shape_in d) refl (shape_faults d),
)

unfit : (b : Bool) (query : QueryValue) → cond b (Ok query) (Err OutOfRange) ≡ Err OutOfRange → b ≡ false
unfit true query out = absurd (cc)
unfit false query out = refl

out_by_limits : (d : Data) (shape : Result QueryValue QueryFault) → shape_in d ≡ shape → OfShape shape → after_shape shape ≡ Err OutOfRange → (query : QueryValue) × (shape_in d ≡ Ok query) × (is_query query ≡ false)
out_by_limits d (Ok query) is of_shape out = (query, is, unfit (is_query query) query out)
out_by_limits d (Err fault) is of_shape out = absurd (cc)

out_again : (d : Data) (shape : Result QueryValue QueryFault) (query : QueryValue) → shape ≡ Ok query → is_query query ≡ false → after_shape shape ≡ Err OutOfRange
out_again d shape query is limits = rw (is, limits) refl

-- out of range is what has the shape of a query that breaks a limit
pub out_of_range : (d : Data) → query_in d ≡ Err OutOfRange ↔ ((query : QueryValue) × (shape_in d ≡ Ok query) × (is_query query ≡ false))
unfolding query_in
out_of_range d = (
  out_by_limits d (shape_in d) refl (shape_faults d),
  (λ found. out_again d (shape_in d) found.0 found.1 found.2),
)
