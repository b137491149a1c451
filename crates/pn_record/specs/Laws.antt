-- Laws of cells, with their proofs.
use Rattle.std.specs.Prelude.{◌≡◌, ℕ, Some, None, refl}
use Rattle.std.proofs.Common.{ap, ◌<◌, length, IsTrue, lit<, Bool, true, false, ◌&&◌, cond, List, [], ◌∷◌, ◌++◌, map, Option, sym, ◌∙◌, subst}
use Rattle.std.specs.declared.cmp.Ordering.TheVariants.{Less, Equal, Greater}
use Rattle.std.specs.Ordering.{nat_cmp, on, ordering_reverse, eq_by_cmp, is_eq}
use Rattle.std.specs.FinMap.{IsAntisymmetric, nat_cmp-IsAntisymmetric, slice_cmp-IsAntisymmetric, get, entries, find, keys, get-from_entries, get-entries, same_map, from_sorted, get-from_sorted, entries-from_sorted, is_sorted, empty, get-empty}
use Rattle.std.proofs.lemmas.Map.Lookups.{exact_bytes, exact_signed, exact_pairs}
use Rattle.std.specs.Cmp.{IsTotalOrder}
use Rattle.std.specs.Cmp.Lexicographic.{options_total, pointwise}
use Rattle.std.proofs.lemmas.Cmp.{nat_cmp_total, int_cmp_total, nat_list_cmp_total, lists_total, on_total, then_total, tied_itself}
use Rattle.std.specs.declared.cmp.Ordering.{Ordering}
use Rattle.std.proofs.lemmas.List.{map-append}
use Rattle.std.specs.FinMap.Entries.{by_order}
use lib.Dec.{T}
use Rattle.pn_join.specs.Laws.{JoinLaws}
use Rattle.pn_record.specs.Limits.{FieldValue, number_value, text_value, Field, ContentValue}
use Rattle.pn_record.specs.Sets.{version_cmp, bytes_cmp, value_cmp, field_cmp, body_cmp, content_cmp, CellValue, Contents, IsContents, as_entries, set_of, union, Stamp, cell_joined}
use Rattle.pn_record.specs.Showing.{shown_value}

-- The orders of versions, values and contents are total, and only equal ones tie.

pub bytes_cmp_total : IsTotalOrder bytes_cmp
bytes_cmp_total = nat_list_cmp_total

value_turned : (a b : FieldValue) → value_cmp a b ≡ ordering_reverse (value_cmp b a)
value_turned (number_value a) (number_value b) = int_cmp_total.antisymm a b
value_turned (number_value a) (text_value b) = refl
value_turned (text_value a) (number_value b) = refl
value_turned (text_value a) (text_value b) = nat_list_cmp_total.antisymm a b

value_trans : (a b c : FieldValue) → value_cmp a b ≡ Less → value_cmp b c ≡ Less → value_cmp a c ≡ Less
value_trans (number_value a) (number_value b) (number_value c) p q = int_cmp_total.trans a b c p q
value_trans (number_value a) (number_value b) (text_value c) p q = refl
value_trans (number_value a) (text_value b) (number_value c) p q = cc
value_trans (number_value a) (text_value b) (text_value c) p q = refl
value_trans (text_value a) (number_value b) c p q = cc
value_trans (text_value a) (text_value b) (number_value c) p q = cc
value_trans (text_value a) (text_value b) (text_value c) p q = nat_list_cmp_total.trans a b c p q

value_congr : (a b c : FieldValue) → value_cmp a b ≡ Equal → value_cmp a c ≡ value_cmp b c
value_congr (number_value a) (number_value b) (number_value c) p = int_cmp_total.congr a b c p
value_congr (number_value a) (number_value b) (text_value c) p = refl
value_congr (number_value a) (text_value b) c p = cc
value_congr (text_value a) (number_value b) c p = cc
value_congr (text_value a) (text_value b) (number_value c) p = refl
value_congr (text_value a) (text_value b) (text_value c) p = nat_list_cmp_total.congr a b c p

pub value_cmp_total : IsTotalOrder value_cmp
value_cmp_total = record { antisymm = value_turned; trans = value_trans; congr = value_congr }

pub shown_cmp_total : IsTotalOrder (on shown_value value_cmp)
shown_cmp_total = on_total shown_value value_cmp_total

pub field_cmp_total : IsTotalOrder field_cmp
field_cmp_total = then_total (on_total (λ (f : Field). f.0) nat_list_cmp_total) (on_total (λ (f : Field). f.1) value_cmp_total)

pub content_cmp_total : IsTotalOrder content_cmp
content_cmp_total = then_total (on_total (λ (s : ContentValue). s.0) (options_total (lists_total field_cmp_total))) (on_total (λ (s : ContentValue). s.1) nat_list_cmp_total)

pub version_cmp_total : IsTotalOrder version_cmp
version_cmp_total = then_total (on_total (λ (v : ℕ × ℕ). v.0) nat_cmp_total) (on_total (λ (v : ℕ × ℕ). v.1) nat_cmp_total)

-- only equal versions tie
pub version_cmp-exact : IsAntisymmetric version_cmp
version_cmp-exact = exact_pairs nat_cmp nat_cmp nat_cmp-IsAntisymmetric nat_cmp-IsAntisymmetric

-- only equal values tie
pub value_cmp-exact : IsAntisymmetric value_cmp
value_cmp-exact (number_value a) (number_value b) e = ap number_value (exact_signed a b e)
value_cmp-exact (number_value a) (text_value b) e = cc
value_cmp-exact (text_value a) (number_value b) e = cc
value_cmp-exact (text_value a) (text_value b) e = ap text_value (exact_bytes a b e)

-- only equal fields tie
pub field_cmp-exact : IsAntisymmetric field_cmp
field_cmp-exact = exact_pairs bytes_cmp value_cmp exact_bytes value_cmp-exact

body_cmp-exact : IsAntisymmetric body_cmp
body_cmp-exact None None e = refl
body_cmp-exact None (Some b) e = cc
body_cmp-exact (Some a) None e = cc
body_cmp-exact (Some a) (Some b) e = ap Some (slice_cmp-IsAntisymmetric field_cmp-exact a b e)

-- only equal contents tie
pub content_cmp-exact : IsAntisymmetric content_cmp
content_cmp-exact = exact_pairs body_cmp bytes_cmp body_cmp-exact exact_bytes

-- Sets of contents: what is in a union.

-- the first of two optional values that is present
abbrev pub either : Option (Unit {0}) → Option (Unit {0}) → Option (Unit {0})
either None b = b
either (Some a) b = Some a

either-cond : (t : Bool) (a b : Option (Unit {0})) → cond t (Some tt) (either a b) ≡ either (cond t (Some tt) a) b
either-cond true a b = refl
either-cond false a b = refl

pub find-append : (q : ContentValue) (es fs : List (ContentValue × Unit {0})) → find content_cmp q (es ++ fs) ≡ either (find content_cmp q es) (find content_cmp q fs)
find-append q [] fs = refl
find-append q (e ∷ es) fs = ap (cond (eq_by_cmp content_cmp q e.0) (Some tt)) (find-append q es fs) ∙ either-cond (eq_by_cmp content_cmp q e.0) _ _

-- an element is in a union exactly if it is in one of the two
pub get-union : (a b : Contents) (q : ContentValue) → get (union a b) q ≡ either (get a q) (get b q)
get-union a b q = get-from_entries content_cmp_total _ q ∙ find-append q (entries a) (entries b) ∙ sym (λ i. either (get-entries a q i) (get-entries b q i))

pub same : (a b : Contents) → ((q : ContentValue) → get a q ≡ get b q) → a ≡ b
same a b is = same_map content_cmp_total content_cmp-exact a b is

either-comm : (a b : Option (Unit {0})) → either a b ≡ either b a
either-comm None None = refl
either-comm None (Some b) = refl
either-comm (Some a) None = refl
either-comm (Some a) (Some b) = refl

either-assoc : (a b c : Option (Unit {0})) → either (either a b) c ≡ either a (either b c)
either-assoc None b c = refl
either-assoc (Some a) b c = refl

either-same : (a : Option (Unit {0})) → either a a ≡ a
either-same None = refl
either-same (Some a) = refl

pub union-comm : (a b : Contents) → union a b ≡ union b a
union-comm a b = same _ _ (λ q. get-union a b q ∙ either-comm (get a q) (get b q) ∙ sym (get-union b a q))

pub union-assoc : (a b c : Contents) → union (union a b) c ≡ union a (union b c)
union-assoc a b c = same _ _ (λ q.
    get-union (union a b) c q ∙ ap (λ x. either x (get c q)) (get-union a b q) ∙ either-assoc (get a q) (get b q) (get c q)
    ∙ sym (get-union a (union b c) q ∙ ap (either (get a q)) (get-union b c q)))

pub union-same : (a : Contents) → union a a ≡ a
union-same a = same _ _ (λ q. get-union a a q ∙ either-same (get a q))

pub union-empty : (a : Contents) → union empty a ≡ a
union-empty a = same _ _ (λ q. get-union empty a q ∙ ap (λ x. either x (get a q)) (get-empty content_cmp q))

pub get-set_of : (xs : List ContentValue) (q : ContentValue) → get (set_of xs) q ≡ find content_cmp q (map (λ shown. (shown, tt)) xs)
get-set_of xs q = get-from_entries content_cmp_total _ q

-- the set of two lists appended is the union of their sets
pub set_of-append : (xs ys : List ContentValue) → set_of (xs ++ ys) ≡ union (set_of xs) (set_of ys)
set_of-append xs ys = same _ _ (λ q.
    get-set_of (xs ++ ys) q
    ∙ ap (find content_cmp q) (map-append (λ (shown : ContentValue). (shown, tt)) xs ys)
    ∙ find-append q (map (λ shown. (shown, tt)) xs) (map (λ shown. (shown, tt)) ys)
    ∙ sym (get-union (set_of xs) (set_of ys) q ∙ (λ i. either (get-set_of xs q i) (get-set_of ys q i))))

-- a set is the set of its list
pub set_of-keys : (a : Contents) → set_of (keys a) ≡ a
set_of-keys a = same _ _ (λ q. get-set_of (keys a) q ∙ ap (find content_cmp q) (paired (entries a)) ∙ sym (get-entries a q))
  where
    paired : (es : List (ContentValue × Unit {0})) → map (λ shown. (shown, tt)) (map (λ (e : ContentValue × Unit {0}). e.0) es) ≡ es
    paired [] = refl
    paired (e ∷ es) = ap (λ rest. e ∷ rest) (paired es)

paired : (xs : List ContentValue) → map (λ (e : ContentValue × Unit {0}). e.0) (as_entries xs) ≡ xs
paired [] = refl
paired (x ∷ xs) = ap (λ rest. x ∷ rest) (paired xs)

-- a list in content order is the list of its set
pub keys-set_of : (xs : List ContentValue) → IsTrue (is_sorted content_cmp (as_entries xs)) → keys (set_of xs) ≡ xs
keys-set_of xs rising =
    let is : T (is_sorted content_cmp (as_entries xs)) = subst T (sym rising) tt in
    let sorted : set_of xs ≡ from_sorted (as_entries xs) = same _ _ (λ q. get-set_of xs q ∙ sym (get-from_sorted content_cmp (as_entries xs) q is)) in
    ap keys sorted ∙ ap (map (λ (e : ContentValue × Unit {0}). e.0)) (entries-from_sorted content_cmp (as_entries xs) is) ∙ paired xs

-- the set is not empty if the list is not
pub some-set_of : (xs : List ContentValue) → IsContents xs → 0 < length (keys (set_of xs))
some-set_of xs is = subst (λ (l : List ContentValue). 0 < length l) (sym (keys-set_of xs is.rising)) is.some

pub set_of-one : (x : ContentValue) → IsContents (x ∷ [])
set_of-one x = record { rising = refl; some = lit< tt }

-- lists whose contents are pairwise equal are equal
pub tied_lists : (xs ys : List ContentValue) → pointwise (eq_by_cmp content_cmp) xs ys ≡ true → xs ≡ ys
tied_lists [] [] tied = refl
tied_lists [] (y ∷ ys) tied = cc
tied_lists (x ∷ xs) [] tied = cc
tied_lists (x ∷ xs) (y ∷ ys) tied =
    λ i. content_cmp-exact x y (is_equal (content_cmp x y) (first_so _ _ tied)) i ∷ tied_lists xs ys (second_so (eq_by_cmp content_cmp x y) _ tied) i
  where
    first_so : (a b : Bool) → (a && b) ≡ true → a ≡ true
    first_so true b p = refl
    first_so false b p = p

    second_so : (a b : Bool) → (a && b) ≡ true → b ≡ true
    second_so true b p = p
    second_so false b p = cc

    is_equal : (o : Ordering) → is_eq o ≡ true → o ≡ Equal
    is_equal Less p = cc
    is_equal Equal p = refl
    is_equal Greater p = cc

-- a union with the same contents changes nothing
pub same_contents : (cell other : CellValue) → keys cell.1 ≡ keys other.1 → cell ≡ (cell.0, union cell.1 other.1)
same_contents cell other same_keys =
    let is : cell.1 ≡ other.1 = sym (set_of-keys cell.1) ∙ ap set_of same_keys ∙ set_of-keys other.1 in
    ap (λ s. (cell.0, s)) (sym (union-same cell.1) ∙ ap (union cell.1) is)

-- Joining cells is commutative, associative and idempotent.

pub joined-less : (a b : CellValue) → version_cmp a.0 b.0 ≡ Less → cell_joined a b ≡ b
joined-less a b e = ap (λ r. by_order r b (a.0, union a.1 b.1) a) e

pub joined-equal : (a b : CellValue) → version_cmp a.0 b.0 ≡ Equal → cell_joined a b ≡ (a.0, union a.1 b.1)
joined-equal a b e = ap (λ r. by_order r b (a.0, union a.1 b.1) a) e

pub joined-greater : (a b : CellValue) → version_cmp a.0 b.0 ≡ Greater → cell_joined a b ≡ a
joined-greater a b e = ap (λ r. by_order r b (a.0, union a.1 b.1) a) e

pub turned-less : (v w : Stamp) → version_cmp v w ≡ Less → version_cmp w v ≡ Greater
turned-less v w e = version_cmp_total.antisymm w v ∙ ap ordering_reverse e

pub turned-equal : (v w : Stamp) → version_cmp v w ≡ Equal → version_cmp w v ≡ Equal
turned-equal v w e = version_cmp_total.antisymm w v ∙ ap ordering_reverse e

pub turned-greater : (v w : Stamp) → version_cmp v w ≡ Greater → version_cmp w v ≡ Less
turned-greater v w e = version_cmp_total.antisymm w v ∙ ap ordering_reverse e

-- greater than a greater one
pub greater-trans : (u v w : Stamp) → version_cmp u v ≡ Greater → version_cmp v w ≡ Greater → version_cmp u w ≡ Greater
greater-trans u v w p q = turned-less w u (version_cmp_total.trans w v u (turned-greater v w q) (turned-greater u v p))

-- by cases of how two versions compare
pub by_versions : {G : Type 0} (v w : Stamp) → (version_cmp v w ≡ Less → G) → (version_cmp v w ≡ Equal → G) → (version_cmp v w ≡ Greater → G) → G
by_versions {G} v w less equal greater = elim (version_cmp v w) as (λ r. version_cmp v w ≡ r → G) [ Less ↦ less | Equal ↦ equal | Greater ↦ greater ] refl

commutes : (a b : CellValue) → cell_joined a b ≡ cell_joined b a
commutes a b = by_versions a.0 b.0
    (λ e. joined-less a b e ∙ sym (joined-greater b a (turned-less a.0 b.0 e)))
    (λ e. joined-equal a b e ∙ (λ i. (version_cmp-exact a.0 b.0 e i, union-comm a.1 b.1 i)) ∙ sym (joined-equal b a (turned-equal a.0 b.0 e)))
    (λ e. joined-greater a b e ∙ sym (joined-less b a (turned-greater a.0 b.0 e)))

repeats : (a : CellValue) → cell_joined a a ≡ a
repeats a = joined-equal a a (tied_itself version_cmp_total a.0) ∙ ap (λ s. (a.0, s)) (union-same a.1)

associates : (a b c : CellValue) → cell_joined (cell_joined a b) c ≡ cell_joined a (cell_joined b c)
associates a b c = by_versions a.0 b.0
    (λ ab. ap (λ x. cell_joined x c) (joined-less a b ab) ∙ by_versions b.0 c.0
    (λ bc. joined-less b c bc ∙ sym (ap (cell_joined a) (joined-less b c bc) ∙ joined-less a c (version_cmp_total.trans a.0 b.0 c.0 ab bc)))
    (λ bc. joined-equal b c bc ∙ sym (ap (cell_joined a) (joined-equal b c bc) ∙ joined-less a (b.0, union b.1 c.1) ab))
    (λ bc. joined-greater b c bc ∙ sym (ap (cell_joined a) (joined-greater b c bc) ∙ joined-less a b ab)))
    (λ ab. ap (λ x. cell_joined x c) (joined-equal a b ab) ∙ by_versions b.0 c.0
    (λ bc. joined-less (a.0, union a.1 b.1) c (version_cmp_total.congr a.0 b.0 c.0 ab ∙ bc)
    ∙ sym (ap (cell_joined a) (joined-less b c bc) ∙ joined-less a c (version_cmp_total.congr a.0 b.0 c.0 ab ∙ bc)))
    (λ bc. joined-equal (a.0, union a.1 b.1) c (version_cmp_total.congr a.0 b.0 c.0 ab ∙ bc) ∙ ap (λ s. (a.0, s)) (union-assoc a.1 b.1 c.1)
    ∙ sym (ap (cell_joined a) (joined-equal b c bc) ∙ joined-equal a (b.0, union b.1 c.1) ab))
    (λ bc. joined-greater (a.0, union a.1 b.1) c (version_cmp_total.congr a.0 b.0 c.0 ab ∙ bc)
    ∙ sym (ap (cell_joined a) (joined-greater b c bc) ∙ joined-equal a b ab)))
    (λ ab. ap (λ x. cell_joined x c) (joined-greater a b ab) ∙ by_versions b.0 c.0
    (λ bc. sym (ap (cell_joined a) (joined-less b c bc)))
    (λ bc. joined-greater a c (subst (λ v. version_cmp a.0 v ≡ Greater) (version_cmp-exact b.0 c.0 bc) ab) ∙ sym (ap (cell_joined a) (joined-equal b c bc) ∙ joined-greater a (b.0, union b.1 c.1) ab))
    (λ bc. joined-greater a c (greater-trans a.0 b.0 c.0 ab bc) ∙ sym (ap (cell_joined a) (joined-greater b c bc) ∙ joined-greater a b ab)))

pub cell_joined-laws : JoinLaws cell_joined
cell_joined-laws = record { commutes = commutes; associates = associates; repeats = repeats }
