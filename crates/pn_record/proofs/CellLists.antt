-- The cells of one list followed by another are the join of the cells of both; and the laws of cells.
use Rattle.std.proofs.Common.{◌≡◌, ℕ, zero, suc, ◌<◌, length, get_or, Contains, arith, cond, List, [], ◌∷◌, ◌++◌, map, filter, Option, Some, None, refl, sym, ap, ◌∙◌, subst, false, IsTrue, MatchOption, ◌⊎◌, inl, inr, lit<}
use Rattle.std.specs.declared.cmp.Ordering.{Ordering}
use Rattle.std.specs.declared.cmp.Ordering.TheVariants.{Less, Equal, Greater}
use Rattle.std.specs.Ordering.{eq_by_cmp, is_eq, is_gt}
use Rattle.std.specs.Option.{option_map_or, option_map}
use Rattle.std.specs.FinMap.Entries.{by_order, same_entries}
use Rattle.std.specs.Str.{bytes_eq}
use Rattle.std.proofs.lemmas.Cmp.{tied_itself, upto, nat_list_cmp_total}
use Rattle.std.proofs.lemmas.List.Elements.{filter-append, All-from_recursion}
use Rattle.std.specs.List.{AllByRecursion}
use Rattle.std.specs.FinMap.{is_sorted}
use Rattle.std.proofs.lemmas.Map.Lookups.{exact_bytes}
use lib.Dec.{T}
use Rattle.pn_join.specs.Tables.{optional_joined}
use Rattle.pn_record.specs.declared.records.Image.{Image}
use Rattle.pn_record.specs.Sets.{version_cmp, bytes_cmp, CellValue, Stamp, Contents, set_of, cell_joined}
use Rattle.pn_record.specs.Laws.{version_cmp_total, version_cmp-exact, set_of-append, cell_joined-laws, joined-less, joined-equal, joined-greater, turned-less, turned-greater, greater-trans, by_versions}
use Rattle.pn_record.specs.Cells.{SameImages, later, top, images_of, contents_with, cell_of, cells, IsTop, Holds}

-- The cells of one list followed by another are the join of the cells of both.

later-less : (v w : Stamp) → version_cmp v w ≡ Less → later v w ≡ w
later-less v w e = ap (λ r. by_order r w w v) e

later-equal : (v w : Stamp) → version_cmp v w ≡ Equal → later v w ≡ w
later-equal v w e = ap (λ r. by_order r w w v) e

later-greater : (v w : Stamp) → version_cmp v w ≡ Greater → later v w ≡ v
later-greater v w e = ap (λ r. by_order r w w v) e

-- the version is above the one that may be there
abbrev IsAbove : Stamp → Option Stamp → Type 0
IsAbove v None = Unit {0}
IsAbove v (Some w) = version_cmp v w ≡ Greater

-- what is above the later of two is above both
above_later : (v b w : Stamp) → version_cmp v (later b w) ≡ Greater → (version_cmp v b ≡ Greater) × (version_cmp v w ≡ Greater)
above_later v b w above = by_versions b w
    (λ e. let vw = subst (λ x. version_cmp v x ≡ Greater) (later-less b w e) above in (greater-trans v w b vw (turned-less b w e), vw))
    (λ e. let vw = subst (λ x. version_cmp v x ≡ Greater) (later-equal b w e) above in (subst (λ x. version_cmp v x ≡ Greater) (sym (version_cmp-exact b w e)) vw, vw))
    (λ e. let vb = subst (λ x. version_cmp v x ≡ Greater) (later-greater b w e) above in (vb, greater-trans v b w vb e))

above_top : (v b : Stamp) (o : Option Stamp) → version_cmp v (option_map_or (later b) o b) ≡ Greater → (version_cmp v b ≡ Greater) × IsAbove v o
above_top v b None above = (above, tt)
above_top v b (Some w) above = above_later v b w above

-- no image has a version above the top
none_above : (v : Stamp) (images : List Image) → IsAbove v (top images) → filter (λ image. eq_by_cmp version_cmp image.version v) images ≡ []
none_above v [] above = refl
none_above v (b ∷ images) above =
    let parts = above_top v b.version (top images) above in
    ap (λ r. cond (is_eq r) (b ∷ filter (λ image. eq_by_cmp version_cmp image.version v) images) (filter (λ image. eq_by_cmp version_cmp image.version v) images)) (turned-greater v b.version parts.0)
    ∙ none_above v images parts.1

-- the cell of one image
abbrev alone : Image → CellValue
alone image = (image.version, set_of (image.content ∷ []))

kept : (v : Stamp) (x : Image) (images : List Image) (r : Ordering) → version_cmp x.version v ≡ r → contents_with v (x ∷ images) ≡ set_of (map (λ image. image.content) (cond (is_eq r) (x ∷ filter (λ image. eq_by_cmp version_cmp image.version v) images) (filter (λ image. eq_by_cmp version_cmp image.version v) images)))
kept v x images r e = ap (λ r. set_of (map (λ image. image.content) (cond (is_eq r) (x ∷ filter (λ image. eq_by_cmp version_cmp image.version v) images) (filter (λ image. eq_by_cmp version_cmp image.version v) images)))) e

-- one more image joins its own cell
onto : (x : Image) (images : List Image) (o : Option Stamp) → top images ≡ o → option_map (λ v. (v, contents_with v (x ∷ images))) (Some (option_map_or (later x.version) o x.version)) ≡ optional_joined cell_joined (Some (alone x)) (option_map (λ v. (v, contents_with v images)) o)
onto x images None none =
    ap (λ (s : Contents). Some (x.version, s))
    (kept x.version x images Equal (tied_itself version_cmp_total x.version)
    ∙ ap (λ rest. set_of (x.content ∷ map (λ (image : Image). image.content) rest)) (none_above x.version images (subst (IsAbove x.version) (sym none) tt)))
onto x images (Some w) is = ap Some (by_versions x.version w
    (λ e. (λ i. (later-less x.version w e i, contents_with (later-less x.version w e i) (x ∷ images)))
    ∙ ap (λ s. (w, s)) (kept w x images Less e) ∙ sym (joined-less (alone x) (w, contents_with w images) e))
    (λ e. (λ i. (later-equal x.version w e i, contents_with (later-equal x.version w e i) (x ∷ images)))
    ∙ (λ i. (sym (version_cmp-exact x.version w e) i, (kept w x images Equal e ∙ set_of-append (x.content ∷ []) (map (λ image. image.content) (filter (λ image. eq_by_cmp version_cmp image.version w) images))) i))
    ∙ sym (joined-equal (alone x) (w, contents_with w images) e))
    (λ e. (λ i. (later-greater x.version w e i, contents_with (later-greater x.version w e i) (x ∷ images)))
    ∙ ap (λ s. (x.version, s)) (kept x.version x images Equal (tied_itself version_cmp_total x.version)
    ∙ ap (λ rest. set_of (x.content ∷ map (λ (image : Image). image.content) rest)) (none_above x.version images (subst (IsAbove x.version) (sym is) e)))
    ∙ sym (joined-greater (alone x) (w, contents_with w images) e)))

pub cell_of-cons : (x : Image) (images : List Image) → cell_of (x ∷ images) ≡ optional_joined cell_joined (Some (alone x)) (cell_of images)
cell_of-cons x images = onto x images (top images) refl

-- cells that may be there, joined
abbrev pub both : Option CellValue → Option CellValue → Option CellValue
both = optional_joined cell_joined

pub both-assoc : (a b c : Option CellValue) → both (both a b) c ≡ both a (both b c)
both-assoc None b c = refl
both-assoc (Some a) None c = refl
both-assoc (Some a) (Some b) None = refl
both-assoc (Some a) (Some b) (Some c) = ap Some (cell_joined-laws.associates a b c)

pub both-comm : (a b : Option CellValue) → both a b ≡ both b a
both-comm None None = refl
both-comm None (Some b) = refl
both-comm (Some a) None = refl
both-comm (Some a) (Some b) = ap Some (cell_joined-laws.commutes a b)

pub both-same : (a : Option CellValue) → both a a ≡ a
both-same None = refl
both-same (Some a) = ap Some (cell_joined-laws.repeats a)

pub cell_of-append : (images others : List Image) → cell_of (images ++ others) ≡ both (cell_of images) (cell_of others)
cell_of-append [] others = refl
cell_of-append (x ∷ images) others =
    cell_of-cons x (images ++ others) ∙ ap (both (Some (alone x))) (cell_of-append images others)
    ∙ sym (both-assoc (Some (alone x)) (cell_of images) (cell_of others)) ∙ ap (λ c. both c (cell_of others)) (sym (cell_of-cons x images))

pub cells-append : (images others : List Image) (key : List ℕ) → cells (images ++ others) key ≡ both (cells images key) (cells others key)
cells-append images others key =
    ap cell_of (filter-append (λ (image : Image). bytes_eq image.key key) images others) ∙ cell_of-append (images_of key images) (images_of key others)

-- an image that is there already adds nothing
absorbed_at : (key : List ℕ) (image : Image) (images : List Image) (k : ℕ) → k < length images → get_or images k image ≡ image → both (cells (image ∷ []) key) (cells images key) ≡ cells images key
absorbed_at key image [] k inside is = absurd (omega arith)
absorbed_at key image (first ∷ images) zero inside is =
    ap (both (cells (image ∷ []) key)) (cells-append (first ∷ []) images key)
    ∙ ap (λ (i : Image). both (cells (image ∷ []) key) (both (cells (i ∷ []) key) (cells images key))) is
    ∙ sym (both-assoc (cells (image ∷ []) key) (cells (image ∷ []) key) (cells images key))
    ∙ ap (λ c. both c (cells images key)) (both-same (cells (image ∷ []) key))
    ∙ ap (λ (i : Image). both (cells (i ∷ []) key) (cells images key)) (sym is)
    ∙ sym (cells-append (first ∷ []) images key)
absorbed_at key image (first ∷ images) (suc k) inside is =
    let one = cells (image ∷ []) key in
    let other = cells (first ∷ []) key in
    let rest = cells images key in
    ap (both one) (cells-append (first ∷ []) images key) ∙ sym (both-assoc one other rest) ∙ ap (λ c. both c rest) (both-comm one other) ∙ both-assoc other one rest
    ∙ ap (both other) (absorbed_at key image images k (omega arith) is) ∙ sym (cells-append (first ∷ []) images key)

pub absorbed : (key : List ℕ) (image : Image) (images : List Image) → Contains images image → both (cells (image ∷ []) key) (cells images key) ≡ cells images key
absorbed key image images there = absorbed_at key image images there.0 there.1 there.2

-- images that are all there already add nothing
pub all_absorbed : (key : List ℕ) (more images : List Image) → ((image : Image) → Contains more image → Contains images image) → both (cells more key) (cells images key) ≡ cells images key
all_absorbed key [] images there = refl
all_absorbed key (first ∷ more) images there =
    let one = cells (first ∷ []) key in
    ap (λ c. both c (cells images key)) (cells-append (first ∷ []) more key) ∙ both-assoc one (cells more key) (cells images key)
    ∙ ap (both one) (all_absorbed key more images (λ image here. there image (suc here.0, omega (arith, here.1), here.2)))
    ∙ absorbed key first images (there first (0, omega arith, refl))

-- the same images make the same cells, in whatever order and however often
pub cells-same : (images others : List Image) → SameImages images others → (key : List ℕ) → cells images key ≡ cells others key
cells-same images others same key =
    sym (all_absorbed key others images (λ image. (same image).1)) ∙ both-comm (cells others key) (cells images key)
    ∙ all_absorbed key images others (λ image. (same image).0)

-- The laws of cells that `src/laws.rt` states.

-- no later one
abbrev NotAbove : Stamp → Stamp → Type 0
NotAbove v w = is_gt (version_cmp v w) ≡ false

not_above_itself : (v : Stamp) → NotAbove v v
not_above_itself v = ap is_gt (tied_itself version_cmp_total v)

-- the later of two is none below them, and it is one of them
record IsLater (v w u : Stamp) : Type 0 where
  first : NotAbove v u
  second : NotAbove w u
  one : (u ≡ v) ⊎ (u ≡ w)

is_later : (v w : Stamp) → IsLater v w (later v w)
is_later v w = by_versions v w
    (λ e. let u = ap (λ r. by_order r w w v) e in subst (IsLater v w) (sym u) (record { first = ap is_gt e; second = not_above_itself w; one = inr refl }))
    (λ e. let u = ap (λ r. by_order r w w v) e in subst (IsLater v w) (sym u) (record { first = ap is_gt e; second = not_above_itself w; one = inr refl }))
    (λ e. let u = ap (λ r. by_order r w w v) e in subst (IsLater v w) (sym u) (record { first = not_above_itself v; second = ap is_gt (turned-greater v w e); one = inl refl }))

raised : (v u : Stamp) (images : List Image) → NotAbove v u → AllByRecursion (λ (image : Image). NotAbove image.version v) images → AllByRecursion (λ (image : Image). NotAbove image.version u) images
raised v u [] below all = tt
raised v u (image ∷ images) below all = (upto version_cmp_total image.version v u all.0 below, raised v u images below all.1)

-- the top of images, by cases on what the top of the rest is
record TopOf (v : Stamp) (images : List Image) : Type 0 where
  there : Contains (map (λ (image : Image). image.version) images) v
  greatest : AllByRecursion (λ (image : Image). NotAbove image.version v) images

one_more : (image : Image) (rest : List Image) (w : Stamp) → TopOf w rest → TopOf (later image.version w) (image ∷ rest)
one_more image rest w is =
    let l = is_later image.version w in
    let u = later image.version w in record {
      there = elim l.one [
        | inl e ↦ (0, omega arith, sym e)
        | inr e ↦ (suc is.there.0, omega (arith, is.there.1), subst (λ x. get_or (map (λ (i : Image). i.version) rest) is.there.0 x ≡ x) (sym e) is.there.2)
      ];
      greatest = (l.first, raised w u rest l.second is.greatest);
    }

one_alone : (image : Image) → TopOf image.version (image ∷ [])
one_alone image = record { there = (0, lit< tt, refl); greatest = (not_above_itself image.version, tt) }

top_of : (images : List Image) → MatchOption (top images) (images ≡ []) (λ v. TopOf v images)
top_of [] = refl
top_of (image ∷ images) = elim (top images) as (λ o. MatchOption o (images ≡ []) (λ v. TopOf v images) → TopOf (option_map_or (later image.version) o image.version) (image ∷ images)) [
  | None ↦ λ none. subst (λ (rest : List Image). TopOf image.version (image ∷ rest)) (sym none) (one_alone image)
  | Some w ↦ λ is. one_more image images w is
] (top_of images)

pub top_greatest : (images : List Image) → MatchOption (top images) (images ≡ []) (λ v. IsTop v images)
top_greatest images = elim (top images) as (λ o. MatchOption o (images ≡ []) (λ v. TopOf v images) → MatchOption o (images ≡ []) (λ v. IsTop v images)) [
  | None ↦ λ none. none
  | Some v ↦ λ is. record { there = is.there; greatest = All-from_recursion (λ (image : Image). NotAbove image.version v) images is.greatest }
] (top_of images)

pub same_tables : (table other : List (List ℕ × CellValue)) (images others : List Image) → IsTrue (is_sorted bytes_cmp table) → IsTrue (is_sorted bytes_cmp other) → Holds table images → Holds other others → SameImages images others → table ≡ other
same_tables table other images others rising rises held held_too same =
    same_entries bytes_cmp nat_list_cmp_total exact_bytes table other (subst T (sym rising) tt) (subst T (sym rises) tt)
    (λ key. held key ∙ cells-same images others same key ∙ sym (held_too key))
