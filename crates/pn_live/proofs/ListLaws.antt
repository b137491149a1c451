-- Without a loss, later states keep every record, and readers find what they found.
use Rattle.std.proofs.Common.{◌≡◌, ℕ, Bool, true, false, if◌then◌else◌, List, [], ◌∷◌, ◌++◌, fold, refl, sym, ap, ◌∙◌, subst, append_assoc, Option, Some, None, Ok, Err, IsTrue, Contains, zero, suc, cond, ◌+◌, length, drop, ⊎_elim, inl, inr, arith, length-append}
use Rattle.std.specs.Prelude.{is_some}
use Rattle.std.proofs.lemmas.List.{append-nil, drop_at}
use Rattle.std.proofs.lemmas.List.Elements.{Contains-append_left, Contains-append_right}
use Rattle.std.specs.FinMap.{find, contains_key, get-from_entries}
use Rattle.std.proofs.lemmas.Cmp.{tied_itself}
use Rattle.std.proofs.lemmas.Slice.Eq.{bytes_eq-Decides}
use Rattle.std.specs.Ordering.{is_eq}
use Rattle.std.specs.declared.cmp.Ordering.{Ordering}
use mathlib.Core.List.{IsPrefix}
use Rattle.pn_join.specs.Marks.{Positions, Reaches, raised_marks}
use Rattle.pn_record.specs.declared.records.Image.{Image}
use Rattle.pn_record.specs.Sets.{bytes_cmp, CellValue, set_of}
use Rattle.pn_record.specs.Cells.{spell, cells, images_of, cell_of, Entries, table_of, adds}
use Rattle.pn_record.proofs.CellMaps.{adds-table_of, table_of-nil, same_cells_table, cells-spelled, Holds-table_of}
use Rattle.pn_record.specs.Laws.{content_cmp_total}
use Rattle.pn_record.specs.Limits.{ContentValue}
use Rattle.pn_record.proofs.CellLists.{both, cells-append, cell_of-cons}
use Rattle.pn_tablet.specs.Copies.{TabletCopyValue}
use Rattle.pn_tablet.specs.Steps.{IsSpelled, tablet_after, after_step, with_join, with_copy, state_of}
use Rattle.pn_tablet.specs.Tablets.{need_shortfall, TabletStateValue, empty_tablet, lie_in, same_range}
use Rattle.pn_tablet.specs.Layouts.{Ends, in_range}
use Rattle.pn_tablet.specs.declared.fault.Shortfall.{Shortfall}
use Rattle.pn_tablet.specs.declared.state.TabletOp.{TabletOp}
use Rattle.pn_tablet.specs.declared.state.TabletOp.TheVariants.{Join, Lose, Adopt}
use Rattle.pn_tablet.specs.declared.fault.OpFault.TheVariants.{WrongRange}
use Rattle.pn_apply.specs.Reducing.{images_in, join_in}
use Rattle.pn_apply.proofs.ReduceLaws.{cells_inside}
use Rattle.pn_region.specs.Reads.{HoldsStill}
use Rattle.pn_region.proofs.KeptRecords.{more_held, to_images_in}
use Rattle.pn_region.proofs.Events.{range_stays}
use Rattle.pn_live.specs.Laws.{IsNoLoss, AreNoLosses, HasNoLossAfter, HasImage}
use Rattle.pn_live.specs.PublishedTablets.{PublishedTabletValue, note_of, with_op}
use Rattle.pn_live.specs.Readers.{TabletReaderValue, Finds, Learns, KnowsMore}
use Rattle.pn_live.proofs.Prefixes.{begins_on}

-- Without a loss, later states keep every record.

-- the tablet's cells are those of the images and some more
abbrev Has : List Image → TabletStateValue → Type 0
Has images t = (more : List Image) × (t.cells ≡ table_of (images ++ more))

none_more : (images : List Image) (t : TabletStateValue) → t.cells ≡ table_of images → Has images t
none_more images t is = ([], is ∙ ap table_of (sym (append-nil images)))

some_more : (images : List Image) (t after : TabletStateValue) (cells : Entries) → t.cells ≡ table_of images → after.cells ≡ adds t.cells (spell cells) → Has images after
some_more images t after cells is added = (spell cells, added ∙ (ap (λ m. adds m (spell cells)) is ∙ adds-table_of images (spell cells)))

join_has : (images : List Image) (t : TabletStateValue) (cells : Entries) (marks : Positions) (b : Bool) → t.cells ≡ table_of images
    → Has images (after_step t (if b then Ok (with_join t cells marks) else Err WrongRange))
join_has images t cells marks true is = some_more images t (with_join t cells marks) cells is refl
join_has images t cells marks false is = none_more images t is

adopt_has : (images : List Image) (t : TabletStateValue) (copy : TabletCopyValue) (b : Bool) (short : Option Shortfall) → t.cells ≡ table_of images
    → Has images (after_step t (if b then with_copy t copy short else Err WrongRange))
adopt_has images t copy true None is = some_more images t (with_join t copy.cells copy.marks) copy.cells is refl
adopt_has images t copy true (Some short) is = none_more images t is
adopt_has images t copy false short is = none_more images t is

step_has : (images : List Image) (t : TabletStateValue) (op : TabletOp) → IsNoLoss op → t.cells ≡ table_of images → Has images (tablet_after t op)
step_has images t (Join cells marks) kept is = join_has images t cells marks (lie_in t.range cells) is
step_has images t Lose kept is = absurd kept
step_has images t (Adopt copy) kept is = adopt_has images t copy (same_range t.range copy.range) (need_shortfall t.status copy.marks) is

pub all_has : (images : List Image) (t : TabletStateValue) (ops : List TabletOp) → AreNoLosses ops → t.cells ≡ table_of images → Has images (fold tablet_after t ops)
all_has images t [] kept is = none_more images t is
all_has images t (op ∷ ops) kept is =
    let one = step_has images t op kept.0 is in
    let rest = all_has (images ++ one.0) (tablet_after t op) ops kept.1 one.1 in
    (one.0 ++ rest.0, rest.1 ∙ ap table_of (append_assoc images one.0 rest.0))

no_images : [] ≡ table_of []
no_images = sym table_of-nil

-- the cells of every tablet that began empty are those of some images
step_listed : (images : List Image) (t : TabletStateValue) (op : TabletOp) → t.cells ≡ table_of images → (all : List Image) × ((tablet_after t op).cells ≡ table_of all)
step_listed images t (Join cells marks) is = let one = step_has images t (Join cells marks) tt is in (images ++ one.0, one.1)
step_listed images t Lose is = ([], no_images)
step_listed images t (Adopt copy) is = let one = step_has images t (Adopt copy) tt is in (images ++ one.0, one.1)

all_listed : (images : List Image) (t : TabletStateValue) (ops : List TabletOp) → t.cells ≡ table_of images → (all : List Image) × ((fold tablet_after t ops).cells ≡ table_of all)
all_listed images t [] is = (images, is)
all_listed images t (op ∷ ops) is = let one = step_listed images t op is in all_listed one.0 (tablet_after t op) ops one.1

pub list_listed : (range : Ends) (ops : List TabletOp) → (all : List Image) × ((state_of range ops).cells ≡ table_of all)
list_listed range ops = all_listed [] (empty_tablet range) ops no_images

pub fold_on : (t : TabletStateValue) (ops more : List TabletOp) → fold tablet_after t (ops ++ more) ≡ fold tablet_after (fold tablet_after t ops) more
fold_on t [] more = refl
fold_on t (op ∷ ops) more = fold_on (tablet_after t op) ops more

pub range_kept : (t : TabletStateValue) (ops : List TabletOp) → (fold tablet_after t ops).range ≡ t.range
range_kept t [] = refl
range_kept t (op ∷ ops) = range_kept (tablet_after t op) ops ∙ range_stays t op

-- a tablet with the images of another holds all that the other holds
held_among : (images all : List Image) (cells now : Entries) (key : List ℕ) → cells ≡ table_of images → now ≡ table_of all → ((image : Image) → Contains images image → Contains all image)
    → HoldsStill (find bytes_cmp key cells) (find bytes_cmp key now)
held_among images all cells now key is are among =
    subst (λ (m : Entries). HoldsStill (find bytes_cmp key m) (find bytes_cmp key now)) (sym is)
    (subst (λ (m : Entries). HoldsStill (find bytes_cmp key (table_of images)) (find bytes_cmp key m)) (sym are) (more_held images all key among))

pub goes_on_holding : (range : Ends) (list more : List TabletOp) → AreNoLosses more → (key : List ℕ)
    → HoldsStill (find bytes_cmp key (state_of range list).cells) (find bytes_cmp key (state_of range (list ++ more)).cells)
goes_on_holding range list more kept key =
    let first = list_listed range list in
    let rest = all_has first.0 (state_of range list) more kept first.1 in
    held_among first.0 (first.0 ++ rest.0) (state_of range list).cells (state_of range (list ++ more)).cells key first.1
    (ap (λ (t : TabletStateValue). t.cells) (fold_on (empty_tablet range) list more) ∙ rest.1)
    (λ image there. Contains-append_left first.0 rest.0 image there)

-- a join of cells in the range is taken
pub join_taken : (t : TabletStateValue) (cells : Entries) (marks : Positions) (b : Bool) → IsTrue b → (after_step t (if b then Ok (with_join t cells marks) else Err WrongRange)).cells ≡ adds t.cells (spell cells)
join_taken t cells marks true inside = refl
join_taken t cells marks false inside = absurd (cc (inside))

pub joined_is_held : (range : Ends) (before more : List TabletOp) (cells : Entries) (marks : Positions) → IsSpelled cells → IsTrue (lie_in range cells) → AreNoLosses more → (key : List ℕ)
    → HoldsStill (find bytes_cmp key cells) (find bytes_cmp key (state_of range (before ++ Join cells marks ∷ more)).cells)
joined_is_held range before more cells marks spelled inside kept key =
    let first = list_listed range before in
    let t = state_of range before in
    let own : IsTrue (lie_in t.range cells) = subst (λ (r : Ends). IsTrue (lie_in r cells)) (sym (range_kept (empty_tablet range) before)) inside in
    let taken : (tablet_after t (Join cells marks)).cells ≡ table_of (first.0 ++ spell cells) =
    join_taken t cells marks (lie_in t.range cells) own ∙ (ap (λ (m : Entries). adds m (spell cells)) first.1 ∙ adds-table_of first.0 (spell cells)) in
    let rest = all_has (first.0 ++ spell cells) (tablet_after t (Join cells marks)) more kept taken in
    held_among (spell cells) ((first.0 ++ spell cells) ++ rest.0) cells (state_of range (before ++ Join cells marks ∷ more)).cells key spelled
    (ap (λ (t : TabletStateValue). t.cells) (fold_on (empty_tablet range) before (Join cells marks ∷ more)) ∙ rest.1)
    (λ image there. Contains-append_left (first.0 ++ spell cells) rest.0 image (Contains-append_right first.0 (spell cells) image there))

-- What a reader found or learnt is in what it finds later.

-- a list that begins with another is that list and the rest
pub split_at : {A : Type 0} (xs ys : List A) → IsPrefix xs ys → ys ≡ xs ++ drop (length xs) ys
split_at xs ys p = sym p.1 ∙ ap (λ (rest : List _). xs ++ rest) (sym (drop_at xs p.0 (length xs) refl) ∙ ap (drop (length xs)) p.1)

pub never_back : (first seen later last : TabletReaderValue) (was now : TabletStateValue) → Finds first was seen → KnowsMore seen later → Finds later now last
    → HasNoLossAfter (length seen.seen) last → (key : List ℕ) → HoldsStill (find bytes_cmp key was.cells) (find bytes_cmp key now.cells)
never_back first seen later last was now found more found_later kept key =
    let begins = begins_on seen.seen later.seen last.seen more.seen found_later.seen in
    let range : last.range ≡ seen.range = ap (λ (w : TabletReaderValue). w.range) found_later.same ∙ more.range in
    let is : now ≡ state_of seen.range (seen.seen ++ drop (length seen.seen) last.seen) =
    found_later.state ∙ (ap (λ (r : Ends). state_of r last.seen) range ∙ ap (state_of seen.range) (split_at seen.seen last.seen begins)) in
    subst (λ (t : TabletStateValue). HoldsStill (find bytes_cmp key t.cells) (find bytes_cmp key now.cells)) (sym found.state)
    (subst (λ (t : TabletStateValue). HoldsStill (find bytes_cmp key (state_of seen.range seen.seen).cells) (find bytes_cmp key t.cells)) (sym is)
    (goes_on_holding seen.range seen.seen (drop (length seen.seen) last.seen) kept key))

-- images joined by way of their table
joined_images : (first images : List Image) → adds (table_of first) (spell (table_of images)) ≡ table_of (first ++ images)
joined_images first images =
    adds-table_of first (spell (table_of images))
    ∙ same_cells_table (first ++ spell (table_of images)) (first ++ images)
    (λ key. cells-append first (spell (table_of images)) key ∙ (ap (both (cells first key)) (cells-spelled images key) ∙ sym (cells-append first images key)))

own_image : (image : Image) → images_of image.key (image ∷ []) ≡ image ∷ []
own_image image = ap (λ (b : Bool). cond b (image ∷ []) []) ((bytes_eq-Decides image.key image.key).1 refl)

-- the table of one image has its version and content
pub found_alone : (image : Image) → find bytes_cmp image.key (table_of (image ∷ [])) ≡ Some (image.version, set_of (image.content ∷ []))
found_alone image = Holds-table_of (image ∷ []) image.key ∙ (ap cell_of (own_image image) ∙ cell_of-cons image [])

own_content : (content : ContentValue) → IsTrue (contains_key (set_of (content ∷ [])) content)
own_content content =
    ap is_some (get-from_entries content_cmp_total ((content, tt) ∷ []) content ∙ ap (λ (r : Ordering). cond (is_eq r) (Some tt) None) (tied_itself content_cmp_total content))

pub has_image : (image : Image) (cell : Option CellValue) → HoldsStill (Some (image.version, set_of (image.content ∷ []))) cell → HasImage image cell
has_image image None held = held
has_image image (Some cell) held = ⊎_elim inl (λ (same : _). inr (same.0, same.1 image.content (own_content image.content))) held

-- without a later loss, what a join brings to a tablet stays
joined_there : (range : Ends) (before more : List TabletOp) (images : List Image) (marks : Positions) → AreNoLosses more → (image : Image) → Contains images image → IsTrue (in_range range image.key)
    → HasImage image (find bytes_cmp image.key (state_of range ((before ++ join_in marks images range ∷ []) ++ more)).cells)
joined_there range before more images marks kept image there lies =
    let own = images_in range images in
    let op = join_in marks images range in
    let first = list_listed range before in
    let t = state_of range before in
    let inside : IsTrue (lie_in t.range (table_of own)) =
    subst (λ (r : Ends). IsTrue (lie_in r (table_of own))) (sym (range_kept (empty_tablet range) before)) (cells_inside range images) in
    let taken : (tablet_after t op).cells ≡ table_of (first.0 ++ own) =
    join_taken t (table_of own) marks (lie_in t.range (table_of own)) inside ∙ (ap (λ (m : Entries). adds m (spell (table_of own))) first.1 ∙ joined_images first.0 own) in
    let rest = all_has (first.0 ++ own) (tablet_after t op) more kept taken in
    let last : (state_of range ((before ++ op ∷ []) ++ more)).cells ≡ table_of ((first.0 ++ own) ++ rest.0) =
    ap (λ (ops : List TabletOp). (state_of range ops).cells) (append_assoc before (op ∷ []) more) ∙ (ap (λ (u : TabletStateValue). u.cells) (fold_on (empty_tablet range) before (op ∷ more)) ∙ rest.1) in
    let among : (one : Image) → Contains (image ∷ []) one → Contains ((first.0 ++ own) ++ rest.0) one =
    λ one is. Contains-append_left (first.0 ++ own) rest.0 one (Contains-append_right first.0 own one
    (subst (Contains own) (only_one image one is) (to_images_in range images image there lies))) in
    has_image image (find bytes_cmp image.key (state_of range ((before ++ op ∷ []) ++ more)).cells)
    (subst (λ (m : Entries). HoldsStill (Some (image.version, set_of (image.content ∷ []))) (find bytes_cmp image.key m)) (sym last)
    (subst (λ (o : Option CellValue). HoldsStill o (find bytes_cmp image.key (table_of ((first.0 ++ own) ++ rest.0)))) (found_alone image)
    (more_held (image ∷ []) ((first.0 ++ own) ++ rest.0) image.key among)))
  where
    only_one : (image one : Image) → Contains (image ∷ []) one → image ≡ one
    only_one image one (zero, within, is) = is
    only_one image one (suc n, within, is) = absurd (omega (arith, within))

pub not_missed : (tablet : PublishedTabletValue) (marks : Positions) (images : List Image) (reader learnt later last : TabletReaderValue) (now : TabletStateValue)
    → reader.range ≡ tablet.range → Learns reader (note_of (with_op tablet (join_in marks images tablet.range))) learnt
    → KnowsMore learnt later → Finds later now last → HasNoLossAfter (length tablet.list + 1) last
    → (image : Image) → Contains images image → IsTrue (in_range tablet.range image.key) → HasImage image (find bytes_cmp image.key now.cells)
not_missed tablet marks images reader learnt later last now ranged learns more found kept image there lies =
    let op = join_in marks images tablet.range in
    let with_new = tablet.list ++ op ∷ [] in
    let begins : IsPrefix with_new last.seen = begins_on with_new later.learnt last.seen (begins_on with_new learnt.learnt later.learnt learns.note more.learnt) found.learnt in
    let range : last.range ≡ tablet.range =
    ap (λ (w : TabletReaderValue). w.range) found.same ∙ (more.range ∙ (ap (λ (w : TabletReaderValue). w.range) learns.same ∙ ranged)) in
    let count : length with_new ≡ length tablet.list + 1 = length-append tablet.list (op ∷ []) in
    let is : now ≡ state_of tablet.range (with_new ++ drop (length with_new) last.seen) =
    found.state ∙ (ap (λ (r : Ends). state_of r last.seen) range ∙ ap (state_of tablet.range) (split_at with_new last.seen begins)) in
    subst (λ (t : TabletStateValue). HasImage image (find bytes_cmp image.key t.cells)) (sym is)
    (joined_there tablet.range tablet.list (drop (length with_new) last.seen) images marks (subst (λ (n : ℕ). AreNoLosses (drop n last.seen)) (sym count) kept) image there lies)

-- Without a change of layout, a tablet took no stream further into some cells than into all.

-- the reach is the cover
abbrev IsOne : TabletStateValue → Type 0
IsOne t = t.reach ≡ t.cover

join_one : (t : TabletStateValue) (cells : Entries) (marks : Positions) (b : Bool) → IsOne t → IsOne (after_step t (if b then Ok (with_join t cells marks) else Err WrongRange))
join_one t cells marks true is = ap (λ (own : Positions). raised_marks own marks) is
join_one t cells marks false is = is

adopt_one : (t : TabletStateValue) (copy : TabletCopyValue) (b : Bool) (short : Option Shortfall) → IsOne t → IsOne (after_step t (if b then with_copy t copy short else Err WrongRange))
adopt_one t copy true None is = ap (λ (own : Positions). raised_marks own copy.marks) is
adopt_one t copy true (Some short) is = is
adopt_one t copy false short is = is

step_one : (t : TabletStateValue) (op : TabletOp) → IsOne t → IsOne (tablet_after t op)
step_one t (Join cells marks) is = join_one t cells marks (lie_in t.range cells) is
step_one t Lose is = is
step_one t (Adopt copy) is = adopt_one t copy (same_range t.range copy.range) (need_shortfall t.status copy.marks) is

fold_one : (t : TabletStateValue) (ops : List TabletOp) → IsOne t → IsOne (fold tablet_after t ops)
fold_one t [] is = is
fold_one t (op ∷ ops) is = fold_one (tablet_after t op) ops (step_one t op is)

-- so the cover of a published state reaches its reach
pub one_reach : (range : Ends) (ops : List TabletOp) → Reaches (state_of range ops).cover (state_of range ops).reach
one_reach range ops =
    subst (λ (reach : Positions). Reaches (state_of range ops).cover reach) (sym (fold_one (empty_tablet range) ops refl)) (λ name. omega arith)
