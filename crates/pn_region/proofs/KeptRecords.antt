-- Which images lie in a range, and what a tablet keeps of a record that was there.
use Rattle.std.proofs.Common.{◌≡◌, zero, suc, true, false, cond, List, [], ◌∷◌, refl, subst, arith, ◌⊎◌, inl, inr, Contains, ℕ, Bool, filter, Option, Some, sym, ap, ◌∙◌, ◌++◌, None, IsTrue, if◌then◌else◌, Ok, Err}
use Rattle.std.specs.Prelude.{is_some}
use Rattle.std.specs.Ordering.{is_lt}
use Rattle.std.specs.FinMap.{get, contains_key}
use Rattle.pn_join.proofs.MarksFacts.{position_of-raised_marks}
use Rattle.pn_record.proofs.CellMaps.{Holds-table_of, cells-spelled, tied_keys}
use Rattle.pn_record.specs.Cells.{cells, adds}
use Rattle.pn_record.specs.Limits.{ContentValue}
use Rattle.pn_record.specs.Sets.{Contents, union, cell_joined}
use Rattle.pn_record.specs.Laws.{either, get-union, by_versions, joined-less, joined-equal, joined-greater}
use Rattle.pn_record.proofs.CellLists.{both, cells-append, all_absorbed, both-assoc, both-comm, both-same}
use Rattle.pn_tablet.specs.Steps.{IsSpelled, with_join}
use Rattle.pn_tablet.specs.declared.state.Status.{Status}
use Rattle.pn_tablet.proofs.TabletLaws.{nothing_short}
use Rattle.pn_tablet.proofs.JoinLaws.{one_range}
use Rattle.pn_tablet.specs.Steps as steps
use Rattle.pn_apply.proofs.Tables.{table_that}
use Rattle.pn_region.proofs.Common.{Image, Ends, in_range, images_in, eq_by_cmp, find, bytes_cmp, CellValue, Entries, table_of, spell, Positions, Reaches, raised_marks, BrokerRecord, up_to, TabletCopyValue, need_shortfall, after_step, tablet_after, TabletStateValue, lie_in, same_range, WrongRange, Shortfall, TabletOp, Join, Lose, Adopt, Serving, Recovering, IsFaithful}
use Rattle.pn_region.specs.Reads.{HoldsStill}
use Rattle.pn_region.specs.Events.{IsHonestCopy}
use Rattle.pn_region.proofs.MarkLaws.{up_to_more}

-- Which images lie in a range.

first_or_later : (first : Image) (images : List Image) (image : Image) → Contains (first ∷ images) image → (first ≡ image) ⊎ Contains images image
first_or_later first images image (zero, within, is) = inl is
first_or_later first images image (suc n, within, is) = inr (n, omega (arith, within), is)

later_one : (first : Image) (images : List Image) (image : Image) → Contains images image → Contains (first ∷ images) image
later_one first images image there = (suc there.0, omega (arith, there.1), there.2)

-- the image is one of these, in the range
pub record IsIn (range : Ends) (images : List Image) (image : Image) : Type 0 where
  pub there : Contains images image
  pub lies : in_range range image.key ≡ true

later_in : (range : Ends) (first : Image) (images : List Image) (image : Image) → IsIn range images image → IsIn range (first ∷ images) image
later_in range first images image is = record { there = later_one first images image is.there; lies = is.lies }

first_in : (range : Ends) (first : Image) (images : List Image) (image : Image) → in_range range first.key ≡ true → (Contains (images_in range images) image → IsIn range images image)
    → (first ≡ image) ⊎ Contains (images_in range images) image → IsIn range (first ∷ images) image
first_in range first images image lies rest (inl is) = record { there = (0, omega arith, is); lies = subst (λ (one : Image). in_range range one.key ≡ true) is lies }
first_in range first images image lies rest (inr there) = later_in range first images image (rest there)

pub from_images_in : (range : Ends) (images : List Image) (image : Image) → Contains (images_in range images) image → IsIn range images image
from_images_in range [] image there = absurd (omega (arith, there.1))
from_images_in range (first ∷ images) image there =
    elim (in_range range first.key) as (λ b. in_range range first.key ≡ b → Contains (cond b (first ∷ images_in range images) (images_in range images)) image → IsIn range (first ∷ images) image) [
      | true ↦ λ lies one. first_in range first images image lies (from_images_in range images image) (first_or_later first (images_in range images) image one)
      | false ↦ λ outside one. later_in range first images image (from_images_in range images image one)
    ] refl there

first_kept : (range : Ends) (first : Image) (images : List Image) (image : Image) → in_range range image.key ≡ true → (Contains images image → Contains (images_in range images) image)
    → (first ≡ image) ⊎ Contains images image → Contains (images_in range (first ∷ images)) image
first_kept range first images image lies rest (inl is) =
    elim (in_range range first.key) as (λ b. in_range range first.key ≡ b → Contains (cond b (first ∷ images_in range images) (images_in range images)) image) [
      | true ↦ λ too. (0, omega arith, is)
      | false ↦ λ outside.
          let lies_too = subst (λ (one : Image). in_range range one.key ≡ false) is outside in
          cc
    ] refl
first_kept range first images image lies rest (inr there) =
    elim (in_range range first.key) as (λ b. Contains (cond b (first ∷ images_in range images) (images_in range images)) image) [
      | true ↦ later_one first (images_in range images) image (rest there)
      | false ↦ rest there
    ]

pub to_images_in : (range : Ends) (images : List Image) (image : Image) → Contains images image → in_range range image.key ≡ true → Contains (images_in range images) image
to_images_in range [] image there lies = absurd (omega (arith, there.1))
to_images_in range (first ∷ images) image there lies =
    first_kept range first images image lies (λ later. to_images_in range images image later lies) (first_or_later first images image there)

-- more images have more in a range
pub more_in : (range : Ends) (images more : List Image) → ((image : Image) → Contains images image → Contains more image) → (image : Image) → Contains (images_in range images) image → Contains (images_in range more) image
more_in range images more all image there =
    let is = from_images_in range images image there in
    to_images_in range more image (all image is.there) is.lies

-- What is found in a range is found among the entries, or the images, whose keys lie there.

left_out : (t : Bool) (x : CellValue) (all rest : Option CellValue) → (t ≡ true → ⊥) → rest ≡ all → rest ≡ cond t (Some x) all
left_out true x all rest outside same = absurd (outside refl)
left_out false x all rest outside same = same

-- entries outside the range do not have its keys
pub found_in : (range : Ends) (key : List ℕ) (es : Entries) → in_range range key ≡ true → find bytes_cmp key (filter (λ entry. in_range range entry.0) es) ≡ find bytes_cmp key es
found_in range key [] lies = refl
found_in range key (e ∷ es) lies =
    let kept = filter (λ (entry : List ℕ × CellValue). in_range range entry.0) es in
    let rest = found_in range key es lies in
    elim (in_range range e.0) as (λ b. in_range range e.0 ≡ b → find bytes_cmp key (cond b (e ∷ kept) kept) ≡ cond (eq_by_cmp bytes_cmp key e.0) (Some e.1) (find bytes_cmp key es)) [
      | true ↦ λ inside. ap (λ (o : Option CellValue). cond (eq_by_cmp bytes_cmp key e.0) (Some e.1) o) rest
      | false ↦ λ outside.
          left_out (eq_by_cmp bytes_cmp key e.0) e.1 (find bytes_cmp key es) (find bytes_cmp key kept)
          (λ tied. let no : true ≡ false = sym lies ∙ ap (in_range range) (tied_keys key e.0 tied) ∙ outside in cc) rest
    ] refl

-- nor do images
pub cells_in : (range : Ends) (images : List Image) (key : List ℕ) → in_range range key ≡ true → cells (images_in range images) key ≡ cells images key
cells_in range images key lies =
    sym (Holds-table_of (images_in range images) key)
    ∙ ap (find bytes_cmp key) (table_that (in_range range) images)
    ∙ found_in range key (table_of images) lies
    ∙ Holds-table_of images key

-- A record is still held after another cell is joined to it.

of_first : (a b : Option (Unit {0})) → IsTrue (is_some a) → IsTrue (is_some (either a b))
of_first None b there = cc
of_first (Some a) b there = refl

in_union : (a b : Contents) (content : ContentValue) → IsTrue (contains_key a content) → IsTrue (contains_key (union a b) content)
in_union a b content there =
    subst (λ (o : Option (Unit {0})). IsTrue (is_some o)) (sym (get-union a b content)) (of_first (get a content) (get b content) there)

pub itself_held : (o : Option CellValue) → HoldsStill o o
itself_held None = tt
itself_held (Some cell) = inr (refl, λ content there. there)

one_held : (a b : CellValue) → HoldsStill (Some a) (Some (cell_joined a b))
one_held a b = by_versions a.0 b.0
    (λ e. subst (λ (c : CellValue). HoldsStill (Some a) (Some c)) (sym (joined-less a b e)) (inl (ap is_lt e)))
    (λ e. subst (λ (c : CellValue). HoldsStill (Some a) (Some c)) (sym (joined-equal a b e)) (inr (refl, λ content there. in_union a.1 b.1 content there)))
    (λ e. subst (λ (c : CellValue). HoldsStill (Some a) (Some c)) (sym (joined-greater a b e)) (inr (refl, λ content there. there)))

pub joined_held : (was more : Option CellValue) → HoldsStill was (both was more)
joined_held None more = tt
joined_held (Some a) None = inr (refl, λ content there. there)
joined_held (Some a) (Some b) = one_held a b

-- a cell that is in the one that is found is still held
pub taken_in_held : (was now : Option CellValue) → both was now ≡ now → HoldsStill was now
taken_in_held was now has = subst (HoldsStill was) has (joined_held was now)

-- what is found once more images are taken
pub found_added : (own : Entries) (images : List Image) (key : List ℕ) → find bytes_cmp key (adds own images) ≡ both (cells (spell own) key) (cells images key)
unfolding adds
found_added own images key = Holds-table_of (spell own ++ images) key ∙ cells-append (spell own) images key

pub found_spelled : (own : Entries) (key : List ℕ) → IsSpelled own → find bytes_cmp key own ≡ cells (spell own) key
found_spelled own key spelled = ap (find bytes_cmp key) spelled ∙ Holds-table_of (spell own) key

-- cells that take images still hold what they had
pub added_held : (own : Entries) (images : List Image) (key : List ℕ) → IsSpelled own → HoldsStill (find bytes_cmp key own) (find bytes_cmp key (adds own images))
added_held own images key spelled =
    subst (λ (o : Option CellValue). HoldsStill o (find bytes_cmp key (adds own images))) (sym (found_spelled own key spelled))
    (subst (HoldsStill (cells (spell own) key)) (sym (found_added own images key)) (joined_held (cells (spell own) key) (cells images key)))

-- what some images make is still held by more of them
pub more_held : (images more : List Image) (key : List ℕ) → ((image : Image) → Contains images image → Contains more image) → HoldsStill (find bytes_cmp key (table_of images)) (find bytes_cmp key (table_of more))
more_held images more key there =
    subst (λ (o : Option CellValue). HoldsStill o (find bytes_cmp key (table_of more))) (sym (Holds-table_of images key))
    (subst (HoldsStill (cells images key)) (all_absorbed key images more there ∙ sym (Holds-table_of more key)) (joined_held (cells images key) (cells more key)))

-- What a tablet keeps of a record that was there: the record, or the need of a copy that has it.

-- the status has a need that is not below the positions
pub record NeedsAll (from : Positions) (status : Status) : Type 0 where
  pub need : Positions
  pub is : status ≡ Recovering need
  pub reach : Reaches need from

-- the cell is in the one that is found
abbrev pub Has : List ℕ → Option CellValue → Entries → Type 0
Has key was es = both was (find bytes_cmp key es) ≡ find bytes_cmp key es

-- the tablet's reach is not below the positions, and it has the cell, or has to get a copy up to there
pub record Keeps (key : List ℕ) (was : Option CellValue) (from : Positions) (t : TabletStateValue) : Type 0 where
  pub reach : Reaches t.reach from
  pub has : Has key was t.cells ⊎ NeedsAll from t.status

-- a copy of the key's range up to the positions has the cell
abbrev pub Brings : List ℕ → Option CellValue → Positions → TabletOp → Type 0
Brings key was from (Adopt copy) = in_range copy.range key ≡ true → Reaches copy.marks from → both was (cells (spell copy.cells) key) ≡ cells (spell copy.cells) key
Brings key was from _ = Unit {0}

raised_on : (reach marks from : Positions) → Reaches reach from → Reaches (raised_marks reach marks) from
raised_on reach marks from reaches name = omega (arith, position_of-raised_marks reach marks name, reaches name)

module _ (key : List ℕ) (was : Option CellValue) (from : Positions) where
  has_still : (own : Entries) (images : List Image) → IsSpelled own → Has key was own → Has key was (adds own images)
  has_still own images spelled has =
      let x = cells (spell own) key in
      let y = cells images key in
      subst (λ (o : Option CellValue). both was o ≡ o) (sym (found_added own images key))
      (sym (both-assoc was x y) ∙ ap (λ (o : Option CellValue). both o y) (subst (λ (o : Option CellValue). both was o ≡ o) (found_spelled own key spelled) has))

  has_then : (own : Entries) (images : List Image) → both was (cells images key) ≡ cells images key → Has key was (adds own images)
  has_then own images has =
      let x = cells (spell own) key in
      let y = cells images key in
      subst (λ (o : Option CellValue). both was o ≡ o) (sym (found_added own images key))
      (ap (both was) (both-comm x y) ∙ sym (both-assoc was y x) ∙ ap (λ (o : Option CellValue). both o x) has ∙ both-comm y x)

  joined_has : (t : TabletStateValue) (images : List Image) → IsSpelled t.cells → Has key was t.cells ⊎ NeedsAll from t.status → Has key was (adds t.cells images) ⊎ NeedsAll from t.status
  joined_has t images spelled (inl has) = inl (has_still t.cells images spelled has)
  joined_has t images spelled (inr needs) = inr needs

  joined_keeps : (t : TabletStateValue) (more : Entries) (marks : Positions) (b : Bool) → IsSpelled t.cells → Keeps key was from t → Keeps key was from (after_step t (if b then Ok (with_join t more marks) else Err WrongRange))
  joined_keeps t more marks true spelled keeps = record { reach = raised_on t.reach marks from keeps.reach; has = joined_has t (spell more) spelled keeps.has }
  joined_keeps t more marks false spelled keeps = keeps

  module _ (t : TabletStateValue) (copy : TabletCopyValue) (lies : in_range t.range key ≡ true) (spelled : IsSpelled t.cells) (brings : Brings key was from (Adopt copy)) where
    adopted_has : same_range t.range copy.range ≡ true → need_shortfall t.status copy.marks ≡ None → Has key was t.cells ⊎ NeedsAll from t.status → Has key was (adds t.cells (spell copy.cells))
    adopted_has same none (inl has) = has_still t.cells (spell copy.cells) spelled has
    adopted_has same none (inr needs) =
        let lacks_none = nothing_short copy.marks needs.need (ap (λ (status : Status). need_shortfall status copy.marks) (sym needs.is) ∙ none) in
        has_then t.cells (spell copy.cells)
        (brings (ap (λ (ends : Ends). in_range ends key) (sym (one_range t.range copy.range same)) ∙ lies) (λ name. omega (arith, needs.reach name, lacks_none name)))

    adopted_keeps : (b : Bool) (short : Option Shortfall) → same_range t.range copy.range ≡ b → need_shortfall t.status copy.marks ≡ short → Keeps key was from t
        → Keeps key was from (after_step t (if b then steps.with_copy t copy short else Err WrongRange))
    adopted_keeps true None same none keeps = record { reach = raised_on t.reach copy.marks from keeps.reach; has = inl (adopted_has same none keeps.has) }
    adopted_keeps true (Some short) same lacks keeps = keeps
    adopted_keeps false short same lacks keeps = keeps

  -- no operation ends that, where a copy that it brings has the cell
  pub one_keeps : (t : TabletStateValue) (op : TabletOp) → in_range t.range key ≡ true → IsSpelled t.cells → Brings key was from op → Keeps key was from t → Keeps key was from (tablet_after t op)
  one_keeps t (Join more marks) lies spelled brings keeps = joined_keeps t more marks (lie_in t.range more) spelled keeps
  one_keeps t Lose lies spelled brings keeps = record { reach = keeps.reach; has = inr (record { need = t.reach; is = refl; reach = keeps.reach }) }
  one_keeps t (Adopt copy) lies spelled brings keeps = adopted_keeps t copy lies spelled brings (same_range t.range copy.range) (need_shortfall t.status copy.marks) refl refl keeps

  -- so a tablet that serves has it
  pub kept_held : (t : TabletStateValue) → t.status ≡ Serving → Keeps key was from t → HoldsStill was (find bytes_cmp key t.cells)
  kept_held t serves keeps = by_case keeps.has
    where
      by_case : Has key was t.cells ⊎ NeedsAll from t.status → HoldsStill was (find bytes_cmp key t.cells)
      by_case (inl has) = taken_in_held was (find bytes_cmp key t.cells) has
      by_case (inr needs) = let both_ways : Serving ≡ Recovering needs.need = sym serves ∙ needs.is in cc

-- a tablet keeps what it has
pub kept_itself : (key : List ℕ) (t : TabletStateValue) → Keeps key (find bytes_cmp key t.cells) t.reach t
kept_itself key t = record { reach = λ name. omega arith; has = inl (both-same (find bytes_cmp key t.cells)) }

-- an honest copy that is not below a faithful tablet's reach has what the tablet has
pub copy_brings : (broker : BrokerRecord) (key : List ℕ) (t : TabletStateValue) (copy : TabletCopyValue) → IsFaithful broker t → IsHonestCopy broker copy → Brings key (find bytes_cmp key t.cells) t.reach (Adopt copy)
copy_brings broker key t copy faithful honest lies reach =
    let own = images_in t.range faithful.images in
    let all = up_to broker copy.marks in
    let was : find bytes_cmp key t.cells ≡ cells own key = ap (find bytes_cmp key) faithful.cells ∙ Holds-table_of own key in
    let has : cells (spell copy.cells) key ≡ cells all key =
    ap (λ (es : Entries). cells (spell es) key) honest ∙ cells-spelled (images_in copy.range all) key ∙ cells_in copy.range all key lies in
    (λ i. both (was i) (has i))
    ∙ all_absorbed key own all (λ image there. up_to_more broker copy.marks t.reach reach image (faithful.published image (from_images_in t.range faithful.images image there).there))
    ∙ sym has
