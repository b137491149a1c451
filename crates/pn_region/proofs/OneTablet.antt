-- An operation on one tablet of a region.
use Rattle.std.proofs.Common.{◌≡◌, ℕ, zero, suc, ◌<◌, Bool, true, false, if◌then◌else◌, List, [], ◌∷◌, ◌++◌, length, get_or, slice_get, slice_set, Option, None, Some, Result, Ok, Err, refl, sym, ap, ◌∙◌, subst}
use Rattle.std.specs.Prelude.{IsOk, OnOk}
use Rattle.std.specs.Option.{option_and_then}
use Rattle.std.proofs.lemmas.List.Elements.{filter-append}
use Rattle.std.proofs.lemmas.List.Quantifiers.{position-Some}
use Rattle.pn_record.specs.Cells.{adds}
use Rattle.pn_tablet.specs.Steps.{Refuses, with_join, is_memory}
use Rattle.pn_tablet.specs.Steps as steps
use Rattle.pn_tablet.specs.declared.fault.OpFault.{OpFault}
use Rattle.pn_tablet.specs.declared.fault.OpFault.TheVariants as op
use Rattle.pn_tablet.proofs.Keeping.{spelled_adds, spelled_nil}
use Rattle.pn_tablet.proofs.JoinLaws.{one_range}
use Rattle.pn_tablet.proofs.TabletLaws.{adopted}
use Rattle.pn_apply.proofs.ReduceLaws.{cells_inside}
use Rattle.pn_region.specs.Recovery.{after_op, lacks, after_adoption_unless, after_adoption}
use Rattle.pn_region.specs.Regions.{IsLawfulRegion}
use Rattle.pn_region.proofs.Common.{Positions, Image, spell, Entries, table_of, TabletCopyValue, need_shortfall, Ends, in_range, step, after_step, tablet_after, TabletStateValue, empty_tablet, lie_in, same_range, Shortfall, TabletOp, Join, Lose, Adopt, tablets_after_op, tablet_for, after_adoption_by, RegionValue, IsTabletOf, AreTabletsOf, IsRegion}
use Rattle.pn_region.proofs.RoundSteps.{tablet_at, old_reached, both_reached}
use Rattle.pn_region.proofs.Pieces.{spelled_inside}

-- the keys of a copy that is adopted lie in its range
abbrev pub IsWhole : TabletOp → Type 0
IsWhole (Adopt copy) = lie_in copy.range copy.cells ≡ true
IsWhole _ = Unit {0}

adds_inside : (r : Ends) (own more : Entries) → lie_in r own ≡ true → lie_in r more ≡ true → lie_in r (adds own (spell more)) ≡ true
unfolding adds
adds_inside r own more inside inside_too =
    ap (λ (images : List Image). lie_in r (table_of images))
    (sym (filter-append (λ (image : Image). in_range r image.key) (spell own) (spell more) ∙ (λ i. spelled_inside r own inside i ++ spelled_inside r more inside_too i)))
    ∙ cells_inside r (spell own ++ spell more)

taken_kept : (marks later : Positions) (r : Ends) (t : TabletStateValue) (cells : Entries) → lie_in r cells ≡ true → IsTabletOf marks r t → IsTabletOf marks r (with_join t cells later)
taken_kept marks later r t cells inside is = record {
  range = is.range;
  inside = adds_inside r t.cells cells is.inside inside;
  spelled = spelled_adds t.cells (spell cells);
  covered = old_reached t.cover later marks is.covered;
  reached = both_reached t.reach t.cover later is.reached;
}

join_kept : (marks later : Positions) (r : Ends) (t : TabletStateValue) (cells : Entries) (b : Bool) → lie_in t.range cells ≡ b → IsTabletOf marks r t
    → IsTabletOf marks r (after_step t (if b then Ok (with_join t cells later) else Err op.WrongRange))
join_kept marks later r t cells true inside is = taken_kept marks later r t cells (ap (λ (range : Ends). lie_in range cells) (sym is.range) ∙ inside) is
join_kept marks later r t cells false outside is = is

adopt_kept : (marks : Positions) (r : Ends) (t : TabletStateValue) (copy : TabletCopyValue) (b : Bool) (short : Option Shortfall) → same_range t.range copy.range ≡ b → lie_in copy.range copy.cells ≡ true → IsTabletOf marks r t
    → IsTabletOf marks r (after_step t (if b then steps.with_copy t copy short else Err op.WrongRange))
adopt_kept marks r t copy true None same whole is =
    let ranged = sym (one_range t.range copy.range same) ∙ is.range in
    let taken = taken_kept marks copy.marks r t copy.cells (ap (λ (range : Ends). lie_in range copy.cells) (sym ranged) ∙ whole) is in
    record { range = taken.range; inside = taken.inside; spelled = taken.spelled; covered = taken.covered; reached = taken.reached }
adopt_kept marks r t copy true (Some short) same whole is = is
adopt_kept marks r t copy false short same whole is = is

-- a tablet of a range stays one of it in every operation
pub one_kept : (marks : Positions) (r : Ends) (t : TabletStateValue) (op : TabletOp) → IsWhole op → IsTabletOf marks r t → IsTabletOf marks r (tablet_after t op)
one_kept marks r t (Join cells later) whole is = join_kept marks later r t cells (lie_in t.range cells) refl is
one_kept marks r t Lose whole is = record { range = is.range; inside = refl; spelled = spelled_nil; covered = is.covered; reached = is.reached }
one_kept marks r t (Adopt copy) whole is = adopt_kept marks r t copy (same_range t.range copy.range) (need_shortfall t.status copy.marks) refl whole is

all_kept : (marks : Positions) (n : ℕ) (op : TabletOp) (rs : List Ends) (ts : List TabletStateValue) → IsWhole op → AreTabletsOf marks rs ts → AreTabletsOf marks rs (tablets_after_op n op ts)
all_kept marks n op [] [] whole are = tt
all_kept marks n op [] (t ∷ ts) whole are = absurd are
all_kept marks n op (r ∷ rs) [] whole are = absurd are
all_kept marks zero op (r ∷ rs) (t ∷ ts) whole are = (one_kept marks r t op whole are.0, are.1)
all_kept marks (suc n) op (r ∷ rs) (t ∷ ts) whole are = (are.0, all_kept marks n op rs ts whole are.1)

-- so a region stays one
pub stepping_is : (region : RegionValue) (n : ℕ) (op : TabletOp) → IsWhole op → IsRegion region → IsRegion (after_op region n op)
stepping_is region n op whole is = record { lawful = is.lawful; tablets = all_kept region.marks n op _ region.tablets whole is.tablets }

-- the tablet of the number becomes what an operation leaves
pub set_stepped : (ts : List TabletStateValue) (n : ℕ) (op : TabletOp) (t after : TabletStateValue) → slice_get ts n ≡ Some t → step t op ≡ Ok after → slice_set ts n after ≡ tablets_after_op n op ts
set_stepped [] n op t after there is = cc
set_stepped (u ∷ ts) zero op t after there is =
    let same : u ≡ t = cc in
    ap (λ (state : TabletStateValue). state ∷ ts) (sym (ap (λ (state : TabletStateValue). tablet_after state op) same ∙ ap (after_step t) is))
set_stepped (u ∷ ts) (suc n) op t after there is = ap (λ (rest : List TabletStateValue). u ∷ rest) (set_stepped ts n op t after there is)

module _ (region : RegionValue) (n : ℕ) (op : TabletOp) (t after : TabletStateValue) (there : slice_get region.tablets n ≡ Some t) (is : step t op ≡ Ok after) where
  abbrev pub now : RegionValue
  now = record { layout = region.layout; tablets = slice_set region.tablets n after; marks = region.marks }

  pub now_is : now ≡ after_op region n op
  now_is = ap (λ (ts : List TabletStateValue). record { layout = region.layout; tablets = ts; marks = region.marks }) (set_stepped region.tablets n op t after there is)

  pub now_lawful : IsWhole op → IsLawfulRegion region → IsLawfulRegion now
  now_lawful whole lawful = subst IsLawfulRegion (sym now_is) (record { is_region = stepping_is region n op whole lawful.is_region; are_marks = lawful.are_marks })

-- the tablet that is found has the copy's range
pub found_at : (region : RegionValue) (copy : TabletCopyValue) (n : ℕ) (t : TabletStateValue) → tablet_for region copy ≡ Some n → slice_get region.tablets n ≡ Some t → same_range t.range copy.range ≡ true
found_at region copy n t found there =
    let first = position-Some (λ (state : TabletStateValue). same_range state.range copy.range) region.tablets n t found in
    ap (λ (state : TabletStateValue). same_range state.range copy.range) (sym (is_read region.tablets n t there)) ∙ first.1
  where
    is_read : (ts : List TabletStateValue) (n : ℕ) (t : TabletStateValue) → slice_get ts n ≡ Some t → get_or ts n t ≡ t
    is_read [] n t there = refl
    is_read (u ∷ ts) zero t there = cc
    is_read (u ∷ ts) (suc n) t there = is_read ts n t there

module _ (region : RegionValue) (copy : TabletCopyValue) (n : ℕ) (t : TabletStateValue) (found : tablet_for region copy ≡ Some n) (there : slice_get region.tablets n ≡ Some t) where
  lacks_is : lacks region copy n ≡ need_shortfall t.status copy.marks
  lacks_is = ap (option_and_then (λ (state : TabletStateValue). need_shortfall state.status copy.marks)) there

  adopting_is : after_adoption region copy ≡ after_adoption_unless region copy n (need_shortfall t.status copy.marks)
  adopting_is = ap (after_adoption_by region copy) found ∙ ap (after_adoption_unless region copy n) lacks_is

  -- the copy is adopted where its tablet takes it
  pub adopted_at : (after : TabletStateValue) → step t (Adopt copy) ≡ Ok after → after_adoption region copy ≡ Ok (n, record { layout = region.layout; tablets = slice_set region.tablets n after; marks = region.marks })
  adopted_at after is =
      adopting_is ∙ ap (after_adoption_unless region copy n) (adopted t copy after is).reaches
      ∙ ap (λ (now : RegionValue). Ok (n, now)) (sym (now_is region n (Adopt copy) t after there is))

  refused_by : (short : Option Shortfall) (refusal : OpFault) → Refuses is_memory refusal (steps.with_copy t copy short) → Refuses is_memory refusal (after_adoption_unless region copy n short)
  refused_by None op.WrongRange right = cc
  refused_by None (op.TooOld stream has needs) right = cc
  refused_by None op.Memory right = refl
  refused_by (Some short) op.WrongRange right = cc
  refused_by (Some short) (op.TooOld stream has needs) right = cc
  refused_by (Some short) op.Memory right = cc

  -- and refused where that is
  pub refused_at : (refusal : OpFault) → Refuses is_memory refusal (step t (Adopt copy)) → Refuses is_memory refusal (after_adoption region copy)
  refused_at refusal right =
      subst (Refuses is_memory refusal) (sym adopting_is)
      (refused_by (need_shortfall t.status copy.marks) refusal
      (subst (Refuses is_memory refusal) (ap (λ (b : Bool). if b then steps.with_copy t copy (need_shortfall t.status copy.marks) else Err op.WrongRange) (found_at region copy n t found there)) right))

-- the tablet that is found is one of them
pub found_within : (region : RegionValue) (copy : TabletCopyValue) (n : ℕ) → tablet_for region copy ≡ Some n → n < length region.tablets
found_within region copy n found = (position-Some (λ (state : TabletStateValue). same_range state.range copy.range) region.tablets n (empty_tablet copy.range) found).0

-- the tablet that is read is the one at that index
pub stands_at : (region : RegionValue) (copy : TabletCopyValue) (n : ℕ) (t : TabletStateValue) → tablet_for region copy ≡ Some n → t ≡ get_or region.tablets n t → slice_get region.tablets n ≡ Some t
stands_at region copy n t found is = tablet_at region.tablets n t (position-Some (λ (state : TabletStateValue). same_range state.range copy.range) region.tablets n t found).0 is

-- what a call ensures where it is not refused, which it is not
pub where_ok : {T E : Type 0} (answer : Result T E) (P : Type 0) → IsOk answer → OnOk answer P → P
where_ok (Ok value) P taken holds = holds
where_ok (Err fault) P taken holds = cc
