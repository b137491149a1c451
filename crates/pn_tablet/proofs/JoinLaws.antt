-- Joins of a tablet commute, and repeat without effect; and the step of an operation that is taken.
use Rattle.std.proofs.Common.{◌≡◌, ℕ, Bool, true, false, if◌then◌else◌, List, Option, None, Some, Ok, Err, refl, sym, ap, ◌∙◌, ◌++◌}
use Rattle.std.specs.Prelude.{IsOk}
use Rattle.std.specs.Option.{option_eq}
use Rattle.std.specs.Str.{bytes_eq}
use Rattle.pn_join.specs.Marks.{Positions, raised_marks}
use Rattle.pn_join.proofs.MarksFacts.{raised_marks-commutes, raised_marks-associates, raised_marks-repeats}
use Rattle.pn_record.specs.Cells.{spell, cells, Entries, adds, table_of}
use Rattle.pn_record.proofs.Sorted.{first_true, second_true}
use Rattle.pn_record.proofs.CellMaps.{same_key, tied_keys, adds-table_of, same_cells_table}
use Rattle.pn_record.specs.declared.records.Image.{Image}
use Rattle.pn_record.proofs.CellLists.{both, both-assoc, both-comm, both-same, cells-append}
use Rattle.pn_tablet.specs.Layouts.{Ends}
use Rattle.pn_tablet.specs.Copies.{TabletCopyValue}
use Rattle.pn_tablet.specs.Tablets.{need_shortfall, TabletStateValue, lie_in, same_range}
use Rattle.pn_tablet.specs.Steps.{Refuses, with_join, with_copy, step, is_memory, after_step, tablet_after, Rise}
use Rattle.pn_tablet.specs.declared.state.Status.TheVariants.{Serving}
use Rattle.pn_tablet.specs.declared.state.TabletOp.{TabletOp}
use Rattle.pn_tablet.specs.declared.state.TabletOp.TheVariants.{Join, Lose, Adopt}
use Rattle.pn_tablet.specs.declared.fault.Shortfall.{Shortfall}
use Rattle.pn_tablet.specs.declared.fault.OpFault.{OpFault}
use Rattle.pn_tablet.specs.declared.fault.OpFault.TheVariants.{WrongRange, TooOld, Memory}

-- The step of an operation that is taken.

same_end : (a b : Option (List ℕ)) → option_eq bytes_eq a b ≡ true → a ≡ b
same_end None None same = refl
same_end None (Some b) same = cc
same_end (Some a) None same = cc
same_end (Some a) (Some b) same = ap Some (sym (tied_keys b a (sym (same_key a b) ∙ same)))

-- ranges with the same ends are one range
pub one_range : (a b : Ends) → same_range a b ≡ true → a ≡ b
one_range a b same = λ i. (
  same_end a.0 b.0 (first_true (option_eq bytes_eq a.0 b.0) (option_eq bytes_eq a.1 b.1) same) i,
  same_end a.1 b.1 (second_true (option_eq bytes_eq a.0 b.0) (option_eq bytes_eq a.1 b.1) same) i,
)

pub join_step : (t : TabletStateValue) (cells new : Entries) (marks higher farther : Positions) → lie_in t.range cells ≡ true → new ≡ adds t.cells (spell cells) → higher ≡ raised_marks t.cover marks → farther ≡ raised_marks t.reach marks
    → step t (Join cells marks) ≡ Ok (record { range = t.range; cells = new; cover = higher; reach = farther; status = t.status })
join_step t cells new marks higher farther inside is cover_is reach_is =
    ap (λ b. if b then Ok (with_join t cells marks) else Err WrongRange) inside
    ∙ (λ i. Ok (record { range = t.range; cells = sym is i; cover = sym cover_is i; reach = sym reach_is i; status = t.status }))

pub adopt_step : (t : TabletStateValue) (copy : TabletCopyValue) (new : Entries) (higher farther : Positions) → same_range t.range copy.range ≡ true → need_shortfall t.status copy.marks ≡ None
    → new ≡ adds t.cells (spell copy.cells) → higher ≡ raised_marks t.cover copy.marks → farther ≡ raised_marks t.reach copy.marks
    → step t (Adopt copy) ≡ Ok (record { range = t.range; cells = new; cover = higher; reach = farther; status = Serving })
adopt_step t copy new higher farther same none is cover_is reach_is =
    ap (λ b. if b then with_copy t copy (need_shortfall t.status copy.marks) else Err WrongRange) same
    ∙ ap (with_copy t copy) none
    ∙ (λ i. Ok (record { range = t.range; cells = sym is i; cover = sym cover_is i; reach = sym reach_is i; status = Serving }))

copy_passes : (t : TabletStateValue) (copy : TabletCopyValue) (same : Bool) (short : Option Shortfall) → IsOk (if same then with_copy t copy short else Err WrongRange) → (same ≡ true) × (short ≡ None)
copy_passes t copy true None is = (refl, refl)
copy_passes t copy true (Some short) is = cc
copy_passes t copy false short is = cc

-- a copy that is adopted is of the range, and reaches the need
pub adopted_copy : (t : TabletStateValue) (copy : TabletCopyValue) → IsOk (step t (Adopt copy)) → (same_range t.range copy.range ≡ true) × (need_shortfall t.status copy.marks ≡ None)
adopted_copy t copy is = copy_passes t copy (same_range t.range copy.range) (need_shortfall t.status copy.marks) is

join_refused : (t : TabletStateValue) (inside : Bool) → (if inside then Ok t else Err WrongRange) ≡ Err Memory → ⊥
join_refused t true is = cc
join_refused t false is = cc

copy_refused : (t : TabletStateValue) (copy : TabletCopyValue) (same : Bool) (short : Option Shortfall) → (if same then with_copy t copy short else Err WrongRange) ≡ Err Memory → ⊥
copy_refused t copy true None is = cc
copy_refused t copy true (Some short) is = cc
copy_refused t copy false short is = cc

never_memory : (t : TabletStateValue) (op : TabletOp) → step t op ≡ Err Memory → ⊥
never_memory t (Join cells marks) is = join_refused (with_join t cells marks) (lie_in t.range cells) is
never_memory t Lose is = cc
never_memory t (Adopt copy) is = copy_refused t copy (same_range t.range copy.range) (need_shortfall t.status copy.marks) is

-- the fault of a step is not out of memory
pub refused_step : (t : TabletStateValue) (op : TabletOp) (fault : OpFault) → step t op ≡ Err fault → Refuses is_memory fault (step t op)
refused_step t op WrongRange is = is
refused_step t op (TooOld stream has needs) is = is
refused_step t op Memory is = absurd (never_memory t op is)

-- Joins of a tablet commute, and repeat without effect.

adds_twice : (own : Entries) (images more : List Image) → adds (adds own images) more ≡ table_of ((spell own ++ images) ++ more)
unfolding adds
adds_twice own images more = adds-table_of (spell own ++ images) more

adds_commute : (own : Entries) (images more : List Image) → adds (adds own images) more ≡ adds (adds own more) images
adds_commute own images more =
    adds_twice own images more
    ∙ same_cells_table ((spell own ++ images) ++ more) ((spell own ++ more) ++ images) (λ key.
    let s = cells (spell own) key in
    let a = cells images key in
    let b = cells more key in
    cells-append (spell own ++ images) more key ∙ ap (λ c. both c b) (cells-append (spell own) images key) ∙ both-assoc s a b
    ∙ ap (both s) (both-comm a b)
    ∙ sym (cells-append (spell own ++ more) images key ∙ ap (λ c. both c a) (cells-append (spell own) more key) ∙ both-assoc s b a))
    ∙ sym (adds_twice own more images)

adds_repeat : (own : Entries) (images : List Image) → adds (adds own images) images ≡ adds own images
unfolding adds
adds_repeat own images =
    adds_twice own images images
    ∙ same_cells_table ((spell own ++ images) ++ images) (spell own ++ images) (λ key.
    let s = cells (spell own) key in
    let a = cells images key in
    cells-append (spell own ++ images) images key ∙ ap (λ c. both c a) (cells-append (spell own) images key) ∙ both-assoc s a a
    ∙ ap (both s) (both-same a) ∙ sym (cells-append (spell own) images key))

raised_commute : (cover marks positions : Positions) → Rise cover → Rise marks → Rise positions → raised_marks (raised_marks cover marks) positions ≡ raised_marks (raised_marks cover positions) marks
raised_commute cover marks positions g h k =
    raised_marks-associates cover marks positions g ∙ ap (raised_marks cover) (raised_marks-commutes marks positions h k) ∙ sym (raised_marks-associates cover positions marks g)

raised_repeat : (cover marks : Positions) → Rise cover → Rise marks → raised_marks (raised_marks cover marks) marks ≡ raised_marks cover marks
raised_repeat cover marks g h = raised_marks-associates cover marks marks g ∙ ap (raised_marks cover) (raised_marks-repeats marks h)

raised_past : (cover marks later : Positions) → Rise cover → raised_marks marks later ≡ later → raised_marks (raised_marks cover marks) later ≡ raised_marks cover later
raised_past cover marks later g past = raised_marks-associates cover marks later g ∙ ap (raised_marks cover) past

taking_commutes : (t : TabletStateValue) (cells others : Entries) (marks positions : Positions) → Rise t.cover → Rise t.reach → Rise marks → Rise positions
    → with_join (with_join t cells marks) others positions ≡ with_join (with_join t others positions) cells marks
taking_commutes t cells others marks positions g f h k = λ i. record {
  range = t.range;
  cells = adds_commute t.cells (spell cells) (spell others) i;
  cover = raised_commute t.cover marks positions g h k i;
  reach = raised_commute t.reach marks positions f h k i;
  status = t.status;
}

taking_repeats : (t : TabletStateValue) (cells : Entries) (marks : Positions) → Rise t.cover → Rise t.reach → Rise marks → with_join (with_join t cells marks) cells marks ≡ with_join t cells marks
taking_repeats t cells marks g f h = λ i. record {
  range = t.range;
  cells = adds_repeat t.cells (spell cells) i;
  cover = raised_repeat t.cover marks g h i;
  reach = raised_repeat t.reach marks f h i;
  status = t.status;
}

-- a join of keys in the range is taken, and another is not
taken_in : (t : TabletStateValue) (cells : Entries) (marks : Positions) → lie_in t.range cells ≡ true → tablet_after t (Join cells marks) ≡ with_join t cells marks
taken_in t cells marks inside = ap (λ b. after_step t (if b then Ok (with_join t cells marks) else Err WrongRange)) inside

left_out : (t : TabletStateValue) (cells : Entries) (marks : Positions) → lie_in t.range cells ≡ false → tablet_after t (Join cells marks) ≡ t
left_out t cells marks outside = ap (λ b. after_step t (if b then Ok (with_join t cells marks) else Err WrongRange)) outside

commute_by : (t : TabletStateValue) (cells others : Entries) (marks positions : Positions) (a b : Bool) → lie_in t.range cells ≡ a → lie_in t.range others ≡ b
    → Rise t.cover → Rise t.reach → Rise marks → Rise positions
    → tablet_after (tablet_after t (Join cells marks)) (Join others positions) ≡ tablet_after (tablet_after t (Join others positions)) (Join cells marks)
commute_by t cells others marks positions true true x y g f h k =
    ap (λ t. tablet_after t (Join others positions)) (taken_in t cells marks x) ∙ taken_in (with_join t cells marks) others positions y
    ∙ taking_commutes t cells others marks positions g f h k
    ∙ sym (ap (λ t. tablet_after t (Join cells marks)) (taken_in t others positions y) ∙ taken_in (with_join t others positions) cells marks x)
commute_by t cells others marks positions true false x y g f h k =
    ap (λ t. tablet_after t (Join others positions)) (taken_in t cells marks x) ∙ left_out (with_join t cells marks) others positions y
    ∙ sym (ap (λ t. tablet_after t (Join cells marks)) (left_out t others positions y) ∙ taken_in t cells marks x)
commute_by t cells others marks positions false true x y g f h k =
    ap (λ t. tablet_after t (Join others positions)) (left_out t cells marks x) ∙ taken_in t others positions y
    ∙ sym (ap (λ t. tablet_after t (Join cells marks)) (taken_in t others positions y) ∙ left_out (with_join t others positions) cells marks x)
commute_by t cells others marks positions false false x y g f h k =
    ap (λ t. tablet_after t (Join others positions)) (left_out t cells marks x) ∙ left_out t others positions y
    ∙ sym (ap (λ t. tablet_after t (Join cells marks)) (left_out t others positions y) ∙ left_out t cells marks x)

pub joins_commute : (t : TabletStateValue) (cells others : Entries) (marks positions : Positions) → Rise t.cover → Rise t.reach → Rise marks → Rise positions
    → tablet_after (tablet_after t (Join cells marks)) (Join others positions) ≡ tablet_after (tablet_after t (Join others positions)) (Join cells marks)
joins_commute t cells others marks positions =
    commute_by t cells others marks positions (lie_in t.range cells) (lie_in t.range others) refl refl

repeat_by : (t : TabletStateValue) (cells : Entries) (marks : Positions) (a : Bool) → lie_in t.range cells ≡ a → Rise t.cover → Rise t.reach → Rise marks
    → tablet_after (tablet_after t (Join cells marks)) (Join cells marks) ≡ tablet_after t (Join cells marks)
repeat_by t cells marks true x g f h =
    ap (λ t. tablet_after t (Join cells marks)) (taken_in t cells marks x) ∙ taken_in (with_join t cells marks) cells marks x
    ∙ taking_repeats t cells marks g f h ∙ sym (taken_in t cells marks x)
repeat_by t cells marks false x g f h = ap (λ t. tablet_after t (Join cells marks)) (left_out t cells marks x)

pub joins_repeat : (t : TabletStateValue) (cells : Entries) (marks : Positions) → Rise t.cover → Rise t.reach → Rise marks
    → tablet_after (tablet_after t (Join cells marks)) (Join cells marks) ≡ tablet_after t (Join cells marks)
joins_repeat t cells marks = repeat_by t cells marks (lie_in t.range cells) refl

later_by : (t : TabletStateValue) (cells : Entries) (marks later : Positions) (a : Bool) → lie_in t.range cells ≡ a → Rise t.cover → Rise t.reach → raised_marks marks later ≡ later
    → tablet_after (tablet_after t (Join cells marks)) (Join cells later) ≡ tablet_after t (Join cells later)
later_by t cells marks later true x g f past =
    ap (λ t. tablet_after t (Join cells later)) (taken_in t cells marks x) ∙ taken_in (with_join t cells marks) cells later x
    ∙ (λ i. record { range = t.range; cells = adds_repeat t.cells (spell cells) i; cover = raised_past t.cover marks later g past i; reach = raised_past t.reach marks later f past i; status = t.status })
    ∙ sym (taken_in t cells later x)
later_by t cells marks later false x g f past = ap (λ t. tablet_after t (Join cells later)) (left_out t cells marks x)

-- the same cells joined again, with marks that are nowhere below
pub later_join_alone : (t : TabletStateValue) (cells : Entries) (marks later : Positions) → Rise t.cover → Rise t.reach → raised_marks marks later ≡ later
    → tablet_after (tablet_after t (Join cells marks)) (Join cells later) ≡ tablet_after t (Join cells later)
later_join_alone t cells marks later = later_by t cells marks later (lie_in t.range cells) refl
