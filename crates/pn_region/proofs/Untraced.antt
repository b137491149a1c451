-- A tablet that was lost, took what came and adopted a copy, beside one that was never lost.
use Rattle.std.proofs.Common.{◌≡◌, ℕ, Bool, true, false, if◌then◌else◌, List, [], ◌∷◌, ◌++◌, fold, Option, None, Ok, Err, refl, sym, ap, ◌∙◌, subst}
use Rattle.pn_record.specs.Cells.{cells, adds}
use Rattle.pn_record.proofs.CellLists.{both, both-assoc, both-comm, cells-append, all_absorbed}
use Rattle.pn_record.proofs.CellMaps.{Holds-table_of, cells-spelled, same_cells_table}
use Rattle.pn_tablet.specs.Steps.{AreJoins, with_join}
use Rattle.pn_tablet.specs.Steps as steps
use Rattle.pn_tablet.specs.declared.state.Status.{Status}
use Rattle.pn_tablet.proofs.TabletLaws.{nothing_short, adopted}
use Rattle.pn_tablet.proofs.JoinLaws.{one_range}
use Rattle.pn_apply.proofs.ReduceLaws.{same_in}
use Rattle.pn_region.specs.Reads.{HoldsStill}
use Rattle.pn_region.specs.Events.{IsHonestCopy}
use Rattle.pn_region.proofs.Common.{find, Positions, Reaches, raised_marks, Image, bytes_cmp, CellValue, spell, Entries, table_of, BrokerRecord, up_to, TabletCopyValue, need_shortfall, Ends, recovering_tablet, step, after_step, tablet_after, TabletStateValue, lie_in, same_range, WrongRange, TabletOp, Join, Lose, Adopt, Serving, Recovering, images_in, IsFaithful}
use Rattle.pn_region.proofs.FaithfulEvents.{was_so, serving_has_all}
use Rattle.pn_region.proofs.KeptRecords.{more_in, joined_held, found_added}
use Rattle.pn_region.proofs.MarkLaws.{up_to_more}

spelled_added : (own : Entries) (images : List Image) (key : List ℕ) → cells (spell (adds own images)) key ≡ both (cells (spell own) key) (cells images key)
unfolding adds
spelled_added own images key = cells-spelled (spell own ++ images) key ∙ cells-append (spell own) images key

same_added : (own others : Entries) (images : List Image) → ((key : List ℕ) → both (cells (spell own) key) (cells images key) ≡ both (cells (spell others) key) (cells images key)) → adds own images ≡ adds others images
unfolding adds
same_added own others images same =
    same_cells_table (spell own ++ images) (spell others ++ images)
    (λ key. cells-append (spell own) images key ∙ same key ∙ sym (cells-append (spell others) images key))

-- beside a tablet that was lost, one that was not: it has what it had, and what the other has
record Beside (t away kept : TabletStateValue) : Type 0 where
  pub range : kept.range ≡ away.range
  pub own : away.range ≡ t.range
  pub cover : kept.cover ≡ away.cover
  pub reach : kept.reach ≡ away.reach
  pub needs : away.status ≡ Recovering t.reach
  pub status : kept.status ≡ t.status
  pub held : (key : List ℕ) → cells (spell kept.cells) key ≡ both (cells (spell t.cells) key) (cells (spell away.cells) key)

at_loss : (t : TabletStateValue) → Beside t (recovering_tablet t) t
at_loss t = record {
  range = refl;
  own = refl;
  cover = refl;
  reach = refl;
  needs = refl;
  status = refl;
  held = λ key. sym (both-comm (cells (spell t.cells) key) None);
}

join_beside : (t away kept : TabletStateValue) (more : Entries) (marks : Positions) (b : Bool) → Beside t away kept
    → Beside t (after_step away (if b then Ok (with_join away more marks) else Err WrongRange)) (after_step kept (if b then Ok (with_join kept more marks) else Err WrongRange))
join_beside t away kept more marks true beside = record {
  range = beside.range;
  own = beside.own;
  cover = ap (λ (cover : Positions). raised_marks cover marks) beside.cover;
  reach = ap (λ (reach : Positions). raised_marks reach marks) beside.reach;
  needs = beside.needs;
  status = beside.status;
  held = λ key.
      let had = cells (spell t.cells) key in
      let came = cells (spell more) key in
      spelled_added kept.cells (spell more) key ∙ ap (λ (o : Option CellValue). both o came) (beside.held key)
      ∙ both-assoc had (cells (spell away.cells) key) came ∙ ap (both had) (sym (spelled_added away.cells (spell more) key));
}
join_beside t away kept more marks false beside = beside

joins_beside : (t away kept : TabletStateValue) (joins : List TabletOp) → AreJoins joins → Beside t away kept → Beside t (fold tablet_after away joins) (fold tablet_after kept joins)
joins_beside t away kept [] are beside = beside
joins_beside t away kept (Join more marks ∷ joins) are beside =
    joins_beside t (tablet_after away (Join more marks)) (tablet_after kept (Join more marks)) joins are.1
    (subst (λ (b : Bool). Beside t (tablet_after away (Join more marks)) (after_step kept (if b then Ok (with_join kept more marks) else Err WrongRange)))
    (ap (λ (range : Ends). lie_in range more) (sym beside.range))
    (join_beside t away kept more marks (lie_in away.range more) beside))
joins_beside t away kept (Lose ∷ joins) are beside = absurd are.0
joins_beside t away kept (Adopt copy ∷ joins) are beside = absurd are.0

module _ (broker : BrokerRecord) (t after : TabletStateValue) (joins : List TabletOp) (copy : TabletCopyValue) (are : AreJoins joins) (faithful : IsFaithful broker t) (serves : t.status ≡ Serving) (honest : IsHonestCopy broker copy)
    (is : step (fold tablet_after (recovering_tablet t) joins) (Adopt copy) ≡ Ok after) where
  abbrev away : TabletStateValue
  away = fold tablet_after (recovering_tablet t) joins

  abbrev kept : TabletStateValue
  kept = fold tablet_after t joins

  beside : Beside t away kept
  beside = joins_beside t (recovering_tablet t) t joins are (at_loss t)

  same : same_range away.range copy.range ≡ true
  same = was_so (same_range away.range copy.range) (steps.with_copy away copy (need_shortfall away.status copy.marks)) after is

  reaches : Reaches copy.marks t.reach
  reaches = nothing_short copy.marks t.reach (ap (λ (status : Status). need_shortfall status copy.marks) (sym beside.needs) ∙ (adopted away copy after is).reaches)

  abbrev had : List Image
  had = images_in copy.range faithful.images

  abbrev has : List Image
  has = images_in copy.range (up_to broker copy.marks)

  cells_were : t.cells ≡ table_of had
  cells_were = faithful.cells ∙ ap (λ (range : Ends). table_of (images_in range faithful.images)) (sym beside.own ∙ one_range away.range copy.range same)

  -- the copy has all that was lost
  all_there : (key : List ℕ) → both (cells had key) (cells has key) ≡ cells has key
  all_there key =
      all_absorbed key had has
      (more_in copy.range faithful.images (up_to broker copy.marks) (λ image there. up_to_more broker copy.marks t.reach reaches image (faithful.published image there)))

  copied : (key : List ℕ) → cells (spell copy.cells) key ≡ cells has key
  copied key = ap (λ (entries : Entries). cells (spell entries) key) honest ∙ cells-spelled has key

  were : (key : List ℕ) → cells (spell t.cells) key ≡ cells had key
  were key = ap (λ (entries : Entries). cells (spell entries) key) cells_were ∙ cells-spelled had key

  brought : (key : List ℕ) → both (both (cells (spell t.cells) key) (cells (spell away.cells) key)) (cells (spell copy.cells) key) ≡ both (cells (spell away.cells) key) (cells (spell copy.cells) key)
  brought key =
      let x = cells (spell t.cells) key in
      let y = cells (spell away.cells) key in
      let z = cells (spell copy.cells) key in
      ap (λ (o : Option CellValue). both o z) (both-comm x y) ∙ both-assoc y x z
      ∙ ap (both y) ((λ i. both (were key i) (copied key i)) ∙ all_there key ∙ sym (copied key))

  -- what it holds is what it would hold had it never been lost
  pub untraced : step kept (Adopt copy) ≡ Ok after
  untraced =
      ap (λ (b : Bool). if b then steps.with_copy kept copy (need_shortfall kept.status copy.marks) else Err WrongRange) (ap (λ (range : Ends). same_range range copy.range) beside.range ∙ same)
      ∙ ap (λ (status : Status). steps.with_copy kept copy (need_shortfall status copy.marks)) (beside.status ∙ serves)
      ∙ (λ i. Ok (record {
        range = beside.range i;
        cells = same_added kept.cells away.cells (spell copy.cells) (λ key. ap (λ (o : Option CellValue). both o (cells (spell copy.cells) key)) (beside.held key) ∙ brought key) i;
        cover = raised_marks (beside.cover i) copy.marks;
        reach = raised_marks (beside.reach i) copy.marks;
        status = Serving;
      }))
      ∙ ap Ok (sym (adopted away copy after is).taken)

  -- it holds still all that it held
  pub whole : (key : List ℕ) → HoldsStill (find bytes_cmp key t.cells) (find bytes_cmp key after.cells)
  whole key =
      let x = cells (spell t.cells) key in
      let y = cells (spell away.cells) key in
      let z = cells (spell copy.cells) key in
      subst (λ (o : Option CellValue). HoldsStill o (find bytes_cmp key after.cells)) (were key ∙ sym (Holds-table_of had key) ∙ ap (find bytes_cmp key) (sym cells_were))
      (subst (λ (now : TabletStateValue). HoldsStill x (find bytes_cmp key now.cells)) (sym (adopted away copy after is).taken)
      (subst (HoldsStill x) (sym (both-assoc x y z) ∙ brought key ∙ sym (found_added away.cells (spell copy.cells) key)) (joined_held x (both y z))))

-- tablets that serve hold the same where their covers reach one another, and each its own reach
pub same_covers : (broker : BrokerRecord) (t u : TabletStateValue) → IsFaithful broker t → IsFaithful broker u → t.status ≡ Serving → u.status ≡ Serving → t.range ≡ u.range → Reaches t.cover t.reach → Reaches u.cover u.reach
    → Reaches t.cover u.cover → Reaches u.cover t.cover → t.cells ≡ u.cells
same_covers broker t u faithful faithful_too serves serves_too range own own_too reach reach_too =
    serving_has_all broker t faithful serves own
    ∙ same_in t.range (up_to broker t.cover) (up_to broker u.cover) (λ image. (up_to_more broker u.cover t.cover reach_too image, up_to_more broker t.cover u.cover reach image))
    ∙ ap (λ (range : Ends). table_of (images_in range (up_to broker u.cover))) range
    ∙ sym (serving_has_all broker u faithful_too serves_too own_too)
