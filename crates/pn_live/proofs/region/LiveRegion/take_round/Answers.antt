-- What a round leaves of a live region.
use Rattle.std.proofs.Common.{◌≡◌, ◌++◌, List, map, sym, ap, ◌∙◌, subst, arith}
use Rattle.std.specs.Vec.{with_items}
use Rattle.std.proofs.lemmas.List.{with_items_is}
use Rattle.std.specs.List.{flat_map}
use Rattle.pn_apply.specs.Applying.{AreJoinsIn, all_stepped}
use Rattle.pn_live.specs.LiveRegions.{LiveRegionValue, tablets_in}
use Rattle.pn_live.specs.PublishedTablets.{PublishedTabletValue, TabletNoteValue, books_of, state_at, notes_of, with_ops}
use Rattle.pn_live.specs.Readers.{AreNotesOf}
use Rattle.pn_live.proofs.Rounds.{taken_lawful, takes}
use Rattle.pn_live.proofs.region.LiveRegion.take_round.Goals as goal

pub publish_tablets-requires-clause-joins : goal.publish_tablets-requires-clause-joins
publish_tablets-requires-clause-joins g c =
    let here : c.as_mut_slice-tablets.result.now ≡ c.args.self.now.tablets = c.as_mut_slice-tablets.ensures.value ∙ ap (λ (l : LiveRegionValue). l.tablets) (c.self.view_is ∙ c.in_ok-ready.ensures.same) in
    subst (λ (ts : List PublishedTabletValue). AreJoinsIn (map state_at ts) c.in_ok-ready.ready.1.items) (sym here) c.in_ok-ready.ensures.joins.0

pub publish_tablets-requires-clause-nexts : goal.publish_tablets-requires-clause-nexts
publish_tablets-requires-clause-nexts g c =
    let here : c.as_mut_slice-tablets.result.now ≡ c.args.self.now.tablets = c.as_mut_slice-tablets.ensures.value ∙ ap (λ (l : LiveRegionValue). l.tablets) (c.self.view_is ∙ c.in_ok-ready.ensures.same) in
    c.in_ok-ready.ensures.nexts ∙ ap (λ (ts : List PublishedTabletValue). all_stepped (map state_at ts) c.in_ok-ready.ready.1.items) (sym here)

pub invariant_of-self : goal.invariant_of-self
invariant_of-self g c =
    let was = c.args.self.now in
    let inside = c.self.inside in
    let ops = c.in_ok-ready.ready.1.items in
    let said = c.in_ok-ready.ensures in
    let us = c.publish_tablets.new.tablets in
    let same = with_items_is inside.tablets us (omega (arith, c.publish_tablets.auto.tablets, c.as_mut_slice-tablets.ensures.len)) in
    let now : LiveRegionValue = record { layout = inside.layout; tablets = (with_items inside.tablets us).items; marks = c.in_ok-ready.ready.0; log = inside.log; order = c.publish_tablets.new.order } in
    let here : c.as_mut_slice-tablets.result.now ≡ was.tablets = c.as_mut_slice-tablets.ensures.value ∙ ap (λ (l : LiveRegionValue). l.tablets) (c.self.view_is ∙ said.same) in
    let layout : now.layout ≡ was.layout = ap (λ (l : LiveRegionValue). l.layout) (c.self.view_is ∙ said.same) in
    let all : now.tablets ≡ with_ops was.tablets ops = same ∙ (c.publish_tablets.ensures.tablets ∙ ap (λ (ts : List PublishedTabletValue). with_ops ts ops) here) in
    taken_lawful was now c.args.shares.now said.is_region ops said.operations layout all said.marks.1

pub returns : goal.returns
returns g c =
    let was = c.args.self.now in
    let inside = c.self.inside in
    let ops = c.in_ok-ready.ready.1.items in
    let said = c.in_ok-ready.ensures in
    let us = c.publish_tablets.new.tablets in
    let same = with_items_is inside.tablets us (omega (arith, c.publish_tablets.auto.tablets, c.as_mut_slice-tablets.ensures.len)) in
    let now : LiveRegionValue = record { layout = inside.layout; tablets = (with_items inside.tablets us).items; marks = c.in_ok-ready.ready.0; log = inside.log; order = c.publish_tablets.new.order } in
    let here : c.as_mut_slice-tablets.result.now ≡ was.tablets = c.as_mut_slice-tablets.ensures.value ∙ ap (λ (l : LiveRegionValue). l.tablets) (c.self.view_is ∙ said.same) in
    let layout : now.layout ≡ was.layout = ap (λ (l : LiveRegionValue). l.layout) (c.self.view_is ∙ said.same) in
    let all : now.tablets ≡ with_ops was.tablets ops = same ∙ (c.publish_tablets.ensures.tablets ∙ ap (λ (ts : List PublishedTabletValue). with_ops ts ops) here) in
    let taken = takes was now c.args.shares.now said.is_region ops said.operations layout all said.marks.0 (flat_map (λ list. list.items) c.in_ok-ready.ready.2.lists.items) said.changes.0 in
    let front = c.front_of-front.ensures ∙ ap notes_of c.deref.ensures.value in
    record {
      ok = taken.ok;
      published = taken.published;
      order = c.publish_tablets.ensures.order
          ∙ ap (λ (ts : List PublishedTabletValue). inside.order ++ books_of ts) c.as_mut_slice-tablets.ensures.value
          ∙ ap (λ (l : LiveRegionValue). l.order ++ books_of l.tablets) (c.self.view_is ∙ said.same);
      front = (front, subst (λ (ns : List TabletNoteValue). AreNotesOf (tablets_in was) ns) (sym front) taken.fits);
      changes = (taken.tells, said.changes.1);
      refused = tt;
      kept = tt;
      log = ap (λ (l : LiveRegionValue). l.log) (c.self.view_is ∙ said.same);
      same = taken.same;
    }
