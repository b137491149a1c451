-- One tablet has one operation more, and the region took it.
use Rattle.std.proofs.Common.{◌≡◌, List, slice_get, sym, ap, ◌∙◌, subst, Ok, arith}
use Rattle.std.specs.Prelude.{IsSomeAnd}
use Rattle.pn_tablet.specs.Steps.{step}
use Rattle.pn_region.specs.Recovery.{after_op}
use Rattle.pn_region.specs.Regions.{IsRegion}
use Rattle.pn_live.specs.LiveRegions.{LiveRegionValue, core, tablets_in, after_op_at}
use Rattle.pn_live.specs.PublishedTablets.{PublishedTabletValue, TabletNoteValue, state_at, notes_of}
use Rattle.pn_live.specs.Readers.{AreNotesOf}
use Rattle.pn_live.proofs.Rounds.{there_within, known_there, set_appended, core_after, lawful_after, live_after, same_after, fits_after}
use Rattle.pn_live.proofs.region.LiveRegion.publish_one.Goals as goal

pub index_mut-requires : goal.index_mut-requires
index_mut-requires g c =
    let inside = c.self.inside in
    let P = λ (tablet : PublishedTabletValue). step (state_at tablet) c.args.operation ≡ Ok c.args.next in
    let there = subst (λ (l : LiveRegionValue). IsSomeAnd (slice_get l.tablets c.args.number) P) (sym c.self.view_is) c.requires.next in
    omega (arith, there_within inside.tablets.items c.args.number P there, inside.tablets.ok.0)

pub publish-requires-clause-next : goal.publish-requires-clause-next
publish-requires-clause-next g c =
    let P = λ (tablet : PublishedTabletValue). step (state_at tablet) c.args.operation ≡ Ok c.args.next in
    let there = subst (λ (l : LiveRegionValue). IsSomeAnd (slice_get l.tablets c.args.number) P) (sym c.self.view_is) c.requires.next in
    known_there c.self.inside.tablets.items c.args.number P c.index_mut.result.now there c.index_mut.ensures.value

pub invariant_of-self : goal.invariant_of-self
invariant_of-self g c =
    let inside = c.self.inside in
    let old : LiveRegionValue = record { layout = inside.layout; tablets = inside.tablets.items; marks = inside.marks; log = inside.log; order = inside.order } in
    let is = set_appended inside.tablets.items c.args.number c.index_mut.result.now c.publish.new.self c.args.operation c.index_mut.ensures.value c.publish.ensures.list in
    lawful_after old c.args.number c.args.operation _ is inside.log c.self.invariant
    (subst (λ (l : LiveRegionValue). IsRegion (after_op (core l) c.args.number c.args.operation)) (sym c.self.view_is) c.requires.region)

pub returns : goal.returns
returns g c =
    let n = c.args.number in
    let op = c.args.operation in
    let inside = c.self.inside in
    let old : LiveRegionValue = record { layout = inside.layout; tablets = inside.tablets.items; marks = inside.marks; log = inside.log; order = inside.order } in
    let is = set_appended inside.tablets.items n c.index_mut.result.now c.publish.new.self op c.index_mut.ensures.value c.publish.ensures.list in
    let front = c.front_of.ensures ∙ ap notes_of c.deref.ensures.value in
    record {
      ok = live_after old n op _ is _ c.cut.ensures ∙ ap (λ (l : LiveRegionValue). after_op_at l n op) c.self.view_is;
      state = core_after old n op _ is inside.log ∙ ap (λ (l : LiveRegionValue). after_op (core l) n op) c.self.view_is;
      front = front;
      err = tt;
      fits =
          subst (λ (l : LiveRegionValue). AreNotesOf (tablets_in l) c.front_of.result) c.self.view_is
          (subst (λ (ns : List TabletNoteValue). AreNotesOf (tablets_in old) ns) (sym front) (fits_after old n op _ is));
      same = same_after old n op _ is inside.log ∙ ap tablets_in c.self.view_is;
    }
