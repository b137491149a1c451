-- The front was learnt.
use Rattle.std.proofs.Common.{◌≡◌, List, map, sym, ap, ◌∙◌, subst, arith}
use Rattle.std.specs.Vec.{with_items}
use Rattle.std.proofs.lemmas.List.{with_items_is}
use Rattle.pn_live.specs.PublishedTablets.{TabletNoteValue}
use Rattle.pn_live.specs.Readers.{LiveReaderValue, TabletReaderValue, AllLearn}
use Rattle.pn_live.proofs.Knowing.{learning_all_knows, ends_known, learns_same}
use Rattle.pn_live.proofs.reader.LiveReader.learn.Goals as goal

pub learn_all-requires : goal.learn_all-requires
learn_all-requires c =
    let here = c.as_mut_slice.ensures.value ∙ ap (λ (r : LiveReaderValue). r.tablet_readers) c.self.view_is in
    ap (map (λ (n : TabletNoteValue). n.book)) c.into_notes.ensures ∙ (c.requires ∙ ap (map (λ (r : TabletReaderValue). r.book)) (sym here))

pub invariant_of-self : goal.invariant_of-self
invariant_of-self c =
    let inside = c.self.inside in
    let us = c.learn_all.new.tablet_readers in
    let same = with_items_is inside.tablet_readers us (omega (arith, c.learn_all.auto.tablet_readers, c.as_mut_slice.ensures.len)) in
    let learn : AllLearn inside.tablet_readers.items c.into_notes.result.items us = subst (λ (rs : List TabletReaderValue). AllLearn rs c.into_notes.result.items us) c.as_mut_slice.ensures.value c.learn_all.ensures in
    ap (map (λ (r : TabletReaderValue). r.range)) same ∙ (ends_known inside.tablet_readers.items us (learning_all_knows inside.tablet_readers.items us c.into_notes.result.items learn) ∙ c.self.invariant)

pub returns : goal.returns
returns c =
    let was = c.args.self.now in
    let inside = c.self.inside in
    let us = c.learn_all.new.tablet_readers in
    let now : LiveReaderValue = record { layout = inside.layout; tablet_readers = (with_items inside.tablet_readers us).items } in
    let same = with_items_is inside.tablet_readers us (omega (arith, c.learn_all.auto.tablet_readers, c.as_mut_slice.ensures.len)) in
    let here : c.as_mut_slice.result.now ≡ was.tablet_readers = c.as_mut_slice.ensures.value ∙ ap (λ (r : LiveReaderValue). r.tablet_readers) c.self.view_is in
    let learnt : AllLearn was.tablet_readers c.args.front now.tablet_readers =
    subst (λ (rs : List TabletReaderValue). AllLearn was.tablet_readers c.args.front rs) (sym same)
    (subst (λ (rs : List TabletReaderValue). AllLearn rs c.args.front us) here (subst (λ (ns : List TabletNoteValue). AllLearn c.as_mut_slice.result.now ns us) c.into_notes.ensures c.learn_all.ensures)) in
    record { learnt = learnt; same = learns_same was now c.args.front (ap (λ (r : LiveReaderValue). r.layout) c.self.view_is) learnt }
