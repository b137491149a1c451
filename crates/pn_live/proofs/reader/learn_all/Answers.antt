-- One more note is learnt.
use Rattle.std.proofs.Common.{length, sym, ap, ◌∙◌, subst, arith}
use Rattle.std.specs.Vec.Iter.{into_iter_items}
use Rattle.pn_live.specs.Readers.{TabletReaderValue, Learns}
use Rattle.pn_live.proofs.Learning.{own_book, one_learnt, all_learnt}
use Rattle.pn_live.proofs.Appending.{nothing_left, past_of, rest_of}
use Rattle.pn_live.proofs.reader.learn_all.Goals as goal

pub learn-requires : goal.learn-requires
learn-requires c =
    let at = c.loop-note in
    let left = sym c.in-Some.ensures.steps.0 ∙ at.invariant.rest in
    own_book c.args.tablet_readers.now c.args.notes.items c.requires at.number at.tablet_readers at.invariant.done c.in-Some.note (into_iter_items c.next.new.self) left c.index-tablet_readers-number.result c.index-tablet_readers-number.is
    ∙ ap (λ (w : TabletReaderValue). w.book) c.index-tablet_readers-number.is

pub loop-note-preserved : goal.loop-note-preserved
loop-note-preserved c =
    let at = c.loop-note in
    let left = sym c.in-Some.ensures.steps.0 ∙ at.invariant.rest in
    record {
      done = one_learnt c.args.tablet_readers.now c.args.notes.items c.requires at.number at.tablet_readers at.invariant.done c.in-Some.note (into_iter_items c.next.new.self) left c.index-tablet_readers-number.result c.learn.new.self c.index-tablet_readers-number.is
          (subst (λ (w : TabletReaderValue). Learns w c.in-Some.note c.learn.new.self) (sym c.index-tablet_readers-number.is) c.learn.ensures);
      rest = rest_of c.args.notes.items at.number c.in-Some.note (into_iter_items c.next.new.self) left;
      left = omega (arith, at.invariant.left, c.in-Some.ensures.steps.1, ap length c.in-Some.ensures.steps.0);
    }

pub returns : goal.returns
returns c =
    let at = c.loop-note in
    let none = nothing_left (into_iter_items at.note-iterator) (sym at.invariant.left ∙ c.in-None.ensures.steps.0) in
    all_learnt at.number c.args.tablet_readers.now c.args.notes.items at.tablet_readers c.requires at.invariant.done (past_of c.args.notes.items at.number (sym none ∙ at.invariant.rest))
