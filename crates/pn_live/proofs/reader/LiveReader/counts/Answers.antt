-- The tablet was looked into.
use Rattle.std.proofs.Common.{length, ◌≤◌, ap, arith}
use Rattle.pn_live.specs.Readers.{LiveReaderValue}
use Rattle.pn_live.proofs.Knowing.{reader_within, still_tablet_readers, counted_once, looks_same}
use Rattle.pn_live.proofs.reader.LiveReader.counts.Goals as goal

pub index_mut-requires : goal.index_mut-requires
index_mut-requires c =
    let inside = c.self.inside in
    let few : c.args.tablet ≤ length inside.layout = omega (arith, ap (λ (r : LiveReaderValue). length r.layout) c.self.view_is, c.requires) in
    omega (arith, reader_within inside.layout inside.tablet_readers.items c.args.tablet c.self.invariant few, inside.tablet_readers.ok.0)

pub invariant_of-self : goal.invariant_of-self
invariant_of-self c =
    let inside = c.self.inside in
    let few : c.args.tablet ≤ length inside.layout = omega (arith, ap (λ (r : LiveReaderValue). length r.layout) c.self.view_is, c.requires) in
    still_tablet_readers inside.layout inside.tablet_readers.items c.args.tablet c.index_mut.result.now c.counts.new.self c.self.invariant few c.index_mut.ensures.value c.counts.ensures.0 c.counts.ensures.1.sees

pub returns-clause-counts : goal.returns-clause-counts
returns-clause-counts c =
    let inside = c.self.inside in
    let few : c.args.tablet ≤ length inside.layout = omega (arith, ap (λ (r : LiveReaderValue). length r.layout) c.self.view_is, c.requires) in (
      c.counts.ensures.0,
      rw (← c.self.view_is)
          (counted_once inside.layout inside.tablet_readers.items c.args.tablet c.index_mut.result.now c.counts.new.self c.self.invariant few c.index_mut.ensures.value
          c.counts.result c.counts.ensures.0 c.counts.ensures.1),
    )

pub returns-clause-same : goal.returns-clause-same
returns-clause-same c = looks_same _ _ _ (returns-clause-counts c).1.looked
