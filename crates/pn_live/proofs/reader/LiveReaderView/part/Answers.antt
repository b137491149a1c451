-- The tablet was looked into.
use Rattle.std.proofs.Common.{length, ◌≤◌, ap, arith}
use Rattle.pn_scan.specs.Paging.{part_at}
use Rattle.pn_scan.specs.Views.{rows_at}
use Rattle.pn_live.specs.Readers.{LiveReaderValue}
use Rattle.pn_live.proofs.Knowing.{reader_within, still_tablet_readers, looked_once}
use Rattle.pn_live.proofs.reader.LiveReaderView.part.Goals as goal

pub index_mut-requires : goal.index_mut-requires
index_mut-requires c =
    let inside = c.self.inside in
    let few : c.args.tablet ≤ length inside.layout = omega (arith, ap (λ (r : LiveReaderValue). length r.layout) c.self.view_is, c.requires) in
    omega (arith, reader_within inside.layout inside.tablet_readers.items c.args.tablet c.self.invariant few, inside.tablet_readers.ok.0)

pub invariant_of-self : goal.invariant_of-self
invariant_of-self c =
    let inside = c.self.inside in
    let few : c.args.tablet ≤ length inside.layout = omega (arith, ap (λ (r : LiveReaderValue). length r.layout) c.self.view_is, c.requires) in
    still_tablet_readers inside.layout inside.tablet_readers.items c.args.tablet c.index_mut.result.now c.part.new.self c.self.invariant few c.index_mut.ensures.value c.part.ensures.look.0 c.part.ensures.look.1.sees

pub returns-clause-look : goal.returns-clause-look
returns-clause-look c =
    let inside = c.self.inside in
    let few : c.args.tablet ≤ length inside.layout = omega (arith, ap (λ (r : LiveReaderValue). length r.layout) c.self.view_is, c.requires) in (
      c.part.ensures.look.0,
      rw (← c.self.view_is)
          (looked_once inside.layout inside.tablet_readers.items c.args.tablet c.index_mut.result.now c.part.new.self c.self.invariant few c.index_mut.ensures.value
          (part_at c.args.query.now) c.part.result (rows_at c.args.query.now c.args.room) c.part.ensures.look.0 c.part.ensures.look.1),
    )
