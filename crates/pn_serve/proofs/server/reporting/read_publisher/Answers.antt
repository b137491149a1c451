-- Messages that rounds got go on from what was read.
use Rattle.std.proofs.Common.{ℕ, Option, refl, sym, ap, ◌∙◌, subst, arith}
use Rattle.pn_stream.specs.Batches.{Stream}
use Rattle.pn_stream.specs.Brokers.{DeliveryValue}
use Rattle.pn_serve.specs.Server.Publishers.{IsSent, EndsInput, HasUpTo, IsUpTo}
use Rattle.pn_serve.specs.declared.server.reports.Report.{Report}
use Rattle.pn_serve.specs.declared.server.publishers.PublisherEnd.{PublisherEnd}
use Rattle.pn_serve.proofs.PublishersRead.{was_read, WasReadBy, read_none, read_on, last_more, up_to, ends_input, on_end}
use Rattle.pn_serve.proofs.server.reporting.read_publisher.Goals as goal

pub loop-init : goal.loop-init
loop-init g c = record { read = read_none g.S.Source.left c.args.input.now.before c.args.input.now.reader; last = λ within. omega (arith, within); name = refl }

pub leave-requires : goal.leave-requires
leave-requires g c =
    let left = g.S.Source.left in
    let sends = g.M.Sending.sends in
    let first = c.args.input.now in
    let old = c.loop.input in
    let new = c.next-in-loop.new.self in
    let gives = c.in-Messages.ensures.gives in
    let messages = c.in-Messages.messages in
    let last = up_to left old.reader new.reader messages old.before new.before gives c.next-in-loop.ensures.name in
    let same = c.next-in-loop.ensures.name ∙ c.loop.invariant.name in
    subst (λ (delivery : DeliveryValue). IsSent g.M.Sending.known sends delivery) (sym c.into_share-share.ensures)
    ∣ (λ known. was_read left sends first.before first.reader old.reader new.reader messages old.before new.before c.loop.invariant.read gives last same (c.requires known)) ∣₁

pub note_handed-requires : goal.note_handed-requires
note_handed-requires g c =
    let old = c.loop.input in
    let new = c.next-in-loop.new.self in
    let so = up_to g.S.Source.left old.reader new.reader c.in-Messages.messages old.before new.before c.in-Messages.ensures.gives c.next-in-loop.ensures.name in
    subst (λ (report : Report). HasUpTo new.reader report) (sym c.in_ok-left-in-Messages.ensures)
    (subst (λ (delivery : DeliveryValue). IsUpTo new.reader delivery) (sym c.into_share-share.ensures) so)

pub loop-preserved : goal.loop-preserved
loop-preserved g c =
    let left = g.S.Source.left in
    let first = c.args.input.now in
    let old = c.loop.input in
    let new = c.next-in-loop.new.self in
    let handed = c.note_handed.new.self in
    let gives = c.in-Messages.ensures.gives in
    let so = read_on left first.before first.reader old.reader new.reader c.in-Messages.messages old.before new.before c.loop.invariant.read gives in
    record {
      read =
          subst (λ (before : Option ℕ). WasReadBy left first.before first.reader before handed.reader) (sym c.note_handed.ensures.before)
          (subst (λ (reader : Stream g.row.S.Denot). WasReadBy left first.before first.reader new.before reader) (sym c.note_handed.ensures.reader) so);
      last = λ within.
          let at = ap (λ (reader : Stream g.row.S.Denot). reader.position) c.note_handed.ensures.reader in
          let more = last_more left first.before first.reader old.reader new.reader c.in-Messages.messages old.before new.before first.last old.last c.loop.invariant.read gives within (c.loop.invariant.last within) in
          omega (arith, c.note_handed.ensures.last, c.next-in-loop.ensures.last, more, at);
      name = ap (λ (reader : Stream g.row.S.Denot). reader.name) c.note_handed.ensures.reader ∙ c.next-in-loop.ensures.name ∙ c.loop.invariant.name;
    }

pub returns-in-Ended-clause-ends : goal.returns-in-Ended-clause-ends
returns-in-Ended-clause-ends g c =
    let first = c.args.input.now in
    let old = c.loop.input in
    let new = c.next-in-loop.new.self in
    on_end c.unless_stopped.result c.in-Ended.end (λ (end : PublisherEnd). EndsInput g.S.Source.left first.before first.reader end new.before new.reader) c.unless_stopped.ensures
    (ends_input g.S.Source.left first.before first.reader old.reader new.reader c.in-Ended.end old.before new.before c.loop.invariant.read c.in-Ended.ensures.gives)
