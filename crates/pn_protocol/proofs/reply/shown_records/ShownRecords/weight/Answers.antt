-- One record more is weighed.
use Rattle.std.proofs.Common.{◌≡◌, ◌-◌, ◌^◌, ◌∙◌, min, sym, ap, arith}
use Rattle.std.proofs.lemmas.Option.{slice_get_within}
use Rattle.std.specs.Option.{option_copied}
use Rattle.pn_protocol.specs.Reply.Making.{Found, found_in, found_weight}
use Rattle.pn_protocol.proofs.MadeReplies.{weighed_all, weighed_more}
use Rattle.pn_protocol.proofs.reply.shown_records.ShownRecords.weight.Goals as goal

pub overflow_add-index : goal.overflow_add-index
overflow_add-index c =
    let found : Found = (c.in-Some.key.now, option_copied c.in-Some.cell) in
    omega (arith, slice_get_within (found_in c.args.self.now) c.records.index found (sym c.in-Some.ensures), c.recall_count.ensures)

pub records-preserved : goal.records-preserved
records-preserved c =
    let found : Found = (c.in-Some.key.now, option_copied c.in-Some.cell) in
    let more = weighed_more found_weight (found_in c.args.self.now) c.records.index found (sym c.in-Some.ensures) in
    record {
      weighed = omega (arith, more, c.found_weight.ensures, c.saturating_add-weight.ensures, c.records.invariant.weighed);
      within = omega (arith, slice_get_within (found_in c.args.self.now) c.records.index found (sym c.in-Some.ensures));
    }

pub records-smaller : goal.records-smaller
records-smaller c =
    let found : Found = (c.in-Some.key.now, option_copied c.in-Some.cell) in
    omega (arith, slice_get_within (found_in c.args.self.now) c.records.index found (sym c.in-Some.ensures))

pub returns : goal.returns
returns c =
    c.records.invariant.weighed
    ∙ ap (λ n. min n (2 ^ 64 - 1)) (weighed_all found_weight (found_in c.args.self.now) c.records.index (sym c.in_default.ensures))
