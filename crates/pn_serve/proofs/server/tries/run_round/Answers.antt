-- The input is taken as a round.
use Rattle.std.proofs.Common.{List, refl, subst}
use Rattle.std.specs.Prelude.{OnOk, OnErr}
use Rattle.pn_stream.specs.Brokers.{DeliveryValue}
use Rattle.pn_serve.specs.Server.Rounds.{value_of, IsRoundRefused, IsRoundTaken}
use Rattle.pn_serve.specs.declared.server.mailboxes.AtFault.TheVariants.{Stop}
use Rattle.pn_serve.proofs.RoundsRead.{takes}
use Rattle.pn_serve.proofs.server.tries.run_round.Goals as goal

pub returns-clause-takes : goal.returns-clause-takes
returns-clause-takes g c =
    let round = c.apply_deliveries-round in
    let old = c.args.live.now in
    let new = c.apply_deliveries-round.new.live in
    takes (value_of c.args.input) _ _ c.args.input.fault round.result c.conclude_round.result refl
    (subst (λ (ds : List DeliveryValue). OnOk round.result (IsRoundTaken old ds new)) c.deref.ensures.value round.ensures.taken)
    (subst (λ (ds : List DeliveryValue). OnErr round.result (IsRoundRefused Stop old ds new)) c.deref.ensures.value round.ensures.refused)
    c.conclude_round.ensures.stream c.conclude_round.ensures.round
