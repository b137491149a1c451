-- The shares stand for the same deliveries.
use Rattle.std.proofs.Common.{◌≡◌, ◌∙◌, arith}
use Rattle.std.specs.Vec.{with_items}
use Rattle.std.proofs.lemmas.List.{with_items_is}
use Rattle.pn_serve.proofs.server.tries.finish_cells.Goals as goal

pub returns : goal.returns
returns c =
    let old = c.args.input.deliveries in
    let us = c.finish_shares.new.shares in
    let same : (with_items old us).items ≡ old.items =
    with_items_is old us (omega (arith, c.finish_shares.auto.shares, c.as_mut_slice.ensures.len)) ∙ c.finish_shares.ensures ∙ c.as_mut_slice.ensures.value in
    λ i. record { deliveries = same i; fault = c.args.input.fault }
