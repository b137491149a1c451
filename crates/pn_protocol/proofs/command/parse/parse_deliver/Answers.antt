-- The batches that are moved out are those that were checked.
use Rattle.std.proofs.Common.{◌≡◌, codes, Ok, refl, ap, ◌∙◌, rules}
use Rattle.serde_json.specs.Find.{get}
use Rattle.serde_json.specs.View.{view, items_view}
use Rattle.pn_json.specs.Members.{each_in}
use Rattle.pn_protocol.specs.Command.Lines.{batch_in, deliver_at, items_at}
use Rattle.pn_protocol.specs.Command.Meaning.{deliver}
use Rattle.pn_protocol.proofs.BatchParts.{deliver_found}
use Rattle.pn_protocol.proofs.command.parse.parse_deliver.Goals as goal

pub build_deliveries-requires : goal.build_deliveries-requires
build_deliveries-requires c =
    let array : items_view c.items_at-batches.result.items ≡ items_at (get (codes "batches") (view c.args.value)) = search rules in
    rw (array, deliver_found (view c.args.value) c.in_ok-check_deliver.field-0.items c.in_ok-check_deliver.ensures) refl

pub returns : goal.returns
returns c =
    let batches = c.in_ok-check_deliver.field-0.items in
    let checked : deliver_at (view c.args.value) ≡ Ok (deliver batches) = c.in_ok-check_deliver.ensures in
    let array : items_view c.items_at-batches.result.items ≡ items_at (get (codes "batches") (view c.args.value)) = search rules in
    let whole : each_in batch_in (items_view c.items_at-batches.result.items) ≡ Ok batches = ap (each_in batch_in) array ∙ deliver_found (view c.args.value) batches checked in
    let same : batches ≡ c.in_ok-build_deliveries.field-0.items = cc (whole, c.in_ok-build_deliveries.ensures) in
    checked ∙ ap (λ l. Ok (deliver l)) same
