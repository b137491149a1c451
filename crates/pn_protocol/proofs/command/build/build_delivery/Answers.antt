-- The members that were found are the parts of the batch.
use Rattle.std.proofs.Common.{◌≡◌, codes, refl, sym, ap, ◌∙◌, rules}
use Rattle.serde_json.specs.Find.{get}
use Rattle.serde_json.specs.View.{view, items_view}
use Rattle.pn_json.specs.Members.{each_in, text_at}
use Rattle.pn_record.specs.Grammar.{image_in}
use Rattle.pn_stream.specs.Brokers.{DeliveryValue}
use Rattle.pn_protocol.specs.Command.Lines.{number_at, items_at}
use Rattle.pn_protocol.proofs.BatchParts.{parts_found, positions_found, batch_found}
use Rattle.pn_protocol.proofs.command.build.build_delivery.Goals as goal

pub of-stream-requires : goal.of-stream-requires
of-stream-requires c =
    let text : c.as_bytes.result.now ≡ text_at (get (codes "stream") (view c.args.batch)) = search rules in
    record { fits = rw text (parts_found (view c.args.batch) c.requires).stream }

pub build_images-requires : goal.build_images-requires
build_images-requires c =
    let array : items_view c.items_at-images.result.items ≡ items_at (get (codes "images") (view c.args.batch)) = search rules in
    rw (array, (parts_found (view c.args.batch) c.requires).read) refl

pub of-requires : goal.of-requires
of-requires c =
    let array : items_view c.items_at-images.result.items ≡ items_at (get (codes "images") (view c.args.batch)) = search rules in
    let first : c.first_and_stream-first.result.0 ≡ number_at (get (codes "first") (view c.args.batch)) = search rules in
    record { fit = positions_found (view c.args.batch) c.requires c.first_and_stream-first.result.0 c.in_ok-build_images.field-0.items first (ap (each_in image_in) (sym array) ∙ c.in_ok-build_images.ensures) }

pub returns : goal.returns
returns c =
    let array : items_view c.items_at-images.result.items ≡ items_at (get (codes "images") (view c.args.batch)) = search rules in
    let first : c.first_and_stream-first.result.0 ≡ number_at (get (codes "first") (view c.args.batch)) = search rules in
    let stream : c.of-stream.result ≡ text_at (get (codes "stream") (view c.args.batch)) = search rules in
    let batch : DeliveryValue = record { stream = c.of-stream.result; first = c.first_and_stream-first.result.0; images = c.in_ok-build_images.field-0.items } in
    rw c.of.ensures.made (batch_found (view c.args.batch) c.requires batch stream first (ap (each_in image_in) (sym array) ∙ c.in_ok-build_images.ensures))
