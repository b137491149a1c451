-- One batch more is followed, or the first gap is met.
use Rattle.std.proofs.Common.{◌≡◌, ◌+◌, ◌<◌, true, [], ◌∷◌, List, length, map, take, get_or, sym, ap, ◌∙◌, subst, IsTrue, arith}
use Rattle.std.proofs.lemmas.List.{get_or-map, length-map, take-map}
use Rattle.std.specs.Int.{from_bool}
use Rattle.pn_region.proofs.Common.{Ok, Err, is_sorted, Positions, name_cmp, are_positions, DeliveryValue, with_images, with_deliveries, marks_after}
use Rattle.pn_region.proofs.MarkLaws.{marks_more, gap_met}
use Rattle.pn_region.proofs.Following.{marked_more, marked_rising, streams_more}
use Rattle.pn_stream.proofs.Runs.{passed_on}
use Rattle.pn_region.proofs.marking.check_marks.Goals as goal

pub is_new_stream-requires-clause-positions : goal.is_new_stream-requires-clause-positions
is_new_stream-requires-clause-positions g c =
    subst (λ (ds : List DeliveryValue). IsTrue (are_positions (with_deliveries c.args.marks.now ds))) (take-map g.B.Batch.delivery c.loop-index.index c.args.deliveries.now) c.loop-index.invariant.positions

pub is_new_stream-requires-clause-rising : goal.is_new_stream-requires-clause-rising
is_new_stream-requires-clause-rising g c =
    subst (λ (ds : List DeliveryValue). IsTrue (is_sorted name_cmp (with_deliveries c.args.marks.now ds))) (take-map g.B.Batch.delivery c.loop-index.index c.args.deliveries.now) c.loop-index.invariant.rising

pub returns-in_err-is_new-clause-refused : goal.returns-in_err-is_new-clause-refused
returns-in_err-is_new-clause-refused g c =
    let f = g.B.Batch.delivery in
    let m = c.args.marks.now in
    let bs = c.args.deliveries.now in
    let i = c.loop-index.index in
    let b = c.index-deliveries-index.result in
    let within : i < length (map f bs) = omega (arith, c.loop-index-test.true, length-map bs f) in
    let here : f b ≡ get_or (map f bs) i (f b) = ap f c.index-deliveries-index.is ∙ sym (get_or-map f bs i b (f b) c.loop-index-test.true) in
    let before : map f (take i bs) ≡ take i (map f bs) = sym (take-map f i bs) in
    let n = with_deliveries m (take i (map f bs)) in
    let fault = c.in_err-is_new.field-0.0 in
    passed_on c.from_residual.result fault _ c.from_residual.ensures.1
    (gap_met m n (map f bs) i (f b) fault within c.loop-index.invariant.so_far
    (subst (λ (x : DeliveryValue). marks_after n (with_images (x ∷ [])) ≡ Err fault) here
    (subst (λ (ds : List DeliveryValue). marks_after (with_deliveries m ds) (with_images (f b ∷ [])) ≡ Err fault) before c.in_err-is_new.ensures.refused)))

pub loop-index-preserved : goal.loop-index-preserved
loop-index-preserved g c =
    let f = g.B.Batch.delivery in
    let m = c.args.marks.now in
    let bs = c.args.deliveries.now in
    let ds = map f bs in
    let i = c.loop-index.index in
    let b = c.index-deliveries-index.result in
    let n = with_deliveries m (take i ds) in
    let e = get_or ds i (f b) in
    let within : i < length ds = omega (arith, c.loop-index-test.true, length-map bs f) in
    let here : f b ≡ e = ap f c.index-deliveries-index.is ∙ sym (get_or-map f bs i b (f b) c.loop-index-test.true) in
    let before : map f (take i bs) ≡ take i ds = sym (take-map f i bs) in
    let was = c.loop-index.invariant in
    let taken = c.in_ok-is_new.ensures in
    let grown : with_deliveries m (take (i + 1) ds) ≡ with_deliveries n (e ∷ []) = marked_more m ds i (f b) within in
    record {
      so_far = marks_more m n (with_deliveries n (e ∷ [])) ds i (f b) within was.so_far
          (subst (λ (x : DeliveryValue). marks_after n (with_images (x ∷ [])) ≡ Ok (with_deliveries n (x ∷ []))) here
          (subst (λ (some : List DeliveryValue). marks_after (with_deliveries m some) (with_images (f b ∷ [])) ≡ Ok (with_deliveries (with_deliveries m some) (f b ∷ []))) before taken.ok))
          ∙ ap Ok (sym grown);
      count = streams_more c.loop-index.streams (length n) c.from.result (length (with_deliveries m (take (i + 1) ds))) c.saturating_add-streams.result was.count
          (ap length grown
          ∙ ap (λ (x : DeliveryValue). length (with_deliveries n (x ∷ []))) (sym here)
          ∙ subst (λ (some : List DeliveryValue). length (with_deliveries (with_deliveries m some) (f b ∷ [])) ≡ length (with_deliveries m some) + from_bool c.in_ok-is_new.is_new) before taken.count
          ∙ ap (λ k. length n + k) (sym c.from.ensures))
          c.saturating_add-streams.ensures;
      positions = subst (λ (ms : Positions). are_positions ms ≡ true) (sym grown)
          (subst (λ (x : DeliveryValue). are_positions (with_deliveries n (x ∷ [])) ≡ true) here
          (subst (λ (some : List DeliveryValue). are_positions (with_deliveries (with_deliveries m some) (f b ∷ [])) ≡ true) before taken.positions));
      rising = subst (λ (ms : Positions). is_sorted name_cmp ms ≡ true) (sym grown) (marked_rising n e was.rising);
    }
