-- The exchange keeps the rule of the book.
use Rattle.std.proofs.Common.{ap, sym, ◌∙◌}
use Rattle.pn_live.proofs.Prefixes.{adds_moves}
use Rattle.pn_live.proofs.publication_order.PublishPosition.try_append.Goals as goal

pub compare_exchange-found-requires : goal.compare_exchange-found-requires
compare_exchange-found-requires g c =
    let h = c.requires.counter in
    let seen = c.again-seen.ensures in
    let offer = c.plain-offer.ensures in
    let pen = c.no_pen-pen.ensures in
    let self = c.args.self.now in (
      ap (λ w. w.tracked) h,
      ap (λ s. s.book) seen ∙ sym (ap (λ w. w.book) h),
      pen.0 ∙ (ap (λ s. s.book) seen ∙ sym (ap (λ w. w.book) h)),
      offer.0,
      rw (ap (λ w. w.key) h, pen.1, offer.1, offer.3, seen) (adds_moves self.seen.log _ _ self.count (sym self.counted) c.requires.lawful),
    )
