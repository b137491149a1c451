-- An image in the range that comes after the last one.
use Rattle.std.proofs.Common.{rules, ◌≡◌, true, sym, ap, ◌∙◌}
use Rattle.std.specs.Option.{option_copied, option_map_or}
use Rattle.pn_tablet.specs.CopyReading.{with_image}
use Rattle.pn_tablet.specs.CopyTexts.{comes_after}
use Rattle.pn_tablet.specs.Copies.{DraftValue, with_last}
use Rattle.pn_tablet.proofs.Keeping.{draft-image, imaged}
use Rattle.pn_tablet.proofs.copy_draft.CopyDraft.with_image.Goals as goal

pub invariant_of-self : goal.invariant_of-self
invariant_of-self c =
    let last : c.take.result ≡ c.self.inside.last = search rules in
    draft-image _ _ _ _ _ c.args.image c.self.invariant (sym c.contains.ensures ∙ c.if-not-contains.false) (c.in_ok-settle.ensures ∙ ap (with_last c.self.inside.cells) last)

pub returns : goal.returns
returns c =
    let draft : DraftValue = record { range = c.self.inside.range; marks = c.self.inside.marks; cells = with_last c.self.inside.cells c.self.inside.last; last = c.self.inside.last } in
    let last : c.take.result ≡ c.self.inside.last = search rules in
    let seen : option_copied c.as_ref.result ≡ c.self.inside.last = search rules in
    let after : option_map_or (λ other. comes_after other c.args.image) c.self.inside.last true ≡ true =
    ap (λ other. option_map_or (λ one. comes_after one c.args.image) other true) (sym seen) ∙ (sym c.is_next.ensures ∙ c.if-not-is_next.false) in
    ap (λ (d : DraftValue). with_image c.args.number d c.args.image) (sym c.self.view_is)
    ∙ imaged c.args.number draft c.args.image c.settle.new.cells (sym c.contains.ensures ∙ c.if-not-contains.false) after (c.in_ok-settle.ensures ∙ ap (with_last c.self.inside.cells) last)
