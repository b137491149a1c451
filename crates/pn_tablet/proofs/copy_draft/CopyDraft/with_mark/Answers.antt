-- A mark that comes after the others, before any image.
use Rattle.std.proofs.Common.{sym, ap, ◌∙◌}
use Rattle.pn_tablet.specs.CopyReading.{with_mark}
use Rattle.pn_tablet.specs.Copies.{DraftValue, with_last}
use Rattle.pn_tablet.proofs.Keeping.{draft-mark, marked}
use Rattle.pn_tablet.proofs.copy_draft.CopyDraft.with_mark.Goals as goal

pub invariant_of-self : goal.invariant_of-self
invariant_of-self c = draft-mark _ _ _ _ _ c.args.name c.args.position c.self.invariant c.requires c.in_ok-raise_at.ensures.ok

pub returns : goal.returns
returns c =
    let draft : DraftValue = record { range = c.self.inside.range; marks = c.self.inside.marks; cells = with_last c.self.inside.cells c.self.inside.last; last = c.self.inside.last } in
    ap (λ (d : DraftValue). with_mark c.args.number d (c.args.name, c.args.position)) (sym c.self.view_is)
    ∙ marked c.args.number draft c.args.name c.args.position c.raise_at.new.marks (sym c.is_some.ensures ∙ c.if-is_some.false) (sym c.is_after_all.ensures ∙ c.if-not-is_after_all.false) c.in_ok-raise_at.ensures.ok
