-- The members of a tablet follow one another.
use Rattle.std.proofs.Common.{ℕ, List, Option, codes, ap, ◌∙◌}
use Rattle.serde_json.specs.Data.{Data, object, member, no_members}
use Rattle.pn_join.specs.Marks.{Positions}
use Rattle.pn_record.specs.Marks.{marks_data}
use Rattle.pn_tablet.specs.Layouts.{Ends}
use Rattle.pn_tablet.specs.declared.state.Status.{Status}
use Rattle.pn_protocol.specs.Reply.Short.{end_data, need_data, tablet_data}
use Rattle.pn_json.specs.Tokens.{value_tokens}
use Rattle.pn_json.proofs.AppendedTexts.{appends_token, appends_both, appends_as}
use Rattle.pn_protocol.proofs.reply.tablets.write_tablet.Goals as goal

-- a tablet of these parts
abbrev tablet_of : Positions → Option (List ℕ) → Status → Option (List ℕ) → Data
tablet_of cover from status to =
    object (member (codes "cover") (marks_data cover)
    (member (codes "from") (end_data from)
    (member (codes "need") (need_data status)
    (member (codes "to") (end_data to) no_members))))

pub returns : goal.returns
unfolding tablet_data
returns c =
    let from = c.from.ensures.from ∙ ap (λ (ends : Ends). ends.0) c.range.ensures.range in
    let to = c.to.ensures.to ∙ ap (λ (ends : Ends). ends.1) c.range-2.ensures.range in
    appends_as (λ i. value_tokens (tablet_of (c.cover.ensures.cover i) (from i) (c.status.ensures.status i) (to i)))
    (appends_both (appends_token c.in_ok-begin_object.ensures)
    (appends_both (appends_token c.in_ok-key.ensures)
    (appends_both c.in_ok-write_marks.ensures
    (appends_both (appends_token c.in_ok-key-2.ensures)
    (appends_both c.in_ok-write_end.ensures
    (appends_both (appends_token c.in_ok-key-3.ensures)
    (appends_both c.in_ok-write_need.ensures
    (appends_both (appends_token c.in_ok-key-4.ensures)
    (appends_both c.in_ok-write_end-2.ensures (appends_token c.in_ok-end_object.ensures))))))))))
