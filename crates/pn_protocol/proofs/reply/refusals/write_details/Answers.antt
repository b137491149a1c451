-- One detail more is written, and at the end all.
use Rattle.std.proofs.Common.{ℕ, List, ap}
use Rattle.std.proofs.lemmas.List.{take_all}
use Rattle.serde_json.specs.Data.{Data}
use Rattle.pn_json.specs.Tokens.{member_tokens}
use Rattle.pn_json.proofs.AppendedTexts.{appends_none, appends_token, appends_both, appends_as, one_more}
use Rattle.pn_protocol.specs.Reply.Faults.{detail_member, details_tokens}
use Rattle.pn_protocol.proofs.reply.refusals.write_details.Goals as goal

pub loop-detail-init : goal.loop-detail-init
loop-detail-init c = appends_none _

pub loop-detail-preserved : goal.loop-detail-preserved
loop-detail-preserved c =
    appends_as (one_more detail_member (λ (part : List ℕ × Data). member_tokens part.0 part.1) c.args.details.now c.loop-detail.detail-index c.detail-item.result c.detail-item.is c.loop-detail-test.true)
    (appends_both c.loop-detail.invariant (appends_both (appends_token c.in_ok-key.ensures) c.in_ok-write_detail.ensures))

pub returns : goal.returns
returns c = appends_as (ap (λ ds. details_tokens ds) (take_all c.loop-detail.detail-index c.args.details.now c.loop-detail-test.false)) c.loop-detail.invariant
