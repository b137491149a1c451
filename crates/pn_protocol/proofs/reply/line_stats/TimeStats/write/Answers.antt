-- The members of the times follow one another.
use Rattle.pn_protocol.specs.Reply.Stats.{times_data}
use Rattle.pn_json.proofs.AppendedTexts.{appends_token, appends_both}
use Rattle.pn_protocol.proofs.reply.line_stats.TimeStats.write.Goals as goal

pub returns : goal.returns
unfolding times_data
returns c =
    appends_both (appends_token c.in_ok-begin_object.ensures)
    (appends_both (appends_token c.in_ok-key.ensures)
    (appends_both c.in_ok-write.ensures
    (appends_both (appends_token c.in_ok-key-2.ensures)
    (appends_both c.in_ok-write-2.ensures (appends_token c.in_ok-end_object.ensures)))))
