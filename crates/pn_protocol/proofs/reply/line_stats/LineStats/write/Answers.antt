-- The members of the lines follow one another.
use Rattle.pn_protocol.specs.Reply.Stats.{lines_data}
use Rattle.pn_json.proofs.AppendedTexts.{appends_token, appends_both}
use Rattle.pn_protocol.proofs.reply.line_stats.LineStats.write.Goals as goal

pub returns : goal.returns
unfolding lines_data
returns c =
    appends_both (appends_token c.in_ok-begin_object.ensures)
    (appends_both c.in_ok-write_number_member.ensures
    (appends_both (appends_token c.in_ok-key.ensures)
    (appends_both c.in_ok-write.ensures
    (appends_both c.in_ok-write_number_member-2.ensures (appends_token c.in_ok-end_object.ensures)))))
