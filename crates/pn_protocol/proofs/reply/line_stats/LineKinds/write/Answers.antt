-- The members of the kinds follow one another.
use Rattle.pn_protocol.specs.Reply.Stats.{line_kinds_data}
use Rattle.pn_json.proofs.AppendedTexts.{appends_token, appends_both}
use Rattle.pn_protocol.proofs.reply.line_stats.LineKinds.write.Goals as goal

pub returns : goal.returns
unfolding line_kinds_data
returns c =
    appends_both (appends_token c.in_ok-begin_object.ensures)
    (appends_both (appends_token c.in_ok-key.ensures)
    (appends_both c.in_ok-write.ensures
    (appends_both (appends_token c.in_ok-key-2.ensures)
    (appends_both c.in_ok-write-2.ensures
    (appends_both (appends_token c.in_ok-key-3.ensures)
    (appends_both c.in_ok-write-3.ensures
    (appends_both (appends_token c.in_ok-key-4.ensures)
    (appends_both c.in_ok-write-4.ensures
    (appends_both (appends_token c.in_ok-key-5.ensures)
    (appends_both c.in_ok-write-5.ensures (appends_token c.in_ok-end_object.ensures)))))))))))
