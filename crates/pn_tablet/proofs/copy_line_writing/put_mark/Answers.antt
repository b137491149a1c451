-- The two members between braces.
use Rattle.pn_json.proofs.AppendedTexts.{appends_token, appends_both}
use Rattle.pn_tablet.proofs.copy_line_writing.put_mark.Goals as goal

pub returns : goal.returns
returns c =
    appends_both (appends_both (appends_both (appends_token c.in_ok-begin_object.ensures) c.in_ok-write_number_member.ensures) c.in_ok-write_text_member.ensures) (appends_token c.in_ok-end_object.ensures)
