-- The members of a notice follow one another.
use Rattle.std.proofs.Common.{ℕ, List, Option, codes}
use Rattle.serde_json.specs.Data.{Data, number, object, string, unsigned, member, no_members}
use Rattle.pn_record.specs.Writing.{version_data}
use Rattle.pn_protocol.specs.Reply.Records.{version_or_null, notice_data}
use Rattle.pn_json.specs.Tokens.{value_tokens}
use Rattle.pn_json.proofs.AppendedTexts.{appends_token, appends_both, appends_as}
use Rattle.pn_protocol.proofs.reply.scan.NoticeShown.write.Goals as goal

-- a notice of these parts
abbrev notice_of : ℕ × ℕ → Option (ℕ × ℕ) → List ℕ → ℕ → Data
notice_of after before key n =
    object (member (codes "after") (version_data after)
    (member (codes "before") (version_or_null before)
    (member (codes "key") (string key)
    (member (codes "number") (number (unsigned n)) no_members))))

pub returns : goal.returns
unfolding notice_data
returns c =
    let notice = c.args.self.now in
    appends_as (λ i. value_tokens (notice_of notice.change.after notice.change.before (c.as_str.ensures.text i) notice.number))
    (appends_both (appends_token c.in_ok-begin_object.ensures)
    (appends_both (appends_token c.in_ok-key.ensures)
    (appends_both c.in_ok-write_version.ensures
    (appends_both (appends_token c.in_ok-key-2.ensures)
    (appends_both c.in_ok-write_version_or_null.ensures
    (appends_both c.in_ok-write_text_member.ensures
    (appends_both c.in_ok-write_number_member.ensures (appends_token c.in_ok-end_object.ensures))))))))
