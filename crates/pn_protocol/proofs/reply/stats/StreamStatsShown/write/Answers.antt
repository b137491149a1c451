-- The members of a stream follow one another.
use Rattle.std.proofs.Common.{ℕ, List, Option, codes}
use Rattle.std.specs.Prelude.{String}
use Rattle.std.specs.declared.alloc.Global.{Global}
use Rattle.serde_json.specs.Data.{Data, object, string, member, no_members}
use Rattle.pn_protocol.specs.declared.reply.stats.StreamFaultStats.{StreamFaultStats}
use Rattle.pn_protocol.specs.Reply.Stats.{count, fault_line, fault_reason, number_or_null, stream_data, text_or_null}
use Rattle.pn_json.specs.Tokens.{value_tokens}
use Rattle.pn_json.proofs.AppendedTexts.{appends_token, appends_both, appends_as}
use Rattle.pn_protocol.proofs.reply.stats.StreamStatsShown.write.Goals as goal

-- a stream of these texts and numbers, with its fault, when something was heard or came, and what a publisher said
abbrev stream_of : List ℕ → List ℕ → List ℕ → ℕ × ℕ × ℕ → Option StreamFaultStats → Option ℕ × Option ℕ × Option ℕ → Option (String Global) → Data
stream_of name path state (bytes, messages, position) fault (heard, newest, since) said =
    object (count (codes "bytes") bytes
    (member (codes "heard") (number_or_null heard)
    (member (codes "line") (fault_line fault)
    (count (codes "messages") messages
    (member (codes "name") (string name)
    (member (codes "newest") (number_or_null newest)
    (member (codes "path") (string path)
    (count (codes "position") position
    (member (codes "reason") (fault_reason fault)
    (member (codes "since") (number_or_null since)
    (member (codes "state") (string state)
    (member (codes "stream") (text_or_null said) no_members))))))))))))

pub returns : goal.returns
unfolding stream_data
returns c =
    let stream = c.args.self.now in
    appends_as (λ i. value_tokens (stream_of (c.as_str.ensures.text i) (c.as_str-2.ensures.value i) (c.state_word.ensures i) (stream.bytes, stream.messages, stream.position) stream.fault (stream.heard, stream.newest, stream.since) stream.stream))
    (appends_both (appends_token c.in_ok-begin_object.ensures)
    (appends_both c.in_ok-write_number_member.ensures
    (appends_both c.in_ok-write_number_or_null.ensures
    (appends_both c.in_ok-write_fault_line.ensures
    (appends_both c.in_ok-write_number_member-2.ensures
    (appends_both c.in_ok-write_text_member.ensures
    (appends_both c.in_ok-write_number_or_null-2.ensures
    (appends_both c.in_ok-write_text_member-2.ensures
    (appends_both c.in_ok-write_number_member-3.ensures
    (appends_both c.in_ok-write_fault_reason.ensures
    (appends_both c.in_ok-write_number_or_null-3.ensures
    (appends_both c.in_ok-write_text_member-3.ensures
    (appends_both c.in_ok-write_identity.ensures (appends_token c.in_ok-end_object.ensures))))))))))))))
