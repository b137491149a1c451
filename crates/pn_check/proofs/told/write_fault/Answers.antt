-- The members of a report follow one another.
use Rattle.std.proofs.Common.{ℕ, List, Option, codes}
use Rattle.serde_json.specs.Data.{Data, number, object, string, unsigned, member, no_members}
use Rattle.pn_json.specs.Members.{seen_text}
use Rattle.pn_json.specs.Tokens.{value_tokens}
use Rattle.pn_json.proofs.AppendedTexts.{appends_token, appends_both, appends_as}
use Rattle.pn_check.specs.Told.{text_or_null, told_data}
use Rattle.pn_check.proofs.told.write_fault.Goals as goal

-- a fault by its word, and the member and the name at fault
abbrev fault_of : List ℕ → ℕ → Option (List ℕ) → Option (List ℕ) → Data
fault_of word line part name =
    object (member (codes "error") (string word)
    (member (codes "line") (number (unsigned line))
    (member (codes "member") (text_or_null part)
    (member (codes "name") (text_or_null name) no_members))))

pub returns : goal.returns
unfolding told_data
returns c =
    appends_as (λ i. value_tokens (fault_of (c.word.ensures i) c.args.number (c.member_word.ensures i) (seen_text c.args.name)))
    (appends_both (appends_token c.in_ok-begin_object.ensures)
    (appends_both c.in_ok-write_text_member.ensures
    (appends_both c.in_ok-write_number_member.ensures
    (appends_both c.in_ok-write_text_or_null.ensures
    (appends_both c.in_ok-write_text_or_null-2.ensures (appends_token c.in_ok-end_object.ensures))))))
