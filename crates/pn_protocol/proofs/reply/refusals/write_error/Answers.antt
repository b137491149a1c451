-- The members are between braces.
use Rattle.std.proofs.Common.{◌≡◌, ℕ, List, [], ◌∷◌, ◌++◌, codes, map, refl, sym, ap, ◌∙◌, append_assoc}
use Rattle.std.specs.Borrow.{Bor}
use Rattle.std.specs.List.{flat_map}
use Rattle.json.specs.Token.{Token, begin_object, end_object}
use Rattle.json.specs.Tree.{members_tokens}
use Rattle.serde_json.specs.Data.{Data, string}
use Rattle.serde_json.specs.Written.{members_outline}
use Rattle.pn_json.specs.Tokens.{member_tokens, value_tokens}
use Rattle.pn_json.proofs.AppendedTexts.{appends_token, appends_both, appends_as}
use Rattle.pn_protocol.specs.declared.reply.refusals.Detail.{Detail}
use Rattle.pn_protocol.specs.Reply.Faults.{detail_member, members_of, details_members, details_tokens, error_data}
use Rattle.pn_protocol.proofs.reply.refusals.write_error.Goals as goal

members_by_members : (parts : List (List ℕ × Data)) → members_tokens (members_outline (members_of parts)) ≡ flat_map (λ part. member_tokens part.0 part.1) parts ++ end_object ∷ []
members_by_members [] = refl
members_by_members (part ∷ parts) =
    ap (λ l. member_tokens part.0 part.1 ++ l) (members_by_members parts)
    ∙ sym (append_assoc (member_tokens part.0 part.1) (flat_map (λ (part : List ℕ × Data). member_tokens part.0 part.1) parts) (end_object ∷ []))

whole : (name : List ℕ) (details : List (Bor (List ℕ) × Detail))
    → begin_object ∷ (member_tokens (codes "error") (string name) ++ (details_tokens details ++ end_object ∷ [])) ≡ value_tokens (error_data name (details_members details))
whole name details = ap (λ (l : List Token). begin_object ∷ (member_tokens (codes "error") (string name) ++ l)) (sym (members_by_members (map detail_member details)))

pub returns : goal.returns
returns c =
    appends_as (whole c.args.name.now c.args.details.now)
    (appends_both (appends_token c.in_ok-begin_object.ensures)
    (appends_both c.in_ok-write_text_member.ensures (appends_both c.in_ok-write_details.ensures (appends_token c.in_ok-end_object.ensures))))
