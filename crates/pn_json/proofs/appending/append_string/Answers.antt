-- The quotes and what stands between them.
use Rattle.std.proofs.Common.{◌∷◌, ◌++◌, [], ap}
use Rattle.json.specs.Print.{escape}
use Rattle.pn_json.proofs.AppendedTexts.{appended_as, appended_both}
use Rattle.pn_json.proofs.appending.append_string.Goals as goal

pub returns : goal.returns
returns c =
    appended_as (ap (λ text. 34 ∷ (escape text ++ 34 ∷ [])) c.as_bytes.ensures.value) (appended_both c.append_byte.ensures (appended_both c.append_escaped.ensures c.append_byte-2.ensures))
