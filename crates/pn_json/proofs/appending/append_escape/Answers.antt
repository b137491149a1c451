-- Each case of an escape.
use Rattle.std.proofs.Common.{◌≡◌, ◌∷◌, [], rules}
use Rattle.json.specs.Print.{escape_byte}
use Rattle.pn_json.proofs.AppendedTexts.{appended_as}
use Rattle.pn_json.proofs.appending.append_escape.Goals as goal

pub returns-then-letter-gt0 : goal.returns-then-letter-gt0
unfolding escape_byte
returns-then-letter-gt0 c =
    let is : 92 ∷ c.letter_of-letter.result ∷ [] ≡ escape_byte c.args.byte = search rules in
    appended_as is c.append_slice.ensures

pub returns-then-byte-lt32 : goal.returns-then-byte-lt32
unfolding escape_byte
returns-then-byte-lt32 c =
    let is : 92 ∷ 117 ∷ 48 ∷ 48 ∷ c.hex.result ∷ c.hex-then-byte-lt32.result ∷ [] ≡ escape_byte c.args.byte = search rules in
    appended_as is c.append_slice-then-byte-lt32.ensures

pub returns-else-byte-lt32 : goal.returns-else-byte-lt32
unfolding escape_byte
returns-else-byte-lt32 c =
    let is : c.args.byte ∷ [] ≡ escape_byte c.args.byte = search rules in
    appended_as is c.append_byte.ensures
