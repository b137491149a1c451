-- The bytes of a name are text.

use Rattle.pn_join.proofs.NameText.{IsUtf8-name}
use Rattle.pn_join.proofs.marks.name.Name.as_str.Goals as goal

pub from_utf8_unchecked-requires : goal.from_utf8_unchecked-requires
from_utf8_unchecked-requires c = rw c.as_bytes.ensures.bytes (IsUtf8-name _ c.as_bytes.ensures.named)
