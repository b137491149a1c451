-- The line names each fault, unless memory runs out.
use Rattle.pn_protocol.proofs.MadeReplies.{told}
use Rattle.pn_protocol.proofs.reply.refusals.refuse.Goals as goal

pub returns-in-Lookup : goal.returns-in-Lookup
returns-in-Lookup c = rw c.in-Lookup.is (told _ _ _ _ _ c.lookup_error.ensures c.refuse_with.ensures)

pub returns-in-Copy : goal.returns-in-Copy
returns-in-Copy c = rw c.in-Copy.is (told _ _ _ _ _ c.copy_error.ensures c.refuse_with-in-Copy.ensures)

pub returns-in-CopyText : goal.returns-in-CopyText
returns-in-CopyText c = rw c.in-CopyText.is (told _ _ _ _ _ c.copy_text_error.ensures c.refuse_with-in-CopyText.ensures)

pub returns-in-Adoption : goal.returns-in-Adoption
returns-in-Adoption c = rw c.in-Adoption.is (told _ _ _ _ _ c.adoption_error.ensures c.refuse_with-in-Adoption.ensures)

pub returns-in-Round : goal.returns-in-Round
returns-in-Round c = rw c.in-Round.is (told _ _ _ _ _ c.round_error.ensures c.refuse_with-in-Round.ensures)

pub returns-in-Relayout : goal.returns-in-Relayout
returns-in-Relayout c = rw c.in-Relayout.is (told _ _ _ _ _ c.relayout_error.ensures c.refuse_with-in-Relayout.ensures)

pub returns-in-Advance : goal.returns-in-Advance
returns-in-Advance c = rw c.in-Advance.is (told _ _ _ _ _ c.advance_error.ensures c.refuse_with-in-Advance.ensures)
