-- What each reply begins with, and what comes after that.
use Rattle.std.proofs.Common.{◌++◌, ℕ, List, [], ◌∷◌, codes, zip, false, ap, ◌∙◌, append-nil}
use Rattle.pn_json.specs.Tokens.{line_of}
use Rattle.pn_protocol.specs.Reply.Making.{rows_text}
use Rattle.pn_protocol.specs.Reply.Short.{lines_data}
use Rattle.pn_protocol.proofs.MadeReplies.{get_made, read_made}
use Rattle.pn_protocol.proofs.reply.text.ReplyText.new.Goals as goal

pub returns-in-Copy : goal.returns-in-Copy
returns-in-Copy c =
    rw c.in-Copy.is (c.of.ensures ∙ ap (λ (line : List ℕ). line ++ c.in-Copy.copy.left) (c.number_reply-lines.ensures ∙ ap (λ (n : ℕ). line_of (lines_data n)) c.line_count.ensures))

pub returns-in-NotTaken : goal.returns-in-NotTaken
returns-in-NotTaken c = rw c.in-NotTaken.is (c.of-in-NotTaken.ensures ∙ append-nil c.in-NotTaken.text.items)

pub returns-in-Record : goal.returns-in-Record
returns-in-Record c =
    rw c.in-Record.is
    (c.rows.ensures ∙ ap (λ (head : List ℕ). head ++ rows_text false ((c.in-Record.key, c.in-Record.cell) ∷ []) (codes "}\n")) c.text_head.ensures ∙ read_made c.in-Record.key c.in-Record.cell)

pub returns-in-Records : goal.returns-in-Records
returns-in-Records c =
    rw c.in-Records.is
    (c.rows-in-Records.ensures ∙ ap (λ (head : List ℕ). head ++ rows_text false (zip c.in-Records.keys.items c.in-Records.cells.items) (codes "]}\n")) c.text_head-in-Records.ensures
    ∙ get_made c.in-Records.keys.items c.in-Records.cells.items)

pub returns-in-Text : goal.returns-in-Text
returns-in-Text c = rw c.in-Text.is (c.of-in-Text.ensures ∙ append-nil c.in-Text.text.items)
