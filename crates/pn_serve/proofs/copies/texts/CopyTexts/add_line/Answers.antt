-- What was read of known bytes was added.
use Rattle.std.proofs.Common.{◌++◌, ◌∷◌, [], ◌∙◌, ap, refl}
use Rattle.pn_serve.specs.Copies.Cutting.{CopyTextsValue}
use Rattle.pn_serve.proofs.CopyTexts.{adds-by, adds-line, adds-none, adds-part}
use Rattle.pn_serve.proofs.copies.texts.CopyTexts.add_line.Goals as goal
use Rattle.pn_serve.proofs.copies.texts.CopyTexts.add_line.Goals.{in-TooLong, in-EndOfInput+in_ok-add_bytes-in-EndOfInput, in-Newline+in_ok-add_bytes-in-Newline+in_ok-add_bytes-in-Newline-2}

pub returns-clause-adds : goal.returns-clause-adds
returns-clause-adds g c =
    let read = c.in_ok-read_line.ensures.reads in
    let line = ap (λ (texts : CopyTextsValue g.row.S.Denot). texts.line.bytes) c.self.view_is in
    elim c.match-branch-2.branch [
      | in-TooLong w ↦ rw w.result-is (rw w.text-is (λ bytes is. adds-none _ _ bytes c.read_line.new.self.line _ _ is (rw w.in-TooLong.is at read) refl))
      | in-EndOfInput+in_ok-add_bytes-in-EndOfInput w ↦
          rw w.result-is (rw w.text-is (λ bytes is. adds-part _ _ bytes c.read_line.new.self.line _ _ is (rw w.in-EndOfInput.is at read)
          (w.in_ok-add_bytes-in-EndOfInput.ensures.added ∙ ap (λ b. c.args.text.now.items ++ b) (w.bytes.ensures ∙ line))))
      | in-Newline+in_ok-add_bytes-in-Newline+in_ok-add_bytes-in-Newline-2 w ↦
          rw w.result-is (rw w.text-is (λ bytes is. adds-by _ _ bytes _ _ _ (rw (w.bytes-in-Newline-2.ensures ∙ line) at w.added_line.ensures.end) (rw (w.bytes-in-Newline-2.ensures ∙ line) at w.added_line.ensures.inner)
          (adds-line _ w.in-Newline.more _ _ bytes c.read_line.new.self.line _ _ is (rw w.in-Newline.is at read)
          (w.in_ok-add_bytes-in-Newline-2.ensures.added
          ∙ ap (λ b. b ++ 10 ∷ []) (w.in_ok-add_bytes-in-Newline.ensures.added ∙ ap (λ b. c.args.text.now.items ++ b) (w.bytes-in-Newline.ensures ∙ line))) refl)))
    ]
