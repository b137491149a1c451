-- The form and the two ends between braces, and a newline.
use Rattle.std.proofs.Common.{◌≡◌, ◌≤◌, ◌++◌, true, length, codes, decimal, ap, sym, ◌∙◌, arith}
use Rattle.serde_json.specs.Written.{compact_text}
use Rattle.pn_json.proofs.AppendedTexts.{appended_as, appended_both}
use Rattle.pn_tablet.specs.CopyTexts.{head_data}
use Rattle.pn_tablet.specs.CopyWriting.{line_text}
use Rattle.pn_tablet.specs.Layouts.{is_end, key_data}
use Rattle.pn_tablet.proofs.CopyLineTexts.{short_head}
use Rattle.pn_tablet.proofs.CopyMade.{head_made, with_newline}
use Rattle.pn_tablet.proofs.copy_line_writing.append_head.Goals as goal

pub returns-clause-added : goal.returns-clause-added
returns-clause-added c =
    let range = c.args.range.now in
    let same = (λ i. codes "{\"copy\":" ++ (decimal c.number.result ++ (codes ",\"from\":" ++ (compact_text (key_data (c.from.ensures.from i)) ++ (codes ",\"to\":" ++ (compact_text (key_data (c.to.ensures.to i)) ++ codes "}"))))))
    ∙ head_made c.number.result range.0 range.1 c.args.form c.number.ensures in
    let ends = appended_both c.append_text-2.ensures (appended_both c.append_key_or_null.ensures.added (appended_both c.append_text-3.ensures (appended_both c.append_key_or_null-2.ensures.added c.append_text-4.ensures))) in
    appended_both (appended_as same (appended_both c.append_text.ensures (appended_both c.append_number.ensures ends))) c.append_text-5.ensures

pub returns-clause-short : goal.returns-clause-short
returns-clause-short c =
    let range = c.args.range.now in
    let from : is_end range.0 ≡ true = ap is_end (sym c.from.ensures.from) ∙ c.append_key_or_null.ensures.limits in
    let to : is_end range.1 ≡ true = ap is_end (sym c.to.ensures.to) ∙ c.append_key_or_null-2.ensures.limits in
    omega (arith, with_newline (compact_text (head_data (c.args.form, range))) 4000 (short_head c.args.form range.0 range.1 from to))
