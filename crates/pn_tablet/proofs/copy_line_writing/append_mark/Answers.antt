-- The position and the name between braces, and a newline.
use Rattle.std.proofs.Common.{◌^◌, ◌<◌, ◌++◌, codes, decimal, ◌∙◌, ap, ◌≡◌, true, sym, arith}
use Rattle.json.specs.Print.{quoted}
use Rattle.serde_json.specs.Written.{compact_text}
use Rattle.pn_join.specs.Naming.{is_name}
use Rattle.pn_json.proofs.AppendedTexts.{appended_as, appended_both}
use Rattle.pn_tablet.specs.CopyTexts.{mark_data}
use Rattle.pn_tablet.proofs.CopyLineTexts.{short_mark}
use Rattle.pn_tablet.proofs.CopyMade.{mark_made, with_newline}
use Rattle.pn_tablet.proofs.copy_line_writing.append_mark.Goals as goal

pub returns-clause-added : goal.returns-clause-added
returns-clause-added c =
    let same = (λ i. codes "{\"at\":" ++ (decimal c.args.position ++ (codes ",\"stream\":" ++ (quoted (c.as_str.ensures.text i) ++ codes "}")))) ∙ mark_made c.args.name.now c.args.position in
    appended_both (appended_as same (appended_both c.append_text.ensures (appended_both c.append_number.ensures (appended_both c.append_text-2.ensures (appended_both c.append_string.ensures c.append_text-3.ensures))))) c.append_text-4.ensures

pub returns-clause-short : goal.returns-clause-short
returns-clause-short c =
    let small : c.args.position < 2 ^ 64 = omega (arith, c.ranges.position.fits) in
    omega (arith, with_newline (compact_text (mark_data (c.args.name.now, c.args.position))) 4000 (short_mark c.args.name.now c.args.position c.as_str.ensures.named small))
