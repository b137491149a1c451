-- The key, the state and the version.
use Rattle.std.proofs.Common.{ℕ, ◌≤◌, ◌++◌, length, codes, ap, ◌∙◌, subst}
use Rattle.json.specs.Print.{quoted}
use Rattle.serde_json.specs.Written.{compact_text}
use Rattle.pn_json.proofs.AppendedTexts.{appended_as, appended_both}
use Rattle.pn_record.specs.Writing.{version_data}
use Rattle.pn_protocol.specs.Reply.Records.{state_word}
use Rattle.pn_protocol.proofs.MadeRows.{length-row_end}
use Rattle.pn_protocol.proofs.reply.rows_text.append_row_end.Goals as goal

pub returns-clause-added : goal.returns-clause-added
returns-clause-added c =
    let word = c.state_word.ensures ∙ ap state_word c.state.ensures in
    let last = appended_both c.append_text-4.ensures (appended_both c.append_version.ensures.added c.append_text-5.ensures) in
    appended_as (λ i. codes ",\"key\":" ++ (quoted (c.as_str.ensures.text i) ++ (codes ",\"state\":\"" ++ (word i ++ (codes "\",\"version\":" ++ (compact_text (version_data (c.version.ensures.version i)) ++ codes "}"))))))
    (appended_both c.append_text.ensures (appended_both c.append_string.ensures (appended_both c.append_text-2.ensures (appended_both c.append_text-3.ensures last))))

pub returns-clause-short : goal.returns-clause-short
returns-clause-short c =
    length-row_end c.args.key.now c.args.cell.now c.as_str.ensures.is_key (subst (λ (v : ℕ × ℕ). length (compact_text (version_data v)) ≤ 64) c.version.ensures.version c.append_version.ensures.short)
