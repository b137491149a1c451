-- The two numbers between brackets.
use Rattle.std.proofs.Common.{◌≡◌, ℕ, ◌≤◌, true, length, subst}
use Rattle.serde_json.specs.Written.{compact_text}
use Rattle.pn_json.specs.Tokens.{AppendsText}
use Rattle.pn_json.proofs.AppendedTexts.{appended_both}
use Rattle.pn_record.specs.Limits.{is_version}
use Rattle.pn_record.specs.Writing.{version_data}
use Rattle.pn_record.proofs.ImageText.{length-version_data}
use Rattle.pn_record.proofs.as_json.content_writer.append_version.Goals as goal

pub returns-clause-added : goal.returns-clause-added
returns-clause-added c =
    subst (λ (v : ℕ × ℕ). AppendsText c.args.out.now c.append_text-3.new.out (compact_text (version_data v))) c.version.view_is
    (appended_both c.append_text.ensures (appended_both c.append_number.ensures (appended_both c.append_text-2.ensures (appended_both c.append_number-2.ensures c.append_text-3.ensures))))

pub returns-clause-short : goal.returns-clause-short
returns-clause-short c =
    subst (λ (v : ℕ × ℕ). length (compact_text (version_data v)) ≤ 64) c.version.view_is (length-version_data (c.version.inside.generation, c.version.inside.number) c.version.invariant)

pub returns-clause-limits : goal.returns-clause-limits
returns-clause-limits c = subst (λ (v : ℕ × ℕ). is_version v ≡ true) c.version.view_is c.version.invariant
