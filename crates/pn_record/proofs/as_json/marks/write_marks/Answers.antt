-- What was written between the braces are all marks.
use Rattle.std.proofs.Common.{rules, ◌≡◌, ℕ, List, [], ◌++◌, refl, sym, ap, ◌∙◌, append-nil}
use Rattle.std.specs.List.{flat_map}
use Rattle.pn_json.specs.Tokens.{Appends}
use Rattle.pn_json.proofs.AppendedTexts.{appends_token, whole_object}
use Rattle.serde_json.specs.Data.{number, unsigned}
use Rattle.pn_record.specs.Marks.{positions_data}
use Rattle.pn_record.specs.Writing.{mark_tokens}
use Rattle.pn_record.proofs.as_json.marks.write_marks.Goals as goal

pub returns : goal.returns
returns c =
    let none_left : c.loop-name.name-iterator ≡ [] = search rules in
    let inside : Appends c.begin_object.new.self c.loop-name.writer (flat_map mark_tokens c.args.marks.now) = record {
      before = c.loop-name.invariant.before;
      tokens = sym (append-nil c.loop-name.writer.tokens) ∙ ap (λ (l : List (List ℕ × ℕ)). c.loop-name.writer.tokens ++ flat_map mark_tokens l) (sym none_left) ∙ c.loop-name.invariant.tokens;
    } in
    whole_object (λ (m : List ℕ × ℕ). m.0) (λ (m : List ℕ × ℕ). number (unsigned m.1)) positions_data refl (λ m ms. refl) c.args.marks.now (appends_token c.in_ok-begin_object.ensures) inside (appends_token c.in_ok-end_object.ensures)
