-- Each mark is joined after those before it.
use Rattle.std.proofs.Common.{◌≡◌, ℕ, List, [], ◌∷◌, ◌++◌, IsTrue, sym, ap, ◌∙◌, subst, rules}
use Rattle.std.proofs.lemmas.List.{append_assoc}
use Rattle.std.specs.FinMap.{is_sorted}
use Rattle.serde_json.specs.View.{members_view}
use Rattle.pn_join.specs.Marks.{Positions, name_cmp}
use Rattle.pn_record.specs.Marks.{positions_of}
use Rattle.pn_record.proofs.MarksValues.{mark_pushed, positions_rise}
use Rattle.pn_record.proofs.as_json.marks.marks_from.Goals as goal

pub loop-name-preserved : goal.loop-name-preserved
loop-name-preserved c =
    let mark : List ℕ × ℕ = (c.of-name.result, c.number_of.result) in
    let rest = positions_of (members_view c.next.new.self) in
    let split : positions_of (members_view c.loop-name.name-iterator) ≡ mark ∷ positions_of (members_view c.next.new.self) = search rules in
    let all : c.loop-name.marks ++ mark ∷ rest ≡ positions_of (members_view c.args.members.now.entries) = ap (λ (ms : Positions). c.loop-name.marks ++ ms) (sym split) ∙ c.loop-name.invariant.all in
    let rising = subst (λ (ms : Positions). IsTrue (is_sorted name_cmp ms)) (sym all) (positions_rise c.args.members.now.entries c.requires.ordered) in
    let pushed = mark_pushed c.loop-name.marks mark rest c.join_entry.new.self rising c.join_entry.ensures.table.rising c.in_ok-join_entry.ensures.ok in
    record {
      all = ap (λ (ms : Positions). ms ++ rest) pushed ∙ append_assoc c.loop-name.marks (mark ∷ []) rest ∙ all;
      left = search rules;
    }
