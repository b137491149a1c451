use Rattle.std.proofs.Common.{◌≡◌, ◌≤◌, ℕ, get_or, take, vec_len, vec_capacity}
use Rattle.pn_join.specs.Edits.{puts_in}
use Rattle.pn_join.specs.Edits.{changes_in}
use Rattle.pn_join.specs.declared.table.edit.Edit.{Edit}
use Rattle.pn_join.proofs.table.edit.take_changes.Given as goal

abbrev pub invariant-loop-index : goal.invariant-loop-index
invariant-loop-index g l = record {
  taken : l.changes.items ≡ changes_in (take l.index l.initial.edits.items);
  same : puts_in l.edits.items ≡ puts_in l.initial.edits.items;
  rest : (j : ℕ) (d : Edit _ _) → l.index ≤ j → get_or l.edits.items j d ≡ get_or l.initial.edits.items j d;
  lens : vec_len l.edits ≡ vec_len l.initial.edits;
  len : vec_len l.changes ≡ l.index;
  capacity : vec_len l.initial.edits ≤ vec_capacity l.changes;
}
