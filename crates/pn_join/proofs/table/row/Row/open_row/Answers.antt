-- The row is that of its nodes, where those taken out stand for themselves.
use Rattle.std.proofs.Common.{length, ap, subst, arith}
use Rattle.pn_join.specs.Nodes.{each_child, node_of}
use Rattle.pn_join.specs.Rows.{GoDown}
use Rattle.pn_join.proofs.Lasts.{length-mapped}
use Rattle.pn_join.proofs.Opened.{length-filled}
use Rattle.pn_join.proofs.table.row.Row.open_row.Goals as goal

pub invariant_of-row : goal.invariant_of-row
invariant_of-row g c =
    let was = g.T.Node.was in
    let leaves = g.T.Node.leaves in
    let opened = c.open_children-is_open in
    let now = each_child leaves opened.new.children.items in
    let taken = opened.new.taken.items in
    let same = opened.ensures.same in
    let long = length-mapped (λ child. leaves (node_of child)) opened.new.children.items in (
      rw same.same c.self.invariant.0,
      rw (same.same, opened.ensures.ends) c.self.invariant.1,
      subst (λ n. GoDown n taken) long same.down,
      same.grow,
      omega (arith, opened.ensures.capacity.0, opened.new.children.ok.0, opened.new.taken.ok.0),
      omega (arith, opened.ensures.capacity.1, opened.new.ends.ok.0, opened.new.taken.ok.0),
      omega (arith, c.requires.some, ap length c.self.view_is, ap length same.same, length-filled was taken now, long),
    )

pub invariant_of-row-in-Ok-false : goal.invariant_of-row-in-Ok-false
invariant_of-row-in-Ok-false g c =
    let was = g.T.Node.was in
    let leaves = g.T.Node.leaves in
    let opened = c.open_children-is_open in
    let now = each_child leaves opened.new.children.items in
    let taken = opened.new.taken.items in
    let same = opened.ensures.same in
    let long = length-mapped (λ child. leaves (node_of child)) opened.new.children.items in (
      rw same.same c.self.invariant.0,
      rw (same.same, opened.ensures.ends) c.self.invariant.1,
      subst (λ n. GoDown n taken) long same.down,
      same.grow,
      omega (arith, opened.ensures.capacity.0, opened.new.children.ok.0, opened.new.taken.ok.0),
      omega (arith, opened.ensures.capacity.1, opened.new.ends.ok.0, opened.new.taken.ok.0),
      omega (arith, c.requires.some, ap length c.self.view_is, ap length same.same, length-filled was taken now, long),
    )

pub invariant_of-row-in-Err : goal.invariant_of-row-in-Err
invariant_of-row-in-Err g c =
    let was = g.T.Node.was in
    let leaves = g.T.Node.leaves in
    let opened = c.open_children-is_open in
    let now = each_child leaves opened.new.children.items in
    let taken = opened.new.taken.items in
    let same = opened.ensures.same in
    let long = length-mapped (λ child. leaves (node_of child)) opened.new.children.items in (
      rw same.same c.self.invariant.0,
      rw (same.same, opened.ensures.ends) c.self.invariant.1,
      subst (λ n. GoDown n taken) long same.down,
      same.grow,
      omega (arith, opened.ensures.capacity.0, opened.new.children.ok.0, opened.new.taken.ok.0),
      omega (arith, opened.ensures.capacity.1, opened.new.ends.ok.0, opened.new.taken.ok.0),
      omega (arith, c.requires.some, ap length c.self.view_is, ap length same.same, length-filled was taken now, long),
    )
