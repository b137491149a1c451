-- The node that the last edit comes into is opened next.
use Rattle.std.proofs.Common.{◌≡◌, ◌+◌, ◌-◌, ◌<◌, ◌≤◌, [], length, get_or, take, min, leb, Some, option_map, ap, ◌∙◌, sym, refl, subst, arith, rules}
use Rattle.std.specs.List.{prefix_len}
use Rattle.std.specs.List.Sorted.{IsNonDecreasingBy}
use Rattle.pn_join.specs.NodeLeaves.{in_nodes, entries_in}
use Rattle.pn_join.specs.Counts.{end_before, entry_ends}
use Rattle.pn_join.specs.Leaves.{all_entries, counts_after, last_of}
use Rattle.pn_join.specs.Nodes.{each_child, node_of}
use Rattle.pn_join.specs.PutAt.{place}
use Rattle.pn_join.specs.declared.table.counts.Sizes.{Sizes}
use Rattle.pn_join.proofs.NodeFacts.{all_in_nodes, length-in_nodes}
use Rattle.pn_join.proofs.CountsFacts.{counted_before, entries_rise, length-ends}
use Rattle.pn_join.proofs.ListFacts.{each_at}
use Rattle.pn_join.proofs.Lasts.{length-mapped}
use Rattle.pn_join.proofs.Opened.{all_opened, are_taken, fewer, left_within, next_comes, node_edits, node_is, node_within, none_opened, now_long, one_opened, place_from}
use Rattle.pn_join.proofs.PutBack.{node_list}
use Rattle.pn_join.proofs.table.row.opening.open_children.Goals as goal

pub loop-index-init : goal.loop-index-init
loop-index-init g c =
    let nodes = each_child g.T.Node.leaves c.args.children.now.items in
    record {
      so_far = rw c.requires.none (none_opened g.T.Node.was g.T.Node.becomes c.args.start nodes c.args.edits.now.items);
      ends = refl;
      capacity = omega (arith, ap length c.requires.none, c.args.taken.now.ok.0, c.args.children.now.ok.1);
      more = omega (arith, ap length c.requires.none, c.args.taken.now.ok.0, c.args.ends.now.ok.1);
    }

pub returns-clause-same : goal.returns-clause-same
returns-clause-same g c =
    let now = c.loop-index in
    let nodes = each_child g.T.Node.leaves c.args.children.now.items in
    are_taken g.T.Node.was g.T.Node.becomes c.args.start nodes c.args.edits.now.items (each_child g.T.Node.leaves now.children.items) now.taken.items now.edits.items now.invariant.so_far

pub returns-clause-done : goal.returns-clause-done
returns-clause-done g c = λ yes.
    let now = c.loop-index in
    let nodes = each_child g.T.Node.leaves c.args.children.now.items in
    all_opened g.T.Node.was g.T.Node.becomes c.args.start nodes c.args.edits.now.items (each_child g.T.Node.leaves now.children.items) now.taken.items now.edits.items now.invariant.so_far (rw (← c.deref.ensures.value) (c.last_place.ensures.stops (search rules)))

pub node_for_entry-node-requires-clause-some : goal.node_for_entry-node-requires-clause-some
node_for_entry-node-requires-clause-some g c =
    let leaves = g.T.Node.leaves in
    let was = g.T.Node.was in
    let becomes = g.T.Node.becomes in
    let nodes = each_child leaves c.args.children.now.items in
    let edits = c.args.edits.now.items in
    let now = c.loop-index in
    let start = c.args.start in
    let mid = each_child leaves now.children.items in
    let taken = now.taken.items in
    let left = now.edits.items in
    let some : 0 < length nodes = omega (arith, c.requires.row.1, length-mapped (λ child. leaves (node_of child)) c.args.children.now.items) in
    let ends : c.deref-in-Some.result.now ≡ c.args.ends.now.items = c.deref-in-Some.ensures.value ∙ now.invariant.ends in
    let long : length c.deref-in-Some.result.now ≡ length nodes = ap length ends ∙ length-ends nodes c.args.ends.now.items c.requires.counts in
    omega (arith, some, long)

pub node_for_entry-node-requires-clause-rise : goal.node_for_entry-node-requires-clause-rise
node_for_entry-node-requires-clause-rise g c =
    let leaves = g.T.Node.leaves in
    let was = g.T.Node.was in
    let becomes = g.T.Node.becomes in
    let nodes = each_child leaves c.args.children.now.items in
    let edits = c.args.edits.now.items in
    let now = c.loop-index in
    let start = c.args.start in
    let mid = each_child leaves now.children.items in
    let taken = now.taken.items in
    let left = now.edits.items in
    let some : 0 < length nodes = omega (arith, c.requires.row.1, length-mapped (λ child. leaves (node_of child)) c.args.children.now.items) in
    let ends : c.deref-in-Some.result.now ≡ c.args.ends.now.items = c.deref-in-Some.ensures.value ∙ now.invariant.ends in
    let long : length c.deref-in-Some.result.now ≡ length nodes = ap length ends ∙ length-ends nodes c.args.ends.now.items c.requires.counts in
    subst (λ es. IsNonDecreasingBy (λ (e : Sizes). e.entries) es) (sym ends) (entries_rise nodes c.args.ends.now.items c.requires.counts)

pub overflow_add-start : goal.overflow_add-start
overflow_add-start g c =
    let leaves = g.T.Node.leaves in
    let was = g.T.Node.was in
    let becomes = g.T.Node.becomes in
    let nodes = each_child leaves c.args.children.now.items in
    let edits = c.args.edits.now.items in
    let now = c.loop-index in
    let start = c.args.start in
    let mid = each_child leaves now.children.items in
    let taken = now.taken.items in
    let left = now.edits.items in
    let some : 0 < length nodes = omega (arith, c.requires.row.1, length-mapped (λ child. leaves (node_of child)) c.args.children.now.items) in
    let ends : c.deref-in-Some.result.now ≡ c.args.ends.now.items = c.deref-in-Some.ensures.value ∙ now.invariant.ends in
    let long : length c.deref-in-Some.result.now ≡ length nodes = ap length ends ∙ length-ends nodes c.args.ends.now.items c.requires.counts in
    let i = c.node_for_entry-node.result.0 in
    let before = c.node_for_entry-node.result.1 in
    let at = prefix_len (λ end. leb end (c.in-Some.index - start)) (entry_ends c.deref-in-Some.result.now) in
    let found : at ≡ prefix_len (λ end. leb end (c.in-Some.index - start)) (counts_after 0 (in_nodes nodes)) = ap (prefix_len (λ end. leb end (c.in-Some.index - start))) (ap entry_ends ends ∙ c.requires.counts.entries.each) in
    let most : i ≡ min at (length nodes - 1) = c.node_for_entry-node.ensures.node ∙ ap (λ n. min at (n - 1)) long in
    let last : option_map (λ edit. place edit.index) (last_of left) ≡ Some c.in-Some.index = ap (λ es. option_map (λ edit. place edit.index) (last_of es)) (sym c.deref.ensures.value) ∙ c.in-Some.ensures.some.1 in
    let come = next_comes was becomes start nodes edits mid taken left now.invariant.so_far c.requires.edits some c.in-Some.index c.in-Some.ensures.some.0 last i at found most in
    let inside : i < length nodes = node_within was becomes start nodes edits mid taken left now.invariant.so_far come.0 come.1 come.2 i come.4 in
    let first : before ≡ length (all_entries (take i (in_nodes nodes))) =
    c.node_for_entry-node.ensures.start ∙ ap (λ es. end_before i (entry_ends es)) ends
    ∙ counted_before (in_nodes nodes) (entry_ends c.args.ends.now.items) c.requires.counts.entries i (omega (arith, inside, length-in_nodes nodes)) in
    omega (arith, first, come.4.starts, place_from start come.0.index, come.2, come.3, c.in-Some.ensures.fits)

pub open_child-requires-clause-within : goal.open_child-requires-clause-within
open_child-requires-clause-within g c =
    let leaves = g.T.Node.leaves in
    let was = g.T.Node.was in
    let becomes = g.T.Node.becomes in
    let nodes = each_child leaves c.args.children.now.items in
    let edits = c.args.edits.now.items in
    let now = c.loop-index in
    let start = c.args.start in
    let mid = each_child leaves now.children.items in
    let taken = now.taken.items in
    let left = now.edits.items in
    let some : 0 < length nodes = omega (arith, c.requires.row.1, length-mapped (λ child. leaves (node_of child)) c.args.children.now.items) in
    let ends : c.deref-in-Some.result.now ≡ c.args.ends.now.items = c.deref-in-Some.ensures.value ∙ now.invariant.ends in
    let long : length c.deref-in-Some.result.now ≡ length nodes = ap length ends ∙ length-ends nodes c.args.ends.now.items c.requires.counts in
    let i = c.node_for_entry-node.result.0 in
    let before = c.node_for_entry-node.result.1 in
    let at = prefix_len (λ end. leb end (c.in-Some.index - start)) (entry_ends c.deref-in-Some.result.now) in
    let found : at ≡ prefix_len (λ end. leb end (c.in-Some.index - start)) (counts_after 0 (in_nodes nodes)) = ap (prefix_len (λ end. leb end (c.in-Some.index - start))) (ap entry_ends ends ∙ c.requires.counts.entries.each) in
    let most : i ≡ min at (length nodes - 1) = c.node_for_entry-node.ensures.node ∙ ap (λ n. min at (n - 1)) long in
    let last : option_map (λ edit. place edit.index) (last_of left) ≡ Some c.in-Some.index = ap (λ es. option_map (λ edit. place edit.index) (last_of es)) (sym c.deref.ensures.value) ∙ c.in-Some.ensures.some.1 in
    let come = next_comes was becomes start nodes edits mid taken left now.invariant.so_far c.requires.edits some c.in-Some.index c.in-Some.ensures.some.0 last i at found most in
    let inside : i < length nodes = node_within was becomes start nodes edits mid taken left now.invariant.so_far come.0 come.1 come.2 i come.4 in
    let first : before ≡ length (all_entries (take i (in_nodes nodes))) =
    c.node_for_entry-node.ensures.start ∙ ap (λ es. end_before i (entry_ends es)) ends
    ∙ counted_before (in_nodes nodes) (entry_ends c.args.ends.now.items) c.requires.counts.entries i (omega (arith, inside, length-in_nodes nodes)) in
    omega (arith, inside, now_long was becomes start nodes edits mid taken left now.invariant.so_far come.0 come.1 come.2 i come.4, length-mapped (λ child. leaves (node_of child)) now.children.items, ap length c.in_ok-reserve.ensures.items)

pub open_child-requires-clause-node : goal.open_child-requires-clause-node
open_child-requires-clause-node g c =
    let leaves = g.T.Node.leaves in
    let was = g.T.Node.was in
    let becomes = g.T.Node.becomes in
    let nodes = each_child leaves c.args.children.now.items in
    let edits = c.args.edits.now.items in
    let now = c.loop-index in
    let start = c.args.start in
    let mid = each_child leaves now.children.items in
    let taken = now.taken.items in
    let left = now.edits.items in
    let some : 0 < length nodes = omega (arith, c.requires.row.1, length-mapped (λ child. leaves (node_of child)) c.args.children.now.items) in
    let ends : c.deref-in-Some.result.now ≡ c.args.ends.now.items = c.deref-in-Some.ensures.value ∙ now.invariant.ends in
    let long : length c.deref-in-Some.result.now ≡ length nodes = ap length ends ∙ length-ends nodes c.args.ends.now.items c.requires.counts in
    let i = c.node_for_entry-node.result.0 in
    let before = c.node_for_entry-node.result.1 in
    let at = prefix_len (λ end. leb end (c.in-Some.index - start)) (entry_ends c.deref-in-Some.result.now) in
    let found : at ≡ prefix_len (λ end. leb end (c.in-Some.index - start)) (counts_after 0 (in_nodes nodes)) = ap (prefix_len (λ end. leb end (c.in-Some.index - start))) (ap entry_ends ends ∙ c.requires.counts.entries.each) in
    let most : i ≡ min at (length nodes - 1) = c.node_for_entry-node.ensures.node ∙ ap (λ n. min at (n - 1)) long in
    let last : option_map (λ edit. place edit.index) (last_of left) ≡ Some c.in-Some.index = ap (λ es. option_map (λ edit. place edit.index) (last_of es)) (sym c.deref.ensures.value) ∙ c.in-Some.ensures.some.1 in
    let come = next_comes was becomes start nodes edits mid taken left now.invariant.so_far c.requires.edits some c.in-Some.index c.in-Some.ensures.some.0 last i at found most in
    let inside : i < length nodes = node_within was becomes start nodes edits mid taken left now.invariant.so_far come.0 come.1 come.2 i come.4 in
    let first : before ≡ length (all_entries (take i (in_nodes nodes))) =
    c.node_for_entry-node.ensures.start ∙ ap (λ es. end_before i (entry_ends es)) ends
    ∙ counted_before (in_nodes nodes) (entry_ends c.args.ends.now.items) c.requires.counts.entries i (omega (arith, inside, length-in_nodes nodes)) in
    let items : each_child leaves c.reserve.new.self.items ≡ mid = ap (each_child leaves) c.in_ok-reserve.ensures.items in
    rw (items, node_is was becomes start nodes edits mid taken left now.invariant.so_far come.0 come.1 come.2 i come.4)
    (node_list g.K.Ord.cmp g.C.Join.valid nodes c.requires.row.0 i inside, each_at (λ node. 0 < length node) nodes i [] c.requires.row.0.some inside)

pub open_child-requires-clause-edits : goal.open_child-requires-clause-edits
open_child-requires-clause-edits g c =
    let leaves = g.T.Node.leaves in
    let was = g.T.Node.was in
    let becomes = g.T.Node.becomes in
    let nodes = each_child leaves c.args.children.now.items in
    let edits = c.args.edits.now.items in
    let now = c.loop-index in
    let start = c.args.start in
    let mid = each_child leaves now.children.items in
    let taken = now.taken.items in
    let left = now.edits.items in
    let some : 0 < length nodes = omega (arith, c.requires.row.1, length-mapped (λ child. leaves (node_of child)) c.args.children.now.items) in
    let ends : c.deref-in-Some.result.now ≡ c.args.ends.now.items = c.deref-in-Some.ensures.value ∙ now.invariant.ends in
    let long : length c.deref-in-Some.result.now ≡ length nodes = ap length ends ∙ length-ends nodes c.args.ends.now.items c.requires.counts in
    let i = c.node_for_entry-node.result.0 in
    let before = c.node_for_entry-node.result.1 in
    let at = prefix_len (λ end. leb end (c.in-Some.index - start)) (entry_ends c.deref-in-Some.result.now) in
    let found : at ≡ prefix_len (λ end. leb end (c.in-Some.index - start)) (counts_after 0 (in_nodes nodes)) = ap (prefix_len (λ end. leb end (c.in-Some.index - start))) (ap entry_ends ends ∙ c.requires.counts.entries.each) in
    let most : i ≡ min at (length nodes - 1) = c.node_for_entry-node.ensures.node ∙ ap (λ n. min at (n - 1)) long in
    let last : option_map (λ edit. place edit.index) (last_of left) ≡ Some c.in-Some.index = ap (λ es. option_map (λ edit. place edit.index) (last_of es)) (sym c.deref.ensures.value) ∙ c.in-Some.ensures.some.1 in
    let come = next_comes was becomes start nodes edits mid taken left now.invariant.so_far c.requires.edits some c.in-Some.index c.in-Some.ensures.some.0 last i at found most in
    let inside : i < length nodes = node_within was becomes start nodes edits mid taken left now.invariant.so_far come.0 come.1 come.2 i come.4 in
    let first : before ≡ length (all_entries (take i (in_nodes nodes))) =
    c.node_for_entry-node.ensures.start ∙ ap (λ es. end_before i (entry_ends es)) ends
    ∙ counted_before (in_nodes nodes) (entry_ends c.args.ends.now.items) c.requires.counts.entries i (omega (arith, inside, length-in_nodes nodes)) in
    let items : each_child leaves c.reserve.new.self.items ≡ mid = ap (each_child leaves) c.in_ok-reserve.ensures.items in
    let end : start + length (entries_in nodes) ≡ start + length (all_entries (in_nodes nodes)) = ap (λ es. start + length es) (sym (all_in_nodes nodes)) in
    let within = left_within was becomes start nodes edits (start + length (entries_in nodes)) mid taken left c.requires.edits now.invariant.so_far in
    let may = node_edits was becomes start nodes edits mid taken left now.invariant.so_far come.0 come.1 come.2 i come.4 (start + length (entries_in nodes)) end within in
    rw (items, first) may

pub loop-index-smaller : goal.loop-index-smaller
loop-index-smaller g c =
    let leaves = g.T.Node.leaves in
    let was = g.T.Node.was in
    let becomes = g.T.Node.becomes in
    let nodes = each_child leaves c.args.children.now.items in
    let edits = c.args.edits.now.items in
    let now = c.loop-index in
    let start = c.args.start in
    let mid = each_child leaves now.children.items in
    let taken = now.taken.items in
    let left = now.edits.items in
    let some : 0 < length nodes = omega (arith, c.requires.row.1, length-mapped (λ child. leaves (node_of child)) c.args.children.now.items) in
    let ends : c.deref-in-Some.result.now ≡ c.args.ends.now.items = c.deref-in-Some.ensures.value ∙ now.invariant.ends in
    let long : length c.deref-in-Some.result.now ≡ length nodes = ap length ends ∙ length-ends nodes c.args.ends.now.items c.requires.counts in
    let i = c.node_for_entry-node.result.0 in
    let before = c.node_for_entry-node.result.1 in
    let at = prefix_len (λ end. leb end (c.in-Some.index - start)) (entry_ends c.deref-in-Some.result.now) in
    let found : at ≡ prefix_len (λ end. leb end (c.in-Some.index - start)) (counts_after 0 (in_nodes nodes)) = ap (prefix_len (λ end. leb end (c.in-Some.index - start))) (ap entry_ends ends ∙ c.requires.counts.entries.each) in
    let most : i ≡ min at (length nodes - 1) = c.node_for_entry-node.ensures.node ∙ ap (λ n. min at (n - 1)) long in
    let last : option_map (λ edit. place edit.index) (last_of left) ≡ Some c.in-Some.index = ap (λ es. option_map (λ edit. place edit.index) (last_of es)) (sym c.deref.ensures.value) ∙ c.in-Some.ensures.some.1 in
    let come = next_comes was becomes start nodes edits mid taken left now.invariant.so_far c.requires.edits some c.in-Some.index c.in-Some.ensures.some.0 last i at found most in
    let inside : i < length nodes = node_within was becomes start nodes edits mid taken left now.invariant.so_far come.0 come.1 come.2 i come.4 in
    let first : before ≡ length (all_entries (take i (in_nodes nodes))) =
    c.node_for_entry-node.ensures.start ∙ ap (λ es. end_before i (entry_ends es)) ends
    ∙ counted_before (in_nodes nodes) (entry_ends c.args.ends.now.items) c.requires.counts.entries i (omega (arith, inside, length-in_nodes nodes)) in
    let step = c.in_ok-open_child.ensures.taken c.if-not-branch.false in
    let le : start + before ≤ place come.0.index = omega (arith, first, come.4.starts, place_from start come.0.index, come.2) in
    fewer (start + before) left c.open_child.new.edits.items step.opened.mine come.0 step.opened.parted come.1 le step.opened.stops

pub loop-index-preserved : goal.loop-index-preserved
loop-index-preserved g c =
    let leaves = g.T.Node.leaves in
    let was = g.T.Node.was in
    let becomes = g.T.Node.becomes in
    let nodes = each_child leaves c.args.children.now.items in
    let edits = c.args.edits.now.items in
    let now = c.loop-index in
    let start = c.args.start in
    let mid = each_child leaves now.children.items in
    let taken = now.taken.items in
    let left = now.edits.items in
    let some : 0 < length nodes = omega (arith, c.requires.row.1, length-mapped (λ child. leaves (node_of child)) c.args.children.now.items) in
    let ends : c.deref-in-Some.result.now ≡ c.args.ends.now.items = c.deref-in-Some.ensures.value ∙ now.invariant.ends in
    let long : length c.deref-in-Some.result.now ≡ length nodes = ap length ends ∙ length-ends nodes c.args.ends.now.items c.requires.counts in
    let i = c.node_for_entry-node.result.0 in
    let before = c.node_for_entry-node.result.1 in
    let at = prefix_len (λ end. leb end (c.in-Some.index - start)) (entry_ends c.deref-in-Some.result.now) in
    let found : at ≡ prefix_len (λ end. leb end (c.in-Some.index - start)) (counts_after 0 (in_nodes nodes)) = ap (prefix_len (λ end. leb end (c.in-Some.index - start))) (ap entry_ends ends ∙ c.requires.counts.entries.each) in
    let most : i ≡ min at (length nodes - 1) = c.node_for_entry-node.ensures.node ∙ ap (λ n. min at (n - 1)) long in
    let last : option_map (λ edit. place edit.index) (last_of left) ≡ Some c.in-Some.index = ap (λ es. option_map (λ edit. place edit.index) (last_of es)) (sym c.deref.ensures.value) ∙ c.in-Some.ensures.some.1 in
    let come = next_comes was becomes start nodes edits mid taken left now.invariant.so_far c.requires.edits some c.in-Some.index c.in-Some.ensures.some.0 last i at found most in
    let inside : i < length nodes = node_within was becomes start nodes edits mid taken left now.invariant.so_far come.0 come.1 come.2 i come.4 in
    let first : before ≡ length (all_entries (take i (in_nodes nodes))) =
    c.node_for_entry-node.ensures.start ∙ ap (λ es. end_before i (entry_ends es)) ends
    ∙ counted_before (in_nodes nodes) (entry_ends c.args.ends.now.items) c.requires.counts.entries i (omega (arith, inside, length-in_nodes nodes)) in
    let items : each_child leaves c.reserve.new.self.items ≡ mid = ap (each_child leaves) c.in_ok-reserve.ensures.items in
    let end : start + length (entries_in nodes) ≡ start + length (all_entries (in_nodes nodes)) = ap (λ es. start + length es) (sym (all_in_nodes nodes)) in
    let within = left_within was becomes start nodes edits (start + length (entries_in nodes)) mid taken left c.requires.edits now.invariant.so_far in
    let may = node_edits was becomes start nodes edits mid taken left now.invariant.so_far come.0 come.1 come.2 i come.4 (start + length (entries_in nodes)) end within in
    let step = rw (first, items) at (c.in_ok-open_child.ensures.taken c.if-not-branch.false) in
    record {
      so_far = one_opened was becomes start nodes edits mid taken left now.invariant.so_far come.0 come.1 come.2 i come.4 c.open_child.new.edits.items (each_child leaves c.open_child.new.children.items) c.open_child.new.taken.items step may;
      ends = c.in_ok-reserve-2.ensures.items ∙ now.invariant.ends;
      capacity = omega (arith, c.open_child.ensures.len.0, c.open_child.ensures.len.1, c.open_child.ensures.capacity, c.in_ok-reserve.ensures.ok, c.len.ensures);
      more = omega (arith, c.open_child.ensures.len.1, c.in_ok-reserve-2.ensures.ok, c.len-in-Some.ensures);
    }
