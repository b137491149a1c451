-- One more change is taken, and its edit puts the same.
use Rattle.std.proofs.Common.{◌≡◌, ◌<◌, [], ◌∷◌, ◌++◌, length, get_or, take, sym, ap, ◌∙◌, arith}
use Rattle.pn_join.specs.Edits.{put_of}
use Rattle.pn_join.specs.Edits.{changes_in}
use Rattle.pn_join.proofs.LeafOpenings.{above_set, one_taken, puts_set}
use Rattle.pn_join.proofs.table.edit.take_changes.Goals as goal

pub loop-index-preserved : goal.loop-index-preserved
loop-index-preserved g c =
    let first = c.args.edits.now.items in
    let edits = c.loop-index.edits.items in
    let i = c.loop-index.index in
    let was = c.index_mut.result.now in
    let change = c.in_ok-take_change.field-0 in
    let now : was ≡ get_or first i was = c.index_mut.ensures.value ∙ c.loop-index.invariant.rest i was (omega arith) in
    let within : i < length first = omega (arith, c.loop-index-test.true, c.len-index-end.ensures, c.args.edits.now.ok.0) in
    record {
      taken = c.push_reserved.ensures.items
          ∙ ap (λ cs. cs ++ change ∷ []) c.loop-index.invariant.taken
          ∙ ap (λ one. changes_in (take i first) ++ one ∷ []) (c.in_ok-take_change.ensures.change ∙ ap (λ e. e.change) now)
          ∙ sym (one_taken first i was within);
      same = puts_set edits i c.take_change.new.self was (c.in_ok-take_change.ensures.same ∙ ap put_of c.index_mut.ensures.value) ∙ c.loop-index.invariant.same;
      rest = λ j d le. above_set edits i j c.take_change.new.self d (omega (arith, le)) ∙ c.loop-index.invariant.rest j d (omega (arith, le));
      lens = c.loop-index.invariant.lens;
      len = omega (arith, c.push_reserved.ensures.len, c.loop-index.invariant.len);
      capacity = omega (arith, c.push_reserved.ensures.capacity, c.loop-index.invariant.capacity);
    }
