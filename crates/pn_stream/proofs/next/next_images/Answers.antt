-- Each message that is read makes the run longer; what ends it ends the batch.
use Rattle.std.proofs.Common.{◌≡◌, ◌+◌, ◌<◌, ◌≤◌, ◌^◌, false, [], ◌∷◌, ◌++◌, length, nat_le, sym, ap, ◌∙◌, rules, arith}
use Rattle.std.proofs.lemmas.Bool.{and_parts}
use Rattle.std.proofs.lemmas.List.{length_push}
use Rattle.pn_stream.specs.declared.fault.StreamFault.TheVariants.{Memory}
use Rattle.pn_stream.proofs.Runs.{SoFar-none, SoFar-push, Batch-end, Batch-enough, Batch-fault, Batch-memory, passed_on, shown_on, shown_none}
use Rattle.pn_stream.proofs.Steps.{next_apart}
use Rattle.pn_stream.proofs.next.next_images.Goals as goal

pub returns-in_err-line-clause-err : goal.returns-in_err-line-clause-err
returns-in_err-line-clause-err g c =
    let none : length c.args.images.now.items ≡ 0 = ap length c.requires.none in
    let few : length c.args.images.now.items < c.args.size.most = omega (arith, none, c.requires.some, c.requires.few) in
    passed_on c.from_residual.result c.in_err-line.field-0.0 _ c.from_residual.ensures.1
    (rw c.in_err-line.ensures.memory (Batch-memory _ _ _ _ _ _ _ _ _ _ few (SoFar-none _ _ _ _ c.requires.none)))

pub images-init : goal.images-init
images-init g c =
    let none : length c.args.images.now.items ≡ 0 = ap length c.requires.none in
    record {
      within = omega (arith, none);
      positions = omega (arith, none, c.requires.position);
      part = c.in_ok-line.ensures.part;
      taken = λ some. absurd (omega (arith, none, some));
      none_held = c.take_line.ensures.taken;
      shown = shown_none _;
      so_far = SoFar-none _ _ _ _ c.requires.none;
    }

pub returns-in_err-next-clause-err : goal.returns-in_err-next-clause-err
returns-in_err-next-clause-err g c =
    let few : length c.images.images.items < c.args.size.most = search (rules, arith) in
    let is : c.args.position + c.len-in-images.result + 1 ≡ c.args.position + length c.images.images.items + 1 = search (rules, arith) in
    rw (sym c.in_ok-line.ensures.front) (passed_on c.from_residual-in_err-next.result c.in_err-next.field-0.0 _ c.from_residual-in_err-next.ensures.1 (Batch-fault _ _ _ _ _ _ _ _ _ _ _ _ is few c.images.invariant.so_far c.in_err-next.ensures.stands))

pub returns-in_err-check_step-in-Some-clause-err : goal.returns-in_err-check_step-in-Some-clause-err
returns-in_err-check_step-in-Some-clause-err g c =
    let few : length c.images.images.items < c.args.size.most = search (rules, arith) in
    let is : c.args.position + c.len-in-images.result + 1 ≡ c.args.position + length c.images.images.items + 1 = search (rules, arith) in
    let wrong = c.in_err-check_step-in-Some.ensures.err in
    let stands = next_apart _ _ _ c.in-Some.next _ _ wrong.1 (rw c.in-Some.is at c.in_ok-next.ensures.next) in
    rw (sym c.in_ok-line.ensures.front)
    (passed_on c.from_residual-in_err-check_step-in-Some.result c.in_err-check_step-in-Some.field-0.0 _ c.from_residual-in_err-check_step-in-Some.ensures.1
    (rw wrong.0 (Batch-fault _ _ _ _ _ _ _ _ _ _ _ _ is few c.images.invariant.so_far stands)))

pub images-preserved : goal.images-preserved
images-preserved g c =
    let few : length c.images.images.items < c.args.size.most = search (rules, arith) in
    let is : c.args.position + c.len-in-images.result + 1 ≡ c.args.position + length c.images.images.items + 1 = search (rules, arith) in
    let grown : c.push_one.new.list.items ≡ c.images.images.items ++ c.in-Some.next.image ∷ [] = search rules in
    let count : length c.push_one.new.list.items ≡ length c.images.images.items + 1 = ap length grown ∙ length_push _ _ in
    let here = rw c.in-Some.is at c.in_ok-next.ensures.taken in
    let at : c.in-Some.next.at ≡ c.args.position + length c.images.images.items + 1 = c.in_ok-check_step-in-Some.ensures.ok ∙ is in
    let last : c.in-Some.next.at ≤ 10 ^ 15 = grind (arith, (and_parts (nat_le 1 c.in-Some.next.at) (nat_le c.in-Some.next.at (10 ^ 15)) here.in_range).1) in
    record {
      within = omega (arith, count, few);
      positions = omega (arith, count, at, last);
      part = c.in_ok-next.ensures.part;
      taken = λ some. here.none;
      none_held = c.images.invariant.none_held;
      shown = shown_on _ _ _ _ _ _ _ c.images.invariant.so_far here.more;
      so_far = rw grown (SoFar-push _ _ _ _ _ c.in-Some.next _ _ _ at c.images.invariant.so_far (rw c.in-Some.is at c.in_ok-next.ensures.next));
    }

pub returns-in_err-push_one-in-Some-clause-err : goal.returns-in_err-push_one-in-Some-clause-err
returns-in_err-push_one-in-Some-clause-err g c =
    let few : length c.images.images.items < c.args.size.most = search (rules, arith) in
    let same : c.push_one.new.list.items ≡ c.images.images.items = search rules in
    rw (sym c.in_ok-line.ensures.front) (passed_on c.from_residual-in_err-push_one-in-Some.result Memory _ c.from_residual-in_err-push_one-in-Some.ensures.1 (rw same (Batch-memory _ _ _ _ _ _ _ _ _ _ few c.images.invariant.so_far)))

pub returns-in-None-clause-ok : goal.returns-in-None-clause-ok
returns-in-None-clause-ok g c =
    let few : c.images.more ≡ false → length c.images.images.items < c.args.size.least = search (rules, arith) in
    rw (sym c.in_ok-line.ensures.front) (Batch-end _ _ c.args.position _ _ _ _ c.images.more _ _ _ c.images.invariant.within few c.images.invariant.shown c.images.invariant.so_far (rw c.in-None.is at c.in_ok-next.ensures.next))

pub returns-clause-ok : goal.returns-clause-ok
returns-clause-ok g c =
    let enough : c.args.size.least ≤ length c.images.images.items = search (rules, arith) in
    let taken = c.images.invariant.taken (omega (arith, enough, c.requires.some)) in
    rw (sym c.in_ok-line.ensures.front) (Batch-enough _ _ _ _ _ _ _ _ enough c.images.invariant.within taken c.images.invariant.so_far)
