-- The walk ends where none is shown any more, where there is no room, or where the work is done.
use Rattle.std.proofs.Common.{◌≡◌, ℕ, ◌+◌, ◌++◌, ◌∷◌, [], List, length, drop, max, true, false, inl, inr, refl, sym, ap, ◌∙◌, subst, rules, arith}
use Rattle.std.proofs.lemmas.List.{length_push}
use Rattle.pn_join.proofs.Rising.{Rising, Rising-from_sorted}
use Rattle.pn_record.specs.Cells.{Entries}
use Rattle.pn_record.specs.Sets.{bytes_cmp, CellValue}
use Rattle.pn_tablet.specs.Layouts.{is_before}
use Rattle.pn_scan.specs.Shown.{is_shown_from, rows_from, place_rows, records_work}
use Rattle.pn_scan.proofs.Looking.{dropped_more, stands_below, hidden_step, shown_step, shown_there, seen_step, past_rows, no_rows, work_step, went, went_within, not_back}
use Rattle.pn_scan.proofs.Walking.{rising_drop, all_found, more_found}
use Rattle.pn_scan.proofs.walk.walk_some.Goals as goal

pub loop-key-init : goal.loop-key-init
loop-key-init c =
    let query = c.args.query.now in
    let cells : Entries = c.args.cells.now in
    let place = c.args.from in
    let left : c.into_iter-key-iterator.result ≡ drop place.index cells = c.into_iter-key-iterator.ensures.into_iter_gives ∙ c.iter_from-key-items.ensures.rest in
    record {
      rows = ap (λ (es : Entries). c.args.rows.now.items ++ rows_from query place.seen es) left;
      left = left;
      few = c.requires.few;
      most = omega arith;
      work = let same = ap (λ (es : Entries). records_work query.conditions place.seen es) left in omega (arith, same);
      further = inl (refl, refl, refl);
      rising = subst (λ (es : Entries). Rising bytes_cmp es) (sym left) (rising_drop place.index cells (Rising-from_sorted bytes_cmp cells c.iter_from-key-items.ensures.table.rising));
    }

pub look_at-look-requires-clause-to : goal.look_at-look-requires-clause-to
look_at-look-requires-clause-to c = ap (λ end. is_before end c.in-Some.key.now) (sym c.to.ensures) ∙ sym c.is_before.ensures ∙ c.if-not-is_before.false

pub returns-then-done-most : goal.returns-then-done-most
returns-then-done-most c =
    let query = c.args.query.now in
    let was = c.loop-key.invariant in
    let e : List ℕ × CellValue = (c.in-Some.key.now, c.in-Some.cell.now) in
    let counted = ap (λ (es : Entries). records_work query.conditions c.loop-key.seen es) was.left in (
      ap (λ (es : Entries). c.loop-key.rows.items ++ rows_from query c.loop-key.seen es) (sym was.left) ∙ was.rows,
      was.few,
      omega (arith, was.work, was.most, counted),
      stands_below c.loop-key.index c.args.cells.now e c.next.new.self (sym c.in-Some.ensures.steps ∙ was.left),
      not_back _ _ _ _ _ was.further,
      λ some. went _ _ _ _ _ _ was.further (omega arith) some,
    )

pub returns-then-not-is_before : goal.returns-then-not-is_before
returns-then-not-is_before c =
    let query = c.args.query.now in
    let was = c.loop-key.invariant in
    let e : List ℕ × CellValue = (c.in-Some.key.now, c.in-Some.cell.now) in
    let past : is_before query.to e.0 ≡ false = ap (λ end. is_before end e.0) (sym c.to.ensures) ∙ sym c.is_before.ensures ∙ c.if-not-is_before.true in
    let all : Entries = c.args.rows.now.items ++ place_rows query c.args.cells.now c.args.from in
    let none = past_rows query c.loop-key.seen e c.next.new.self c.loop-key.key-iterator c.loop-key.rows.items all c.in-Some.ensures.steps past was.rising was.rows in
    let found = all_found c.loop-key.rows.items all c.args.room none was.few in
    (found.0, found.1, omega arith)

pub returns-then-not-known : goal.returns-then-not-known
returns-then-not-known c =
    let query = c.args.query.now in
    let was = c.loop-key.invariant in
    let e : List ℕ × CellValue = (c.in-Some.key.now, c.in-Some.cell.now) in
    let steps = c.in-Some.ensures.steps in
    let stops = c.look_at-look.ensures.stopped c.if-not-known.true in
    let end = c.look_at-look.result.end in
    let there : drop c.loop-key.index c.args.cells.now ≡ e ∷ c.next.new.self = sym was.left ∙ steps in
    let all : Entries = c.args.rows.now.items ++ place_rows query c.args.cells.now c.args.from in (
      seen_step query c.loop-key.seen end e c.next.new.self c.loop-key.key-iterator (drop c.loop-key.index c.args.cells.now) c.loop-key.rows.items all steps (sym was.left) stops.0 was.rows,
      was.few,
      omega (arith, was.work, stops.1, work_step query c.loop-key.seen e c.next.new.self _ steps, work_step query end e c.next.new.self _ there),
      stands_below c.loop-key.index c.args.cells.now e c.next.new.self (sym there),
      not_back _ _ _ _ _ was.further,
      λ some. went_within c.args.from.index c.loop-key.index c.args.from.seen c.loop-key.seen c.loop-key.done end (c.loop-key.done + 1) was.further refl stops.2,
    )

pub returns-then-len-room : goal.returns-then-len-room
returns-then-len-room c =
    let query = c.args.query.now in
    let was = c.loop-key.invariant in
    let e : List ℕ × CellValue = (c.in-Some.key.now, c.in-Some.cell.now) in
    let knows = c.look_at-look.ensures.known c.if-not-known.false in
    let all : Entries = c.args.rows.now.items ++ place_rows query c.args.cells.now c.args.from in
    let shown : is_shown_from query c.loop-key.seen e ≡ true = sym knows.0 ∙ c.if-shows.true in
    let there = shown_there query c.loop-key.seen e c.next.new.self c.loop-key.key-iterator c.loop-key.rows.items all c.in-Some.ensures.steps shown was.rows in
    let full : length c.loop-key.rows.items ≡ c.args.room = omega (arith, c.len.ensures, c.if-len-room.true) in
    let found = more_found c.loop-key.rows.items e _ all c.args.room there full in
    (found.0, found.1, knows.2)

pub loop-key-preserved-in_ok-push : goal.loop-key-preserved-in_ok-push
loop-key-preserved-in_ok-push c =
    let query = c.args.query.now in
    let was = c.loop-key.invariant in
    let e : List ℕ × CellValue = (c.in-Some.key.now, c.in-Some.cell.now) in
    let steps = c.in-Some.ensures.steps in
    let knows = c.look_at-look.ensures.known c.if-not-known.false in
    let shown : is_shown_from query c.loop-key.seen e ≡ true = sym knows.0 ∙ c.if-shows.true in
    let pushed : c.push.new.self.items ≡ c.loop-key.rows.items ++ e ∷ [] = c.in_ok-push.ensures.items ∙ ap (λ (row : List ℕ × CellValue). c.loop-key.rows.items ++ row ∷ []) c.in_ok-row_of.ensures in
    let within = stands_below c.loop-key.index c.args.cells.now e c.next.new.self (sym steps ∙ was.left) in
    let one : c.loop-key.index + 1 ≡ c.saturating_add-index.result = omega (arith, within, c.requires.len, c.saturating_add-index.ensures) in
    record {
      rows = shown_step query c.loop-key.seen e c.next.new.self c.loop-key.key-iterator c.loop-key.rows.items c.push.new.self.items _ steps shown pushed was.rows;
      left = dropped_more c.loop-key.index c.args.cells.now e c.next.new.self (sym steps ∙ was.left) ∙ ap (λ n. drop n c.args.cells.now) one;
      few = omega (arith, was.few, c.if-len-room.false, c.len.ensures, length_push c.loop-key.rows.items e, ap (λ (l : Entries). length l) pushed);
      most = knows.2;
      work = omega (arith, was.work, knows.1, work_step query c.loop-key.seen e c.next.new.self _ steps);
      further = inr (omega (arith, not_back _ _ _ _ _ was.further, one));
      rising = (subst (λ (l : Entries). Rising bytes_cmp l) steps was.rising).1;
    }

pub loop-key-preserved : goal.loop-key-preserved
loop-key-preserved c =
    let query = c.args.query.now in
    let was = c.loop-key.invariant in
    let e : List ℕ × CellValue = (c.in-Some.key.now, c.in-Some.cell.now) in
    let steps = c.in-Some.ensures.steps in
    let knows = c.look_at-look.ensures.known c.if-not-known.false in
    let hidden : is_shown_from query c.loop-key.seen e ≡ false = sym knows.0 ∙ c.if-shows.false in
    let within = stands_below c.loop-key.index c.args.cells.now e c.next.new.self (sym steps ∙ was.left) in
    let one : c.loop-key.index + 1 ≡ c.saturating_add-index.result = omega (arith, within, c.requires.len, c.saturating_add-index.ensures) in
    record {
      rows = hidden_step query c.loop-key.seen e c.next.new.self c.loop-key.key-iterator c.loop-key.rows.items _ steps hidden was.rows;
      left = dropped_more c.loop-key.index c.args.cells.now e c.next.new.self (sym steps ∙ was.left) ∙ ap (λ n. drop n c.args.cells.now) one;
      few = was.few;
      most = knows.2;
      work = omega (arith, was.work, knows.1, work_step query c.loop-key.seen e c.next.new.self _ steps);
      further = inr (omega (arith, not_back _ _ _ _ _ was.further, one));
      rising = (subst (λ (l : Entries). Rising bytes_cmp l) steps was.rising).1;
    }

pub returns : goal.returns
returns c =
    let query = c.args.query.now in
    let was = c.loop-key.invariant in
    let none_left : c.loop-key.key-iterator ≡ [] = search rules in
    let all : Entries = c.args.rows.now.items ++ place_rows query c.args.cells.now c.args.from in
    let none = no_rows query c.loop-key.seen c.loop-key.key-iterator c.loop-key.rows.items all none_left was.rows in
    let found = all_found c.loop-key.rows.items all c.args.room none was.few in
    (found.0, found.1, was.most)
