-- Live tablets with one operation more: what joins make of drafts, one tablet after another.
use Rattle.std.proofs.Common.{◌≡◌, ℕ, zero, suc, ◌+◌, ◌<◌, ◌≤◌, List, [], ◌∷◌, ◌++◌, length, map, drop, set, get_or, refl, sym, ap, ◌∙◌, subst, arith, add-one, length-append, Bool, true, false, if◌then◌else◌, Ok, Err, take}
use Rattle.std.specs.Prelude.{Option, None, Some, Result, Vec, IsOk, IfOk, IfErr, OnOk, OnErr, MatchOption, unwrap_or}
use Rattle.std.specs.declared.alloc.Global.{Global}
use Rattle.std.proofs.lemmas.List.{length-map, map-append, append_assoc, take_more}
use Rattle.logbook.specs.Pages.{Book}
use Rattle.pn_join.specs.Marks.{Positions}
use Rattle.pn_record.specs.Cells.{Entries}
use Rattle.pn_tablet.specs.Steps.{answer, Refuses, step, tablet_after, after_step, is_memory, with_copy, with_join, HasPositions}
use Rattle.pn_tablet.specs.Copies.{TabletCopyValue}
use Rattle.pn_tablet.specs.Tablets.{need_shortfall, TabletStateValue, lie_in, same_range, empty_tablet}
use Rattle.pn_tablet.specs.declared.fault.Shortfall.{Shortfall}
use Rattle.pn_tablet.specs.declared.fault.OpFault.{OpFault}
use Rattle.pn_tablet.specs.declared.fault.OpFault.TheVariants.{WrongRange, Memory}
use Rattle.pn_tablet.specs.declared.change.Change.{Change}
use Rattle.pn_tablet.specs.declared.state.TabletOp.{TabletOp}
use Rattle.pn_tablet.specs.declared.state.TabletOp.TheVariants.{Join, Lose, Adopt}
use Rattle.pn_tablet.proofs.JoinLaws.{refused_step}
use Rattle.pn_apply.specs.Applying.{IsJoinIn, AreJoinsIn, HavePositions, all_stepped}
use Rattle.pn_apply.proofs.Turns.{same_length, mapped_at, join_at, positions_at}
use Rattle.pn_live.specs.PublishedTablets.{PublishedTabletValue, books_of, state_at, with_op, with_ops}
use Rattle.pn_live.proofs.Prefixes.{fold_last}

-- Lists whose first elements were changed, each by the element of another list at its index.

-- a list with something from an index on has that index
pub within_of : {A : Type 0} (xs : List A) (n : ℕ) (x : A) (rest : List A) → x ∷ rest ≡ drop n xs → n < length xs
within_of [] zero x rest is = absurd (cc is)
within_of [] (suc n) x rest is = absurd (cc is)
within_of (y ∷ xs) zero x rest is = omega arith
within_of (y ∷ xs) (suc n) x rest is = omega (arith, within_of xs n x rest is)

-- a list with nothing from an index on ends there
pub past_of : {A : Type 0} (xs : List A) (n : ℕ) → [] ≡ drop n xs → length xs ≤ n
past_of [] n is = omega arith
past_of (y ∷ xs) zero is = absurd (cc is)
past_of (y ∷ xs) (suc n) is = omega (arith, past_of xs n is)

-- the element at the index, and what is left after it
pub first_of : {A : Type 0} (xs : List A) (n : ℕ) (x : A) (rest : List A) → x ∷ rest ≡ drop n xs → x ≡ get_or xs n x
first_of [] zero x rest is = absurd (cc is)
first_of [] (suc n) x rest is = absurd (cc is)
first_of (y ∷ xs) zero x rest is = cc is
first_of (y ∷ xs) (suc n) x rest is = first_of xs n x rest is

rest_after : {A : Type 0} (xs : List A) (n : ℕ) (x : A) (rest : List A) → x ∷ rest ≡ drop n xs → rest ≡ drop (suc n) xs
rest_after [] zero x rest is = absurd (cc is)
rest_after [] (suc n) x rest is = absurd (cc is)
rest_after (y ∷ xs) zero x rest is = cc is
rest_after (y ∷ xs) (suc n) x rest is = rest_after xs n x rest is

pub rest_of : {A : Type 0} (xs : List A) (n : ℕ) (x : A) (rest : List A) → x ∷ rest ≡ drop n xs → rest ≡ drop (n + 1) xs
rest_of xs n x rest is = rest_after xs n x rest is ∙ ap (λ k. drop k xs) (sym (add-one n))

module _ {A B : Type 0} (Does : A → B → A → Type 0) where
  -- the first `n` are changed, and the others are as they were
  abbrev pub DoneFirst : ℕ → List A → List B → List A → Type 0
  DoneFirst zero olds bs news = news ≡ olds
  DoneFirst (suc n) (old ∷ olds) (b ∷ bs) (new ∷ news) = Does old b new × DoneFirst n olds bs news
  DoneFirst (suc n) _ _ _ = ⊥

  -- the list is as long as it was
  pub done_count : (n : ℕ) (olds : List A) (bs : List B) (news : List A) → DoneFirst n olds bs news → length news ≡ length olds
  done_count zero olds bs news done = ap length done
  done_count (suc n) [] bs news done = absurd done
  done_count (suc n) (old ∷ olds) [] news done = absurd done
  done_count (suc n) (old ∷ olds) (b ∷ bs) [] done = absurd done
  done_count (suc n) (old ∷ olds) (b ∷ bs) (new ∷ news) done = ap suc (done_count n olds bs news done.1)

  -- the next one is as it was
  pub done_at : (n : ℕ) (olds : List A) (bs : List B) (news : List A) (d : A) → DoneFirst n olds bs news → get_or news n d ≡ get_or olds n d
  done_at zero olds bs news d done = ap (λ (xs : List A). get_or xs 0 d) done
  done_at (suc n) [] bs news d done = absurd done
  done_at (suc n) (old ∷ olds) [] news d done = absurd done
  done_at (suc n) (old ∷ olds) (b ∷ bs) [] d done = absurd done
  done_at (suc n) (old ∷ olds) (b ∷ bs) (new ∷ news) d done = done_at n olds bs news d done.1

  done_next : (n : ℕ) (olds : List A) (bs : List B) (news : List A) (a : A) (b : B) (new : A) → DoneFirst n olds bs news → n < length olds → n < length bs
      → a ≡ get_or olds n a → b ≡ get_or bs n b → Does a b new → DoneFirst (suc n) olds bs (set news n new)
  done_next zero [] bs news a b new done within too at there does = absurd (omega arith)
  done_next zero (old ∷ olds) [] news a b new done within too at there does = absurd (omega arith)
  done_next zero (old ∷ olds) (c ∷ bs) news a b new done within too at there does =
      subst (λ (xs : List A). DoneFirst 1 (old ∷ olds) (c ∷ bs) (set xs 0 new)) (sym done)
      (subst (λ (x : A). Does x c new) at (subst (λ (x : B). Does a x new) there does), refl)
  done_next (suc n) [] bs news a b new done within too at there does = absurd done
  done_next (suc n) (old ∷ olds) [] news a b new done within too at there does = absurd done
  done_next (suc n) (old ∷ olds) (c ∷ bs) [] a b new done within too at there does = absurd done
  done_next (suc n) (old ∷ olds) (c ∷ bs) (x ∷ news) a b new done within too at there does =
      (done.0, done_next n olds bs news a b new done.1 (omega arith) (omega arith) at there does)

  -- one more is changed
  pub done_more : (n : ℕ) (olds : List A) (bs : List B) (news : List A) (a : A) (b : B) (new : A) → DoneFirst n olds bs news → n < length olds → n < length bs
      → a ≡ get_or olds n a → b ≡ get_or bs n b → Does a b new → DoneFirst (n + 1) olds bs (set news n new)
  done_more n olds bs news a b new done within too at there does =
      subst (λ (k : ℕ). DoneFirst k olds bs (set news n new)) (sym (add-one n)) (done_next n olds bs news a b new done within too at there does)

-- elements are moved to another list; while some are left, it is not full
module _ {A B : Type 0} (f : A → B) (all : List B) (done : List B) (left : List A) (so_far : done ++ map f left ≡ all) where
  pub still_fits : (a : A) (rest : List A) → left ≡ a ∷ rest → length done < length all
  still_fits a rest is =
      let whole : length (done ++ (f a ∷ map f rest)) ≡ length all = ap length (ap (λ (xs : List A). done ++ map f xs) (sym is) ∙ so_far) in
      omega (arith, whole, length-append done (f a ∷ map f rest))

pub nothing_left : {A : Type 0} (xs : List A) → length xs ≡ 0 → xs ≡ []
nothing_left [] none = refl
nothing_left (x ∷ xs) none = absurd (omega arith)

-- What joins make of drafts.

-- a join in the tablet's range is not refused
pub joins_well : (tablet : TabletStateValue) (op : TabletOp) → IsJoinIn tablet op → step tablet op ≡ Ok (tablet_after tablet op)
joins_well tablet (Join cells marks) fit =
    subst (λ (b : Bool). (if b then Ok (with_join tablet cells marks) else Err WrongRange) ≡ Ok (after_step tablet (if b then Ok (with_join tablet cells marks) else Err WrongRange))) (sym fit) refl
joins_well tablet Lose fit = absurd fit
joins_well tablet (Adopt copy) fit = absurd fit

-- a tablet after an operation that it took
pub after_ok : (tablet next : TabletStateValue) (op : TabletOp) → step tablet op ≡ Ok next → tablet_after tablet op ≡ next
after_ok tablet next op is = ap (after_step tablet) is

-- a choice between a result and a fault, where the one result is like the other
taken_ok : {A E : Type 0} (b : Bool) (r s : Result A E) (e : E) → (IsOk r → IsOk s) → IsOk (if b then r else Err e) → IsOk (if b then s else Err e)
taken_ok true r s e alike ok = alike ok
taken_ok false r s e alike ok = ok

taken_err : {A E : Type 0} (b : Bool) (r s : Result A E) (e f : E) → (r ≡ Err f → s ≡ Err f) → (if b then r else Err e) ≡ Err f → (if b then s else Err e) ≡ Err f
taken_err true r s e f alike is = alike is
taken_err false r s e f alike is = is

copy_ok : (tablet other : TabletStateValue) (copy : TabletCopyValue) (short : Option Shortfall) → IsOk (with_copy tablet copy short) → IsOk (with_copy other copy short)
copy_ok tablet other copy None ok = refl
copy_ok tablet other copy (Some short) ok = ok

copy_err : (tablet other : TabletStateValue) (copy : TabletCopyValue) (short : Option Shortfall) (fault : OpFault) → with_copy tablet copy short ≡ Err fault → with_copy other copy short ≡ Err fault
copy_err tablet other copy None fault is = cc
copy_err tablet other copy (Some short) fault is = is

after_join : (tablet : TabletStateValue) (cells : Entries) (marks : Positions) → IsJoinIn tablet (Join cells marks) → tablet_after tablet (Join cells marks) ≡ with_join tablet cells marks
after_join tablet cells marks fit = ap (λ (b : Bool). after_step tablet (if b then Ok (with_join tablet cells marks) else Err WrongRange)) fit

ok_after : (tablet : TabletStateValue) (cells : Entries) (marks : Positions) (op : TabletOp) → IsOk (step tablet op) → IsOk (step (with_join tablet cells marks) op)
ok_after tablet cells marks (Join more others) ok =
    taken_ok (lie_in tablet.range more) (Ok (with_join tablet more others)) (Ok (with_join (with_join tablet cells marks) more others)) WrongRange (λ _. refl) ok
ok_after tablet cells marks Lose ok = refl
ok_after tablet cells marks (Adopt copy) ok =
    let short = need_shortfall tablet.status copy.marks in
    taken_ok (same_range tablet.range copy.range) (with_copy tablet copy short) (with_copy (with_join tablet cells marks) copy short) WrongRange (copy_ok tablet (with_join tablet cells marks) copy short) ok

err_after : (tablet : TabletStateValue) (cells : Entries) (marks : Positions) (op : TabletOp) (fault : OpFault) → step tablet op ≡ Err fault → step (with_join tablet cells marks) op ≡ Err fault
err_after tablet cells marks (Join more others) fault is =
    taken_err (lie_in tablet.range more) (Ok (with_join tablet more others)) (Ok (with_join (with_join tablet cells marks) more others)) WrongRange fault (λ same. cc) is
err_after tablet cells marks Lose fault is = cc
err_after tablet cells marks (Adopt copy) fault is =
    let short = need_shortfall tablet.status copy.marks in
    taken_err (same_range tablet.range copy.range) (with_copy tablet copy short) (with_copy (with_join tablet cells marks) copy short) WrongRange fault (copy_err tablet (with_join tablet cells marks) copy short fault) is

-- after a join a tablet takes what it took before it
pub stays_taken : (tablet : TabletStateValue) (join op : TabletOp) → IsJoinIn tablet join → IsOk (step tablet op) → IsOk (step (tablet_after tablet join) op)
stays_taken tablet (Join cells marks) op fit ok = subst (λ (t : TabletStateValue). IsOk (step t op)) (sym (after_join tablet cells marks fit)) (ok_after tablet cells marks op ok)
stays_taken tablet Lose op fit ok = absurd fit
stays_taken tablet (Adopt copy) op fit ok = absurd fit

-- and refuses what it refused
pub stays_refused : (tablet : TabletStateValue) (join op : TabletOp) (fault : OpFault) → IsJoinIn tablet join → step tablet op ≡ Err fault → step (tablet_after tablet join) op ≡ Err fault
stays_refused tablet (Join cells marks) op fault fit is = subst (λ (t : TabletStateValue). step t op ≡ Err fault) (sym (after_join tablet cells marks fit)) (err_after tablet cells marks op fault is)
stays_refused tablet Lose op fault fit is = absurd fit
stays_refused tablet (Adopt copy) op fault fit is = absurd fit

-- where memory runs out for the join, an operation is refused as before it
pub refused_after : (tablet : TabletStateValue) (join op : TabletOp) (found : Option OpFault) → IsJoinIn tablet join → MatchOption found (IsOk (step tablet op)) (λ fault. step tablet op ≡ Err fault)
    → Refuses is_memory (unwrap_or found Memory) (step (tablet_after tablet join) op)
refused_after tablet join op None fit right = stays_taken tablet join op fit right
refused_after tablet join op (Some fault) fit right = refused_step (tablet_after tablet join) op fault (stays_refused tablet join op fault fit right)

-- what an operation makes of a state
pub record Applies (old new : TabletStateValue) (op : TabletOp) (result : Result (Vec Change Global) OpFault) : Type 0 where
  pub ok : OnOk result (step old op ≡ Ok new)
  pub changes : IfOk result (λ list. list.items ≡ answer op old new)
  pub refused : IfErr result (λ fault. Refuses is_memory fault (step old op))
  pub err : OnErr result (new ≡ old)

-- the same of states by other names
pub applies_as : (old new was now : TabletStateValue) (op : TabletOp) (result : Result (Vec Change Global) OpFault) → was ≡ old → now ≡ new → Applies old new op result → Applies was now op result
applies_as old new was now op result was_is now_is applies =
    subst (λ (t : TabletStateValue). Applies t now op result) (sym was_is) (subst (λ (t : TabletStateValue). Applies old t op result) (sym now_is) applies)

-- Live tablets with one operation more.

-- the operation is published, and nothing else
abbrev pub Appends : PublishedTabletValue → TabletOp → PublishedTabletValue → Type 0
Appends old op new = new ≡ with_op old op

-- the first `n` tablets have their operations
abbrev pub AppendedFirst : ℕ → List PublishedTabletValue → List TabletOp → List PublishedTabletValue → Type 0
AppendedFirst n olds ops news = DoneFirst Appends n olds ops news

pub state_appended : (tablet : PublishedTabletValue) (op : TabletOp) → state_at (with_op tablet op) ≡ tablet_after (state_at tablet) op
state_appended tablet op = fold_last tablet_after (empty_tablet tablet.range) tablet.list op

pub all_first : (n : ℕ) (olds : List PublishedTabletValue) (ops : List TabletOp) (news : List PublishedTabletValue) → AppendedFirst n olds ops news → length olds ≤ n → news ≡ with_ops olds ops
all_first zero [] ops news done past = done
all_first zero (old ∷ olds) ops news done past = absurd (omega arith)
all_first (suc n) [] ops news done past = absurd done
all_first (suc n) (old ∷ olds) [] news done past = absurd done
all_first (suc n) (old ∷ olds) (op ∷ ops) [] done past = absurd done
all_first (suc n) (old ∷ olds) (op ∷ ops) (new ∷ news) done past =
    let rest = all_first n olds ops news done.1 (omega arith) in cc (done.0, rest)

pub states_appended : (olds : List PublishedTabletValue) (ops : List TabletOp) → length olds ≡ length ops → map state_at (with_ops olds ops) ≡ all_stepped (map state_at olds) ops
states_appended [] [] same = refl
states_appended [] (op ∷ ops) same = absurd (omega (arith, same))
states_appended (old ∷ olds) [] same = absurd (omega (arith, same))
states_appended (old ∷ olds) (op ∷ ops) same =
    let rest = states_appended olds ops (omega (arith, same)) in
    let here = state_appended old op in cc (here, rest)

pub books_appended : (olds : List PublishedTabletValue) (ops : List TabletOp) → books_of (with_ops olds ops) ≡ books_of olds
books_appended [] ops = refl
books_appended (old ∷ olds) [] = refl
books_appended (old ∷ olds) (op ∷ ops) = ap (λ (rest : List Book). old.book ∷ rest) (books_appended olds ops)

pub count_stepped : (olds : List PublishedTabletValue) (ops : List TabletOp) → length olds ≡ length ops → length (all_stepped (map state_at olds) ops) ≡ length olds
count_stepped [] [] same = refl
count_stepped [] (op ∷ ops) same = absurd (omega (arith, same))
count_stepped (old ∷ olds) [] same = absurd (omega (arith, same))
count_stepped (old ∷ olds) (op ∷ ops) same = ap suc (count_stepped olds ops (omega (arith, same)))

stepped_at : (olds : List PublishedTabletValue) (ops : List TabletOp) (n : ℕ) (old : PublishedTabletValue) (op : TabletOp) (d : TabletStateValue) → length olds ≡ length ops → n < length olds
    → get_or (all_stepped (map state_at olds) ops) n d ≡ tablet_after (state_at (get_or olds n old)) (get_or ops n op)
stepped_at [] ops n old op d same within = absurd (omega arith)
stepped_at (o ∷ olds) [] n old op d same within = absurd (omega (arith, same))
stepped_at (o ∷ olds) (p ∷ ops) zero old op d same within = refl
stepped_at (o ∷ olds) (p ∷ ops) (suc n) old op d same within = stepped_at olds ops n old op d (omega (arith, same)) (omega arith)

pub same_count : (olds : List PublishedTabletValue) (ops : List TabletOp) → AreJoinsIn (map state_at olds) ops → length olds ≡ length ops
same_count olds ops fit = sym (length-map olds state_at) ∙ same_length (map state_at olds) ops fit

-- the first tablets are published, and a next state and an operation are left
module _ (olds : List PublishedTabletValue) (ops : List TabletOp) (fit : AreJoinsIn (map state_at olds) ops) (n : ℕ) (news : List PublishedTabletValue) (so_far : AppendedFirst n olds ops news)
    {state : TabletStateValue} {rest : List TabletStateValue} (left : state ∷ rest ≡ drop n (all_stepped (map state_at olds) ops)) {op : TabletOp} {more : List TabletOp} (left_op : op ∷ more ≡ drop n ops) where
  same : length olds ≡ length ops
  same = same_count olds ops fit

  op_within : n < length ops
  op_within = within_of ops n op more left_op

  next_within : n < length olds
  next_within = omega (arith, op_within, same)

  op_there : op ≡ get_or ops n op
  op_there = first_of ops n op more left_op

  tablet_before : (old : PublishedTabletValue) → old ≡ get_or news n old → old ≡ get_or olds n old
  tablet_before old at = at ∙ done_at Appends n olds ops news old so_far

  pub tablet_within : n < length news
  tablet_within = omega (arith, next_within, done_count Appends n olds ops news so_far)

  -- what is published next is what the operation makes of the tablet, and it is not refused
  pub publishes_well : (old : PublishedTabletValue) → old ≡ get_or news n old → step (state_at old) op ≡ Ok state
  publishes_well old at =
      let here : get_or (map state_at olds) n (state_at old) ≡ state_at old = mapped_at state_at olds n old (state_at old) next_within ∙ ap state_at (sym (tablet_before old at)) in
      let join : IsJoinIn (state_at old) op =
      subst (λ (t : TabletStateValue). IsJoinIn t op) here
      (subst (λ (o : TabletOp). IsJoinIn (get_or (map state_at olds) n (state_at old)) o) (sym op_there) (join_at (map state_at olds) ops n (state_at old) op fit op_within)) in
      let is : state ≡ tablet_after (state_at old) op =
      first_of (all_stepped (map state_at olds) ops) n state rest left ∙ (stepped_at olds ops n old op state same next_within ∙ λ i. tablet_after (state_at (sym (tablet_before old at) i)) (sym op_there i)) in
      joins_well (state_at old) op join ∙ ap Ok (sym is)

  pub brings_positions : HavePositions ops → HasPositions op
  brings_positions have = subst HasPositions (sym op_there) (positions_at ops n op have op_within)

  pub one_appended : (old new : PublishedTabletValue) → old ≡ get_or news n old → new ≡ with_op old op → AppendedFirst (n + 1) olds ops (set news n new)
  one_appended old new at is = done_more Appends n olds ops news old op new so_far next_within op_within (tablet_before old at) op_there is

  -- one tablet more is published
  pub next_book : (old : PublishedTabletValue) → old ≡ get_or news n old → (order was : List Book) → was ≡ order ++ books_of (take n olds) → was ++ old.book ∷ [] ≡ order ++ books_of (take (n + 1) olds)
  next_book old at order was so_many =
      let more : books_of (take (n + 1) olds) ≡ books_of (take n olds) ++ old.book ∷ [] =
      ap books_of (take_more olds n old next_within)
      ∙ map-append (λ (p : PublishedTabletValue). p.book) (take n olds) (get_or olds n old ∷ [])
      ∙ ap (λ (p : PublishedTabletValue). books_of (take n olds) ++ p.book ∷ []) (sym (tablet_before old at)) in
      ap (λ (bs : List Book). bs ++ old.book ∷ []) so_many ∙ append_assoc order (books_of (take n olds)) (old.book ∷ []) ∙ ap (λ (bs : List Book). order ++ bs) (sym more)
