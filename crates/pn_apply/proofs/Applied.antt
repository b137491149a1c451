-- Items cut in two parts, and slots that are worked have taken their operations.
use Rattle.std.proofs.Common.{◌≡◌, ℕ, ◌+◌, ◌≤◌, true, false, List, ◌++◌, length, refl, sym, ap, ◌∙◌, subst, inl, inr, arith, suc, ◌<◌, [], ◌∷◌, map, get_or}
use Rattle.std.specs.Prelude.{Result, Ok, Err, OnOk, OnErr, IfOk, IsOk, IsErr, ◌⊎◌, Vec, ⊤}
use Rattle.std.proofs.lemmas.List.{length-append}
use Rattle.std.specs.declared.alloc.Global.{Global}
use Rattle.std.proofs.lemmas.Result.{IfOk-weaker, on_ok_weaker, on_err_weaker}
use Rattle.pn_join.specs.declared.memory.NoMemory.{NoMemory}
use Rattle.pn_join.specs.Marks.{Positions}
use Rattle.pn_record.specs.Cells.{Entries, table_of}
use Rattle.pn_record.specs.declared.records.Image.{Image}
use Rattle.pn_tablet.specs.Layouts.{Ends}
use Rattle.pn_tablet.specs.Tablets.{TabletStateValue}
use Rattle.pn_tablet.specs.Steps.{HasPositions, tablet_after, answer}
use Rattle.pn_tablet.specs.declared.change.Change.{Change}
use Rattle.pn_tablet.specs.declared.state.TabletOp.{TabletOp}
use Rattle.pn_tablet.specs.declared.state.TabletOp.TheVariants.{Join, Lose}
use Rattle.pn_apply.specs.Applying.{IsSpanOf, Each, EachOf, IsKept, Worked, OneOf, IsJoinIn, AreJoinsIn, HavePositions, all_stepped, all_changes, AreOldOrStepped, IsSomeOld, operation_at}
use Rattle.pn_apply.specs.declared.working.Span.{Span}
use Rattle.pn_apply.proofs.Turns.{on_err, each_low, each_high, each_joined, each_count, each_weaker, one_low, one_high, next_number}
use Rattle.pn_apply.specs.Reducing.{images_in, join_in}

-- Items cut in two parts.

never : {A : Type 0} → false ≡ true → A
never is = cc

-- where the whole ends well, so do both parts
on_both : {A B C E : Type 0} {I Q R : Type 0} (r : Result A E) (low : Result B E) (high : Result C E) → (IsOk r → IsOk low × IsOk high) → (I → Q → R) → OnOk low I → OnOk high Q → OnOk r R
on_both (Err e) low high both f p q = tt
on_both (Ok x) (Err e) high both f p q = never ((both refl).0)
on_both (Ok x) (Ok y) (Err e) both f p q = never ((both refl).1)
on_both (Ok x) (Ok y) (Ok z) both f p q = f p q

-- one part ended with an error
of_either : {B C E : Type 0} {I Q R : Type 0} (low : Result B E) (high : Result C E) → IsErr low ⊎ IsErr high → (I → R) → (Q → R) → OnErr low I → OnErr high Q → R
of_either (Ok y) high (inl is) f g p q = never is
of_either (Err e) high (inl is) f g p q = f p
of_either low (Ok z) (inr is) f g p q = never is
of_either low (Err e) (inr is) f g p q = g q

-- where the whole ends with an error, so does a part
on_either : {A B C E : Type 0} {I Q R : Type 0} (r : Result A E) (low : Result B E) (high : Result C E) → (IsErr r → IsErr low ⊎ IsErr high) → (I → R) → (Q → R) → OnErr low I → OnErr high Q → OnErr r R
on_either (Ok x) low high either f g p q = tt
on_either (Err e) low high either f g p q = of_either low high (either refl) f g p q

-- in any case
either_way : {T E : Type 0} {I Q : Type 0} (r : Result T E) → (I → Q) → OnOk r I → OnErr r Q → Q
either_way (Ok x) f ok err = f ok
either_way (Err e) f ok err = err

module _ {I M : Type 0} (turns : ℕ → I → I → Type 0) (makes : ℕ → I → M → Type 0) (kept : I → I → Type 0) where
  abbrev Results : Type 0
  Results = Result (Vec M Global) NoMemory

  abbrev tried : ℕ → I → I → Type 0
  tried n p q = turns n p q ⊎ IsKept kept p q

  both_fit : (n m : ℕ) (low high : List I) (most : ℕ) (ra rb : Results) → length low + length high ≤ most
      → IfOk ra (λ all. EachOf makes n low all.items) → IfOk rb (λ all. EachOf makes m high all.items) → IfOk ra (λ a. IfOk rb (λ b. length a.items + length b.items ≤ most))
  both_fit n m low high most (Err e) rb within p q = tt
  both_fit n m low high most (Ok x) (Err e) within p q = tt
  both_fit n m low high most (Ok x) (Ok y) within p q = omega (arith, each_count makes n low x.items p, each_count makes m high y.items q, within)

  both_made : (n : ℕ) (low high : List I) (r ra rb : Results) → (IsOk r → IsOk ra × IsOk rb)
      → IfOk r (λ all. IfOk ra (λ a. IfOk rb (λ b. all.items ≡ a.items ++ b.items)))
      → IfOk ra (λ all. EachOf makes n low all.items) → IfOk rb (λ all. EachOf makes (n + length low) high all.items) → IfOk r (λ all. EachOf makes n (low ++ high) all.items)
  both_made n low high (Err e) ra rb both all p q = tt
  both_made n low high (Ok x) (Err e) rb both all p q = never ((both refl).0)
  both_made n low high (Ok x) (Ok y) (Err e) both all p q = never ((both refl).1)
  both_made n low high (Ok x) (Ok y) (Ok z) both all p q = subst (EachOf makes n (low ++ high)) (sym all) (each_joined makes n low high y.items z.items p q)

  module _ (n : ℕ) (items low high low_now high_now : List I) (ra rb : Results) (cut : items ≡ low ++ high) (front back : ℕ) (starts : front ≡ n) (follows : back ≡ n + length low)
      (low_worked : Worked turns makes kept front low ra low_now) (high_worked : Worked turns makes kept back high rb high_now) where
    below : Worked turns makes kept n low ra low_now
    below = subst (λ (m : ℕ). Worked turns makes kept m low ra low_now) starts low_worked

    above : Worked turns makes kept (n + length low) high rb high_now
    above = subst (λ (m : ℕ). Worked turns makes kept m high rb high_now) follows high_worked

    -- the results of both parts are no more than the items
    pub whole_fits : (most : ℕ) → length items ≤ most → IfOk ra (λ a. IfOk rb (λ b. length a.items + length b.items ≤ most))
    whole_fits most within = both_fit n (n + length low) low high most ra rb (omega (arith, within, ap length cut, length-append low high)) below.made above.made

    low_tried : EachOf tried n low low_now
    low_tried = either_way ra (each_weaker turns tried n low low_now (λ m p q turned. inl turned)) below.ok below.err

    high_tried : EachOf tried (n + length low) high high_now
    high_tried = either_way rb (each_weaker turns tried (n + length low) high high_now (λ m p q turned. inl turned)) above.ok above.err

    -- the whole is worked where both parts are
    pub whole_worked : (r : Results) → (IsOk r → IsOk ra × IsOk rb) → (IsErr r → IsErr ra ⊎ IsErr rb) → IfOk r (λ all. IfOk ra (λ a. IfOk rb (λ b. all.items ≡ a.items ++ b.items)))
        → Worked turns makes kept n items r (low_now ++ high_now)
    whole_worked r both either all = subst (λ (old : List I). Worked turns makes kept n old r (low_now ++ high_now)) (sym cut) (record {
      ok = on_both r ra rb both (each_joined turns n low high low_now high_now) below.ok above.ok;
      made = both_made n low high r ra rb both all below.made above.made;
      err = on_err r (each_joined tried n low high low_now high_now low_tried high_tried);
      left = on_either r ra rb either
          (one_low (IsKept kept) low high low_now high_now)
          (one_high (IsKept kept) low high low_now high_now (each_count tried n low low_now low_tried)) below.left above.left;
    })

-- what each part's workers are given
module _ {I : Type 0} (fits : ℕ → I → Type 0) (items low high : List I) (span : Span) (cut : items ≡ low ++ high) (fit : Each fits span.first items) (spanned : IsSpanOf (length items) span) where
  counts : length items ≡ length low + length high
  counts = ap length cut ∙ length-append low high

  fit_parts : Each fits span.first (low ++ high)
  fit_parts = subst (Each fits span.first) cut fit

  pub low_span : (front : Span) → front.first ≡ span.first → front.workers ≤ length low → Each fits front.first low × IsSpanOf (length low) front
  low_span front begins enough = (
    subst (λ (m : ℕ). Each fits m low) (sym begins) (each_low fits span.first low high fit_parts),
    record { enough = enough; numbers = omega (arith, begins, counts, spanned.numbers) },
  )

  pub high_span : (back : Span) → back.first ≡ span.first + length low → back.workers ≤ length high → Each fits back.first high × IsSpanOf (length high) back
  high_span back begins enough = (
    subst (λ (m : ℕ). Each fits m high) (sym begins) (each_high fits span.first low high fit_parts),
    record { enough = enough; numbers = omega (arith, begins, counts, spanned.numbers) },
  )

-- Slots that are worked have taken their operations.

-- slots from one number on, with the operations from there on
module _ {S : Type 0} (tablet : S → TabletStateValue) (all : List TabletOp) where
  -- the operations from this number on are these
  abbrev pub Reads : ℕ → List TabletOp → Type 0
  Reads n ops = (k : ℕ) → get_or all (n + k) Lose ≡ get_or ops k Lose

  here : (n : ℕ) (o : TabletOp) (ops : List TabletOp) → Reads n (o ∷ ops) → operation_at all n ≡ o
  here n o ops reads = ap (λ (k : ℕ). get_or all k Lose) (omega arith) ∙ reads 0

  next : (n : ℕ) (o : TabletOp) (ops : List TabletOp) → Reads n (o ∷ ops) → Reads (n + 1) ops
  next n o ops reads k = ap (λ (j : ℕ). get_or all j Lose) (next_number n k) ∙ reads (suc k)

  pub reads_all : Reads 0 all
  reads_all k = ap (λ (j : ℕ). get_or all j Lose) (omega arith)

  abbrev fits : ℕ → S → Type 0
  fits n slot = (n < length all) × IsJoinIn (tablet slot) (operation_at all n) × HasPositions (operation_at all n)

  abbrev turns : ℕ → S → S → Type 0
  turns n old new = tablet new ≡ tablet_after (tablet old) (operation_at all n)

  abbrev makes : ℕ → S → Vec Change Global → Type 0
  makes n old list = list.items ≡ answer (operation_at all n) (tablet old) (tablet_after (tablet old) (operation_at all n))

  abbrev kept : S → S → Type 0
  kept old new = tablet new ≡ tablet old

  pub fit_all : (n : ℕ) (slots : List S) (ops : List TabletOp) → Reads n ops → n + length ops ≤ length all → AreJoinsIn (map tablet slots) ops → HavePositions ops → Each fits n slots
  fit_all n [] ops reads within fit have = tt
  fit_all n (s ∷ slots) [] reads within fit have = absurd fit
  fit_all n (s ∷ slots) (o ∷ ops) reads within fit have = (
    (omega (arith, within), subst (IsJoinIn (tablet s)) (sym (here n o ops reads)) fit.0, subst HasPositions (sym (here n o ops reads)) have.0),
    fit_all (n + 1) slots ops (next n o ops reads) (omega (arith, within)) fit.1 have.1,
  )

  pub stepped : (n : ℕ) (slots news : List S) (ops : List TabletOp) → Reads n ops → AreJoinsIn (map tablet slots) ops → EachOf turns n slots news → map tablet news ≡ all_stepped (map tablet slots) ops
  stepped n [] [] [] reads fit are = refl
  stepped n [] [] (o ∷ ops) reads fit are = absurd fit
  stepped n [] (q ∷ news) ops reads fit are = absurd are
  stepped n (s ∷ slots) [] ops reads fit are = absurd are
  stepped n (s ∷ slots) (q ∷ news) [] reads fit are = absurd fit
  stepped n (s ∷ slots) (q ∷ news) (o ∷ ops) reads fit are =
      λ i. (are.0 ∙ ap (tablet_after (tablet s)) (here n o ops reads)) i ∷ stepped (n + 1) slots news ops (next n o ops reads) fit.1 are.1 i

  pub changed : (n : ℕ) (slots : List S) (lists : List (Vec Change Global)) (ops : List TabletOp) → Reads n ops → AreJoinsIn (map tablet slots) ops → EachOf makes n slots lists
      → map (λ (list : Vec Change Global). list.items) lists ≡ all_changes (map tablet slots) ops
  changed n [] [] [] reads fit are = refl
  changed n [] [] (o ∷ ops) reads fit are = absurd fit
  changed n [] (q ∷ lists) ops reads fit are = absurd are
  changed n (s ∷ slots) [] ops reads fit are = absurd are
  changed n (s ∷ slots) (q ∷ lists) [] reads fit are = absurd fit
  changed n (s ∷ slots) (q ∷ lists) (o ∷ ops) reads fit are =
      λ i. (are.0 ∙ ap (λ (op : TabletOp). answer op (tablet s) (tablet_after (tablet s) op)) (here n o ops reads)) i ∷ changed (n + 1) slots lists ops (next n o ops reads) fit.1 are.1 i

  old_or_stepped_at : (n : ℕ) (s q : S) (o : TabletOp) → operation_at all n ≡ o → (turns n s q ⊎ IsKept kept s q) → ((tablet q ≡ tablet s) ⊎ (tablet q ≡ tablet_after (tablet s) o))
  old_or_stepped_at n s q o is (inl turned) = inr (turned ∙ ap (tablet_after (tablet s)) is)
  old_or_stepped_at n s q o is (inr (inl same)) = inl (ap tablet same)
  old_or_stepped_at n s q o is (inr (inr same)) = inl same

  pub are_old_or_stepped : (n : ℕ) (slots news : List S) (ops : List TabletOp) → Reads n ops → AreJoinsIn (map tablet slots) ops → EachOf (λ m s q. turns m s q ⊎ IsKept kept s q) n slots news
      → AreOldOrStepped (map tablet slots) ops (map tablet news)
  are_old_or_stepped n [] [] [] reads fit are = tt
  are_old_or_stepped n [] [] (o ∷ ops) reads fit are = absurd fit
  are_old_or_stepped n [] (q ∷ news) ops reads fit are = absurd are
  are_old_or_stepped n (s ∷ slots) [] ops reads fit are = absurd are
  are_old_or_stepped n (s ∷ slots) (q ∷ news) [] reads fit are = absurd fit
  are_old_or_stepped n (s ∷ slots) (q ∷ news) (o ∷ ops) reads fit are =
      (old_or_stepped_at n s q o (here n o ops reads) are.0, are_old_or_stepped (n + 1) slots news ops (next n o ops reads) fit.1 are.1)

  pub some_old : (slots news : List S) → OneOf (IsKept kept) slots news → IsSomeOld (map tablet slots) (map tablet news)
  some_old [] news one = absurd one
  some_old (s ∷ slots) [] one = absurd one
  some_old (s ∷ slots) (q ∷ news) (inl (inl same)) = inl (ap tablet same)
  some_old (s ∷ slots) (q ∷ news) (inl (inr same)) = inl same
  some_old (s ∷ slots) (q ∷ news) (inr one) = inr (some_old slots news one)

  -- what is worked is applied
  module _ (slots news : List S) (r : Result (Vec (Vec Change Global) Global) NoMemory) (fit : AreJoinsIn (map tablet slots) all) (worked : Worked turns makes kept 0 slots r news) where
    pub applied_ok : OnOk r (map tablet news ≡ all_stepped (map tablet slots) all)
    applied_ok = on_ok_weaker r (stepped 0 slots news all reads_all fit) worked.ok

    pub applied_changes : IfOk r (λ lists. map (λ list. list.items) lists.items ≡ all_changes (map tablet slots) all)
    applied_changes = IfOk-weaker r (λ lists. EachOf makes 0 slots lists.items) (λ lists. map (λ list. list.items) lists.items ≡ all_changes (map tablet slots) all)
        (λ lists. changed 0 slots lists.items all reads_all fit) worked.made

    pub applied_err : OnErr r (AreOldOrStepped (map tablet slots) all (map tablet news))
    applied_err = on_err_weaker r (are_old_or_stepped 0 slots news all reads_all fit) worked.err

    pub applied_left : OnErr r (IsSomeOld (map tablet slots) (map tablet news))
    applied_left = on_err_weaker r (some_old slots news) worked.left

-- any ranges may be worked
pub each_range : (n : ℕ) (ranges : List Ends) → Each (λ _ _. ⊤) n ranges
each_range n [] = tt
each_range n (range ∷ ranges) = (tt, each_range (n + 1) ranges)

module _ (marks : Positions) (images : List Image) where
  -- the cells made of ranges are the tables of the images there, and their joins are what the images bring
  pub joins_made : (n : ℕ) (ranges : List Ends) (cells : List Entries) → EachOf (λ (m : ℕ) (range : Ends) (es : Entries). es ≡ table_of (images_in range images)) n ranges cells
      → map (λ (own : Entries). Join own marks) cells ≡ map (join_in marks images) ranges
  joins_made n [] [] are = refl
  joins_made n [] (c ∷ cells) are = absurd are
  joins_made n (r ∷ ranges) [] are = absurd are
  joins_made n (r ∷ ranges) (c ∷ cells) are = λ i. Join (are.0 i) marks ∷ joins_made (n + 1) ranges cells are.1 i
