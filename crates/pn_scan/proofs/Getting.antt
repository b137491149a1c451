-- A get that looks up one key after another, and goes on where memory runs out.
use Rattle.std.proofs.Common.{◌≡◌, ℕ, ◌+◌, ◌<◌, ◌≤◌, ◌++◌, ◌∷◌, [], List, length, get_or, Bool, true, false, true≢false, Option, Some, None, Result, Ok, Err, Vec, Global, refl, sym, ap, ◌∙◌, subst, arith}
use Rattle.std.specs.Prelude.{IsOk, IfOk, IfErr, IfSome, IsSomeAnd, IsOkAnd, IsErrOf, ok_or, vec_capacity, vec_len}
use Rattle.std.specs.Result.{result_ok}
use Rattle.pn_record.specs.Sets.{CellValue}
use Rattle.pn_record.specs.declared.cell.Cell.{Cell}
use Rattle.pn_tablet.specs.Layouts.{Bounds, tablet_of}
use Rattle.pn_tablet.specs.Steps.{IsRight, Refuses}
use Rattle.pn_scan.specs.Pages.{Look, unless}
use Rattle.pn_scan.specs.Views.{IsGet, cells_of_keys, LooksOnce, Answers, is_memory, cell_at}
use Rattle.pn_scan.specs.declared.view.ScanFault.{ScanFault}
use Rattle.pn_scan.specs.declared.view.ScanFault.TheVariants.{Memory}
use Rattle.pn_scan.proofs.Gets.{IsGetting, getting_none, getting_more, get_fails, get_ends}
use Rattle.pn_scan.proofs.Scans.{none_refused_front}

abbrev pub Cells : Type 0
Cells = Vec (Option Cell) Global

abbrev pub Read : Type 0
Read = Result (Option CellValue) ScanFault

abbrev items_of : Cells → List (Option CellValue)
items_of cells = cells.items

-- the keys below the index were looked up, and none was refused
abbrev pub IsLooking : {V : Type 0} → (V → Look → V → Type 0) → Bounds → List (List ℕ) → ℕ → V → V → List (Option CellValue) → Type 0
IsLooking looks bounds keys index old now cells = (seen : List Look) × IsGetting looks bounds keys index old now cells seen

-- these cells are at hand, if memory did not run out
abbrev pub AreAtHand : Option Cells → List (Option CellValue) → Type 0
AreAtHand hand cells = IfSome hand (λ all. all.items ≡ cells)

abbrev pub IsLookingOn : {V : Type 0} → (V → Look → V → Type 0) → Bounds → List (List ℕ) → ℕ → V → V → Option Cells → Type 0
IsLookingOn looks bounds keys index old now hand = (cells : List (Option CellValue)) × IsLooking looks bounds keys index old now cells × AreAtHand hand cells

-- what a get has answered
abbrev pub HasGot : {V : Type 0} → (V → Look → V → Type 0) → Bounds → List (List ℕ) → V → V → Result Cells ScanFault → Type 0
HasGot looks bounds keys old new answer = (seen : List Look) × IsGet looks bounds keys old new items_of answer seen × (IsErrOf answer Memory → length seen ≡ length keys)

value_of : {A : Type 0} (right : Result A ScanFault) → IsOk right → (value : A) × (right ≡ Ok value)
value_of (Ok value) is = (value, refl)
value_of (Err why) is = absurd (cc is)

none_else : {A : Type 0} (right : Result A ScanFault) (why : ScanFault) → is_memory why ≡ true → Refuses is_memory why right → IsOk right
none_else right why memory refuses = subst (λ b. IsRight b why right) memory refuses

-- the right cell, which is the one that was read, if one was
pub found_cell : (read right : Read) → Answers (λ cell. cell) read right → IfErr read (λ why. is_memory why ≡ true) → (cell : Option CellValue) × (right ≡ Ok cell) × IfOk read (λ was. was ≡ cell)
found_cell (Ok cell) right answers memory = (cell, answers, refl)
found_cell (Err why) right answers memory = let found = value_of right (none_else right why memory answers) in (found.0, found.1, tt)

pub one_more : (was now : Option Cells) (read : Read) (cells : List (Option CellValue)) (cell : Option CellValue) → AreAtHand was cells → IfOk read (λ was. was ≡ cell)
    → IfSome now (λ now. IsSomeAnd was (λ was. IsOkAnd read (λ cell. now.items ≡ was.items ++ cell ∷ []))) → AreAtHand now (cells ++ cell ∷ [])
one_more was None read cells cell had same made = tt
one_more None (Some now) read cells cell had same made = absurd made
one_more (Some was) (Some now) (Ok x) cells cell had same made = made ∙ (λ i. had i ++ same i ∷ [])
one_more (Some was) (Some now) (Err why) cells cell had same made = absurd made

pub capacity_more : (was now : Option Cells) (count index : ℕ) → IfSome was (λ cells. (count ≤ vec_capacity cells) × (vec_len cells ≡ index))
    → IfSome now (λ now. IsSomeAnd was (λ was. (vec_len now ≡ vec_len was + 1) × (vec_capacity now ≡ vec_capacity was)))
    → IfSome now (λ cells. (count ≤ vec_capacity cells) × (vec_len cells ≡ index + 1))
capacity_more was None count index had kept = tt
capacity_more None (Some now) count index had kept = absurd kept
capacity_more (Some was) (Some now) count index had kept = (omega (arith, had.0, kept.1), omega (arith, had.1, kept.0))

pub capacity_made : {E : Type 0} (answer : Result Cells E) (hand : Option Cells) (count : ℕ) → hand ≡ result_ok answer → IfOk answer (λ cells. count ≤ vec_capacity cells)
    → IfOk answer (λ cells. vec_len cells ≡ 0) → IfSome hand (λ cells. (count ≤ vec_capacity cells) × (vec_len cells ≡ 0))
capacity_made (Ok cells) hand count is wide none = subst (λ o. IfSome o (λ cells. (count ≤ vec_capacity cells) × (vec_len cells ≡ 0))) (sym is) (wide, none)
capacity_made (Err why) hand count is wide none = subst (λ o. IfSome o (λ cells. (count ≤ vec_capacity cells) × (vec_len cells ≡ 0))) (sym is) tt

-- before the first key
pub looking_none : {V : Type 0} (looks : V → Look → V → Type 0) (bounds : Bounds) (keys : List (List ℕ)) (now : V) (hand : Option Cells) → AreAtHand hand [] → IsLookingOn looks bounds keys 0 now now hand
looking_none looks bounds keys now hand none = ([], ([], getting_none looks bounds keys now), none)

pub none_at_hand : {E : Type 0} (answer : Result Cells E) (hand : Option Cells) → hand ≡ result_ok answer → IfOk answer (λ cells. cells.items ≡ []) → AreAtHand hand []
none_at_hand (Ok cells) hand is none = subst (λ o. AreAtHand o []) (sym is) none
none_at_hand (Err why) hand is none = subst (λ o. AreAtHand o []) (sym is) tt

abbrev memory_in : Result Cells ScanFault → Bool
memory_in (Ok cells) = false
memory_in (Err why) = is_memory why

module _ {V : Type 0} {looks : V → Look → V → Type 0} {bounds : Bounds} {keys : List (List ℕ)} {index : ℕ} {old now : V} (hand : Option Cells) (looking : IsLookingOn looks bounds keys index old now hand) where
  -- one key more
  module _ {key : List ℕ} (inside : index < length keys) (at : key ≡ get_or keys index key) {same : Bounds} (is_same : same ≡ bounds) {look : Look} {new : V} {read : Read}
      (here : look.0 ≡ tablet_of same key) (once : LooksOnce looks same now new (λ cell. cell) read (cell_at key) look) where
    pub looking_more : (more : Option Cells) → IfErr read (λ why. is_memory why ≡ true)
        → IfSome more (λ now. IsSomeAnd hand (λ was. IsOkAnd read (λ cell. now.items ≡ was.items ++ cell ∷ []))) → IsLookingOn looks bounds keys (index + 1) old new more
    looking_more more memory made =
        let found = found_cell read (cell_at key look) once.answers memory in (
          looking.0 ++ found.0 ∷ [],
          (_, getting_more looking.1.1 inside at is_same here once.looked once.found found.0 refl found.1),
          one_more hand more read looking.0 found.0 looking.2 found.2 made,
        )

    pub looking_fails : {answer : Result Cells ScanFault} (why : ScanFault) → answer ≡ Err why → read ≡ Err why → is_memory why ≡ false → HasGot looks bounds keys old new answer
    looking_fails {answer} why failed is other =
        let refuses : Refuses is_memory why (cell_at key look) = subst (λ (r : Read). Answers (λ cell. cell) r (cell_at key look)) is once.answers in (
          _,
          get_fails looking.1.1 inside at is_same here once.looked once.found items_of why answer failed refuses,
          λ memory. absurd (true≢false (sym (ap memory_in (sym failed ∙ memory)) ∙ other)),
        )

  abbrev seen : List Look
  seen = looking.1.0

  out_of_memory : IsGet looks bounds keys old now items_of (Err Memory) seen
  out_of_memory = record {
    looked = looking.1.1.looked;
    found = looking.1.1.found;
    order = looking.1.1.order;
    only = λ n inside. none_refused_front n seen looking.1.1.none_refused;
    answers = subst (λ (o : Option ScanFault). IsOk (unless o (cells_of_keys keys seen))) (sym looking.1.1.none_refused) refl;
    whole = tt;
  }

  by_hand : (left : Option Cells) → AreAtHand left looking.0 → length keys ≡ index → HasGot looks bounds keys old now (ok_or left Memory)
  by_hand (Some cells) has all = (seen, get_ends looking.1.1 items_of cells has all, λ memory. absurd (cc memory))
  by_hand None has all = (seen, out_of_memory, λ memory. looking.1.1.count ∙ sym all)

  -- no key is left
  pub looking_ends : (answer : Result Cells ScanFault) → answer ≡ ok_or hand Memory → length keys ≡ index → HasGot looks bounds keys old now answer
  looking_ends answer is all = subst (HasGot looks bounds keys old now) (sym is) (by_hand hand looking.2 all)
