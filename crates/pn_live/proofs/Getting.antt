-- A get that looks up one key after another, goes on where memory runs out, and is resumed.
use Rattle.std.proofs.Common.{◌≡◌, ℕ, ◌+◌, ◌<◌, List, [], ◌∷◌, ◌++◌, length, map, take, get_or, true, Option, Some, None, Ok, Err, refl, sym, ap, ◌∙◌, subst, arith, length-append, Result}
use Rattle.std.specs.Prelude.{IfErr, IfSome, IsSomeAnd, IsOkAnd, option_map}
use Rattle.std.specs.List.{AllByRecursion}
use Rattle.std.proofs.lemmas.List.{length-map}
use Rattle.pn_record.specs.Sets.{CellValue}
use Rattle.pn_tablet.specs.Layouts.{Bounds, tablet_of}
use Rattle.pn_tablet.specs.Steps.{Refuses}
use Rattle.pn_scan.specs.Pages.{Look, first_refusal, unless}
use Rattle.pn_scan.specs.Paging.{Follows, LookMade, looks_in, Gaps, LooksAfter, Moving}
use Rattle.pn_scan.specs.Views.{cells_of_keys, IsGet, Answers, IsFoundIn, Looks, LooksOnce, cell_at, is_memory}
use Rattle.pn_scan.specs.declared.view.ScanFault.{ScanFault}
use Rattle.pn_scan.specs.declared.view.ScanFault.TheVariants.{Memory}
use Rattle.pn_scan.proofs.Gets.{IsGetting, getting_more, get_fails, get_ends}
use Rattle.pn_scan.proofs.Paging.{made_more, looks_more, looks_after}
use Rattle.pn_scan.proofs.Scans.{none_refused_front}
use Rattle.pn_scan.proofs.Getting.{Cells, Read, AreAtHand, found_cell, one_more}
use Rattle.pn_live.specs.Lookups.{IsOnGet, EndsGet, GetWalkValue, IsNewGet}
use Rattle.pn_live.specs.Readers.{LiveReaderValue, LooksLive}

-- Gets that are resumed, key by key.

-- the cells that are at hand, if memory did not run out
abbrev pub at_hand : Option Cells → Option (List (Option CellValue))
at_hand cells = option_map (λ cells. cells.items) cells

hand_of : (hand : Option Cells) (cells : List (Option CellValue)) → IfSome (at_hand hand) (λ all. all ≡ cells) → AreAtHand hand cells
hand_of None cells has = tt
hand_of (Some all) cells has = has

pub of_hand : (hand : Option Cells) (cells : List (Option CellValue)) → AreAtHand hand cells → IfSome (at_hand hand) (λ all. all ≡ cells)
of_hand None cells has = tt
of_hand (Some all) cells has = has

-- nothing is asked of a look
abbrev AnyLook : Unit {0} → Look → Unit {0} → Type 0
AnyLook old look new = Unit {0}

any_looks : (seen_so_far : List Look) → Looks AnyLook tt seen_so_far tt
any_looks [] = refl
any_looks (look ∷ seen_so_far) = (tt, tt, any_looks seen_so_far)

-- one look more, with nothing before it
pub follows_more : {V : Type 0} (old mid : V) (more : List (LookMade V)) (made : LookMade V) → Follows old more mid → made.old ≡ mid → Follows old (more ++ made ∷ []) made.new
follows_more old mid [] made follows here = (here ∙ follows, refl)
follows_more old mid (first ∷ more) made follows here = (follows.0, follows_more first.new mid more made follows.1 here)

module _ {bounds : Bounds} {keys : List (List ℕ)} {read : ℕ} {trace : List (LookMade LiveReaderValue)} (hand : Option Cells)
    (on : IsOnGet bounds (record { keys = keys; cells = at_hand hand; read = read }) trace) where
  abbrev seen_so_far : List Look
  seen_so_far = looks_in trace

  size : length seen_so_far ≡ read
  size = length-map trace (λ made. made.look) ∙ on.count

  getting : IsGetting AnyLook bounds keys read tt tt (cells_of_keys keys seen_so_far) seen_so_far
  getting = record {
    looked = any_looks seen_so_far;
    found = on.found;
    count = size;
    order = on.order ∙ ap (λ n. map (tablet_of bounds) (take n keys)) (sym size);
    none_refused = on.none_refused;
    got = refl;
  }

  -- after the last key
  pub get_done : (cells : Cells) → hand ≡ Some cells → read ≡ length keys → EndsGet bounds keys (Ok cells.items) trace
  get_done cells is all =
      let same : cells.items ≡ cells_of_keys keys seen_so_far = subst (λ o. AreAtHand o (cells_of_keys keys seen_so_far)) is (hand_of hand (cells_of_keys keys seen_so_far) on.cells_are) in
      let got = get_ends getting (λ (cells : List (Option CellValue)). cells) cells.items same (sym all) in
      record { made = on.made; found = got.found; order = got.order; only = got.only; answers = got.answers; whole = got.whole }

  pub get_done_without_memory : EndsGet bounds keys (Err Memory) trace
  get_done_without_memory = record {
    made = on.made;
    found = on.found;
    order = getting.order;
    only = λ n inside. none_refused_front n seen_so_far on.none_refused;
    answers = subst (λ (o : Option ScanFault). Refuses is_memory Memory (unless o (cells_of_keys keys seen_so_far))) (sym on.none_refused) refl;
    whole = tt;
  }

  -- one key more
  module _ {key : List ℕ} (inside : read < length keys) (at : key ≡ get_or keys read key) {old : LiveReaderValue} (same : old.layout ≡ bounds) {look : Look} {new : LiveReaderValue} {found : Read}
      (here : look.0 ≡ tablet_of old.layout key) (once : LooksOnce LooksLive old.layout old new (λ cell. cell) found (cell_at key) look) where
    abbrev made : LookMade LiveReaderValue
    made = record { old = old; look = look; new = new }

    are_all : looks_in (trace ++ made ∷ []) ≡ seen_so_far ++ look ∷ []
    are_all = looks_more trace made

    pub key_read : (more : Option Cells) → IfErr found (λ why. is_memory why ≡ true) → IfSome more (λ now. IsSomeAnd hand (λ was. IsOkAnd found (λ cell. now.items ≡ was.items ++ cell ∷ [])))
        → IsOnGet bounds (record { keys = keys; cells = at_hand more; read = read + 1 }) (trace ++ made ∷ [])
    key_read more memory made_so =
        let cell = found_cell found (cell_at key look) once.answers memory in
        let now = getting_more getting inside at {new = tt} same here tt once.found cell.0 refl cell.1 in
        record {
          made = made_more LooksLive trace made on.made once.looked;
          found = subst (AllByRecursion (IsFoundIn bounds)) (sym are_all) now.found;
          count = omega (arith, length-append trace (made ∷ []), on.count);
          order = ap (map (λ look. look.0)) are_all ∙ now.order ∙ ap (λ n. map (tablet_of bounds) (take n keys)) now.count;
          none_refused = ap first_refusal are_all ∙ now.none_refused;
          cells_are = of_hand more (cells_of_keys keys (looks_in (trace ++ made ∷ []))) (subst (AreAtHand more) (now.got ∙ ap (cells_of_keys keys) (sym are_all))
              (one_more hand more found (cells_of_keys keys seen_so_far) cell.0 (hand_of hand (cells_of_keys keys seen_so_far) on.cells_are) cell.2 made_so));
        }

    pub key_refused : (why : ScanFault) → found ≡ Err why → EndsGet bounds keys (Err why) (trace ++ made ∷ [])
    key_refused why is =
        let got = get_fails getting inside at {new = tt} same here tt once.found (λ (cells : List (Option CellValue)). cells) why (Err why) refl (subst (λ (r : Read). Answers (λ cell. cell) r (cell_at key look)) is once.answers) in
        record {
          made = made_more LooksLive trace made on.made once.looked;
          found = subst (AllByRecursion (IsFoundIn bounds)) (sym are_all) got.found;
          order = subst (λ (l : List Look). map (λ look. look.0) l ≡ map (tablet_of bounds) (take (length l) keys)) (sym are_all) got.order;
          only = subst (λ (l : List Look). (n : ℕ) → n < length l → first_refusal (take n l) ≡ None) (sym are_all) got.only;
          answers = subst (λ (l : List Look). Answers (λ (cells : List (Option CellValue)). cells) (Err why) (unless (first_refusal l) (cells_of_keys keys l))) (sym are_all) got.answers;
          whole = tt;
        }

-- A get that goes on from its first key to its last.

none_read : (keys : List (List ℕ)) → [] ≡ cells_of_keys keys []
none_read [] = refl
none_read (key ∷ keys) = refl

no_cells_yet : (cells : Option (List (Option CellValue))) (keys : List (List ℕ)) → IfSome cells (λ cells. cells ≡ []) → IfSome cells (λ cells. cells ≡ cells_of_keys keys [])
no_cells_yet None keys none = tt
no_cells_yet (Some cells) keys none = none ∙ none_read keys

-- keys of which none was read
pub new_get : (bounds : Bounds) (keys : List (List ℕ)) (walk : GetWalkValue) → IsNewGet keys walk → IsOnGet bounds walk []
new_get bounds keys walk new = record {
  made = tt;
  found = tt;
  count = sym new.none_read;
  order = ap (λ n. map (tablet_of bounds) (take n walk.keys)) (sym new.none_read);
  none_refused = refl;
  cells_are = no_cells_yet walk.cells walk.keys new.cells_are;
}

-- a get that was made by looks between which the reader moved
pub got : (moves : Moving LiveReaderValue) (bounds : Bounds) (keys : List (List ℕ)) (was now : LiveReaderValue) (answer : Result (List (Option CellValue)) ScanFault) (trace : List (LookMade LiveReaderValue)) → EndsGet bounds keys answer trace
    → Gaps moves was trace now → (reached : LiveReaderValue) × IsGet (LooksAfter moves LooksLive) bounds keys was reached (λ cells. cells) answer (looks_in trace) × moves reached now
got moves bounds keys was now answer trace ends gaps =
    let there = looks_after moves LooksLive was now trace ends.made gaps in (
      there.0,
      record {
        looked = there.1;
        found = ends.found;
        order = ends.order;
        only = ends.only;
        answers = ends.answers;
        whole = ends.whole;
      },
      there.2,
    )
