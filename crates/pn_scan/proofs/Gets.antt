-- A get that looks up one key after another.
use Rattle.std.proofs.Common.{◌≡◌, ℕ, ◌+◌, ◌<◌, ◌≤◌, List, [], ◌∷◌, ◌++◌, length, map, take, get_or, Option, None, Result, Ok, Err, refl, sym, ap, ◌∙◌, subst, arith, length-append}
use Rattle.std.specs.List.{AllByRecursion}
use Rattle.std.specs.FinMap.{find}
use Rattle.std.proofs.lemmas.List.{map-append, take_more, take-append-le}
use Rattle.pn_record.specs.Sets.{bytes_cmp, CellValue}
use Rattle.pn_tablet.specs.Layouts.{Bounds, tablet_of}
use Rattle.pn_tablet.specs.Steps.{Refuses}
use Rattle.pn_scan.specs.Pages.{Look, cells_in, refusal, first_refusal, unless}
use Rattle.pn_scan.specs.Views.{IsFoundIn, Looks, is_memory, cell_at, IsGet, cells_of_keys}
use Rattle.pn_scan.specs.declared.view.ScanFault.{ScanFault}
use Rattle.pn_scan.proofs.Scans.{looks_more, found_more, refused_last, none_refused_front, is_right_too, ok_value}

none_got : (keys : List (List ℕ)) → [] ≡ cells_of_keys keys []
none_got [] = refl
none_got (key ∷ keys) = refl

-- the cell of one key more
got_more : (keys : List (List ℕ)) (seen : List Look) (key : List ℕ) (look : Look) → length seen < length keys → key ≡ get_or keys (length seen) key → cells_of_keys keys (seen ++ look ∷ []) ≡ cells_of_keys keys seen ++ find bytes_cmp key (cells_in look.1) ∷ []
got_more [] seen key look inside here = absurd (omega arith)
got_more (k ∷ ks) [] key look inside here = λ i. find bytes_cmp (sym here i) (cells_in look.1) ∷ sym (none_got ks) i
got_more (k ∷ ks) (first ∷ seen) key look inside here = ap (λ (cells : List (Option CellValue)). find bytes_cmp k (cells_in first.1) ∷ cells) (got_more ks seen key look (omega arith) here)

-- a get so far: one key after another was found
pub record IsGetting {V : Type 0} (looks : V → Look → V → Type 0) (bounds : Bounds) (keys : List (List ℕ)) (index : ℕ) (old now : V) (cells : List (Option CellValue)) (seen : List Look) : Type 0 where
  pub looked : Looks looks old seen now
  pub found : AllByRecursion (IsFoundIn bounds) seen
  pub count : length seen ≡ index
  pub order : map (λ look. look.0) seen ≡ map (tablet_of bounds) (take (length seen) keys)
  pub none_refused : first_refusal seen ≡ None
  pub got : cells ≡ cells_of_keys keys seen

pub getting_none : {V : Type 0} (looks : V → Look → V → Type 0) (bounds : Bounds) (keys : List (List ℕ)) (now : V) → IsGetting looks bounds keys 0 now now [] []
getting_none looks bounds keys now = record { looked = refl; found = tt; count = refl; order = refl; none_refused = refl; got = none_got keys }

module _ {V : Type 0} {looks : V → Look → V → Type 0} {bounds : Bounds} {keys : List (List ℕ)} {index : ℕ} {old now : V} {cells : List (Option CellValue)} {seen : List Look} (getting : IsGetting looks bounds keys index old now cells seen) where
  -- one look more
  module _ {key : List ℕ} (inside : index < length keys) (at : key ≡ get_or keys index key) {look : Look} {new : V} {same : Bounds} (is : same ≡ bounds) (here : look.0 ≡ tablet_of same key) (looked : looks now look new) (there : IsFoundIn same look) where
    found : IsFoundIn bounds look
    found = subst (λ (b : Bounds). IsFoundIn b look) is there

    size : length (seen ++ look ∷ []) ≡ length seen + 1
    size = length-append seen (look ∷ [])

    at_end : key ≡ get_or keys (length seen) key
    at_end = at ∙ ap (λ n. get_or keys n key) (sym getting.count)

    order : map (λ look. look.0) (seen ++ look ∷ []) ≡ map (tablet_of bounds) (take (length (seen ++ look ∷ [])) keys)
    order =
        map-append (λ (other : Look). other.0) seen (look ∷ [])
        ∙ (λ i. getting.order i ++ (here ∙ ap (λ b. tablet_of b key) is ∙ ap (tablet_of bounds) at_end) i ∷ [])
        ∙ sym (map-append (tablet_of bounds) (take (length seen) keys) (get_or keys (length seen) key ∷ []))
        ∙ ap (map (tablet_of bounds)) (sym (take_more keys (length seen) key (omega (arith, getting.count))) ∙ ap (λ n. take n keys) (sym size))

    only : (n : ℕ) → n < length (seen ++ look ∷ []) → first_refusal (take n (seen ++ look ∷ [])) ≡ None
    only n within =
        let short : n ≤ length seen = omega (arith, size, within) in
        ap first_refusal (take-append-le n seen (look ∷ []) short) ∙ none_refused_front n seen getting.none_refused

    refused : first_refusal (seen ++ look ∷ []) ≡ refusal look
    refused = refused_last seen look getting.none_refused

    pub get_fails : {A : Type 0} (show : A → List (Option CellValue)) (why : ScanFault) (answer : Result A ScanFault) → answer ≡ Err why → Refuses is_memory why (cell_at key look) → IsGet looks bounds keys old new show answer (seen ++ look ∷ [])
    get_fails {A} show why answer failed refuses = subst (λ (a : Result A ScanFault). IsGet looks bounds keys old new show a (seen ++ look ∷ [])) (sym failed) (record {
      looked = looks_more looks old now new seen look getting.looked looked;
      found = found_more bounds seen look getting.found found;
      order = order;
      only = only;
      answers = subst (λ (o : Option ScanFault). Refuses is_memory why (unless o (cells_of_keys keys (seen ++ look ∷ [])))) (sym refused)
          (is_right_too (is_memory why) why (refusal look) _ (cells_of_keys keys (seen ++ look ∷ [])) refuses);
      whole = tt;
    })

    pub getting_more : (cell : Option CellValue) {more : List (Option CellValue)} → more ≡ cells ++ cell ∷ [] → cell_at key look ≡ Ok cell → IsGetting looks bounds keys (index + 1) old new more (seen ++ look ∷ [])
    getting_more cell pushed right =
        let parts = ok_value (refusal look) _ cell right in
        record {
          looked = looks_more looks old now new seen look getting.looked looked;
          found = found_more bounds seen look getting.found found;
          count = size ∙ ap (λ n. n + 1) getting.count;
          order = order;
          none_refused = refused ∙ parts.0;
          got = pushed ∙ (λ i. getting.got i ++ parts.1 i ∷ []) ∙ sym (got_more keys seen key look (omega (arith, getting.count)) at_end);
        }

  -- where every key was found, all are
  pub get_ends : {A : Type 0} (show : A → List (Option CellValue)) (answer : A) → show answer ≡ cells → length keys ≡ index → IsGet looks bounds keys old now show (Ok answer) seen
  get_ends show answer shows all = record {
    looked = getting.looked;
    found = getting.found;
    order = getting.order;
    only = λ n inside. none_refused_front n seen getting.none_refused;
    answers = ap (λ (o : Option ScanFault). unless o (cells_of_keys keys seen)) getting.none_refused ∙ ap (λ (l : List (Option CellValue)). Ok l) (sym getting.got ∙ sym shows);
    whole = getting.count ∙ sym all;
  }
