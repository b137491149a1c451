-- A text is read as a copy exactly where it spells the copy.
use Rattle.std.proofs.Common.{◌≡◌, ℕ, suc, ◌+◌, ◌-◌, ◌==◌, ◌≤◌, Bool, true, ◌&&◌, List, [], ◌∷◌, ◌++◌, map, length, Option, Some, None, is_some, Ok, refl, sym, ap, ◌∙◌, subst, append_assoc, append-nil, arith, eq-eqb, eqb-true}
use Rattle.std.proofs.lemmas.Bool.{and_parts, and_from, false≢true}
use Rattle.std.specs.List.{list_all}
use Rattle.std.specs.Option.{option_map_or}
use Rattle.std.specs.Ordering.{is_lt}
use Rattle.std.specs.FinMap.{is_sorted}
use Rattle.std.specs.FinMap.Entries.{below_all}
use Rattle.pn_json.specs.Answers.{◌>>=◌}
use Rattle.pn_json.proofs.LookUps.{bind_ok, guard_ok, no_fault, passed}
use Rattle.pn_join.specs.Marks.{Positions, name_cmp}
use Rattle.pn_record.specs.declared.records.Image.{Image}
use Rattle.pn_record.specs.Cells.{table_of, adds}
use Rattle.pn_record.specs.Reading.{IsLine}
use Rattle.pn_record.proofs.CellMaps.{adds-table_of, table_of-nil}
use Rattle.pn_tablet.specs.Copies.{TabletCopyValue, DraftValue, copy_of_draft}
use Rattle.pn_tablet.specs.CopyTexts.{IsValue, AreLines, comes_after, images_rise}
use Rattle.pn_tablet.specs.CopyReading.{line_at, is_over, with_mark, with_image, finish, after, read_on}
use Rattle.pn_tablet.specs.Layouts.{Ends, in_range}
use Rattle.pn_tablet.specs.declared.copy.Form.{Form}
use Rattle.pn_tablet.specs.declared.copy_line.CopyLine.{CopyLine}
use Rattle.pn_tablet.specs.declared.copy_line.CopyLine.TheVariants.{Mark, Record, End}
use Rattle.pn_tablet.specs.declared.fault.CopyTextFault.TheVariants.{BadLine, OutsideRange, NotRising, BadEnd}
use Rattle.pn_tablet.proofs.CopySteps.{read_on-cons, then_ok}
use Rattle.pn_tablet.proofs.CopyValues.{line_at-again, line_at-found}
use Rattle.pn_tablet.proofs.Keeping.{is_after_all}

-- the images rise after the last one, if there is one
abbrev pub rise_after : Option Image → List Image → Bool
rise_after None images = images_rise images
rise_after (Some last) images = images_rise (last ∷ images)

abbrev pub all_inside : Ends → List Image → Bool
all_inside range images = list_all (λ image. in_range range image.key) images

-- the lines of marks, images and an end
abbrev pub lines_with : Positions → List Image → ℕ → List CopyLine
lines_with marks images count = map (λ mark. Mark mark.0 mark.1) marks ++ (map Record images ++ End count ∷ [])

some_after : (lines : List (List ℕ)) → (piece : List ℕ) × (more : List (List ℕ)) × (lines ++ [] ∷ [] ≡ piece ∷ more)
some_after [] = ([], [], refl)
some_after (line ∷ lines) = (line, lines ++ [] ∷ [], refl)

-- ---- a text that spells a copy is read as it

pub first_after : (last : Option Image) (image : Image) (images : List Image) → rise_after last (image ∷ images) ≡ true → (option_map_or (λ l. comes_after l image) last true ≡ true) × (rise_after (Some image) images ≡ true)
first_after None image images rise = (refl, rise)
first_after (Some last) image images rise = and_parts (comes_after last image) (images_rise (image ∷ images)) rise

draft_with : Ends → Positions → List Image → Option Image → DraftValue
draft_with range marks done last = record { range = range; marks = marks; cells = table_of done; last = last }

counted : (n : ℕ) (count : ℕ) → count ≡ n - 2 → (count == n - 2) ≡ true
counted n count is = eq-eqb count (n - 2) is

module _ (form : Form) (range : Ends) (marks : Positions) where
  images_again : (n : ℕ) (done : List Image) (last : Option Image) (images : List Image) (lines : List (List ℕ)) (count : ℕ) → 2 ≤ n → count ≡ n - 2 + length images
      → AreLines form lines (map Record images ++ End count ∷ []) → rise_after last images ≡ true → all_inside range images ≡ true
      → read_on form n (record { range = range; marks = marks; cells = table_of done; last = last }) (lines ++ [] ∷ []) ≡ Ok (record { range = range; marks = marks; cells = table_of (done ++ images) })
  images_again n done last [] [] count some counts are rise inside = absurd are
  images_again n done last [] (line ∷ next ∷ lines) count some counts are rise inside = absurd are.1
  images_again n done last [] (line ∷ []) count some counts are rise inside =
      let draft : DraftValue = record { range = range; marks = marks; cells = table_of done; last = last } in
      let right : (count == n - 2) ≡ true = eq-eqb count (n - 2) (omega (arith, counts)) in
      read_on-cons form n draft line [] ([] ∷ []) [] refl
      ∙ then_ok _ _ (End count) (line_at-again (BadLine n) form line (End count) are.0)
      ∙ rw right (ap (λ images. Ok (record { range = range; marks = marks; cells = table_of images })) (sym (append-nil done)))
  images_again n done last (image ∷ images) [] count some counts are rise inside = absurd are
  images_again n done last (image ∷ images) (line ∷ lines) count some counts are rise inside =
      let draft : DraftValue = record { range = range; marks = marks; cells = table_of done; last = last } in
      let (piece, more, is) = some_after lines in
      let later = first_after last image images rise in
      let within = and_parts (in_range range image.key) (all_inside range images) inside in
      let grown : adds (table_of done) (image ∷ []) ≡ table_of (done ++ image ∷ []) = adds-table_of done (image ∷ []) in
      let longer : DraftValue = record { range = range; marks = marks; cells = table_of (done ++ image ∷ []); last = Some image } in
      let taken : with_image n draft image ≡ Ok longer = rw (within.0, later.0, grown) refl in
      read_on-cons form n draft line piece (lines ++ [] ∷ []) more is
      ∙ then_ok _ _ (Record image) (line_at-again (BadLine n) form line (Record image) are.0)
      ∙ then_ok (with_image n draft image) (λ d. read_on form (n + 1) d (lines ++ [] ∷ [])) longer taken
      ∙ images_again (n + 1) (done ++ image ∷ []) (Some image) images lines count (omega (arith, some)) (omega (arith, counts, some)) are.1 later.1 within.1
      ∙ ap (λ all. Ok (record { range = range; marks = marks; cells = table_of all })) (append_assoc done (image ∷ []) images)

pub sorted_after : (marks : Positions) (mark : List ℕ × ℕ) (rest : Positions) → is_sorted name_cmp (marks ++ mark ∷ rest) ≡ true → is_after_all marks mark.0 ≡ true
sorted_after [] mark rest sorted = refl
sorted_after (first ∷ marks) mark rest sorted =
    let parts = and_parts (below_all name_cmp first.0 (marks ++ mark ∷ rest)) (is_sorted name_cmp (marks ++ mark ∷ rest)) sorted in
    and_from _ _ (below_there marks parts.0) (sorted_after marks mark rest parts.1)
  where
    below_there : (others : Positions) → below_all name_cmp first.0 (others ++ mark ∷ rest) ≡ true → is_lt (name_cmp first.0 mark.0) ≡ true
    below_there [] below = (and_parts (is_lt (name_cmp first.0 mark.0)) (below_all name_cmp first.0 rest) below).0
    below_there (other ∷ others) below = below_there others (and_parts (is_lt (name_cmp first.0 other.0)) (below_all name_cmp first.0 (others ++ mark ∷ rest)) below).1

module _ (form : Form) (range : Ends) (images : List Image) (rise : images_rise images ≡ true) (inside : all_inside range images ≡ true) where
  pub lines_again : (n : ℕ) (marks more : Positions) (lines : List (List ℕ)) (count : ℕ) → 2 ≤ n → count ≡ n - 2 + (length more + length images)
      → AreLines form lines (lines_with more images count) → is_sorted name_cmp (marks ++ more) ≡ true
      → read_on form n (record { range = range; marks = marks; cells = []; last = None }) (lines ++ [] ∷ []) ≡ Ok (record { range = range; marks = marks ++ more; cells = table_of images })
  lines_again n marks [] lines count some counts are sorted =
      ap (λ cells. read_on form n (record { range = range; marks = marks; cells = cells; last = None }) (lines ++ [] ∷ [])) (sym table_of-nil)
      ∙ images_again form range marks n [] None images lines count some (omega (arith, counts)) are rise inside
      ∙ ap (λ all. Ok (record { range = range; marks = all; cells = table_of images })) (sym (append-nil marks))
  lines_again n marks (mark ∷ more) [] count some counts are sorted = absurd are
  lines_again n marks (mark ∷ more) (line ∷ lines) count some counts are sorted =
      let draft : DraftValue = record { range = range; marks = marks; cells = []; last = None } in
      let (piece, rest, is) = some_after lines in
      let longer : DraftValue = record { range = range; marks = marks ++ mark ∷ []; cells = []; last = None } in
      let taken : with_mark n draft (mark.0, mark.1) ≡ Ok longer = rw (sorted_after marks mark more sorted) refl in
      read_on-cons form n draft line piece (lines ++ [] ∷ []) rest is
      ∙ then_ok _ _ (Mark mark.0 mark.1) (line_at-again (BadLine n) form line (Mark mark.0 mark.1) are.0)
      ∙ then_ok (with_mark n draft (mark.0, mark.1)) (λ d. read_on form (n + 1) d (lines ++ [] ∷ [])) longer taken
      ∙ lines_again (n + 1) (marks ++ mark ∷ []) more lines count (omega (arith, some)) (omega (arith, counts, some)) are.1
      (ap (is_sorted name_cmp) (append_assoc marks (mark ∷ []) more) ∙ sorted)
      ∙ ap (λ all. Ok (record { range = range; marks = all; cells = table_of images })) (append_assoc marks (mark ∷ []) more)

-- ---- and a text that is read as a copy spells it

pub sorted_push : (marks : Positions) (name : List ℕ) (n : ℕ) → is_sorted name_cmp marks ≡ true → is_after_all marks name ≡ true → is_sorted name_cmp (marks ++ (name, n) ∷ []) ≡ true
sorted_push [] name n sorted later = refl
sorted_push (first ∷ marks) name n sorted later =
    let parts = and_parts (below_all name_cmp first.0 marks) (is_sorted name_cmp marks) sorted in
    let after_parts = and_parts (is_lt (name_cmp first.0 name)) (is_after_all marks name) later in
    and_from _ _ (below_push marks parts.0 after_parts.0) (sorted_push marks name n parts.1 after_parts.1)
  where
    below_push : (others : Positions) → below_all name_cmp first.0 others ≡ true → is_lt (name_cmp first.0 name) ≡ true → below_all name_cmp first.0 (others ++ (name, n) ∷ []) ≡ true
    below_push [] below less = and_from _ _ less refl
    below_push (other ∷ others) below less =
        let parts = and_parts (is_lt (name_cmp first.0 other.0)) (below_all name_cmp first.0 others) below in
        and_from _ _ parts.0 (below_push others parts.1 less)

-- the pieces are those of lines of marks, images and an end, which make the copy of what was read before them
pub record Follow (form : Form) (n : ℕ) (draft : DraftValue) (done : List Image) (pieces : List (List ℕ)) (copy : TabletCopyValue) : Type 0 where
  pub lines : List (List ℕ)
  pub marks : Positions
  pub images : List Image
  pub pieces_are : pieces ≡ lines ++ [] ∷ []
  pub lines_are : AreLines form lines (lines_with marks images (n - 2 + (length marks + length images)))
  pub no_marks : is_some draft.last ≡ true → marks ≡ []
  pub sorted : is_sorted name_cmp draft.marks ≡ true → is_sorted name_cmp (draft.marks ++ marks) ≡ true
  pub rise : rise_after draft.last images ≡ true
  pub inside : all_inside draft.range images ≡ true
  pub copy_is : copy ≡ record { range = draft.range; marks = draft.marks ++ marks; cells = table_of (done ++ images) }

over_is : (pieces : List (List ℕ)) → is_over pieces ≡ true → pieces ≡ [] ∷ []
over_is [] is = absurd (cc)
over_is ([] ∷ []) is = refl
over_is ([] ∷ piece ∷ pieces) is = absurd (cc)
over_is ((b ∷ line) ∷ pieces) is = absurd (cc)

after_first : (last : Option Image) (image : Image) (images : List Image) → option_map_or (λ l. comes_after l image) last true ≡ true → images_rise (image ∷ images) ≡ true → rise_after last (image ∷ images) ≡ true
after_first None image images later rise = rise
after_first (Some last) image images later rise = and_from _ _ later rise

module _ (form : Form) (n : ℕ) (draft : DraftValue) (done : List Image) (line : List ℕ) (pieces : List (List ℕ)) (copy : TabletCopyValue) (some : 2 ≤ n) (cells_are : draft.cells ≡ table_of done)
    (next : (longer : DraftValue) (more : List Image) → longer.cells ≡ table_of more → read_on form (n + 1) longer pieces ≡ Ok copy → Follow form (n + 1) longer more pieces copy) where
  follow_end : (count : ℕ) → IsLine (IsValue form) line (End count) → finish n draft count (is_over pieces) ≡ Ok copy → Follow form n draft done (line ∷ pieces) copy
  follow_end count line_is is =
      let parts = guard_ok (count == n - 2 && is_over pieces) (copy_of_draft draft) copy BadEnd is in
      let tests = and_parts (count == n - 2) (is_over pieces) parts.0 in
      let counts : count ≡ n - 2 + 0 = omega (arith, eqb-true count (n - 2) tests.0) in
      record {
        lines = line ∷ [];
        marks = [];
        images = [];
        pieces_are = ap (λ l. line ∷ l) (over_is pieces tests.1);
        lines_are = (subst (λ m. IsLine (IsValue form) line (End m)) counts line_is, tt);
        no_marks = λ _. refl;
        sorted = λ sorted. ap (is_sorted name_cmp) (append-nil draft.marks) ∙ sorted;
        rise = rise_none draft.last;
        inside = refl;
        copy_is = sym parts.1 ∙ (λ i. record { range = draft.range; marks = (sym (append-nil draft.marks)) i; cells = (cells_are ∙ ap table_of (sym (append-nil done))) i });
      }
    where
      rise_none : (last : Option Image) → rise_after last [] ≡ true
      rise_none None = refl
      rise_none (Some last) = refl

  follow_mark : (name : List ℕ) (position : ℕ) → IsLine (IsValue form) line (Mark name position) → (with_mark n draft (name, position) >>= (λ longer. read_on form (n + 1) longer pieces)) ≡ Ok copy → Follow form n draft done (line ∷ pieces) copy
  follow_mark name position line_is is =
      let taken = bind_ok (with_mark n draft (name, position)) _ copy is in
      let no_image = no_fault (is_some draft.last) (BadLine n) _ taken.0 taken.1 in
      let later = guard_ok (is_after_all draft.marks name) (record draft { marks = draft.marks ++ (name, position) ∷ [] }) taken.0 (NotRising n) no_image.1 in
      let longer : DraftValue = record draft { marks = draft.marks ++ (name, position) ∷ [] } in
      let f = next longer done cells_are (ap (λ (d : DraftValue). read_on form (n + 1) d pieces) later.1 ∙ taken.2) in
      let joined : (draft.marks ++ (name, position) ∷ []) ++ f.marks ≡ draft.marks ++ (name, position) ∷ f.marks = append_assoc draft.marks ((name, position) ∷ []) f.marks in
      let counts : n + 1 - 2 + (length f.marks + length f.images) ≡ n - 2 + (suc (length f.marks) + length f.images) = omega (arith, some) in
      record {
        lines = line ∷ f.lines;
        marks = (name, position) ∷ f.marks;
        images = f.images;
        pieces_are = ap (λ l. line ∷ l) f.pieces_are;
        lines_are = (line_is, subst (λ count. AreLines form f.lines (lines_with f.marks f.images count)) counts f.lines_are);
        no_marks = λ image. absurd (false≢true (sym no_image.0 ∙ image));
        sorted = λ sorted. ap (is_sorted name_cmp) (sym joined) ∙ f.sorted (sorted_push draft.marks name position sorted later.0);
        rise = f.rise;
        inside = f.inside;
        copy_is = f.copy_is ∙ ap (λ (all : Positions). record { range = draft.range; marks = all; cells = table_of (done ++ f.images) }) joined;
      }

  follow_image : (image : Image) → IsLine (IsValue form) line (Record image) → (with_image n draft image >>= (λ longer. read_on form (n + 1) longer pieces)) ≡ Ok copy → Follow form n draft done (line ∷ pieces) copy
  follow_image image line_is is =
      let taken = bind_ok (with_image n draft image) _ copy is in
      let here = passed (in_range draft.range image.key) (OutsideRange n) _ taken.0 taken.1 in
      let later = guard_ok (option_map_or (λ last. comes_after last image) draft.last true) (record draft { cells = adds draft.cells (image ∷ []); last = Some image }) taken.0 (NotRising n) here.1 in
      let longer : DraftValue = record draft { cells = adds draft.cells (image ∷ []); last = Some image } in
      let f = next longer (done ++ image ∷ []) (ap (λ cells. adds cells (image ∷ [])) cells_are ∙ adds-table_of done (image ∷ [])) (ap (λ (d : DraftValue). read_on form (n + 1) d pieces) later.1 ∙ taken.2) in
      let none : f.marks ≡ [] = f.no_marks refl in
      let counts : n + 1 - 2 + (0 + length f.images) ≡ n - 2 + (0 + suc (length f.images)) = omega (arith, some) in
      record {
        lines = line ∷ f.lines;
        marks = [];
        images = image ∷ f.images;
        pieces_are = ap (λ l. line ∷ l) f.pieces_are;
        lines_are = (line_is, subst (λ count. AreLines form f.lines (lines_with [] f.images count)) counts (subst (λ marks. AreLines form f.lines (lines_with marks f.images (n + 1 - 2 + (length marks + length f.images)))) none f.lines_are));
        no_marks = λ _. refl;
        sorted = λ sorted. ap (is_sorted name_cmp) (append-nil draft.marks) ∙ sorted;
        rise = after_first draft.last image f.images later.0 f.rise;
        inside = and_from _ _ here.0 f.inside;
        copy_is = f.copy_is ∙ (λ i. record { range = draft.range; marks = draft.marks ++ none i; cells = table_of (append_assoc done (image ∷ []) f.images i) });
      }

  follow_line : (says : CopyLine) → IsLine (IsValue form) line says → after n draft (λ longer. read_on form (n + 1) longer pieces) (is_over pieces) says ≡ Ok copy → Follow form n draft done (line ∷ pieces) copy
  follow_line (Mark name position) line_is is = follow_mark name position line_is is
  follow_line (Record image) line_is is = follow_image image line_is is
  follow_line (End count) line_is is = follow_end count line_is is

pub follow : (form : Form) (n : ℕ) (draft : DraftValue) (done : List Image) (pieces : List (List ℕ)) (copy : TabletCopyValue) → 2 ≤ n → draft.cells ≡ table_of done → read_on form n draft pieces ≡ Ok copy → Follow form n draft done pieces copy
unfolding read_on
follow form n draft done [] copy some cells_are is = absurd (cc)
follow form n draft done (part ∷ []) copy some cells_are is = absurd (cc)
follow form n draft done (line ∷ piece ∷ pieces) copy some cells_are is =
    let said = bind_ok (line_at form (BadLine n) line) (after n draft (λ longer. read_on form (n + 1) longer (piece ∷ pieces)) (is_over (piece ∷ pieces))) copy is in
    follow_line form n draft done line (piece ∷ pieces) copy some cells_are
    (λ longer more cells. follow form (n + 1) longer more (piece ∷ pieces) copy (omega (arith, some)) cells)
    said.0 (line_at-found (BadLine n) form line said.0 said.1) said.2
