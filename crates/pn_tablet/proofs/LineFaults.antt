-- A line of a copy has what it says, or the one fault of its line.
use Rattle.std.proofs.Common.{◌≡◌, ◌⊎◌, inl, inr, ℕ, Bool, true, false, cond, List, ◌∷◌, [], codes, Option, Some, None, is_some, Result, Ok, Err, refl, ap}
use Rattle.std.specs.Option.{ok_or, option_and_then}
use Rattle.serde_json.specs.Data.{Data}
use Rattle.serde_json.specs.Find.{get, as_str, as_object}
use Rattle.pn_json.specs.Answers.{◌>>=◌}
use Rattle.pn_json.specs.Members.{whole_number, member_as, only_named, no_others}
use Rattle.pn_record.specs.Grammar.{image_in}
use Rattle.pn_record.specs.Marks.{is_mark}
use Rattle.pn_record.specs.Reading.{IsLine, value_at}
use Rattle.pn_tablet.specs.CopyTexts.{Head, IsHead, is_range, form_at, may_hold}
use Rattle.pn_tablet.specs.CopyReading.{or_as, if_fits, end_of, head_in, mark_in, end_in, record_in, line_in, head_at, line_at}
use Rattle.pn_tablet.specs.declared.copy.Form.{Form}
use Rattle.pn_tablet.specs.declared.copy_line.CopyLine.{CopyLine}
use Rattle.pn_tablet.specs.declared.copy_line.CopyLine.TheVariants.{Mark, Record, End}
use Rattle.pn_tablet.proofs.CopyValues.{head_at-found}

-- a fault, if there is one, is this one
abbrev pub IsOnly : {A F : Type 0} → F → Result A F → Type 0
IsOnly fault (Ok a) = Unit {0}
IsOnly fault (Err other) = other ≡ fault

module _ {F : Type 0} (fault : F) where
  then_only : {A B : Type 0} (first : Result A F) (next : A → Result B F) → IsOnly fault first → ((a : A) → IsOnly fault (next a)) → IsOnly fault (first >>= next)
  then_only (Ok a) next one rest = rest a
  then_only (Err other) next one rest = one

  as_only : {A E : Type 0} (read : Result A E) → IsOnly fault (or_as fault read)
  as_only (Ok a) = tt
  as_only (Err other) = refl

  ok_or-only : {A : Type 0} (o : Option A) → IsOnly fault (ok_or o fault)
  ok_or-only None = refl
  ok_or-only (Some a) = tt

  if_only : {A : Type 0} (test : Bool) (a : A) → IsOnly fault (cond test (Ok a) (Err fault))
  if_only true a = tt
  if_only false a = refl

  either_only : {A : Type 0} (test : Bool) (x y : Result A F) → IsOnly fault x → IsOnly fault y → IsOnly fault (cond test x y)
  either_only true x y one other = one
  either_only false x y one other = other

  -- ---- values

  head_only : (d : Data) → IsOnly fault (head_in fault d)
  unfolding head_in
  head_only d =
      let names = codes "copy" ∷ codes "from" ∷ codes "to" ∷ [] in
      then_only (ok_or (as_object d) fault) _ (ok_or-only (as_object d)) (λ members.
      then_only (member_as whole_number fault (get (codes "copy") d)) _ (ok_or-only (option_and_then whole_number (get (codes "copy") d))) (λ number.
      then_only (member_as end_of fault (get (codes "from") d)) _ (ok_or-only (option_and_then end_of (get (codes "from") d))) (λ from.
      then_only (member_as end_of fault (get (codes "to") d)) _ (ok_or-only (option_and_then end_of (get (codes "to") d))) (λ to.
      then_only (no_others names fault members) _ (if_only (only_named names members) tt) (λ named.
      then_only (ok_or (form_at number) fault) _ (ok_or-only (form_at number)) (λ form.
      then_only (if_fits (is_range (from, to)) fault (from, to)) (λ range. Ok (form, range)) (if_only (is_range (from, to)) (from, to)) (λ range. tt)))))))

  mark_only : (d : Data) → IsOnly fault (mark_in fault d)
  unfolding mark_in
  mark_only d =
      let names = codes "at" ∷ codes "stream" ∷ [] in
      then_only (ok_or (as_object d) fault) _ (ok_or-only (as_object d)) (λ members.
      then_only (member_as whole_number fault (get (codes "at") d)) _ (ok_or-only (option_and_then whole_number (get (codes "at") d))) (λ position.
      then_only (member_as as_str fault (get (codes "stream") d)) _ (ok_or-only (option_and_then as_str (get (codes "stream") d))) (λ name.
      then_only (no_others names fault members) _ (if_only (only_named names members) tt) (λ named. if_only (is_mark (name, position)) (Mark name position)))))

  end_only : (d : Data) → IsOnly fault (end_in fault d)
  unfolding end_in
  end_only d =
      let names = codes "end" ∷ [] in
      then_only (ok_or (as_object d) fault) _ (ok_or-only (as_object d)) (λ members.
      then_only (member_as whole_number fault (get (codes "end") d)) _ (ok_or-only (option_and_then whole_number (get (codes "end") d))) (λ count.
      then_only (no_others names fault members) (λ _. Ok (End count)) (if_only (only_named names members) tt) (λ named. tt)))

  record_only : (form : Form) (d : Data) → IsOnly fault (record_in form fault d)
  unfolding record_in
  record_only form d = then_only (or_as fault (image_in d)) (λ image. if_fits (may_hold form image) fault (Record image)) (as_only (image_in d)) (λ image. if_only (may_hold form image) (Record image))

  line_only : (form : Form) (d : Data) → IsOnly fault (line_in form fault d)
  unfolding line_in
  line_only form d =
      either_only (is_some (get (codes "at") d)) (mark_in fault d) (cond (is_some (get (codes "end") d)) (end_in fault d) (record_in form fault d)) (mark_only d)
      (either_only (is_some (get (codes "end") d)) (end_in fault d) (record_in form fault d) (end_only d) (record_only form d))

  -- ---- lines

  head_at-only : (line : List ℕ) → IsOnly fault (head_at fault line)
  unfolding head_at
  head_at-only line = then_only (or_as fault (value_at line)) (head_in fault) (as_only (value_at line)) head_only

  pub line_at-only : (form : Form) (line : List ℕ) → IsOnly fault (line_at form fault line)
  unfolding line_at
  line_at-only form line = then_only (or_as fault (value_at line)) (line_in form fault) (as_only (value_at line)) (line_only form)

  -- a result that has a value, or the fault
  pub read_or_not : {A : Type 0} (read : Result A F) → IsOnly fault read → ((a : A) × (read ≡ Ok a)) ⊎ (read ≡ Err fault)
  read_or_not (Ok a) one = inl (a, refl)
  read_or_not (Err other) one = inr (ap Err one)

  pub head_or_not : (line : List ℕ) → ((head : Head) × (head_at fault line ≡ Ok head)) ⊎ (head_at fault line ≡ Err fault)
  head_or_not line = read_or_not (head_at fault line) (head_at-only line)

  pub line_or_not : (form : Form) (line : List ℕ) → ((says : CopyLine) × (line_at form fault line ≡ Ok says)) ⊎ (line_at form fault line ≡ Err fault)
  line_or_not form line = read_or_not (line_at form fault line) (line_at-only form line)

  -- a line that is no head has the fault
  pub head_at-none : (line : List ℕ) → ((head : Head) → ¬ IsLine IsHead line head) → head_at fault line ≡ Err fault
  head_at-none line none =
      elim (head_or_not line) as (λ _. head_at fault line ≡ Err fault) [
        | inl read ↦ absurd (none read.0 (head_at-found fault line read.0 read.1))
        | inr is ↦ is
      ]
