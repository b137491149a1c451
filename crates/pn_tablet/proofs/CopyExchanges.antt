-- Two lines of a copy's text are exchanged.
use Rattle.std.proofs.Common.{◌≡◌, ℕ, Bool, true, false, ◌&&◌, ◌||◌, List, [], ◌∷◌, ◌++◌, map, ◌+◌, length, All, is_some, Option, None, Some, Ordering, Less, Equal, Greater, refl, sym, ap, ◌∙◌, subst}
use Rattle.std.proofs.lemmas.Bool.{and_parts, false≢true}
use Rattle.std.proofs.lemmas.Cmp.{on_total, then_total}
use Rattle.std.proofs.lemmas.List.Elements.{All-head, All-tail, All-cons}
use Rattle.std.specs.Cmp.{IsTotalOrder}
use Rattle.std.specs.FinMap.{is_sorted}
use Rattle.std.specs.FinMap.Entries.{below_all}
use Rattle.std.specs.List.{AllByRecursion}
use Rattle.std.specs.Ordering.{is_lt, is_eq, ordering_reverse, ordering_then}
use Rattle.serde_json.specs.Data.{Data}
use Rattle.serde_json.specs.Find.{get}
use Rattle.std.specs.Prelude.{codes}
use Rattle.pn_line.specs.Line.{IsUnbroken}
use Rattle.pn_line.specs.Text.{text_of}
use Rattle.pn_join.specs.Marks.{Positions, name_cmp}
use Rattle.pn_record.specs.declared.records.Image.{Image}
use Rattle.pn_record.specs.Limits.{Field}
use Rattle.pn_record.specs.Sets.{bytes_cmp, content_cmp}
use Rattle.pn_record.specs.Reading.{IsLine}
use Rattle.pn_record.specs.Writing.{image_data}
use Rattle.pn_record.specs.Laws.{bytes_cmp_total, content_cmp_total}
use Rattle.pn_tablet.specs.Copies.{TabletCopyValue}
use Rattle.pn_tablet.specs.CopyTexts.{Head, IsHead, IsValue, AreLines, comes_after, images_rise, mark_line, lines_after_head, IsCopyText}
use Rattle.pn_tablet.specs.declared.copy.Form.{Form}
use Rattle.pn_tablet.specs.declared.copy.Form.TheVariants.{Numbers}
use Rattle.pn_tablet.specs.declared.copy_line.CopyLine.{CopyLine}
use Rattle.pn_tablet.specs.declared.copy_line.CopyLine.TheVariants.{Mark, Record, End}
use Rattle.pn_tablet.specs.declared.fault.CopyTextFault.TheVariants.{Truncated}
use Rattle.pn_tablet.proofs.CopyLineCounts.{same_lines, lines_in, held_all}
use Rattle.pn_tablet.proofs.CopyValues.{line_at-again}

-- ---- the order of lines

abbrev image_cmp : Image → Image → Ordering
image_cmp image next = ordering_then (bytes_cmp image.key next.key) (content_cmp image.content next.content)

image_total : IsTotalOrder image_cmp
image_total = then_total (on_total (λ (i : Image). i.key) bytes_cmp_total) (on_total (λ (i : Image). i.content) content_cmp_total)

-- a line of a copy comes before another
abbrev Comes : CopyLine → CopyLine → Type 0
Comes (Mark name at) (Mark other later) = name_cmp name other ≡ Less
Comes (Mark name at) (Record image) = Unit {0}
Comes (Mark name at) (End count) = Unit {0}
Comes (Record image) (Mark name at) = ⊥
Comes (Record image) (Record next) = image_cmp image next ≡ Less
Comes (Record image) (End count) = Unit {0}
Comes (End count) says = ⊥

not_both : {K : Type 0} {cmp : K → K → Ordering} → IsTotalOrder cmp → (x y : K) → cmp x y ≡ Less → cmp y x ≡ Less → ⊥
not_both total x y first second =
    let wrong : Less ≡ Greater = sym first ∙ total.antisymm x y ∙ ap ordering_reverse second in
    cc

-- no two come before each other
one_way : (says other : CopyLine) → Comes says other → Comes other says → ⊥
one_way (Mark name at) (Mark other later) first second = not_both bytes_cmp_total name other first second
one_way (Mark name at) (Record image) first second = second
one_way (Mark name at) (End count) first second = second
one_way (Record image) (Mark name at) first second = first
one_way (Record image) (Record next) first second = not_both image_total image next first second
one_way (Record image) (End count) first second = second
one_way (End count) says first second = first

-- each comes before all after it
abbrev Ordered : List CopyLine → Type 0
Ordered [] = Unit {0}
Ordered (says ∷ more) = AllByRecursion (Comes says) more × Ordered more

less_from : (o : Ordering) → is_lt o ≡ true → o ≡ Less
less_from Less is = refl
less_from Equal is = absurd (cc)
less_from Greater is = absurd (cc)

by_key : (keys contents : Ordering) (versions : Bool) → (is_lt keys || (is_eq keys && (versions && is_lt contents))) ≡ true → ordering_then keys contents ≡ Less
by_key Less contents versions is = refl
by_key Equal contents versions is = less_from contents (and_parts versions (is_lt contents) is).1
by_key Greater contents versions is = absurd (cc)

after_next : (image next : Image) (says : List CopyLine) → image_cmp image next ≡ Less → AllByRecursion (Comes (Record next)) says → AllByRecursion (Comes (Record image)) says
after_next image next [] less all = tt
after_next image next (Mark name at ∷ says) less all = absurd all.0
after_next image next (Record other ∷ says) less all = (image_total.trans image next other less all.0, after_next image next says less all.1)
after_next image next (End count ∷ says) less all = (tt, after_next image next says less all.1)

images_ordered : (images : List Image) (count : ℕ) → images_rise images ≡ true → Ordered (map Record images ++ End count ∷ [])
images_ordered [] count rise = (tt, tt)
images_ordered (image ∷ []) count rise = ((tt, tt), (tt, tt))
images_ordered (image ∷ next ∷ images) count rise =
    let parts = and_parts (comes_after image next) (images_rise (next ∷ images)) rise in
    let less = by_key (bytes_cmp image.key next.key) (content_cmp image.content next.content) _ parts.0 in
    let later = images_ordered (next ∷ images) count parts.1 in
    ((less, after_next image next (map Record images ++ End count ∷ []) less later.0), later)

images_after : (mark : List ℕ × ℕ) (images : List Image) (count : ℕ) → AllByRecursion (Comes (mark_line mark)) (map Record images ++ End count ∷ [])
images_after mark [] count = (tt, tt)
images_after mark (image ∷ images) count = (tt, images_after mark images count)

mark_after : (mark : List ℕ × ℕ) (marks : Positions) (images : List Image) (count : ℕ) → below_all name_cmp mark.0 marks ≡ true
    → AllByRecursion (Comes (mark_line mark)) (map mark_line marks ++ (map Record images ++ End count ∷ []))
mark_after mark [] images count below = images_after mark images count
mark_after mark (other ∷ marks) images count below =
    let parts = and_parts (is_lt (name_cmp mark.0 other.0)) (below_all name_cmp mark.0 marks) below in
    (less_from _ parts.0, mark_after mark marks images count parts.1)

lines_ordered : (marks : Positions) (images : List Image) (count : ℕ) → is_sorted name_cmp marks ≡ true → images_rise images ≡ true → Ordered (map mark_line marks ++ (map Record images ++ End count ∷ []))
lines_ordered [] images count sorted rise = images_ordered images count rise
lines_ordered (mark ∷ marks) images count sorted rise =
    let parts = and_parts (below_all name_cmp mark.0 marks) (is_sorted name_cmp marks) sorted in
    (mark_after mark marks images count parts.0, lines_ordered marks images count parts.1 rise)

-- ---- two lines of a copy

-- each is a line of a copy, and one comes before the other
record Follow (one other : List ℕ) : Type 0 where
  pub first : CopyLine
  pub second : CopyLine
  pub one_is : IsLine (IsValue Numbers) one first
  pub other_is : IsLine (IsValue Numbers) other second
  pub comes : Comes first second

found_after : (between after : List (List ℕ)) (one other : List ℕ) (first : CopyLine) (says : List CopyLine) → IsLine (IsValue Numbers) one first → AreLines Numbers (between ++ other ∷ after) says
    → AllByRecursion (Comes first) says → Follow one other
found_after [] after one other first [] is are all = absurd are
found_after [] after one other first (second ∷ says) is are all = record { first = first; second = second; one_is = is; other_is = are.0; comes = all.0 }
found_after (line ∷ between) after one other first [] is are all = absurd are
found_after (line ∷ between) after one other first (second ∷ says) is are all = found_after between after one other first says is are.1 all.1

follow_in : (before between after : List (List ℕ)) (one other : List ℕ) (says : List CopyLine) → AreLines Numbers (before ++ one ∷ (between ++ other ∷ after)) says → Ordered says → Follow one other
follow_in [] between after one other [] are order = absurd are
follow_in [] between after one other (first ∷ says) are order = found_after between after one other first says are.0 are.1 order.0
follow_in (line ∷ before) between after one other [] are order = absurd are
follow_in (line ∷ before) between after one other (first ∷ says) are order = follow_in before between after one other says are.1 order.1

-- a text is one line of a copy
pub says_one : (form : Form) (line : List ℕ) (says other : CopyLine) → IsLine (IsValue form) line says → IsLine (IsValue form) line other → says ≡ other
says_one form line says other first second =
    let same = sym (line_at-again Truncated form line says first) ∙ line_at-again Truncated form line other second in
    cc

apart : (one other : List ℕ) → Follow one other → Follow other one → ⊥
apart one other first second =
    let same_one = says_one Numbers one first.first second.second first.one_is second.other_is in
    let same_other = says_one Numbers other first.second second.first first.other_is second.one_is in
    one_way first.first first.second first.comes
    (subst (λ (says : CopyLine). Comes first.second says) (sym same_one) (subst (λ (says : CopyLine). Comes says second.second) (sym same_other) second.comes))

-- ---- the head

abbrev names_copy : Data → Bool
names_copy d = is_some (get (codes "copy") d)

image_names_none : (key master : List ℕ) (version : ℕ × ℕ) (fields : Option (List Field)) → names_copy (image_data (record { key = key; version = version; content = (fields, master) })) ≡ false
image_names_none key master version None = refl
image_names_none key master version (Some fields) = refl

value_names_none : (d : Data) (says : CopyLine) → IsValue Numbers d says → names_copy d ≡ false
value_names_none d (Mark name position) is = ap names_copy is.0
value_names_none d (Record image) is = ap names_copy is.0.value ∙ image_names_none image.key image.content.1 image.version image.content.0
value_names_none d (End count) is = ap names_copy is

-- the head is no other line
no_head : (line : List ℕ) (read : Head) (says : CopyLine) → IsLine IsHead line read → IsLine (IsValue Numbers) line says → ⊥
no_head line read says head is =
    let both : Some head.value ≡ Some is.value = sym head.read ∙ is.read in
    let same : head.value ≡ is.value = cc in
    let named : names_copy head.value ≡ true = ap names_copy head.spelled.value in
    false≢true (sym (value_names_none is.value says is.spelled) ∙ ap names_copy (sym same) ∙ named)

-- ---- the lines of texts that spell copies

found_in : (between after : List (List ℕ)) (other : List ℕ) (says : List CopyLine) → AreLines Numbers (between ++ other ∷ after) says → (one : CopyLine) × IsLine (IsValue Numbers) other one
found_in [] after other [] are = absurd are
found_in [] after other (one ∷ says) are = (one, are.0)
found_in (line ∷ between) after other [] are = absurd are
found_in (line ∷ between) after other (one ∷ says) are = found_in between after other says are.1

own_order : (lines : List (List ℕ)) (head : List ℕ) (copy : TabletCopyValue) (is : IsCopyText (text_of (head ∷ lines)) copy) → All IsUnbroken (head ∷ lines)
    → (read : Head) × IsLine IsHead head read × (says : List CopyLine) × AreLines Numbers lines says × Ordered says
own_order lines head copy is unbroken =
    let same = same_lines (head ∷ lines) copy unbroken is in
    let same_head : head ≡ is.head = cc in
    let same_rest : lines ≡ is.lines = cc in (
      (is.form, copy.range),
      subst (λ (line : List ℕ). IsLine IsHead line (is.form, copy.range)) (sym same_head) is.head_is,
      lines_after_head copy.marks is.images,
      subst (λ (rest : List (List ℕ)). AreLines Numbers rest (lines_after_head copy.marks is.images)) (sym same_rest)
          (lines_in is.form Numbers is.lines (lines_after_head copy.marks is.images) is.lines_are (held_all (lines_after_head copy.marks is.images))),
      lines_ordered copy.marks is.images (length copy.marks + length is.images) is.names_rise is.images_rise,
    )

unbroken_at : (before after : List (List ℕ)) (line : List ℕ) → All IsUnbroken (before ++ line ∷ after) → IsUnbroken line
unbroken_at [] after line unbroken = All-head IsUnbroken line after unbroken
unbroken_at (first ∷ before) after line unbroken = unbroken_at before after line (All-tail IsUnbroken first (before ++ line ∷ after) unbroken)

put_at : (before after : List (List ℕ)) (line new : List ℕ) → IsUnbroken new → All IsUnbroken (before ++ line ∷ after) → All IsUnbroken (before ++ new ∷ after)
put_at [] after line new is unbroken = All-cons IsUnbroken new after is (All-tail IsUnbroken line after unbroken)
put_at (first ∷ before) after line new is unbroken =
    All-cons IsUnbroken first (before ++ new ∷ after) (All-head IsUnbroken first (before ++ line ∷ after) unbroken)
    (put_at before after line new is (All-tail IsUnbroken first (before ++ line ∷ after) unbroken))

exchanged : (before between after : List (List ℕ)) (one other : List ℕ) → All IsUnbroken (before ++ one ∷ (between ++ other ∷ after)) → All IsUnbroken (before ++ other ∷ (between ++ one ∷ after))
exchanged [] between after one other unbroken =
    let rest = All-tail IsUnbroken one (between ++ other ∷ after) unbroken in
    All-cons IsUnbroken other (between ++ one ∷ after) (unbroken_at between after other rest)
    (put_at between after other one (All-head IsUnbroken one (between ++ other ∷ after) unbroken) rest)
exchanged (first ∷ before) between after one other unbroken =
    All-cons IsUnbroken first (before ++ other ∷ (between ++ one ∷ after)) (All-head IsUnbroken first (before ++ one ∷ (between ++ other ∷ after)) unbroken)
    (exchanged before between after one other (All-tail IsUnbroken first (before ++ one ∷ (between ++ other ∷ after)) unbroken))

-- where two lines of a copy are exchanged no copy is left
pub none_exchanged : (before between after : List (List ℕ)) (one other : List ℕ) (copy another : TabletCopyValue) → All IsUnbroken (before ++ one ∷ (between ++ other ∷ after))
    → IsCopyText (text_of (before ++ one ∷ (between ++ other ∷ after))) copy → IsCopyText (text_of (before ++ other ∷ (between ++ one ∷ after))) another → ⊥
none_exchanged [] between after one other copy another unbroken is also =
    let first = own_order (between ++ other ∷ after) one copy is unbroken in
    let second = own_order (between ++ one ∷ after) other another also (exchanged [] between after one other unbroken) in
    let said = found_in between after other first.2 first.3 in
    no_head other second.0 said.0 second.1 said.1
none_exchanged (head ∷ before) between after one other copy another unbroken is also =
    let first = own_order (before ++ one ∷ (between ++ other ∷ after)) head copy is unbroken in
    let second = own_order (before ++ other ∷ (between ++ one ∷ after)) head another also (exchanged (head ∷ before) between after one other unbroken) in
    apart one other (follow_in before between after one other first.2 first.3 first.4) (follow_in before between after other one second.2 second.3 second.4)
