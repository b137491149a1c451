-- A live region after deliveries, and with one operation more of one tablet.
use Rattle.std.proofs.Common.{◌≡◌, List, map, sym, subst, [], ◌∷◌, refl, ap, ◌∙◌, Ok, ℕ, zero, suc, ◌<◌, length, set, get_or, slice_get, arith}
use Rattle.std.specs.Prelude.{IsSomeAnd}
use Rattle.std.specs.List.{flat_map}
use Rattle.std.proofs.lemmas.List.{set-get_or}
use Rattle.logbook.specs.Pages.{Book}
use Rattle.pn_join.specs.Marks.{Positions}
use Rattle.pn_tablet.specs.declared.state.TabletOp.{TabletOp}
use Rattle.pn_tablet.specs.Steps.{changes}
use Rattle.pn_tablet.specs.declared.change.Change.{Change}
use Rattle.pn_tablet.specs.Tablets.{TabletStateValue}
use Rattle.pn_stream.specs.Brokers.{DeliveryValue}
use Rattle.pn_apply.specs.Applying.{AreJoinsIn, all_stepped, all_changes}
use Rattle.pn_region.specs.Regions.{IsRegion, RegionValue, AreRegionMarks, IsLawfulRegion, all_cells}
use Rattle.pn_region.specs.Rounds.{joins, round, new_marks}
use Rattle.pn_region.proofs.RoundEnds.{fit, new_region_is, round_ok, told_changes}
use Rattle.pn_region.specs.Log.{with_break}
use Rattle.pn_region.specs.Recovery.{tablets_after_op, after_op}
use Rattle.pn_region.specs.declared.notices.Entry.{Entry}
use Rattle.pn_live.specs.LiveRegions.{LiveRegionValue, core, tablets_in, tablets_after_round, with_op_at, after_op_at}
use Rattle.pn_live.specs.PublishedTablets.{state_at, PublishedTabletValue, TabletNoteValue, notes_of, with_ops, with_op}
use Rattle.pn_live.specs.Readers.{AreNotesOf}
use Rattle.pn_live.proofs.Appending.{states_appended, books_appended, same_count, state_appended}

-- What deliveries bring to a live region.

module _ (old : LiveRegionValue) (deliveries : List DeliveryValue) (is : IsRegion (core old)) where
  -- what deliveries bring to the tablets are joins in their ranges
  pub fit_live : (marks : Positions) (ops : List TabletOp) → ops ≡ joins (core old) deliveries marks → AreJoinsIn (map state_at old.tablets) ops
  fit_live marks ops found = subst (AreJoinsIn (map state_at old.tablets)) (sym found) (fit (core old) deliveries is marks)

-- A live region after a round.

pub notes_books : (tablets : List PublishedTabletValue) → map (λ (n : TabletNoteValue). n.book) (notes_of tablets) ≡ map (λ (p : PublishedTabletValue). p.book) tablets
notes_books [] = refl
notes_books (p ∷ tablets) = ap (λ (rest : List Book). p.book ∷ rest) (notes_books tablets)

-- what a round makes of a live region, and what it tells of changes
pub record Takes (old now : LiveRegionValue) (deliveries : List DeliveryValue) (reported : List Change) : Type 0 where
  pub ok : round (core old) deliveries ≡ Ok (core now)
  pub published : now.tablets ≡ tablets_after_round old deliveries now.marks
  pub tells : reported ≡ changes (all_cells (core old)) (all_cells (core now))
  pub fits : AreNotesOf (tablets_in old) (notes_of now.tablets)
  pub same : tablets_in now ≡ tablets_in old

-- all joins are published, and the marks are the new ones
module _ (old now : LiveRegionValue) (deliveries : List DeliveryValue) (is : IsRegion (core old)) (ops : List TabletOp) (found : ops ≡ joins (core old) deliveries now.marks)
    (layout : now.layout ≡ old.layout) (all : now.tablets ≡ with_ops old.tablets ops) where
  tablet_after : map state_at now.tablets ≡ all_stepped (map state_at old.tablets) (joins (core old) deliveries now.marks)
  tablet_after =
      ap (map state_at) all
      ∙ (states_appended old.tablets ops (same_count old.tablets ops (fit_live old deliveries is now.marks ops found)) ∙ ap (all_stepped (map state_at old.tablets)) found)

  core_now : core now ≡ record { layout = old.layout; tablets = map state_at now.tablets; marks = now.marks }
  core_now = λ i. record { layout = layout i; tablets = map state_at now.tablets; marks = now.marks }

  books : map (λ (p : PublishedTabletValue). p.book) now.tablets ≡ map (λ (p : PublishedTabletValue). p.book) old.tablets
  books = ap (map (λ (p : PublishedTabletValue). p.book)) all ∙ books_appended old.tablets ops

  pub taken_lawful : AreRegionMarks now.marks → IsLawfulRegion (core now)
  taken_lawful good = subst IsLawfulRegion (sym core_now) (record { is_region = new_region_is (core old) deliveries is now.marks (map state_at now.tablets) tablet_after; are_marks = good })

  pub takes : new_marks old.marks deliveries ≡ Ok now.marks → (reported : List Change) → reported ≡ flat_map (λ (list : List Change). list) (all_changes (map state_at old.tablets) ops)
      → Takes old now deliveries reported
  takes accepted reported are = record {
    ok = round_ok (core old) deliveries is now.marks (map state_at now.tablets) accepted tablet_after ∙ ap Ok (sym core_now);
    published = all ∙ ap (with_ops old.tablets) found;
    tells =
        told_changes (core old) deliveries is now.marks (map state_at now.tablets) reported tablet_after
        (are ∙ ap (λ (os : List TabletOp). flat_map (λ (list : List Change). list) (all_changes (map state_at old.tablets) os)) found)
        ∙ ap (λ (r : RegionValue). changes (all_cells (core old)) (all_cells r)) (sym core_now);
    fits = notes_books now.tablets ∙ books;
    same = λ i. record { layout = layout i; books = books i };
  }

-- Live regions with one operation more of one tablet.

-- the tablet of the number is there, and what is known of it
pub there_within : (ps : List PublishedTabletValue) (n : ℕ) (P : PublishedTabletValue → Type 0) → IsSomeAnd (slice_get ps n) P → n < length ps
there_within [] n P there = absurd there
there_within (p ∷ ps) zero P there = omega arith
there_within (p ∷ ps) (suc n) P there = omega (arith, there_within ps n P there)

pub known_there : (ps : List PublishedTabletValue) (n : ℕ) (P : PublishedTabletValue → Type 0) (p : PublishedTabletValue) → IsSomeAnd (slice_get ps n) P → p ≡ get_or ps n p → P p
known_there [] n P p there is = absurd there
known_there (q ∷ ps) zero P p there is = subst P (sym is) there
known_there (q ∷ ps) (suc n) P p there is = known_there ps n P p there is

pub set_appended : (ps : List PublishedTabletValue) (n : ℕ) (p new : PublishedTabletValue) (op : TabletOp) → p ≡ get_or ps n p → new ≡ with_op p op → set ps n new ≡ with_op_at n op ps
set_appended [] n p new op at is = refl
set_appended (q ∷ ps) zero p new op at is = ap (λ (first : PublishedTabletValue). first ∷ ps) (is ∙ ap (λ (tablet : PublishedTabletValue). with_op tablet op) at)
set_appended (q ∷ ps) (suc n) p new op at is = ap (λ (rest : List PublishedTabletValue). q ∷ rest) (set_appended ps n p new op at is)

pub set_same : (ps : List PublishedTabletValue) (n : ℕ) (p new : PublishedTabletValue) → p ≡ get_or ps n p → new ≡ p → set ps n new ≡ ps
set_same ps n p new at is = ap (set ps n) (is ∙ at) ∙ set-get_or ps n p

states_at : (ps : List PublishedTabletValue) (n : ℕ) (op : TabletOp) → map state_at (with_op_at n op ps) ≡ tablets_after_op n op (map state_at ps)
states_at [] n op = refl
states_at (p ∷ ps) zero op = ap (λ (t : TabletStateValue). t ∷ map state_at ps) (state_appended p op)
states_at (p ∷ ps) (suc n) op = ap (λ (rest : List TabletStateValue). state_at p ∷ rest) (states_at ps n op)

books_at : (ps : List PublishedTabletValue) (n : ℕ) (op : TabletOp) → map (λ (p : PublishedTabletValue). p.book) (with_op_at n op ps) ≡ map (λ (p : PublishedTabletValue). p.book) ps
books_at [] n op = refl
books_at (p ∷ ps) zero op = refl
books_at (p ∷ ps) (suc n) op = ap (λ (rest : List Book). p.book ∷ rest) (books_at ps n op)

module _ (live : LiveRegionValue) (n : ℕ) (op : TabletOp) (tablets : List PublishedTabletValue) (is : tablets ≡ with_op_at n op live.tablets) where
  -- the region took the operation
  pub core_after : (log : List Entry) → core (record { layout = live.layout; tablets = tablets; marks = live.marks; log = log; order = live.order }) ≡ after_op (core live) n op
  core_after log = λ i. record { layout = live.layout; tablets = (ap (map state_at) is ∙ states_at live.tablets n op) i; marks = live.marks }

  pub lawful_after : (log : List Entry) → IsLawfulRegion (core live) → IsRegion (after_op (core live) n op) → IsLawfulRegion (core (record { layout = live.layout; tablets = tablets; marks = live.marks; log = log; order = live.order }))
  lawful_after log lawful kept = subst IsLawfulRegion (sym (core_after log)) (record { is_region = kept; are_marks = lawful.are_marks })

  -- the log has a break, and nothing else changed
  pub live_after : (log : List Entry) → log ≡ with_break live.log → record { layout = live.layout; tablets = tablets; marks = live.marks; log = log; order = live.order } ≡ after_op_at live n op
  live_after log broken = λ i. record { layout = live.layout; tablets = is i; marks = live.marks; log = broken i; order = live.order }

  pub books_after : map (λ (p : PublishedTabletValue). p.book) tablets ≡ map (λ (p : PublishedTabletValue). p.book) live.tablets
  books_after = ap (map (λ (p : PublishedTabletValue). p.book)) is ∙ books_at live.tablets n op

  pub same_after : (log : List Entry) → tablets_in (record { layout = live.layout; tablets = tablets; marks = live.marks; log = log; order = live.order }) ≡ tablets_in live
  same_after log = λ i. record { layout = live.layout; books = books_after i }

  pub fits_after : AreNotesOf (tablets_in live) (notes_of tablets)
  fits_after = notes_books tablets ∙ books_after
