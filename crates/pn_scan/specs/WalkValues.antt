-- Looks into tablets, and pages, that are resumed, and how they are stored in a proof.
use Rattle.std.specs.Prelude.{ℕ, Option, refl}
use Rattle.std.specs.Coded.{Coded, code_by, coded×, coded_ℕ, coded_option}
use Rattle.pn_record.specs.Cells.{Entries}
use Rattle.pn_tablet.specs.Proofs.{entries_code}

-- A look into a tablet, and a page, that are resumed.

-- the rows that were found, the records that are still to be looked at, how many contents of the first one were, and for how many rows
-- there is room
pub record PartWalkValue : Type 0 where
  pub rows : Entries
  pub rest : Entries
  pub seen : ℕ
  pub room : ℕ

-- the rows of the tablets that were read, the look into the one that is, the numbers that are still to be looked into, and how many units of work the last step counts for
pub record PageWalkValue : Type 0 where
  pub rows : Entries
  pub part : Option PartWalkValue
  pub next : ℕ
  pub end : ℕ
  pub units : ℕ

-- How looks and pages that are resumed are stored in a proof.

-- a look as pairs
abbrev pub part_walk_code : Coded PartWalkValue
part_walk_code =
    code_by ((Entries × Entries) × (ℕ × ℕ)) (coded× (coded× entries_code entries_code) (coded× coded_ℕ coded_ℕ))
    (λ w. ((w.rows, w.rest), (w.seen, w.room)))
    (λ p. record { rows = p.0.0; rest = p.0.1; seen = p.1.0; room = p.1.1 })
    (λ _. refl)

-- a page as pairs
abbrev pub page_walk_code : Coded PageWalkValue
page_walk_code =
    code_by ((Entries × Option PartWalkValue) × (ℕ × (ℕ × ℕ))) (coded× (coded× entries_code (coded_option part_walk_code)) (coded× coded_ℕ (coded× coded_ℕ coded_ℕ)))
    (λ w. ((w.rows, w.part), (w.next, (w.end, w.units))))
    (λ p. record { rows = p.0.0; part = p.0.1; next = p.1.0; end = p.1.1.0; units = p.1.1.1 })
    (λ _. refl)
