-- Each look finds the cell of one key more, until one is refused or enough are read.
use Rattle.std.proofs.Common.{◌≡◌, ◌+◌, ◌<◌, ◌∷◌, ◌++◌, [], ℕ, List, length, false, Err, Result, refl, sym, ap, ◌∙◌, subst, arith, append-nil, append_assoc}
use Rattle.std.proofs.lemmas.Result.{err_from_is_err_and}
use Rattle.std.specs.Prelude.{IfErr}
use Rattle.pn_scan.proofs.Paging.{made_more}
use Rattle.pn_scan.specs.Paging.{LookMade}
use Rattle.pn_scan.specs.Views.{is_memory}
use Rattle.pn_scan.specs.declared.view.ScanFault.{ScanFault}
use Rattle.pn_live.specs.Lookups.{GetWalkValue, EndsGet, GetsOn, IsOnGet}
use Rattle.pn_live.specs.Readers.{LiveReaderValue, LooksLive, Tablets}
use Rattle.pn_live.proofs.Getting.{at_hand, follows_more, key_read, key_refused}
use Rattle.pn_scan.proofs.Getting.{capacity_more}
use Rattle.pn_live.proofs.Knowing.{looks_same}
use Rattle.pn_live.proofs.get_walk.GetWalk.go_on.Goals as goal

pub loop-index-init : goal.loop-index-init
loop-index-init c = record {
  goes = λ trace on. ([], refl, subst (λ (l : List (LookMade LiveReaderValue)). IsOnGet c.args.reader.now.layout (record { keys = c.self.inside.keys.items; cells = at_hand c.self.inside.cells; read = c.self.inside.read }) l) (sym (append-nil trace)) on);
  capacity = c.self.invariant.1;
  looked = ([], refl, tt);
  same = refl;
}

pub loop-index-preserved : goal.loop-index-preserved
loop-index-preserved c =
    let was = c.loop-index.invariant in
    let more = c.in_ok-cells.ensures in
    let look = c.cell.ensures.look in
    let keys = c.self.inside.keys.items in
    let inside : c.loop-index.index < length keys = omega arith in
    let bounds = c.args.reader.now.layout in
    let made : LookMade LiveReaderValue = record { old = c.loop-index.reader; look = (_, look.0); new = c.cell.new.self } in
    let same = ap (λ (tablets : Tablets). tablets.layout) was.same in
    let walk : GetWalkValue = record { keys = keys; cells = at_hand c.in_ok-cells.cells; read = c.loop-index.index + 1 } in
    record {
      goes = λ trace on.
          let so_far = was.goes trace on in (
            so_far.0 ++ made ∷ [],
            follows_more c.args.reader.now c.loop-index.reader so_far.0 made so_far.1 refl,
            subst (λ (l : List (LookMade LiveReaderValue)). IsOnGet bounds walk l) (append_assoc trace so_far.0 (made ∷ [])) (key_read c.loop-index.cells so_far.2 inside c.index.ensures same refl look.1 c.in_ok-cells.cells more.memory more.cells),
          );
      capacity = capacity_more c.loop-index.cells c.in_ok-cells.cells (length keys) c.loop-index.index was.capacity more.kept;
      looked = (was.looked.0 ++ made ∷ [], follows_more c.args.reader.now c.loop-index.reader was.looked.0 made was.looked.1 refl, made_more LooksLive was.looked.0 made was.looked.2 look.1.looked);
      same = looks_same _ _ _ look.1.looked ∙ was.same;
    }

pub returns-in_err-cells-clause-goes : goal.returns-in_err-cells-clause-goes
returns-in_err-cells-clause-goes c = λ trace is_on.
    let was = c.loop-index.invariant in
    let look = c.cell.ensures.look in
    let keys = c.self.inside.keys.items in
    let inside : c.loop-index.index < length keys = omega arith in
    let bounds = c.args.reader.now.layout in
    let made : LookMade LiveReaderValue = record { old = c.loop-index.reader; look = (_, look.0); new = c.cell.new.self } in
    let same = ap (λ (tablets : Tablets). tablets.layout) was.same in
    let so_far = was.goes trace (subst (λ (w : GetWalkValue). IsOnGet bounds w trace) (sym c.self.view_is) is_on) in
    let gave = err_from_is_err_and c.from_residual.result c.from_residual.ensures.1 in
    let fault = c.in_err-cells.field-0.0 in
    let ends = key_refused c.loop-index.cells so_far.2 inside c.index.ensures same refl look.1 fault c.in_err-cells.ensures.fault.0 in
    subst (λ (r : Result GetWalkValue ScanFault). GetsOn bounds c.args.reader.now c.cell.new.self c.args.self.keys r trace) (sym (gave.1 ∙ ap Err gave.2))
    (subst (λ (ks : List (List ℕ)). GetsOn bounds c.args.reader.now c.cell.new.self ks (Err fault) trace) (ap (λ (w : GetWalkValue). w.keys) c.self.view_is) (
      so_far.0 ++ made ∷ [],
      follows_more c.args.reader.now c.loop-index.reader so_far.0 made so_far.1 refl,
      subst (λ (l : List (LookMade LiveReaderValue)). EndsGet bounds keys (Err fault) l) (append_assoc trace so_far.0 (made ∷ [])) ends,
    ))

pub returns-in_err-cells-clause-fault : goal.returns-in_err-cells-clause-fault
returns-in_err-cells-clause-fault c =
    let gave = err_from_is_err_and c.from_residual.result c.from_residual.ensures.1 in
    subst (λ (r : Result GetWalkValue ScanFault). IfErr r (λ fault. is_memory fault ≡ false)) (sym (gave.1 ∙ ap Err gave.2)) c.in_err-cells.ensures.fault.1

pub returns-in_err-cells-clause-same : goal.returns-in_err-cells-clause-same
returns-in_err-cells-clause-same c = looks_same _ _ _ c.cell.ensures.look.1.looked ∙ c.loop-index.invariant.same

pub returns-clause-goes : goal.returns-clause-goes
returns-clause-goes c = λ trace is_on.
    let bounds = c.args.reader.now.layout in
    let so_far = c.loop-index.invariant.goes trace (subst (λ (w : GetWalkValue). IsOnGet bounds w trace) (sym c.self.view_is) is_on) in
    let all : c.loop-index.index ≡ c.self.inside.read + c.min.result = omega arith in (
      ap (λ (w : GetWalkValue). w.keys) c.self.view_is,
      (
        so_far.0,
        so_far.1,
        subst (λ (n : ℕ). IsOnGet bounds (record { keys = c.self.inside.keys.items; cells = at_hand c.loop-index.cells; read = n }) (trace ++ so_far.0)) all so_far.2,
      ),
    )

pub returns-in_err-cells-clause-looked : goal.returns-in_err-cells-clause-looked
returns-in_err-cells-clause-looked c =
    let was = c.loop-index.invariant in
    let look = c.cell.ensures.look in
    let made : LookMade LiveReaderValue = record { old = c.loop-index.reader; look = (_, look.0); new = c.cell.new.self } in
    (was.looked.0 ++ made ∷ [], follows_more c.args.reader.now c.loop-index.reader was.looked.0 made was.looked.1 refl, made_more LooksLive was.looked.0 made was.looked.2 look.1.looked)
