-- New readers of a live region are its own.
use Rattle.std.proofs.Common.{List, Result, Ok, Err, IfOk}
use Rattle.std.specs.List.{All, AllByRecursion}
use Rattle.std.proofs.lemmas.List.Elements.{All-from_recursion, All-weaker}
use Rattle.pn_live.specs.LiveRegions.{LiveRegionValue, IsReaderIn, tablets_in}
use Rattle.pn_live.specs.Readers.{LiveReaderValue, IsNewReader}
use Rattle.test_serving.proofs.regions.open.Goals as goal

own_readers : {V E : Type 0} (items : V → List LiveReaderValue) (opened : Result (LiveRegionValue × V) E)
    → IfOk opened (λ o. AllByRecursion (IsNewReader (tablets_in o.0)) (items o.1)) → IfOk opened (λ o. All (IsReaderIn o.0) (items o.1))
own_readers items (Ok o) new = All-weaker (IsNewReader (tablets_in o.0)) (IsReaderIn o.0) (λ reader is. is.0) (items o.1) (All-from_recursion (IsNewReader (tablets_in o.0)) (items o.1) new)
own_readers items (Err fault) new = tt

pub returns : goal.returns
returns g c = own_readers (λ readers. readers.items) c.open.result c.open.ensures.readers
