-- The value is what `serde_json` reads.
use Rattle.std.proofs.Common.{◌≡◌, ℕ, List, Some, IsUtf8, ap, ◌∙◌, sym}
use Rattle.std.proofs.lemmas.Str.{is_utf8-from_IsUtf8}
use Rattle.std.specs.Option.{ok_or}
use Rattle.serde_json.specs.Data.{Data}
use Rattle.serde_json.specs.Read.{read}
use Rattle.pn_record.specs.Reading.{reading}
use Rattle.pn_arguments.specs.declared.faults.OptionFault.TheVariants as fault
use Rattle.pn_arguments.specs.declared.faults.Why.TheVariants.{NoJson}
use Rattle.pn_arguments.proofs.bounds.value_of.Goals as goal

read_as : (text : List ℕ) (d : Data) → IsUtf8 text → read text ≡ Some d → reading text ≡ Some d
unfolding reading
read_as text d utf8 is = rw (is_utf8-from_IsUtf8 text utf8) is

pub returns-in-Ok : goal.returns-in-Ok
returns-in-Ok c =
    ap (λ bytes. ok_or (reading bytes) (fault.Bounds NoJson)) (sym c.as_bytes.ensures.value)
    ∙ ap (λ value. ok_or value (fault.Bounds NoJson)) (read_as _ _ c.in-Ok.ensures.ok.0 c.in-Ok.ensures.ok.1)
