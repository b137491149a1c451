-- Comparing the fields is comparing what they show.
use Rattle.std.proofs.Common.{sym, ◌∙◌}
use Rattle.pn_record.specs.Sets.{field_cmp}
use Rattle.pn_record.specs.Showing.{shown_field}
use Rattle.pn_record.proofs.Sorted.{slice_cmp-map}
use Rattle.pn_record.proofs.version.compare_fields.Goals as goal

pub returns : goal.returns
returns c = c.cmp.ensures ∙ sym (slice_cmp-map field_cmp shown_field c.args.fields.now c.args.others.now)
