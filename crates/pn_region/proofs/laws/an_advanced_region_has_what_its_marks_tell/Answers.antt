-- The laws are lemmas.
use Rattle.pn_region.proofs.EventImages.{marked_images, marked_alike, new_none, round_none}
use Rattle.pn_region.proofs.laws.an_advanced_region_has_what_its_marks_tell.Goals as goal

pub returns-clause-images : goal.returns-clause-images
returns-clause-images c = marked_images

pub returns-clause-alike : goal.returns-clause-alike
returns-clause-alike c = marked_alike

pub returns-clause-new : goal.returns-clause-new
returns-clause-new c = new_none

pub returns-clause-taken : goal.returns-clause-taken
returns-clause-taken c = round_none
