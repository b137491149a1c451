-- Each page is one of a region.
use Rattle.pn_join.proofs.Rising.{sorted_from_Rising}
use Rattle.pn_record.specs.Sets.{bytes_cmp}
use Rattle.pn_scan.specs.Views.{rows_of}
use Rattle.pn_serve.proofs.PageScripts.{told_rise}
use Rattle.pn_serve.proofs.laws.keys_rise_from_page_to_page_of_a_script.Goals as goal

pub returns-clause-rise : goal.returns-clause-rise
returns-clause-rise c = λ told more query pages shows. sorted_from_Rising bytes_cmp (rows_of pages) (told_rise told more query pages shows).0

pub returns-clause-after : goal.returns-clause-after
returns-clause-after c = λ told more query pages shows. (told_rise told more query pages shows).1
