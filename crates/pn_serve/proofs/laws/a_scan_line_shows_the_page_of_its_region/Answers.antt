-- A scan that finds a page replies with its JSON.
use Rattle.pn_serve.specs.Script.Laws.{machine_of}
use Rattle.pn_serve.proofs.PageScripts.{line_shows, end_shows}
use Rattle.pn_serve.proofs.laws.a_scan_line_shows_the_page_of_its_region.Goals as goal

pub returns-clause-line : goal.returns-clause-line
returns-clause-line c = λ told text outcome query waits says accepted. line_shows (machine_of told) query text outcome waits says accepted

pub returns-clause-last : goal.returns-clause-last
returns-clause-last c = λ told text outcome query waits there says accepted. end_shows (machine_of told) query text outcome there waits says accepted
