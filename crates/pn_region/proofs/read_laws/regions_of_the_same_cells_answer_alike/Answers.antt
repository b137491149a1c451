-- Both answer from the same map.
use Rattle.std.proofs.Common.{Ok, map, sym, ap, ◌∙◌}
use Rattle.pn_scan.specs.Shown.{shown_rows}
use Rattle.pn_scan.specs.Views.{unless_behind}
use Rattle.pn_region.proofs.Common.{find, Entries, bytes_cmp, first_page}
use Rattle.pn_region.proofs.ReadLaws.{read_of_all, get_of_all, page_of_all}
use Rattle.pn_region.proofs.read_laws.regions_of_the_same_cells_answer_alike.Goals as goal

pub returns-clause-read : goal.returns-clause-read
returns-clause-read c = λ one other key wanted is is_too serve serve_too same.
    read_of_all one is serve key wanted
    ∙ ap (λ (cells : Entries). unless_behind wanted (find bytes_cmp key cells)) same
    ∙ sym (read_of_all other is_too serve_too key wanted)

pub returns-clause-get : goal.returns-clause-get
returns-clause-get c = λ one other keys is is_too serve serve_too same.
    get_of_all one is serve keys
    ∙ ap (λ (cells : Entries). Ok (map (λ key. find bytes_cmp key cells) keys)) same
    ∙ sym (get_of_all other is_too serve_too keys)

pub returns-clause-page : goal.returns-clause-page
returns-clause-page c = λ one other query is is_too serve serve_too same.
    page_of_all one is serve query
    ∙ ap (λ (cells : Entries). Ok (first_page query (shown_rows query cells))) same
    ∙ sym (page_of_all other is_too serve_too query)
