-- The members that were found are the parts of the image that the value is.
use Rattle.std.proofs.Common.{◌≡◌, codes, true, IsTrue, sym, subst, rules}
use Rattle.serde_json.specs.Find.{get}
use Rattle.serde_json.specs.View.{view}
use Rattle.pn_join.specs.Naming.{is_name}
use Rattle.pn_record.specs.Grammar.{body_fits, numbers_at, fields_at}
use Rattle.pn_record.specs.Limits.{is_key, is_version}
use Rattle.pn_json.specs.Members.{text_at}
use Rattle.pn_record.specs.Showing.{shown_body}
use Rattle.pn_record.proofs.ImageParts.{parts_found}
use Rattle.pn_record.proofs.SameImage.{content_from}
use Rattle.pn_record.proofs.as_json.moved.image_from.Goals as goal

pub of_fitting-requires : goal.of_fitting-requires
of_fitting-requires c =
    let text : c.parts_after_body-generation.result.0.now ≡ text_at (get (codes "key") (view c.args.value)) = search rules in
    subst (λ t. IsTrue (is_key t)) (sym text) (parts_found (view c.args.value) c.requires).key

pub of-master-requires : goal.of-master-requires
of-master-requires c =
    let text : c.as_bytes.result.now ≡ text_at (get (codes "master") (view c.args.value)) = search rules in
    record { fits = subst (λ t. IsTrue (is_name t)) (sym text) (parts_found (view c.args.value) c.requires).master }

pub invariant_of-result : goal.invariant_of-result
invariant_of-result c =
    let numbers : c.parts_after_body-generation.result.2 ≡ numbers_at (get (codes "version") (view c.args.value)) = search rules in
    subst (λ v. IsTrue (is_version v)) (sym numbers) (parts_found (view c.args.value) c.requires).version

pub invariant_of-result-2 : goal.invariant_of-result-2
invariant_of-result-2 c =
    let parts = parts_found (view c.args.value) c.requires in
    let body : shown_body c.in_ok-body.body ≡ fields_at (get (codes "fields") (view c.args.value)) = search rules in
    let fits : body_fits (shown_body c.in_ok-body.body) ≡ true = rw body parts.body in
    let named : is_name c.of-master.result ≡ true = search rules in
    content_from (shown_body c.in_ok-body.body) c.of-master.result fits c.in_ok-body.ensures.rising named
