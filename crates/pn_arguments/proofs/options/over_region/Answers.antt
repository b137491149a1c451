-- Each option is added to those before it.
use Rattle.std.proofs.Common.{◌∙◌, ap, ap₂}
use Rattle.std.proofs.lemmas.Result.{IfOk-weaker}
use Rattle.clap.specs.Simple.{app_of_fields, with_rule}
use Rattle.pn_arguments.proofs.options.over_region.Goals as goal

pub returns-clause-app : goal.returns-clause-app
returns-clause-app c =
    let first = c.in_ok-arg.ensures.shape c.option.ensures.local
    ∙ ap₂ with_rule (ap app_of_fields c.after_help.ensures ∙ (ap app_of_fields c.about.ensures ∙ c.new.ensures.app)) c.option.ensures.rule in
    IfOk-weaker c.arg-2.result _ _ (λ r adds. adds.shape c.number.ensures.local ∙ ap₂ with_rule first c.number.ensures.rule) c.arg-2.ensures
