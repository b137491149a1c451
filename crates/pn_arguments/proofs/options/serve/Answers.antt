-- Each option is added to those before it.
use Rattle.std.proofs.Common.{◌≡◌, ◌∙◌, ◌||◌, Bool, false, ap, ap₂}
use Rattle.std.proofs.lemmas.Result.{IfOk-weaker}
use Rattle.clap.specs.Simple.{with_rule}
use Rattle.std.specs.Prelude.{codes}
use Rattle.clap.specs.Words.{rule_of}
use Rattle.pn_arguments.specs.Options.{connections_option, control_option, copies_option, idle_option, listen_option, plain_option}
use Rattle.pn_arguments.specs.Options.{port_option, progress_flag, sessions_option, socket_mode_option, socket_option, stay_flag}
use Rattle.pn_arguments.specs.Options.{streams_words, unread_option}
use Rattle.pn_arguments.proofs.options.serve.Goals as goal

pub returns-clause-app : goal.returns-clause-app
returns-clause-app c =
    let sessions : rule_of c.number.result ≡ sessions_option = c.number.ensures.rule in
    let listen : rule_of c.option.result ≡ listen_option = c.option.ensures.rule in
    let port : rule_of c.number-2.result ≡ port_option = c.number-2.ensures.rule in
    let socket : rule_of c.path.result ≡ socket_option = c.path.ensures.rule in
    let mode : rule_of c.option-2.result ≡ socket_mode_option = c.option-2.ensures.rule in
    let stay : rule_of c.flag.result ≡ stay_flag = c.flag.ensures.rule in
    let control : rule_of c.path-2.result ≡ control_option = c.path-2.ensures.rule in
    let connections : rule_of c.number-3.result ≡ connections_option = c.number-3.ensures.rule in
    let idle : rule_of c.plain.result ≡ idle_option = c.plain.ensures.rule ∙ ap (plain_option (codes "idle")) c.up_to.ensures in
    let unread : rule_of c.unread.result ≡ unread_option = c.unread.ensures.rule in
    let progress : rule_of c.flag-2.result ≡ progress_flag = c.flag-2.ensures.rule in
    let copies : rule_of c.path-3.result ≡ copies_option = c.path-3.ensures.rule in
    let streams : rule_of c.streams.result ≡ streams_words = c.streams.ensures.rule in
    let one = c.in_ok-arg.ensures.shape c.number.ensures.local ∙ ap₂ with_rule c.in_ok-over_region.ensures.app sessions in
    let two = c.in_ok-arg-2.ensures.shape c.option.ensures.local ∙ ap₂ with_rule one listen in
    let three = c.in_ok-arg-3.ensures.shape c.number-2.ensures.local ∙ ap₂ with_rule two port in
    let four = c.in_ok-arg-4.ensures.shape c.path.ensures.local ∙ ap₂ with_rule three socket in
    let five = c.in_ok-arg-5.ensures.shape c.option-2.ensures.local ∙ ap₂ with_rule four mode in
    let six = c.in_ok-arg-6.ensures.shape c.flag.ensures.local ∙ ap₂ with_rule five stay in
    let seven = c.in_ok-arg-7.ensures.shape c.path-2.ensures.local ∙ ap₂ with_rule six control in
    let eight = c.in_ok-arg-8.ensures.shape c.number-3.ensures.local ∙ ap₂ with_rule seven connections in
    let nine = c.in_ok-arg-9.ensures.shape c.plain.ensures.local ∙ ap₂ with_rule eight idle in
    let ten = c.in_ok-arg-10.ensures.shape c.unread.ensures.local ∙ ap₂ with_rule nine unread in
    let eleven = c.in_ok-arg-11.ensures.shape c.flag-2.ensures.local ∙ ap₂ with_rule ten progress in
    let twelve = c.in_ok-arg-12.ensures.shape c.path-3.ensures.local ∙ ap₂ with_rule eleven copies in
    IfOk-weaker c.arg-13.result _ _ (λ r adds. adds.shape c.streams.ensures.local ∙ ap₂ with_rule twelve streams) c.arg-13.ensures

neither : (a b : Bool) → a ≡ false → b ≡ false → (a || b) ≡ false
neither a b one other = ap₂ (λ (x y : Bool). x || y) one other

pub returns-clause-local : goal.returns-clause-local
returns-clause-local c =
    let one = c.in_ok-arg.ensures.globals ∙ neither _ _ c.in_ok-over_region.ensures.local c.number.ensures.local in
    let two = c.in_ok-arg-2.ensures.globals ∙ neither _ _ one c.option.ensures.local in
    let three = c.in_ok-arg-3.ensures.globals ∙ neither _ _ two c.number-2.ensures.local in
    let four = c.in_ok-arg-4.ensures.globals ∙ neither _ _ three c.path.ensures.local in
    let five = c.in_ok-arg-5.ensures.globals ∙ neither _ _ four c.option-2.ensures.local in
    let six = c.in_ok-arg-6.ensures.globals ∙ neither _ _ five c.flag.ensures.local in
    let seven = c.in_ok-arg-7.ensures.globals ∙ neither _ _ six c.path-2.ensures.local in
    let eight = c.in_ok-arg-8.ensures.globals ∙ neither _ _ seven c.number-3.ensures.local in
    let nine = c.in_ok-arg-9.ensures.globals ∙ neither _ _ eight c.plain.ensures.local in
    let ten = c.in_ok-arg-10.ensures.globals ∙ neither _ _ nine c.unread.ensures.local in
    let eleven = c.in_ok-arg-11.ensures.globals ∙ neither _ _ ten c.flag-2.ensures.local in
    let twelve = c.in_ok-arg-12.ensures.globals ∙ neither _ _ eleven c.path-3.ensures.local in
    IfOk-weaker c.arg-13.result _ _ (λ r adds. adds.globals ∙ neither _ _ twelve c.streams.ensures.local) c.arg-13.ensures
