-- Where memory runs out nothing is said of names; else there is one more.
use Rattle.std.proofs.Common.{map, ap, ◌∙◌}
use Rattle.std.proofs.lemmas.List.{map-append}
use Rattle.std.proofs.lemmas.Result.{IfOk-from_err}
use Rattle.pn_serve.specs.declared.server.mailboxes.StreamMailbox.{StreamMailbox}
use Rattle.pn_serve.proofs.server.mailboxes.StreamMailboxes.add.Goals as goal

pub returns-in_err-mailbox-clause-names : goal.returns-in_err-mailbox-clause-names
returns-in_err-mailbox-clause-names g c = IfOk-from_err c.from_residual.result (λ _. _) c.from_residual.ensures.0

pub returns-in_err-try_clone-clause-names : goal.returns-in_err-try_clone-clause-names
returns-in_err-try_clone-clause-names g c = IfOk-from_err c.from_residual-in_err-try_clone.result (λ _. _) c.from_residual-in_err-try_clone.ensures.0

pub returns-in_err-try_clone-2-clause-names : goal.returns-in_err-try_clone-2-clause-names
returns-in_err-try_clone-2-clause-names g c = IfOk-from_err c.from_residual-in_err-try_clone-2.result (λ _. _) c.from_residual-in_err-try_clone-2.ensures.0

pub returns-in_err-share-clause-names : goal.returns-in_err-share-clause-names
returns-in_err-share-clause-names g c = IfOk-from_err c.from_residual-in_err-share.result (λ _. _) c.from_residual-in_err-share.ensures.0

pub returns-clause-names : goal.returns-clause-names
returns-clause-names g c =
    let named = λ (stream : StreamMailbox g.row.M.Denot g.M.Sending). stream.name in
    ap (map named) c.in_ok-push.ensures.items ∙ map-append named c.args.self.now.streams.items _
