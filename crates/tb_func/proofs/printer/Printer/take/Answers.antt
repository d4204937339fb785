use Rattle.std.proofs.lemmas.Result.{IfOk-weaker}
use Rattle.tb_func.proofs.printer.Printer.take.Goals as goal

pub returns-then-self : goal.returns-then-self
returns-then-self c =
    IfOk-weaker c.directive.result _ _ (λ goes h rest. rw c.if-self.true (h rest)) c.directive.ensures
