use Rattle.std.proofs.Common.{◌++◌, ap, ◌∙◌, sym}
use Rattle.tb_syntax.specs.Helpers.Canonical.{proc_tokens, then_tokens, expr_tokens}
use Rattle.tb_syntax.specs.declared.level.Level.TheVariants.{Proc as Whole}
use Rattle.tb_syntax.proofs.ProcTokens.{tokens_behind}
use Rattle.tb_syntax.proofs.procs.+procs.Goals as goal

pub push_proc-returns-in_ok-push_else-in-If : goal.push_proc-returns-in_ok-push_else-in-If
push_proc-returns-in_ok-push_else-in-If t c =
    let first = c.in_ok-push_then-in-If.ensures ∙ ap (λ x. c.args.into.now ++ then_tokens (expr_tokens c.in-If.test) (proc_tokens x Whole)) c.get-in-If.ensures in
    tokens_behind _ _ _ c.in-If.test c.in-If.x c.in-If.y c.args.at first c.in_ok-push_else-in-If.ensures
    ∙ ap (λ p. c.args.into.now ++ proc_tokens p c.args.at) (sym c.in-If.is)
