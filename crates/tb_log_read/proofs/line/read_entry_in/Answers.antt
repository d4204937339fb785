use Rattle.std.proofs.Common.{sym, ◌∙◌}
use Rattle.std.proofs.lemmas.Bool.{false≢true}
use Rattle.tb_log_read.proofs.LineReadings.{line_says, says_line, says_other}
use Rattle.tb_log_read.proofs.line.read_entry_in.Goals as goal

pub returns-in_default-clause-only : goal.returns-in_default-clause-only
returns-in_default-clause-only c = λ n e l. sym c.in_default.is ∙ c.in_ok-numbered.ensures ∙ line_says n e c.args.line.now l

pub returns-then-branch-clause-found : goal.returns-then-branch-clause-found
returns-then-branch-clause-found c =
    says_line c.args.line.now c.in-Some.numbered (sym c.in_ok-numbered.ensures ∙ c.in-Some.is) (c.in_ok-is_line.ensures.0 c.if-branch.true)

pub returns-then-branch-clause-only : goal.returns-then-branch-clause-only
returns-then-branch-clause-only c = λ n e l. sym c.in-Some.is ∙ c.in_ok-numbered.ensures ∙ line_says n e c.args.line.now l

pub returns-else-branch-clause-only : goal.returns-else-branch-clause-only
returns-else-branch-clause-only c = λ n e l.
    absurd (false≢true (sym c.if-branch.false ∙ c.in_ok-is_line.ensures.1 (says_other c.args.line.now c.in-Some.numbered n e (sym c.in_ok-numbered.ensures ∙ c.in-Some.is) l)))
