use Rattle.std.proofs.Common.{◌≡◌, Err, Some}
use Rattle.std.proofs.lemmas.Result.{err_from_is_err_and}
use Rattle.tb_lex.specs.declared.fault.LexFault.{LexFault}
use Rattle.tb_lex.specs.Helpers.Scanning.{Ends, head_of, next_of, piece_at}
use Rattle.tb_lex.proofs.Faulted.{Faulted-weaker}
use Rattle.tb_lex.proofs.Nexts.{next_err}
use Rattle.tb_lex.proofs.lexer.next.Goals as goal

pub returns-in_err-kind-clause-next : goal.returns-in_err-kind-clause-next
returns-in_err-kind-clause-next c =
    let p = err_from_is_err_and c.from_residual.result c.from_residual.ensures.1 in
    let bytes = c.skip_gap-bytes.result.now in
    let P : LexFault → Type 0 = λ f. piece_at (head_of c.in-Some.first.now) c.args.total bytes ≡ Err f in
    let Q : LexFault → Type 0 = λ f. next_of 200000 c.args.count c.args.total c.args.bytes.now ≡ Ends (Some f) in
    let read = rw c.head_of.ensures at c.in_err-kind.ensures.piece in
    rw (p.1, p.2) (Faulted-weaker P Q (λ f h. next_err c.args.count c.args.total c.args.bytes.now bytes c.in-Some.first.now f c.skip_gap-bytes.ensures.rest c.in-Some.ensures.value c.if-count-eq-MOST_TOKENS.false h) _ read)
