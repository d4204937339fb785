use Rattle.std.proofs.Common.{◌≡◌, List, [], ◌++◌, length, Some, None, append-nil, subst}
use Rattle.std.proofs.lemmas.Result.{err_from_is_err_and}
use Rattle.tb_lex.specs.declared.token.Token.{Token}
use Rattle.tb_lex.specs.declared.fault.LexFault.{LexFault}
use Rattle.tb_lex.specs.Helpers.Scanning.{Ends, next_of, Scans}
use Rattle.tb_lex.proofs.Faulted.{Faulted-weaker}
use Rattle.tb_lex.proofs.lexer.scan.Goals as goal

pub returns-in-None : goal.returns-in-None
returns-in-None c =
    let ended = rw c.in-None.is at c.in_ok-next.ensures.next in
    let counted = subst (λ n. next_of 200000 n (length c.args.bytes.now) c.tokens.rest.now ≡ Ends None) c.len.ensures ended in
    rw append-nil at (c.tokens.invariant.so_far [] None counted)

pub returns-in_err-next : goal.returns-in_err-next
returns-in_err-next c =
    let p = err_from_is_err_and c.from_residual.result c.from_residual.ensures.1 in
    let bytes = c.args.bytes.now in
    let P : LexFault → Type 0 = λ f. next_of 200000 c.len.result (length bytes) c.tokens.rest.now ≡ Ends (Some f) in
    let Q : LexFault → Type 0 = λ f. (tokens : List Token) × Scans bytes tokens (Some f) in
    let counted : (f : LexFault) → P f → next_of 200000 (length c.tokens.tokens) (length bytes) c.tokens.rest.now ≡ Ends (Some f) = λ f h. subst (λ n. next_of 200000 n (length bytes) c.tokens.rest.now ≡ Ends (Some f)) c.len.ensures h in
    rw (p.1, p.2) (Faulted-weaker P Q (λ f h. (c.tokens.tokens ++ [], c.tokens.invariant.so_far [] (Some f) (counted f h))) _ c.in_err-next.ensures.next)
