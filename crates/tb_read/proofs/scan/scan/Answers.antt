use Rattle.std.proofs.Common.{◌≡◌, List, [], ◌++◌, length, Some, None, append-nil}
use Rattle.std.proofs.lemmas.Result.{err_from_is_err_and}
use Rattle.tb_read.specs.declared.token.Token.{Token}
use Rattle.tb_read.specs.declared.fault.TermFault.{TermFault}
use Rattle.tb_read.specs.Scanning.{Ends, next_of, Scans}
use Rattle.tb_read.proofs.Faults.{Faulted-weaker}
use Rattle.tb_read.proofs.scan.scan.Goals as goal

pub returns-in-None : goal.returns-in-None
returns-in-None c =
    let ended = rw c.in-None.is at c.in_ok-next.ensures.next in
    rw append-nil at (c.tokens.invariant.so_far [] None ended)

pub returns-in_err-next : goal.returns-in_err-next
returns-in_err-next c =
    let p = err_from_is_err_and c.from_residual.result c.from_residual.ensures.1 in
    let bytes = c.args.bytes.now in
    let P : TermFault → Type 0 = λ f. next_of c.tokens.shape (length bytes) c.tokens.rest.now ≡ Ends (Some f) in
    let Q : TermFault → Type 0 = λ f. (tokens : List Token) × Scans bytes tokens (Some f) in
    rw (p.1, p.2) (Faulted-weaker P Q (λ f h. (c.tokens.tokens.items ++ [], c.tokens.invariant.so_far [] (Some f) h)) _ c.in_err-next.ensures.next)
