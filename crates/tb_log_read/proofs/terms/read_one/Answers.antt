use Rattle.std.proofs.Common.{◌≡◌, sym, ◌∙◌}
use Rattle.std.proofs.lemmas.Bool.{false≢true}
use Rattle.tb_log_read.proofs.Readings.{term_of-reads, term_of-fault}
use Rattle.tb_log_read.proofs.terms.read_one.Goals as goal

pub returns-in-Ok : goal.returns-in-Ok
returns-in-Ok c =
    sym (term_of-reads c.args.bytes.now c.in-Ok.term c.in-Ok.ensures.found.0 c.in-Ok.ensures.found.1)

pub returns-in-Err-2 : goal.returns-in-Err-2
returns-in-Err-2 c =
    let same : c.in-Err-2.field-0 ≡ c.in-Err.fault = cc in
    sym (term_of-fault c.args.bytes.now c.in-Err-2.field-0 c.in-Err-2.ensures.fault (λ e. false≢true (sym c.if-is_of_memory.false ∙ c.is_of_memory.ensures.1 (sym same ∙ e))))
