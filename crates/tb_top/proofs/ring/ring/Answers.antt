use Rattle.std.proofs.Common.{◌≡◌, ◌∙◌, List, ℕ, subst}
use Rattle.tb_gen.specs.Ring.{ring_text}
use Rattle.tb_script.specs.Findings.{IsFound, Program'}
use Rattle.tb_top.proofs.Parts.{ring-refused}
use Rattle.tb_top.proofs.ring.ring.Goals as goal

pub returns-in-Ok-load_bytes-clause-outcome : goal.returns-in-Ok-load_bytes-clause-outcome
returns-in-Ok-load_bytes-clause-outcome g c =
    let text : c.as_slice.result.now ≡ ring_text c.args.n c.args.k = c.as_slice.ensures.value ∙ c.in-Ok.ensures.is in
    c.ring_program.ensures.outcome c.args.k
    (subst (λ (bytes : List ℕ). IsFound bytes (Program' c.in-Ok-load_bytes.program)) text c.in-Ok-load_bytes.ensures.ok)

pub returns-clause-outcome : goal.returns-clause-outcome
returns-clause-outcome g c =
    let text : c.as_slice.result.now ≡ ring_text c.args.n c.args.k = c.as_slice.ensures.value ∙ c.in-Ok.ensures.is in
    ring-refused (Unit {0}) c.args.n c.args.k c.as_slice.result.now (g.O.Sink.taken c.args.out.now) c.in-Err.fault text c.in-Err.ensures.err
