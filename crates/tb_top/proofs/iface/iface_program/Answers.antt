use Rattle.std.proofs.Common.{◌∙◌}
use Rattle.tb_top.proofs.Parts.{no-interface}
use Rattle.tb_top.proofs.iface.iface_program.Goals as goal

pub returns-in-Ok-clause-outcome : goal.returns-in-Ok-clause-outcome
returns-in-Ok-clause-outcome g c told has =
    let found = c.in-Ok.ensures.ok in
    c.put_interface.ensures.outcome told c.args.tool.now found.0 (record { program = c.args.program.now; has = has; is = found.1 }) (c.as_slice.ensures.value ∙ found.2)

pub returns-in-Err-clause-outcome : goal.returns-in-Err-clause-outcome
returns-in-Err-clause-outcome g c told has = no-interface (Unit {0}) told c.args.tool.now c.args.program.now (g.O.Sink.taken c.args.out.now) c.in-Err.fault c.in-Err.ensures.err has
