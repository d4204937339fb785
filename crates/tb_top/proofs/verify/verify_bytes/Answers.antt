use Rattle.std.proofs.Common.{◌≡◌, Err, Ok, Result, ap, refl, subst}
use Rattle.tb_bus.specs.Buses.{origin_of}
use Rattle.tb_core.specs.Cores.{most_entries}
use Rattle.tb_verify.specs.Verdicts.{IsVerdict}
use Rattle.tb_top.proofs.Parts.{has-room}
use Rattle.tb_top.proofs.verify.verify_bytes.Goals as goal

pub returns-in-Ok-Trace-clause-outcome : goal.returns-in-Ok-Trace-clause-outcome
returns-in-Ok-Trace-clause-outcome g c held script log has loaded =
    let origin = origin_of c.args.program c.args.connects.now most_entries in
    let bytes = c.args.log.now in
    let trace = subst (IsVerdict origin bytes) c.in-Ok-Trace.field-0-is c.in-Ok-Trace.ensures.verdict in
    let room = has-room origin bytes c.in-Ok-Trace.field-0 c.in-Ok-Trace.ensures.crowded in
    c.put_trace.ensures.outcome held (record { script = script; log = log; connects = c.args.connects.now })
    (record { program = c.args.program; has = has; bytes = bytes; loaded = loaded; says = (trace, room) })

pub returns-in-Ok-Line-clause-outcome : goal.returns-in-Ok-Line-clause-outcome
returns-in-Ok-Line-clause-outcome g c held script log has loaded =
    let origin = origin_of c.args.program c.args.connects.now most_entries in
    let bytes = c.args.log.now in
    let leaves = subst (IsVerdict origin bytes) c.in-Ok-Line.field-0-is c.in-Ok-Line.ensures.verdict in
    let room = has-room origin bytes c.in-Ok-Line.field-0 c.in-Ok-Line.ensures.crowded in
    (record { program = c.args.program; has = has; bytes = bytes; loaded = loaded; says = (leaves, room) }, refl)

pub returns-in-Err-Full-clause-outcome : goal.returns-in-Err-Full-clause-outcome
returns-in-Err-Full-clause-outcome g c held script log has loaded =
    let crowded = c.in-Err-Full.ensures.full (ap Err c.in-Err-Full.field-0-is) in
    (record { program = c.args.program; has = has; bytes = c.args.log.now; loaded = loaded; says = crowded }, refl)
