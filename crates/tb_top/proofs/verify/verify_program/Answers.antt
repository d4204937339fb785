use Rattle.std.proofs.Common.{sym, subst}
use Rattle.tb_load.specs.Loading.{IsLoadedWithin}
use Rattle.tb_top.specs.Verify.{most_log_bytes}
use Rattle.tb_top.proofs.Parts.{log-unread}
use Rattle.tb_top.proofs.verify.verify_program.Goals as goal

pub returns-in-Ok-clause-outcome : goal.returns-in-Ok-clause-outcome
returns-in-Ok-clause-outcome g c script has =
    let held = g.F.Files.held c.args.files.now in
    let loaded : IsLoadedWithin most_log_bytes (held c.args.log.now) c.as_slice.result.now =
    subst (IsLoadedWithin most_log_bytes (held c.args.log.now)) (sym c.as_slice.ensures) c.in-Ok.ensures.ok in
    c.verify_bytes.ensures.outcome held script c.args.log.now has loaded

pub returns-in-Err-clause-outcome : goal.returns-in-Err-clause-outcome
returns-in-Err-clause-outcome g c script has =
    log-unread (Unit {0}) (g.F.Files.held c.args.files.now) (record { script = script; log = c.args.log.now; connects = c.args.connects.now })
    c.args.program (g.O.Sink.taken c.args.out.now) c.in-Err.fault c.in-Err.ensures.err has
