use Rattle.std.proofs.Common.{sym, subst}
use Rattle.std.proofs.lemmas.Result.{on_ok_weaker}
use Rattle.tb_body.specs.declared.program.Program.{Program}
use Rattle.tb_edge.specs.FilesHeld.{IsOf, IsWithin}
use Rattle.tb_script.specs.Findings.{IsFound, Program'}
use Rattle.tb_load.specs.Loading.{IsAccepted, IsLoaded}
use Rattle.tb_top.proofs.accepting.accept_script.Goals as goal

pub returns-in-Ok-Bytes-clause-ok : goal.returns-in-Ok-Bytes-clause-ok
returns-in-Ok-Bytes-clause-ok g c =
    let told = g.F.Files.held c.args.files.now c.args.name.now in
    let bytes = c.as_slice.result.now in
    let held = subst (IsOf told) c.in-Ok-Bytes.field-0-is c.in-Ok-Bytes.ensures.held in
    let within = subst (IsWithin 1048576) c.in-Ok-Bytes.field-0-is c.in-Ok-Bytes.ensures.within in
    let loaded : IsLoaded told bytes = subst (IsLoaded told) (sym c.as_slice.ensures) (held, within) in
    let accepted : (program : Program) × IsFound bytes (Program' program) → IsAccepted told
    = λ found. (found.0, record { bytes = bytes; loaded = loaded; found = found.1 }) in
    on_ok_weaker c.accept_bytes.result accepted c.accept_bytes.ensures.ok
