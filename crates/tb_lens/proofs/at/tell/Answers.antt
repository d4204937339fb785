use Rattle.std.proofs.Common.{◌≡◌, Err, refl, sym, subst}
use Rattle.std.specs.Prelude.{IsErrOf}
use Rattle.tb_edge.specs.Faults.{Rose}
use Rattle.tb_edge.specs.FilesHeld.{IsOf, IsWithin, asked_after}
use Rattle.tb_edge.specs.declared.files.FilesFault.{FilesFault}
use Rattle.tb_edge.specs.declared.files.FilesFault.TheVariants.{Failed}
use Rattle.tb_lens.specs.Told.{IsLoaded}
use Rattle.tb_lens.proofs.Asking.{failed_one}
use Rattle.tb_lens.proofs.Tellings.{tells_long}
use Rattle.tb_lens.proofs.at.tell.Goals as goal

pub returns-in_ok-tell_bytes-in-Ok-Bytes-clause-tells :
    goal.returns-in_ok-tell_bytes-in-Ok-Bytes-clause-tells
returns-in_ok-tell_bytes-in-Ok-Bytes-clause-tells g c =
    let told = g.F.Files.held c.args.files.now c.args.name.now in
    let held = subst (IsOf told) c.in-Ok-Bytes.field-0-is c.in-Ok-Bytes.ensures.held in
    let within = subst (IsWithin 1048576) c.in-Ok-Bytes.field-0-is c.in-Ok-Bytes.ensures.within in
    let loaded : IsLoaded told c.as_slice.result.now = subst (IsLoaded told) (sym c.as_slice.ensures) (held, within) in
    c.in_ok-tell_bytes-in-Ok-Bytes.ensures told loaded

pub returns-in_ok-tell_long-in-Ok-TooLong-clause-tells :
    goal.returns-in_ok-tell_long-in-Ok-TooLong-clause-tells
returns-in_ok-tell_long-in-Ok-TooLong-clause-tells g c =
    let told = g.F.Files.held c.args.files.now c.args.name.now in
    let held = subst (IsOf told) c.in-Ok-TooLong.field-0-is c.in-Ok-TooLong.ensures.held in
    let within = subst (IsWithin 1048576) c.in-Ok-TooLong.field-0-is c.in-Ok-TooLong.ensures.within in
    tells_long told c.args.name.now c.in_ok-tell_long-in-Ok-TooLong.field-0.items c.in-Ok-TooLong.len within held c.in_ok-tell_long-in-Ok-TooLong.ensures

-- this is the load that failed
pub returns-in_ok-from_str-in-Err-Failed-clause-reason :
    goal.returns-in_ok-from_str-in-Err-Failed-clause-reason
returns-in_ok-from_str-in-Err-Failed-clause-reason g c =
    let asked = g.F.Files.asked in
    let old = c.args.files.now in
    let new = c.load.new.self in
    let name = c.args.name.now in
    let is = subst (λ (fault : FilesFault). asked new ≡ asked_after (Err fault) (asked old) name) c.in-Err-Failed.field-0-is c.in-Err-Failed.ensures.asked in
    let rose = subst (λ (fault : FilesFault). IsErrOf (Err fault) Failed → Rose (g.F.Files.faults old) (g.F.Files.faults new)) c.in-Err-Failed.field-0-is
    c.in-Err-Failed.ensures.rose refl in
    failed_one asked g.F.Files.faults name c.in_ok-from_str-in-Err-Failed.field-0.bytes.items old new c.in_ok-from_str-in-Err-Failed.ensures.ok is rose
