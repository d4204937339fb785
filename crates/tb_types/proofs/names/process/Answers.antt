use Rattle.std.proofs.Common.{slice_get, Some, None, ap, ◌∙◌}
use Rattle.tb_types.specs.NamePositions.{position_in, process_name}
use Rattle.tb_types.proofs.Naming.{found_by}
use Rattle.tb_types.proofs.names.process.Goals as goal

pub returns-in-None : goal.returns-in-None
returns-in-None c =
    found_by process_name c.args.names.now.script.now.procs c.args.name.now None
    (c.in-None.ensures.value ∙ ap (position_in c.args.names.now.processes) c.as_bytes.ensures.value ∙ c.args.names.now.knows_processes c.args.name.now)

pub returns-in-Some : goal.returns-in-Some
returns-in-Some c =
    c.at.ensures ∙ ap (λ xs. slice_get xs c.in-Some.position.now) c.as_slice.ensures
    ∙ found_by process_name c.args.names.now.script.now.procs c.args.name.now (Some c.in-Some.position.now)
    (c.in-Some.ensures.value ∙ ap (position_in c.args.names.now.processes) c.as_bytes.ensures.value ∙ c.args.names.now.knows_processes c.args.name.now)
