use Rattle.std.proofs.Common.{◌∙◌, ap, slice_get, List}
use Rattle.tb_syntax.specs.declared.script.ProcDef.{ProcDef}
use Rattle.tb_expand.specs.declared.size.Size.{Size}
use Rattle.tb_expand.specs.Helpers.Measuring.{measure}
use Rattle.tb_expand.proofs.SizesKept.{kept_size}
use Rattle.tb_expand.proofs.sizes.keep_size.Goals as goal

pub returns-in-Some : goal.returns-in-Some
returns-in-Some c =
    let script = c.args.names.now.script.now in
    kept_size script c.args.sizes.now c.set.new.self c.args.position c.in-Some.def.now c.size_of_body-size.result
    (c.in-Some.ensures ∙ ap (λ (procs : List ProcDef). slice_get procs c.args.position) c.as_slice.ensures)
    (c.size_of_body-size.ensures ∙ ap (λ (sizes : List Size). measure script sizes c.in-Some.def.now.body) c.as_slice-in-Some.ensures)
    c.set.ensures
