-- A process whose expansion is within the limits has a body.
use Rattle.std.proofs.Common.{◌≡◌, ℕ, ◌<◌, false, List, length, slice_get, get_or, Contains, Some, refl, ap, ◌∙◌}
use Rattle.std.proofs.lemmas.Option.{slice_get_read, slice_get_within, get_or_from_slice_get}
use Rattle.tb_body.specs.declared.body.Body.{Body}
use Rattle.tb_syntax.specs.declared.script.ProcDef.{ProcDef}
use Rattle.tb_syntax.specs.declared.script.Script.{Script}
use Rattle.tb_types.specs.Conditions.{Proper}
use Rattle.tb_expand.specs.Expansion.{expansion_of, is_too_large}
use Rattle.tb_expand.specs.Faults.{HasNoCycle, IsBodyOf}
use Rattle.tb_expand.specs.Helpers.Wholes.{AllWhole}
use Rattle.tb_expand.proofs.Bodies.{parts_in_range}

-- the definition that was read is at this position
pub read_there : (procs seen : List ProcDef) (position : ℕ) (d : ProcDef) → position < length procs → d ≡ get_or seen position d → seen ≡ procs → slice_get procs position ≡ Some d
read_there procs seen position d within read same = slice_get_read procs (length procs) position d refl within (read ∙ ap (λ (xs : List ProcDef). get_or xs position d) same)

pub made_body : (script : Script) (position : ℕ) (d : ProcDef) → Proper script → AllWhole script → HasNoCycle script → slice_get script.procs position ≡ Some d
    → is_too_large (expansion_of script d) ≡ false → (body : Body) × IsBodyOf script d body
made_body script position d proper whole no_cycle at small =
    let part = expansion_of script d in
    let there : Contains script.procs d = (position, slice_get_within script.procs position d at, get_or_from_slice_get script.procs position d d at) in
    let in_range = parts_in_range script d part.tree part.atoms part.sorts (length d.formals) proper there (whole position d at) small refl refl refl refl in
    let body : Body = record { tree = part.tree; atoms = part.atoms; sorts = part.sorts; formals = length d.formals; in_range = in_range } in
    (body, record { no_cycle = no_cycle; small = small; is = record { tree = refl; atoms = refl; sorts = refl; formals = refl } })
