-- Sizes that are capped just above the limits, and the size of a body from the sizes of the called processes.
use Rattle.std.specs.Prelude.{◌≡◌, ℕ, Bool, ◌||◌, nat_lt, List, map, length, min, slice_get, slice_set, Option, Some, None, option_and_then}
use Rattle.tb_body.specs.InRange.{most_body_levels}
use Rattle.tb_syntax.specs.declared.proc.Proc.{Proc}
use Rattle.tb_syntax.specs.declared.proc.Proc.TheOpen.{Proc-F, Atom, Call as CallOf, Seq, Alt, Star, Par, Disrupt, If, Let}
use Rattle.tb_syntax.specs.declared.proc.Proc.TheFolds.{fold-Proc}
use Rattle.tb_syntax.specs.declared.script.ProcDef.{ProcDef}
use Rattle.tb_syntax.specs.declared.script.Script.{Script}
use Rattle.tb_types.specs.NamePositions.{position_of, process_name}
use Rattle.tb_expand.specs.declared.size.Size.{Size}
use Rattle.tb_expand.specs.Expansion.{most_atoms}
use Rattle.tb_expand.specs.Helpers.Sizes.{nothing_size, atom_size, beside, above, tested_size, size_of}

-- a capped size: a count above a limit becomes the limit plus one
abbrev pub capped : Size → Size
capped x = record { atoms = min x.atoms 20001; levels = min x.levels 1001 }

-- the size passes a limit
abbrev pub is_over : Size → Bool
is_over x = nat_lt most_atoms x.atoms || nat_lt most_body_levels x.levels

abbrev pub called_measure : Option Size → Size
called_measure None = nothing_size
called_measure (Some x) = capped (above x)

-- the known size of the process with this name
abbrev pub known_size : Script → List Size → List ℕ → Option Size
known_size script sizes name = option_and_then (slice_get sizes) (position_of (map process_name script.procs) name)

abbrev pub measure_step : Script → List Size → Proc-F Size → Size
measure_step script sizes (Atom def) = atom_size
measure_step script sizes (CallOf call) = called_measure (known_size script sizes call.name)
measure_step script sizes (Seq x y) = capped (beside x y)
measure_step script sizes (Alt x y) = capped (beside x y)
measure_step script sizes (Star x y) = capped (beside x y)
measure_step script sizes (Par x y) = capped (beside x y)
measure_step script sizes (Disrupt x y) = capped (beside x y)
measure_step script sizes (If test x y) = capped (tested_size x y)
measure_step script sizes (Let vars x) = capped (above x)

-- the size of a body, from the sizes of the processes by position
abbrev pub measure : Script → List Size → Proc → Size
measure script sizes p = fold-Proc Size (measure_step script sizes) p

abbrev pub with_size_of : Script → List Size → ℕ → Option ProcDef → List Size
with_size_of script sizes position None = sizes
with_size_of script sizes position (Some d) = slice_set sizes position (measure script sizes d.body)

-- the sizes, after the size of the process at this position is stored
abbrev pub with_measure : Script → List Size → ℕ → List Size
with_measure script sizes position = with_size_of script sizes position (slice_get script.procs position)

-- the list has the capped size of each process at the process's position
abbrev pub AreSizes : Script → List Size → Type 0
AreSizes script sizes =
    (position : ℕ) (d : ProcDef) → slice_get script.procs position ≡ Some d → slice_get sizes position ≡ Some (capped (size_of script (length script.procs) d.body))
