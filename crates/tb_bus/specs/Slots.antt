-- The values that the slots and the parameters of a body take.
use Rattle.std.specs.Prelude.{ℕ, ◌==◌, ◌&&◌, List, length, Bool, false, Option, Some, None, slice_get}
use Rattle.tb_terms.specs.declared.term.Term.{Term}
use Rattle.tb_body.specs.declared.body.Body.{Body}
use Rattle.tb_body.specs.Programs.{have_sorts}
use Rattle.tb_process_steps.specs.Binds.{has_slot_sort}

-- there are as many arguments as the body has parameters, and each has the type of its parameter
abbrev pub fits_formals : Option Body → List Term → Bool
fits_formals None actuals = false
fits_formals (Some body) actuals = length actuals == body.formals && have_sorts body.sorts actuals

-- the body has this slot, and the value has the slot's type
abbrev pub fits_slot : Option Body → ℕ → Term → Bool
fits_slot None slot value = false
fits_slot (Some body) slot value = has_slot_sort (slice_get body.sorts slot) value
