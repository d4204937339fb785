-- Only one condition is the first that a script fails.
use Rattle.std.proofs.Common.{◌≡◌, ◌≢◌, ℕ, refl, sym, ap, ◌∙◌}
use Rattle.tb_syntax.specs.declared.script.Script.{Script}
use Rattle.tb_types.specs.declared.violation.Rule.{Rule}
use Rattle.tb_types.specs.declared.violation.Rule.TheVariants as rule
use Rattle.tb_types.specs.declared.fault.CheckFault.{CheckFault}
use Rattle.tb_types.specs.declared.fault.CheckFault.TheVariants as fault
use Rattle.tb_types.specs.Conditions.{Proper, IsFirst, IsFault}
use Rattle.tb_types.specs.Helpers.Faults.{fault_at}
use Rattle.tb_types.proofs.FirstLaws.{one_first, none_first}

-- the condition and the token of an error
record Told (script : Script) (f : CheckFault) : Type 0 where
  condition : Rule
  token : ℕ
  is_first : IsFirst script condition token
  is : f ≡ fault_at condition token

told : (script : Script) (f : CheckFault) → f ≢ fault.NoMemory → IsFault script f → Told script f
told script (fault.Twice token) other h = record { condition = rule.Twice; token = token; is_first = h; is = refl }
told script (fault.NoProcess token) other h = record { condition = rule.NoProcess; token = token; is_first = h; is = refl }
told script (fault.NoTool token) other h = record { condition = rule.NoTool; token = token; is_first = h; is = refl }
told script (fault.NoFunction token) other h = record { condition = rule.NoFunction; token = token; is_first = h; is = refl }
told script (fault.Arity token) other h = record { condition = rule.Arity; token = token; is_first = h; is = refl }
told script (fault.Undeclared token) other h = record { condition = rule.Undeclared; token = token; is_first = h; is = refl }
told script (fault.ResultInSend token) other h = record { condition = rule.ResultInSend; token = token; is_first = h; is = refl }
told script (fault.NotResult token) other h = record { condition = rule.NotResult; token = token; is_first = h; is = refl }
told script (fault.TypeClash token) other h = record { condition = rule.TypeClash; token = token; is_first = h; is = refl }
told script fault.NoMemory other h = absurd (other refl)

pub one_fault : (script : Script) (f g : CheckFault) → f ≢ fault.NoMemory → g ≢ fault.NoMemory → IsFault script f → IsFault script g → f ≡ g
one_fault script f g f_told g_told p q =
    let a = told script f f_told p in
    let b = told script g g_told q in
    let same = one_first script a.condition b.condition a.token b.token a.is_first b.is_first in
    a.is ∙ ap (λ (c : Rule). fault_at c a.token) same.0 ∙ ap (fault_at b.condition) same.1 ∙ sym b.is

pub no_fault : (script : Script) (f : CheckFault) → f ≢ fault.NoMemory → Proper script → IsFault script f → ⊥
no_fault script f f_told proper p =
    let a = told script f f_told p in
    none_first script a.condition a.token proper a.is_first
