-- The result of a function that passes an error on.
use Rattle.std.proofs.Common.{◌≡◌, ℕ, Result, sym, subst}
use Rattle.std.specs.Result.{IsErrAnd}
use Rattle.std.proofs.lemmas.Result.{err_from_is_err_and}
use Rattle.tb_parse.specs.declared.fault.ParseFault.{ParseFault}
use Rattle.tb_parse.specs.declared.fault.ParseFault.TheVariants as fault
use Rattle.tb_parse.specs.Helpers.Parsing.{Outcome, Stops}
use Rattle.tb_parse.specs.Helpers.Reading.{Ahead, StopsWith, Meets}

pub stops_with : {A B : Type 0} (o : Outcome A) (o' : Outcome B) (e : ParseFault) → ((position : ℕ) → o ≡ Stops position → o' ≡ Stops position) → StopsWith o e → StopsWith o' e
stops_with o o' (fault.Syntax position) pass s = pass position s
stops_with o o' (fault.TooDeep position) pass s = s
stops_with o o' fault.NoMemory pass s = tt

-- the exit of a `?`
pub meets_err : {A B : Type 0} (o : Outcome A) (o' : Outcome B) (e : ParseFault) (r : Result B ParseFault) (ahead : Ahead)
    → IsErrAnd r (λ made. made ≡ e) → StopsWith o e → ((position : ℕ) → o ≡ Stops position → o' ≡ Stops position) → Meets o' r ahead
meets_err o o' e r ahead exit s pass =
    let p = err_from_is_err_and r exit in
    let P : Result _ ParseFault → Type 0 = λ r. Meets o' r ahead in
    subst P (sym p.1) (subst (StopsWith o') (sym p.2) (stops_with o o' e pass s))
