-- For each variable that the checks know, an expansion sees an existing slot and the variable's known type.
use Rattle.std.proofs.Common.{◌≡◌, ℕ, ◌<◌, Bool, true, false, cond, List, [], ◌∷◌, Option, Some, ap, sym, ◌∙◌, subst}
use Rattle.std.specs.Str.{bytes_eq}
use Rattle.tb_terms.specs.declared.sort.Sort.{Sort}
use Rattle.tb_syntax.specs.declared.script.Script.{Script}
use Rattle.tb_types.specs.declared.scope.Known.{Known}
use Rattle.tb_types.specs.Names.{is_unknown_sort}
use Rattle.tb_types.specs.Scopes.{sort_in}
use Rattle.tb_expand.specs.declared.seen.Seen.{Seen}
use Rattle.tb_expand.specs.Helpers.Agreeing.{Agrees, AgreesOn}
use Rattle.tb_expand.specs.Scopes.{Scope, seen_as, slot_of, slot_or_0, sort_of, sort_or_term}

abbrev IsPositioned : Script → ℕ → Sort → Option Seen → Type 0
IsPositioned script slots s seen = (slot_or_0 seen < slots) × (sort_or_term seen ≡ s) × (is_unknown_sort script.tools s ≡ false)

-- the first variable of the name is the first in both
here : (script : Script) (slots : ℕ) (seen : Seen) (known : Known) (s : Sort) → AgreesOn script slots seen known → known.sort ≡ s → IsPositioned script slots s (Some seen)
here script slots seen known s on e = (on.slot, on.sort ∙ e, ap (is_unknown_sort script.tools) (sym e) ∙ on.is_sort)

positioned : (script : Script) (slots : ℕ) (scope : Scope) (known : List Known) (name : List ℕ) (s : Sort)
    → Agrees script slots scope known → sort_in known name ≡ Some s → IsPositioned script slots s (seen_as name scope)
positioned script slots [] [] name s agrees e = absurd (cc)
positioned script slots [] (known ∷ others) name s agrees e = absurd agrees
positioned script slots (seen ∷ scope) [] name s agrees e = absurd agrees
positioned script slots (seen ∷ scope) (known ∷ others) name s agrees e =
    subst (IsPositioned script slots s) (ap (λ n. cond (bytes_eq n name) (Some seen) (seen_as name scope)) (sym agrees.0.name))
    (step (bytes_eq known.name name) e (positioned script slots scope others name s agrees.1)) where
      step : (b : Bool) → cond b (Some known.sort) (sort_in others name) ≡ Some s → (sort_in others name ≡ Some s → IsPositioned script slots s (seen_as name scope))
          → IsPositioned script slots s (cond b (Some seen) (seen_as name scope))
      step true found further =
          let same : known.sort ≡ s = cc in
          here script slots seen known s agrees.0 same
      step false found further = further found

pub slot_in_range : (script : Script) (slots : ℕ) (scope : Scope) (known : List Known) (name : List ℕ) (s : Sort)
    → Agrees script slots scope known → sort_in known name ≡ Some s → slot_of scope name < slots
slot_in_range script slots scope known name s agrees e = (positioned script slots scope known name s agrees e).0

pub sort_of_known : (script : Script) (slots : ℕ) (scope : Scope) (known : List Known) (name : List ℕ) (s : Sort)
    → Agrees script slots scope known → sort_in known name ≡ Some s → sort_of scope name ≡ s
sort_of_known script slots scope known name s agrees e = (positioned script slots scope known name s agrees e).1

pub known_sort : (script : Script) (slots : ℕ) (scope : Scope) (known : List Known) (name : List ℕ) (s : Sort)
    → Agrees script slots scope known → sort_in known name ≡ Some s → is_unknown_sort script.tools s ≡ false
known_sort script slots scope known name s agrees e = (positioned script slots scope known name s agrees e).2
