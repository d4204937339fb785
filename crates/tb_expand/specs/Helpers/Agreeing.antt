-- The agreement of the variables that the checks know with the variables that an expansion sees. Each has an existing slot and a known
-- type.
use Rattle.std.specs.Prelude.{◌≡◌, ℕ, ◌<◌, false, List, [], ◌∷◌}
use Rattle.tb_syntax.specs.declared.script.Script.{Script}
use Rattle.tb_types.specs.declared.scope.Known.{Known}
use Rattle.tb_types.specs.Names.{is_unknown_sort}
use Rattle.tb_expand.specs.declared.seen.Seen.{Seen}
use Rattle.tb_expand.specs.Scopes.{Scope}

pub record AgreesOn (script : Script) (slots : ℕ) (seen : Seen) (known : Known) : Type 0 where
  pub name : seen.name ≡ known.name
  pub sort : seen.sort ≡ known.sort
  pub slot : seen.slot < slots
  pub is_sort : is_unknown_sort script.tools known.sort ≡ false

abbrev pub Agrees : Script → ℕ → Scope → List Known → Type 0
Agrees script slots [] [] = Unit {0}
Agrees script slots [] (known ∷ others) = ⊥
Agrees script slots (seen ∷ scope) [] = ⊥
Agrees script slots (seen ∷ scope) (known ∷ others) = AgreesOn script slots seen known × Agrees script slots scope others
