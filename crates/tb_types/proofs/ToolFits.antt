-- The tools whose types an expression fits, and whether the script defines one of them.
use Rattle.std.proofs.Common.{◌≡◌, ℕ, suc, ◌==◌, Bool, true, false, ◌||◌, cond, List, [], ◌∷◌, map, length, Option, Some, None, refl, ap, sym, ◌∙◌, rules}
use Rattle.std.specs.Prelude.{is_some, find, not}
use Rattle.std.specs.Borrow.{Bor}
use Rattle.std.specs.List.{list_any}
use Rattle.std.specs.Option.{option_copied}
use Rattle.std.specs.Str.{bytes_eq}
use Rattle.tb_terms.specs.declared.sort.Sort.{Sort}
use Rattle.tb_terms.specs.declared.sort.Sort.TheVariants as sorts
use Rattle.tb_syntax.specs.declared.script.ToolDef.{ToolDef}
use Rattle.tb_types.specs.ExpectedSorts.{tool_sort}
use Rattle.tb_types.specs.Names.{is_tool}

-- a test of sorts asks no more of a tool's than its name
any_named : (test : Sort → Bool) (named : List ℕ → Bool) → ((name : List ℕ) → test (sorts.Tool name) ≡ named name) → (tools : List ToolDef)
    → list_any test (map tool_sort tools) ≡ list_any (λ (tool : ToolDef). named tool.name) tools
any_named test named e [] = refl
any_named test named e (tool ∷ tools) = λ i. e tool.name i || any_named test named e tools i

pub fits_none : (test : Sort → Bool) → ((name : List ℕ) → test (sorts.Tool name) ≡ false) → (tools : List ToolDef) → false ≡ list_any test (map tool_sort tools)
fits_none test e [] = refl
fits_none test e (tool ∷ tools) = fits_none test e tools ∙ (λ i. sym (e tool.name) i || list_any test (map tool_sort tools))

not_zero : (n : ℕ) → (suc n == 0) ≡ false
not_zero n = search rules

pub fits_every : (test : Sort → Bool) → ((name : List ℕ) → test (sorts.Tool name) ≡ true) → (tools : List ToolDef) → not (length tools == 0) ≡ list_any test (map tool_sort tools)
fits_every test e [] = refl
fits_every test e (tool ∷ tools) = ap not (not_zero (length tools)) ∙ (λ i. sym (e tool.name) i || list_any test (map tool_sort tools))

pub some_copied : {A : Type 0} (o : Option (Bor A)) → is_some o ≡ is_some (option_copied o)
some_copied None = refl
some_copied (Some it) = refl

found_named : (name : List ℕ) (tools : List ToolDef) → is_tool tools name ≡ list_any (λ (tool : ToolDef). bytes_eq tool.name name) tools
found_named name [] = refl
found_named name (tool ∷ tools) = step (bytes_eq tool.name name) (found_named name tools) where
  step : (b : Bool) → is_tool tools name ≡ list_any (λ (other : ToolDef). bytes_eq other.name name) tools
      → is_some (cond b (Some tool) (find (λ (other : ToolDef). bytes_eq other.name name) tools)) ≡ (b || list_any (λ (other : ToolDef). bytes_eq other.name name) tools)
  step true ih = refl
  step false ih = ih

pub fits_named : (test : Sort → Bool) (name : List ℕ) → ((tool : List ℕ) → test (sorts.Tool tool) ≡ bytes_eq tool name) → (tools : List ToolDef) → is_tool tools name ≡ list_any test (map tool_sort tools)
fits_named test name e tools = found_named name tools ∙ sym (any_named test (λ tool. bytes_eq tool name) e tools)
