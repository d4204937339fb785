-- The types that go together with the types of tools.
use Rattle.std.proofs.Common.{◌≡◌, ℕ, ◌==◌, Bool, true, false, ◌||◌, ◌&&◌, List, [], ◌∷◌, map, length, refl, ap, ◌∙◌}
use Rattle.std.proofs.Math.Bool.{and-false}
use Rattle.tb_terms.specs.declared.sort.Sort.{Sort, out-Sort}
use Rattle.tb_terms.specs.declared.sort.Sort.TheVariants as sorts
use Rattle.tb_terms.specs.declared.sort.Sort.TheVariants.{outs-Bool, outs-Int, outs-List, outs-Any, outs-Tool}
use Rattle.tb_terms.specs.declared.sort.Sort.TheOpen.{Sort-F}
use Rattle.tb_terms.specs.declared.sort.Sort.TheFolds.{fold_out-Sort, map-Sort}
use Rattle.tb_syntax.specs.declared.ast.Ast.{Ast}
use Rattle.tb_syntax.specs.declared.ast.AstKind.TheVariants as ast
use Rattle.tb_types.specs.declared.scope.Known.{Known}
use Rattle.tb_types.specs.Exprs.{Judged, judged, judged_kind, appl_fits, word_fits, tool_fits}
use Rattle.tb_types.specs.Fitting.{is_any, is_bool, is_int, is_list_of, is_tool_sort, is_truth_word, goes_step, goes_with, result_goes_with}
use Rattle.tb_types.specs.Names.{applied}
use Rattle.tb_types.specs.Helpers.Tools.{is_one_number}
use Rattle.tb_types.proofs.JudgedKinds.{fits_of_appl}

abbrev layer_goes : Sort-F Sort → Sort → Bool
layer_goes x = goes_step (map-Sort Sort (Sort → Bool) goes_with x)

goes_of : (own : Sort) (x : Sort-F Sort) → out-Sort own ≡ x → (s : Sort) → goes_with own s ≡ layer_goes x s
goes_of own x e s = ap (λ (f : Sort → Bool). f s) (fold_out-Sort (Sort → Bool) goes_step own ∙ ap layer_goes e)

pub goes_bool : (tool : List ℕ) → goes_with sorts.Bool (sorts.Tool tool) ≡ false
goes_bool tool = goes_of sorts.Bool _ outs-Bool (sorts.Tool tool) ∙ ap (λ (x : Sort-F Sort). is_any x || is_bool x) (outs-Tool tool)

pub goes_int : (tool : List ℕ) → goes_with sorts.Int (sorts.Tool tool) ≡ false
goes_int tool = goes_of sorts.Int _ outs-Int (sorts.Tool tool) ∙ ap (λ (x : Sort-F Sort). is_any x || is_int x) (outs-Tool tool)

pub goes_list : (tool : List ℕ) → goes_with (sorts.List sorts.Any) (sorts.Tool tool) ≡ false
goes_list tool = goes_of (sorts.List sorts.Any) _ (outs-List sorts.Any) (sorts.Tool tool) ∙ ap (λ (x : Sort-F Sort). is_any x || is_list_of (goes_with sorts.Any) x) (outs-Tool tool)

pub goes_any : (tool : List ℕ) → goes_with sorts.Any (sorts.Tool tool) ≡ true
goes_any tool = goes_of sorts.Any _ outs-Any (sorts.Tool tool)

no_word : (name : List ℕ) (count : ℕ) (tool : List ℕ) → word_fits name count (sorts.Tool tool) ≡ false
no_word name count tool =
    ap (λ (x : Sort-F Sort). (count == 0) && (is_truth_word name && is_bool x)) (outs-Tool tool)
    ∙ ap (λ b. (count == 0) && b) (and-false (is_truth_word name)) ∙ and-false (count == 0)

no_tool : (name : List ℕ) (parts : List Judged) (tool : List ℕ) → is_one_number parts ≡ false → tool_fits name parts (sorts.Tool tool) ≡ false
no_tool name [] tool e = refl
no_tool name (number ∷ []) tool e = ap (λ b. is_tool_sort name (out-Sort (sorts.Tool tool)) && b) e ∙ and-false (is_tool_sort name (out-Sort (sorts.Tool tool)))
no_tool name (number ∷ other ∷ parts) tool e = refl

pub nothing_fits : (name : List ℕ) (parts : List Judged) (tool : List ℕ) → result_goes_with (applied name (length parts)) (sorts.Tool tool) ≡ false → is_one_number parts ≡ false
    → appl_fits name parts (sorts.Tool tool) ≡ false
nothing_fits name parts tool e h = λ i. no_word name (length parts) tool i || (e i || no_tool name parts tool h i)

pub appl_tool : (known : List Known) (name : List ℕ) (parts : List Ast) (tool : List ℕ) → (judged_kind known (ast.Appl name parts)).fits (sorts.Tool tool) ≡ appl_fits name (map (judged known) parts) (sorts.Tool tool)
appl_tool known name parts tool =
    fits_of_appl known name parts (sorts.Tool tool) ∙ ap (λ (x : Sort-F Sort). is_any x || appl_fits name (map (judged known) parts) (sorts.Tool tool)) (outs-Tool tool)
