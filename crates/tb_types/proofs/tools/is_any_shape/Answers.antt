use Rattle.std.proofs.Common.{ap, ◌∙◌}
use Rattle.tb_terms.specs.declared.sort.Sort.TheVariants as sorts
use Rattle.tb_func.specs.declared.shape.Shape.{Shape}
use Rattle.tb_func.specs.Fitting.{sort_of}
use Rattle.tb_types.specs.Fitting.{goes_with}
use Rattle.tb_types.proofs.ToolSorts.{goes_bool, goes_int, goes_list, goes_any}
use Rattle.tb_types.proofs.tools.is_any_shape.Goals as goal

pub returns-in-Bool : goal.returns-in-Bool
returns-in-Bool c = λ tool. ap (λ (s : Shape). goes_with (sort_of s) (sorts.Tool tool)) c.in-Bool.is ∙ goes_bool tool

pub returns-in-Int : goal.returns-in-Int
returns-in-Int c = λ tool. ap (λ (s : Shape). goes_with (sort_of s) (sorts.Tool tool)) c.in-Int.is ∙ goes_int tool

pub returns-in-List : goal.returns-in-List
returns-in-List c = λ tool. ap (λ (s : Shape). goes_with (sort_of s) (sorts.Tool tool)) c.in-List.is ∙ goes_list tool

pub returns-in-Any : goal.returns-in-Any
returns-in-Any c = λ tool. ap (λ (s : Shape). goes_with (sort_of s) (sorts.Tool tool)) c.in-Any.is ∙ goes_any tool
