-- The open patterns: those that aren't one term alone.
use Rattle.std.specs.Prelude.{Bool, not, List}
use Rattle.std.specs.Option.{is_some}
use Rattle.std.specs.List.{list_any}
use Rattle.tb_terms.specs.declared.pattern.Pattern.{Pattern}
use Rattle.tb_func.specs.Patterns.{fixed_term}

abbrev pub is_open : Pattern → Bool
is_open p = not (is_some (fixed_term p))

abbrev pub has_open : List Pattern → Bool
has_open ps = list_any is_open ps
