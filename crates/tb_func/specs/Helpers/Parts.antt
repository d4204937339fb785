-- The patterns that the parts of a pattern represent while it is built.
use Rattle.std.specs.Prelude.{List, map}
use Rattle.tb_terms.specs.declared.pattern.Pattern.{Pattern}
use Rattle.tb_terms.specs.declared.pattern.Pattern.TheVariants as pattern
use Rattle.tb_func.specs.declared.built.Part.{Part}
use Rattle.tb_func.specs.declared.built.Part.TheVariants.{Value, Open}
use Rattle.tb_func.specs.declared.built.Parts.{Parts}
use Rattle.tb_func.specs.declared.built.Parts.TheVariants as parts

abbrev pub as_pattern : Part → Pattern
as_pattern (Value value) = pattern.Fixed value.term
as_pattern (Open one) = one.pattern

abbrev pub as_patterns : Parts → List Pattern
as_patterns (parts.Values values) = map pattern.Fixed values.terms.items
as_patterns (parts.Open several) = several.patterns
