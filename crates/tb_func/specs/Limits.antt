-- The terms within the limits of size and depth.
use Rattle.std.specs.Prelude.{Option, Some, None, if◌then◌else◌}
use Rattle.tb_terms.specs.declared.term.Term.{Term}
use Rattle.tb_terms.specs.Sizes.{is_within_limits}

-- the term, or none if it is over a limit
abbrev pub limited : Term → Option Term
limited term = if is_within_limits term then Some term else None
