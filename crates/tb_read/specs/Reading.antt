-- The errors of a source that isn't a term within limits of size and depth.
use Rattle.std.specs.Prelude.{ℕ, ◌<◌, ◌≤◌, List, Some}
use Rattle.tb_terms.specs.Sizes.{term_size, term_levels, most_term_size, most_term_levels}
use Rattle.tb_terms.specs.declared.term.Term.{Term}
use Rattle.tb_read.specs.Scanning.{Scans}
use Rattle.tb_read.specs.Spelling.{Reads}
use Rattle.tb_read.specs.declared.token.Token.{Token}
use Rattle.tb_read.specs.declared.fault.TermFault.{TermFault}
use Rattle.tb_read.specs.declared.fault.TermFault.TheVariants as fault

-- a scan from the left stops at this error
abbrev pub StopsAt : List ℕ → TermFault → Type 0
StopsAt bytes stop = (tokens : List Token) × Scans bytes tokens (Some stop)

-- the term is within limits of size and depth
abbrev pub IsWithin : ℕ → ℕ → Term → Type 0
IsWithin size levels term = (term_size term ≤ size) × (term_levels term ≤ levels)

-- An error of the scan comes before the size, and the size before the depth. Each source can have the error `NoMemory`.
abbrev pub HasFaultWithin : ℕ → ℕ → List ℕ → TermFault → Type 0
HasFaultWithin size levels bytes (fault.Syntax position) = StopsAt bytes (fault.Syntax position)
HasFaultWithin size levels bytes (fault.Real position) = StopsAt bytes (fault.Real position)
HasFaultWithin size levels bytes (fault.IntRange position) = StopsAt bytes (fault.IntRange position)
HasFaultWithin size levels bytes fault.TooLarge = (term : Term) × Reads bytes term × (size < term_size term)
HasFaultWithin size levels bytes fault.TooDeep = (term : Term) × Reads bytes term × (term_size term ≤ size) × (levels < term_levels term)
HasFaultWithin size levels bytes fault.NoMemory = Unit {0}

-- the source has this error, for the limits of a term (65,536 nodes and bytes, depth 64)
abbrev pub HasFault : List ℕ → TermFault → Type 0
HasFault bytes fault = HasFaultWithin most_term_size most_term_levels bytes fault
