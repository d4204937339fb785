use Rattle.std.proofs.Common.{◌≤◌, List, ◌++◌, length, Option}
use Rattle.tb_read.specs.declared.token.Token.{Token}
use Rattle.tb_read.specs.declared.fault.TermFault.{TermFault}
use Rattle.tb_read.specs.Scanning.{Runs, Scans}
use Rattle.tb_read.proofs.scan.scan.Given as goal

-- the tokens of any scan of the rest complete the tokens so far to those of the whole source
abbrev pub invariant-tokens : goal.invariant-tokens
invariant-tokens l = record {
  within : length l.rest ≤ length l.bytes;
  so_far : (tokens : List Token) (end : Option TermFault) → Runs l.shape (length l.bytes) l.rest tokens end → Scans l.bytes (l.tokens.items ++ tokens) end;
}

abbrev pub decreases-tokens : goal.decreases-tokens
decreases-tokens l = length l.rest
