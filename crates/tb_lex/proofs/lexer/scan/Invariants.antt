use Rattle.std.proofs.Common.{◌≤◌, List, ◌++◌, length, Option}
use Rattle.tb_lex.specs.declared.token.Token.{Token}
use Rattle.tb_lex.specs.declared.fault.LexFault.{LexFault}
use Rattle.tb_lex.specs.Helpers.Scanning.{Runs, Scans}
use Rattle.tb_lex.proofs.lexer.scan.Given as goal

-- the tokens so far, and then those of the rest, are the tokens of the whole source
abbrev pub invariant-tokens : goal.invariant-tokens
invariant-tokens l = record {
  within : length l.rest ≤ length l.bytes;
  so_far : (tokens : List Token) (end : Option LexFault) → Runs 200000 (length l.tokens) (length l.bytes) l.rest tokens end → Scans l.bytes (l.tokens ++ tokens) end;
}

abbrev pub decreases-tokens : goal.decreases-tokens
decreases-tokens l = length l.rest
