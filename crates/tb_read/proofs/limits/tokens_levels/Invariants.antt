use Rattle.std.proofs.Common.{◌≡◌, ◌≤◌, max, drop}
use Rattle.tb_read.specs.Helpers.Limits.{tokens_levels}
use Rattle.tb_read.proofs.limits.tokens_levels.Given as goal

abbrev pub invariant-loop-token : goal.invariant-loop-token
invariant-loop-token l = record {
  near : l.nested ≤ l.token-index;
  deepest : max l.deepest (tokens_levels l.nested (drop l.token-index l.tokens)) ≡ tokens_levels 0 l.tokens;
}
