use Rattle.std.proofs.Common.{◌≡◌, ◌+◌, ◌++◌, length, take, vec_len, vec_capacity}
use Rattle.tb_log.specs.Seens.{number_terms}
use Rattle.tb_log.proofs.log.push_numbers.Given as goal

-- the terms so far are numbers, and they are after the old content
abbrev pub invariant-loop-term : goal.invariant-loop-term
invariant-loop-term l = record {
  pushed : number_terms l.into.items ≡ number_terms l.initial.into.items ++ take l.term-index l.terms;
  same : take (length l.initial.into.items) l.into.items ≡ l.initial.into.items;
  long : vec_len l.into ≡ vec_len l.initial.into + l.term-index;
  capacity : vec_capacity l.into ≡ vec_capacity l.initial.into;
}
