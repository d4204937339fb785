use Rattle.std.proofs.Common.{◌≡◌, ◌≤◌, ◌++◌, map, take, vec_capacity}
use Rattle.tb_terms.specs.Texts.{term_text, joined}
use Rattle.tb_terms.proofs.write.+push.Given as goal

abbrev pub invariant-push_joined-loop-position : goal.invariant-push_joined-loop-position
invariant-push_joined-loop-position l = record {
  text : l.into.items ≡ l.initial.into.items ++ joined (map term_text (take l.position l.terms));
  capacity : vec_capacity l.initial.into ≤ vec_capacity l.into;
}
