use Rattle.std.proofs.Common.{◌≡◌, ◌≤◌, ◌++◌, take, vec_capacity}
use Rattle.std.specs.List.{flat_map}
use Rattle.tb_terms.specs.Texts.{escaped}
use Rattle.tb_terms.proofs.write.push_escaped.Given as goal

abbrev pub invariant-loop-byte : goal.invariant-loop-byte
invariant-loop-byte l = record {
  text : l.into.items ≡ l.initial.into.items ++ flat_map escaped (take l.byte-index l.text);
  capacity : vec_capacity l.initial.into ≤ vec_capacity l.into;
}
