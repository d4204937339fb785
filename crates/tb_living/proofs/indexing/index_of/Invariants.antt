use Rattle.std.proofs.Common.{ℕ, take}
use Rattle.std.specs.List.{All}
use Rattle.tb_index.specs.Indexes.{HasRoom}
use Rattle.tb_living.specs.Indexes.{HasNothing}
use Rattle.tb_living.proofs.indexing.index_of.Given as goal

abbrev pub invariant-loop-number : goal.invariant-loop-number
invariant-loop-number l = record {
  nothing : (number : ℕ) → HasNothing l.index number;
  room : All (HasRoom l.index) (take l.number-index l.numbers);
}
