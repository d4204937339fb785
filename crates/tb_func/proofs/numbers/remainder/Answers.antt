use Rattle.std.proofs.Common.{SomeIff, int_rem}
use Rattle.std.specs.Int.{CanDivide, w64}
use Rattle.std.proofs.lemmas.Int.{to_z-of_z}
use Rattle.tb_func.proofs.NumberLemmas.{remainder_checked}
use Rattle.tb_func.proofs.numbers.remainder.Goals as goal

pub returns : goal.returns
returns c =
    let x = to_z-of_z w64 c.args.x c.ranges.x in
    let y = to_z-of_z w64 c.args.y c.ranges.y in
    let checked : SomeIff c.checked_rem.result (CanDivide w64 c.args.x c.args.y) (int_rem c.args.x c.args.y) = rw (x, y) at c.checked_rem.ensures in
    remainder_checked _ _ _ c.ranges.x c.ranges.y checked
