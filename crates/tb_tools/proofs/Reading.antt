-- The lanes by index and by number.
use Rattle.std.proofs.Common.{◌≡◌, ℕ, ◌+◌, ◌-◌, ◌<◌, List, length, get_or, ap, sym, ◌∙◌, arith}
use Rattle.std.proofs.lemmas.List.{get_or_default}
use Rattle.tb_tools.specs.Lanes.{Lane, BenchState, unused, lane_at}

-- the lane that stands at this index, by its number
pub lane_at-index : (bench : BenchState) (lanes : List Lane) (index : ℕ) (row : Lane) → bench.lanes ≡ lanes → index < length lanes → row ≡ get_or lanes index row
    → lane_at (index + 1) bench ≡ row
lane_at-index bench lanes index row e l at =
    let i : index + 1 - 1 ≡ index = omega arith in
    ap (λ (n : ℕ). get_or bench.lanes n unused) i
    ∙ ap (λ (xs : List Lane). get_or xs index unused) e
    ∙ get_or_default lanes index unused row l
    ∙ sym at
