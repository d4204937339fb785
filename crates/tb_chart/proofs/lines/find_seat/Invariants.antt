use Rattle.std.proofs.Common.{◌≡◌, ◌<◌, ℕ, false, get_or}
use Rattle.tb_chart.specs.declared.row.Seat.{Seat}
use Rattle.tb_chart.specs.Helpers.Additions.{is_seat}
use Rattle.tb_chart.proofs.lines.find_seat.Given as goal

-- none of the lifelines so far is the one
abbrev pub invariant-loop-index : goal.invariant-loop-index
invariant-loop-index l = (k : ℕ) → k < l.index → (d : Seat) → is_seat l.seat (get_or l.lines k d) ≡ false
