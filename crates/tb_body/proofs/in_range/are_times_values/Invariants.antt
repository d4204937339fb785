use Rattle.std.proofs.Common.{◌≡◌, drop}
use Rattle.std.specs.List.{list_all}
use Rattle.tb_body.specs.Exprs.{is_value}
use Rattle.tb_body.proofs.in_range.are_times_values.Given as goal

abbrev pub invariant-loop-time : goal.invariant-loop-time
invariant-loop-time l = list_all (λ time. is_value l.slots time.value) (drop l.time-index l.times) ≡ list_all (λ time. is_value l.slots time.value) l.times
