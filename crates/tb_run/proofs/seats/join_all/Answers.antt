use Rattle.std.proofs.Common.{◌≡◌, List, ap, sym, subst, ◌∙◌}
use Rattle.std.specs.List.{FoldsTo, All}
use Rattle.tb_lock.specs.Seats.{SeatView}
use Rattle.tb_lock.specs.Calls.{Joins}
use Rattle.tb_run.proofs.JoinLemmas.{all_tail}
use Rattle.tb_run.proofs.seats.join_all.Goals as goal

pub loop-other-preserved : goal.loop-other-preserved
loop-other-preserved g c =
    let i = c.loop-other.invariant in
    let e = c.in-Some.ensures.steps.0 in (
      ap (λ (s : SeatView). s.bus) c.join.ensures.seat ∙ i.0,
      all_tail (λ (it : SeatView). it.bus ≡ c.args.shared.now) c.in-Some.other c.next.new.self.rest.items (subst (λ (s : List SeatView). All (λ (it : SeatView). it.bus ≡ c.args.shared.now) s) e i.1),
      λ last f. i.2 last (subst (λ (s : List SeatView). FoldsTo Joins c.loop-other.seat s last) (sym e) (c.join.new.seat, c.join.ensures, f)),
    )
