-- Where a log had no capacity for a call of a worker of the pipe, it already has all its inputs of lane 1.
use Rattle.std.proofs.Common.{◌≡◌, ◌+◌, List, [], ◌++◌, length, sym, ap, ◌∙◌, append_assoc, append-nil, length-append, arith}
use Rattle.std.proofs.lemmas.List.{nil_from_length}
use Rattle.atomic_table.specs.Seated.{TableId}
use Rattle.tb_log.specs.declared.entry.Input.{Input}
use Rattle.tb_log.specs.declared.entry.Entry.{Entry}
use Rattle.tb_log.specs.Lanes.{inputs}
use Rattle.tb_core.specs.Cores.{Call}
use Rattle.tb_lock.specs.Rights.{own}
use Rattle.tb_lock.specs.Seats.{SeatView}
use Rattle.tb_run.proofs.JoinLemmas.{Kept}
use Rattle.tb_run.proofs.Projections.{inputs_own}
use Rattle.tb_run.proofs.ReadLemmas.{inputs_append}
use Rattle.tb_pair.specs.Jobs.{CanServe}
use Rattle.tb_pair.specs.Workers.{FullAfter}
use Rattle.tb_pair_run.specs.Refusals.{NoRoomAfterInputs}

-- a list that is no longer with others behind it
none_behind : (first mid last : List Input) → first ≡ (first ++ mid) ++ last → mid ≡ []
none_behind first mid last e =
    let whole : length first ≡ length (first ++ mid) + length last = ap length e ∙ length-append (first ++ mid) last in
    let front : length (first ++ mid) ≡ length first + length mid = length-append first mid in
    nil_from_length mid (omega (arith, whole, front))

-- the last seat has seen the place, and the worker has delivered all inputs of lane 1 before it
pub no_room_after : (bus : TableId) (call : Call) (begun done last : SeatView) (more : List Entry) → CanServe bus begun → begun.seen ≡ [] → done.origin ≡ last.origin → Kept last done → inputs last.seen 1 ≡ inputs more 1 → FullAfter call begun done more → NoRoomAfterInputs call last.origin last.seen
no_room_after bus call begun done last more can fresh same kept all f = record {
  no_room = record { core = f.full.core; may = f.full.may; origin_is = f.full.origin ∙ same; rest = f.full.rest ++ kept.rest; is = place; full = f.full.full };
  has_all = there;
}
  where
    place : last.seen ≡ f.full.core.log ++ (f.full.rest ++ kept.rest)
    place = kept.begins ∙ (ap (λ (s : List Entry). s ++ kept.rest) f.full.seen ∙ append_assoc f.full.core.log f.full.rest kept.rest)

    its_own : own begun.rights f.mid.seen ≡ more
    its_own = f.adds.adds ∙ ap (λ (s : List Entry). own begun.rights s ++ more) fresh

    before : inputs f.mid.seen 1 ≡ inputs last.seen 1
    before = sym (inputs_own begun.rights 1 can.reads f.mid.seen) ∙ (ap (λ (l : List Entry). inputs l 1) its_own ∙ sym all)

    at_place : inputs f.full.core.log 1 ≡ inputs f.mid.seen 1 ++ inputs f.full.more 1
    at_place = ap (λ (l : List Entry). inputs l 1) f.full.behind ∙ inputs_append 1 f.mid.seen f.full.more

    whole : inputs f.mid.seen 1 ≡ (inputs f.mid.seen 1 ++ inputs f.full.more 1) ++ inputs (f.full.rest ++ kept.rest) 1
    whole = before ∙ (ap (λ (l : List Entry). inputs l 1) place ∙ (inputs_append 1 f.full.core.log (f.full.rest ++ kept.rest) ∙ ap (λ (s : List Input). s ++ inputs (f.full.rest ++ kept.rest) 1) at_place))

    none : inputs f.full.more 1 ≡ []
    none = none_behind (inputs f.mid.seen 1) (inputs f.full.more 1) (inputs (f.full.rest ++ kept.rest) 1) whole

    there : inputs f.full.core.log 1 ≡ inputs last.seen 1
    there = at_place ∙ (ap (λ (s : List Input). inputs f.mid.seen 1 ++ s) none ∙ (append-nil (inputs f.mid.seen 1) ∙ before))
