use Rattle.std.proofs.Common.{rules, arith, ◌≡◌, ◌-◌, List, length, subst, sym, ap, ◌∙◌}
use Rattle.std.specs.List.{fold}
use Rattle.tb_lock.specs.declared.rights.Rights.{Rights}
use Rattle.tb_lock.specs.Rights.{AreAmong, all_rights, without, ticker_rights}
use Rattle.tb_lock.specs.Seats.{SeatView}
use Rattle.tb_run.specs.Parting.{CanPart, left_after}
use Rattle.tb_run.specs.Parts.{job_rights, rights_left}
use Rattle.tb_run.proofs.PartLemmas.{jobs_can, ticks_can, job_count, left_bus, left_rights, left_room}
use Rattle.tb_run.proofs.parts.hand_out.Goals as goal

pub split_all-requires-clause-rights : goal.split_all-requires-clause-rights
split_all-requires-clause-rights g c =
    let same : c.as_slice.result.now ≡ job_rights = search rules in
    subst (λ (r : Rights). CanPart r c.as_slice.result.now) (sym (ap (λ (s : SeatView). s.rights) c.requires.first)) (subst (λ (ps : List Rights). CanPart all_rights ps) (sym same) jobs_can)

pub split-tick-requires-clause-own : goal.split-tick-requires-clause-own
split-tick-requires-clause-own g c =
    let same : c.as_slice.result.now ≡ job_rights = search rules in
    let left : c.split_all.new.seat ≡ left_after c.args.seat.now job_rights = c.split_all.ensures.seat ∙ ap (λ (ps : List Rights). left_after c.args.seat.now ps) same in
    ap (λ (s : SeatView). s.bus) left ∙ (left_bus c.args.seat.now job_rights ∙ ap (λ (s : SeatView). s.bus) c.requires.first)

pub split-tick-requires-clause-rights : goal.split-tick-requires-clause-rights
split-tick-requires-clause-rights g c =
    let same : c.as_slice.result.now ≡ job_rights = search rules in
    let left : c.split_all.new.seat ≡ left_after c.args.seat.now job_rights = c.split_all.ensures.seat ∙ ap (λ (ps : List Rights). left_after c.args.seat.now ps) same in
    let rights : c.split_all.new.seat.rights ≡ rights_left =
    ap (λ (s : SeatView). s.rights) left ∙ (left_rights c.args.seat.now job_rights ∙ ap (λ (s : SeatView). fold without s.rights job_rights) c.requires.first) in
    subst (λ (r : Rights). AreAmong r c.split_all.new.seat.rights) (sym c.ticker.ensures) (subst (λ (r : Rights). AreAmong ticker_rights r) (sym rights) ticks_can)

pub split-tick-requires-clause-room : goal.split-tick-requires-clause-room
split-tick-requires-clause-room g c =
    let same : c.as_slice.result.now ≡ job_rights = search rules in
    let left : c.split_all.new.seat ≡ left_after c.args.seat.now job_rights = c.split_all.ensures.seat ∙ ap (λ (ps : List Rights). left_after c.args.seat.now ps) same in
    let room : c.split_all.new.seat.room ≡ c.args.seat.now.room - length job_rights = ap (λ (s : SeatView). s.room) left ∙ left_room c.args.seat.now job_rights in
    let first : c.args.seat.now.room ≡ 64 = ap (λ (s : SeatView). s.room) c.requires.first in
    let count = job_count in
    omega (arith, room, first, count)

pub split-log-requires-clause-own : goal.split-log-requires-clause-own
split-log-requires-clause-own g c =
    let same : c.as_slice.result.now ≡ job_rights = search rules in
    let left : c.split_all.new.seat ≡ left_after c.args.seat.now job_rights = c.split_all.ensures.seat ∙ ap (λ (ps : List Rights). left_after c.args.seat.now ps) same in
    ap (λ (s : SeatView). s.bus) c.split-tick.ensures.seat ∙ (ap (λ (s : SeatView). s.bus) left ∙ (left_bus c.args.seat.now job_rights ∙ ap (λ (s : SeatView). s.bus) c.requires.first))

pub split-log-requires-clause-room : goal.split-log-requires-clause-room
split-log-requires-clause-room g c =
    let same : c.as_slice.result.now ≡ job_rights = search rules in
    let left : c.split_all.new.seat ≡ left_after c.args.seat.now job_rights = c.split_all.ensures.seat ∙ ap (λ (ps : List Rights). left_after c.args.seat.now ps) same in
    let room : c.split_all.new.seat.room ≡ c.args.seat.now.room - length job_rights = ap (λ (s : SeatView). s.room) left ∙ left_room c.args.seat.now job_rights in
    let first : c.args.seat.now.room ≡ 64 = ap (λ (s : SeatView). s.room) c.requires.first in
    let kept : c.split-tick.new.seat.room ≡ c.split_all.new.seat.room - 1 = ap (λ (s : SeatView). s.room) c.split-tick.ensures.seat in
    let count = job_count in
    omega (arith, room, first, kept, count)
