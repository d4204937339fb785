use Rattle.std.proofs.Common.{rules, arith, ◌≡◌, ◌<◌, ◌-◌, ℕ, List, length, subst, sym, ap, ◌∙◌}
use Rattle.std.specs.List.{fold}
use Rattle.tb_lock.specs.declared.rights.Rights.{Rights}
use Rattle.tb_lock.specs.Rights.{AreAmong, all_rights, without, ticker_rights}
use Rattle.tb_lock.specs.Seats.{SeatView}
use Rattle.tb_run.specs.Parting.{CanPart, left_after}
use Rattle.tb_run.proofs.PartLemmas.{left_bus, left_rights, left_room}
use Rattle.tb_pair.specs.Parts.{to_pipe}
use Rattle.tb_pair_run.specs.Helpers.Parts.{lane_rights}
use Rattle.tb_pair_run.proofs.PartLemmas.{lanes_can, pipe_can, tick_can, lane_count}
use Rattle.tb_pair_run.proofs.parts.hand_out.Goals as goal

pub split_all-requires-clause-rights : goal.split_all-requires-clause-rights
split_all-requires-clause-rights g c =
    let same : c.as_slice.result.now ≡ lane_rights = search rules in
    subst (λ (r : Rights). CanPart r c.as_slice.result.now) (sym (ap (λ (s : SeatView). s.rights) c.requires.first)) (subst (λ (ps : List Rights). CanPart all_rights ps) (sym same) lanes_can)

pub split-pipe-requires-clause-own : goal.split-pipe-requires-clause-own
split-pipe-requires-clause-own g c =
    let same : c.as_slice.result.now ≡ lane_rights = search rules in
    let left : c.split_all.new.seat ≡ left_after c.args.seat.now lane_rights = c.split_all.ensures.seat ∙ ap (λ (ps : List Rights). left_after c.args.seat.now ps) same in
    ap (λ (s : SeatView). s.bus) left ∙ (left_bus c.args.seat.now lane_rights ∙ ap (λ (s : SeatView). s.bus) c.requires.first)

pub split-pipe-requires-clause-rights : goal.split-pipe-requires-clause-rights
split-pipe-requires-clause-rights g c =
    let same : c.as_slice.result.now ≡ lane_rights = search rules in
    let left : c.split_all.new.seat ≡ left_after c.args.seat.now lane_rights = c.split_all.ensures.seat ∙ ap (λ (ps : List Rights). left_after c.args.seat.now ps) same in
    let rights : c.split_all.new.seat.rights ≡ fold without all_rights lane_rights =
    ap (λ (s : SeatView). s.rights) left ∙ (left_rights c.args.seat.now lane_rights ∙ ap (λ (s : SeatView). fold without s.rights lane_rights) c.requires.first) in
    subst (λ (r : Rights). AreAmong r c.split_all.new.seat.rights) (sym c.to_pipe.ensures) (subst (λ (r : Rights). AreAmong to_pipe r) (sym rights) pipe_can)

pub split-pipe-requires-clause-room : goal.split-pipe-requires-clause-room
split-pipe-requires-clause-room g c =
    let same : c.as_slice.result.now ≡ lane_rights = search rules in
    let left : c.split_all.new.seat ≡ left_after c.args.seat.now lane_rights = c.split_all.ensures.seat ∙ ap (λ (ps : List Rights). left_after c.args.seat.now ps) same in
    let room : c.split_all.new.seat.room ≡ c.args.seat.now.room - length lane_rights = ap (λ (s : SeatView). s.room) left ∙ left_room c.args.seat.now lane_rights in
    let first : c.args.seat.now.room ≡ 64 = ap (λ (s : SeatView). s.room) c.requires.first in
    let count = lane_count in
    omega (arith, room, first, count)

pub split-tick-requires-clause-own : goal.split-tick-requires-clause-own
split-tick-requires-clause-own g c =
    let same : c.as_slice.result.now ≡ lane_rights = search rules in
    let left : c.split_all.new.seat ≡ left_after c.args.seat.now lane_rights = c.split_all.ensures.seat ∙ ap (λ (ps : List Rights). left_after c.args.seat.now ps) same in
    ap (λ (s : SeatView). s.bus) c.split-pipe.ensures.seat ∙ (ap (λ (s : SeatView). s.bus) left ∙ (left_bus c.args.seat.now lane_rights ∙ ap (λ (s : SeatView). s.bus) c.requires.first))

pub split-tick-requires-clause-rights : goal.split-tick-requires-clause-rights
split-tick-requires-clause-rights g c =
    let same : c.as_slice.result.now ≡ lane_rights = search rules in
    let left : c.split_all.new.seat ≡ left_after c.args.seat.now lane_rights = c.split_all.ensures.seat ∙ ap (λ (ps : List Rights). left_after c.args.seat.now ps) same in
    let rights : c.split_all.new.seat.rights ≡ fold without all_rights lane_rights =
    ap (λ (s : SeatView). s.rights) left ∙ (left_rights c.args.seat.now lane_rights ∙ ap (λ (s : SeatView). fold without s.rights lane_rights) c.requires.first) in
    let kept : c.split-pipe.new.seat.rights ≡ without (fold without all_rights lane_rights) to_pipe =
    ap (λ (s : SeatView). s.rights) c.split-pipe.ensures.seat ∙ (ap (λ (r : Rights). without r c.to_pipe.result) rights ∙ ap (λ (r : Rights). without (fold without all_rights lane_rights) r) c.to_pipe.ensures) in
    subst (λ (r : Rights). AreAmong r c.split-pipe.new.seat.rights) (sym c.ticker.ensures) (subst (λ (r : Rights). AreAmong ticker_rights r) (sym kept) tick_can)

pub split-tick-requires-clause-room : goal.split-tick-requires-clause-room
split-tick-requires-clause-room g c =
    let same : c.as_slice.result.now ≡ lane_rights = search rules in
    let left : c.split_all.new.seat ≡ left_after c.args.seat.now lane_rights = c.split_all.ensures.seat ∙ ap (λ (ps : List Rights). left_after c.args.seat.now ps) same in
    let room : c.split_all.new.seat.room ≡ c.args.seat.now.room - length lane_rights = ap (λ (s : SeatView). s.room) left ∙ left_room c.args.seat.now lane_rights in
    let first : c.args.seat.now.room ≡ 64 = ap (λ (s : SeatView). s.room) c.requires.first in
    let kept : c.split-pipe.new.seat.room ≡ c.split_all.new.seat.room - 1 = ap (λ (s : SeatView). s.room) c.split-pipe.ensures.seat in
    let count = lane_count in
    omega (arith, room, first, kept, count)
