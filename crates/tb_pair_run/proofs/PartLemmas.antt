-- How the first seat of each bus of a pair is parted: as for a run, but that one worker has both rights of lane 1.
use Rattle.std.proofs.Common.{◌≡◌, List, [], ◌∷◌, ◌++◌, length, refl}
use Rattle.std.specs.List.{fold}
use Rattle.atomic_table.specs.Seated.{TableId}
use Rattle.tb_lock.specs.Rights.{AreAmong, all_rights, united, without, ticker_rights}
use Rattle.tb_lock.specs.Seats.{SeatView}
use Rattle.tb_lock.proofs.RightLemmas.{covers}
use Rattle.tb_run.specs.Moving.{works_of}
use Rattle.tb_run.specs.Parting.{CanPart, parted}
use Rattle.tb_run.specs.Running.{Fits}
use Rattle.tb_run.proofs.PartLemmas.{can_by, lanes_fit}
use Rattle.tb_pair.specs.Parts.{others, to_pipe}
use Rattle.tb_pair_run.specs.Helpers.Parts as parts
use Rattle.tb_pair_run.specs.Helpers.Parts.{lane_rights}

pub lanes_can : CanPart all_rights lane_rights
unfolding parts.lane_rights
lanes_can = can_by all_rights lane_rights refl

pub pipe_can : AreAmong to_pipe (fold without all_rights lane_rights)
unfolding parts.lane_rights
pipe_can = (covers to_pipe (fold without all_rights lane_rights)).0 refl

pub tick_can : AreAmong ticker_rights (without (fold without all_rights lane_rights) to_pipe)
unfolding parts.lane_rights
tick_can = (covers ticker_rights (without (fold without all_rights lane_rights) to_pipe)).0 refl

pub lane_count : length lane_rights ≡ 31
unfolding parts.lane_rights
lane_count = refl

pub rights_unite : fold united (fold without (fold without all_rights lane_rights) (to_pipe ∷ ticker_rights ∷ [])) ((to_pipe ∷ ticker_rights ∷ []) ++ lane_rights) ≡ all_rights
unfolding parts.lane_rights
rights_unite = refl

pub workers_fit : (I O : Type 0) (bus : TableId) (seat : SeatView) (inlets : List I) (outlets : List O) → seat.bus ≡ bus → length inlets ≡ 15 → length outlets ≡ 15 → Fits bus (parted seat lane_rights) (works_of 2 inlets outlets)
unfolding parts.lane_rights
workers_fit I O bus seat inlets outlets same ins outs = lanes_fit I O bus seat 2 others inlets outlets same ins outs refl refl
