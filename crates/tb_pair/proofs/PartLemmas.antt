-- How the first seat of each bus of a pair is parted: as for a run, but that one worker has both rights of lane 1.
use Rattle.std.proofs.Common.{◌≡◌, ◌+◌, ℕ, ◌∷◌, map, length, true, refl}
use Rattle.std.specs.List.{fold}
use Rattle.tb_lock.specs.Rights.{In, Out as Outs, AreAmong, has, all_rights, without, united, ticker_rights}
use Rattle.tb_lock.proofs.RightLemmas.{covers}
use Rattle.tb_run.specs.Parting.{CanPart}
use Rattle.tb_pair.specs.Parts.{pair_rights, pair_left, to_pipe}
use Rattle.tb_run.proofs.PartLemmas.{can_by}

pub pair_can : CanPart all_rights pair_rights
pair_can = can_by all_rights pair_rights refl

pub pair_ticks : AreAmong ticker_rights pair_left
pair_ticks = (covers ticker_rights pair_left).0 refl

pub pair_unite : fold united (without pair_left ticker_rights) (ticker_rights ∷ pair_rights) ≡ all_rights
pair_unite = refl

pub pair_rooms : fold (λ (a b : ℕ). a + b) 31 (1 ∷ map (λ _. 1) pair_rights) ≡ 64
pair_rooms = refl

pub pair_count : length pair_rights ≡ 32
pair_count = refl

pub pipe_in : has to_pipe (In 1) ≡ true
pipe_in = refl

pub pipe_out : has to_pipe (Outs 1) ≡ true
pipe_out = refl
