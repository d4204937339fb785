-- The rights of the workers of lanes 2 to 16 of a bus, in the order of their jobs: the readers, the
-- writers, the one that makes steps.
use Rattle.std.specs.Prelude.{List, [], ◌∷◌, ◌++◌, map}
use Rattle.tb_lock.specs.declared.rights.Rights.{Rights}
use Rattle.tb_lock.specs.Seats.{SeatView, kept_of, handed_on}
use Rattle.tb_run.specs.Parting.{left_after}
use Rattle.tb_run.specs.Parts.{in_of, out_of}
use Rattle.tb_pair.specs.Parts.{others, to_pipe}
use Rattle.tb_lock.specs.Rights.{stepper_rights, ticker_rights}

unfoldable pub lane_rights : List Rights
lane_rights = map in_of others ++ (map out_of others ++ stepper_rights ∷ [])

-- the seat of the worker that serves the pipe, that of the ticker, and what the first seat keeps
abbrev pub pipe_seat_of : SeatView → SeatView
pipe_seat_of seat = handed_on to_pipe (left_after seat lane_rights)

abbrev pub tick_seat_of : SeatView → SeatView
tick_seat_of seat = handed_on ticker_rights (kept_of to_pipe (left_after seat lane_rights))

abbrev pub rest_of : SeatView → SeatView
rest_of seat = kept_of ticker_rights (kept_of to_pipe (left_after seat lane_rights))
