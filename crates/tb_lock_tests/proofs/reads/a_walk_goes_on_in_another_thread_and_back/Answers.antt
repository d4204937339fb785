use denote.Param.Send.{param_send, arg_send}
use Rattle.tb_walk.proofs.SendLemmas.{walk_send, code_send}
use Rattle.tb_lock_tests.proofs.reads.a_walk_goes_on_in_another_thread_and_back.Goals as goal

pub side_by_side-seat-requires-send-W : goal.side_by_side-seat-requires-send-W
side_by_side-seat-requires-send-W g c κs = search (param_send, arg_send, walk_send) depth 8

pub side_by_side-seat-requires-send-W-Plan : goal.side_by_side-seat-requires-send-W-Plan
side_by_side-seat-requires-send-W-Plan g c κs = search (param_send, arg_send, code_send) depth 8
