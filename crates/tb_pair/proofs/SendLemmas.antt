-- The jobs of a pair may go to other threads, with their ends of the pipe.
use denote.Param.Send.{IsSend, IsSync, sendable, view_send}
use denote.Param.SendFields.{declared_send, variants_send}
use denote.Ref.{NamedLft}
use denote.RattleType.{RattleType}
use Rattle.std.proofs.Crossing.{crosses}
use Rattle.rtrb.proofs.end.End.TheSendSync.{the_send as end_send}
use Rattle.tb_process_steps.specs.declared.walker.Walker.{Ghosts}
use Rattle.tb_process_steps.proofs.SendLemmas.{term_send}
use Rattle.tb_run.specs.contracts.post.Post as post
use Rattle.tb_run.proofs.SendLemmas.{seat_send, bells_sync, post_sync}
use Rattle.tb_pair.specs.contracts.piece.Told as told
use Rattle.tb_pair.specs.contracts.piece.Told.TheInside as told_inside
use Rattle.tb_pair.specs.contracts.piece.Piece as piece
use Rattle.tb_pair.specs.contracts.pipe.PipeIn as pipe_in
use Rattle.tb_pair.specs.contracts.pipe.PipeOut as pipe_out
use Rattle.tb_pair.specs.contracts.job.PipeWriting as writing
use Rattle.tb_pair.specs.contracts.job.PipeReading as reading
use Rattle.tb_pair.specs.contracts.job.PairJob as job

told_send : IsSend told.the_row
told_send = view_send _ _ _ _ _ (declared_send told_inside.the_type (term_send, tt))

piece_send : IsSend piece.the_row
piece_send = search (sendable, crosses, told_send) depth 40

pipe_in_send : (κ : NamedLft) → IsSend (pipe_in.the_row κ)
pipe_in_send κ = search (sendable, crosses, end_send, piece_send, bells_sync) depth 40

pipe_out_send : (κ : NamedLft) → IsSend (pipe_out.the_row κ)
pipe_out_send κ = search (sendable, crosses, end_send, piece_send, bells_sync) depth 40

module _ (κ : NamedLft) (W Plan Taken : RattleType) (g : Ghosts W.Denot Plan.Denot Taken.Denot) (w : IsSend W) (p : IsSend Plan) (t : IsSend Taken) where
  its_post_sync : IsSync (post.the_row W Plan Taken g)
  its_post_sync = post_sync W Plan Taken g w p

  writing_send : IsSend (writing.the_row κ W Plan Taken g)
  writing_send =
      declared_send (writing.the_type κ W Plan Taken g) (
        search (sendable, crosses, its_post_sync) depth 40,
        (seat_send, (pipe_in_send κ, (search (sendable, crosses) depth 40, tt))),
      )

  reading_send : IsSend (reading.the_row κ W Plan Taken g)
  reading_send =
      declared_send (reading.the_type κ W Plan Taken g) (
        search (sendable, crosses, its_post_sync) depth 40,
        (seat_send, (pipe_out_send κ, (search (sendable, crosses) depth 40, tt))),
      )

  pub job_send : (X : RattleType) → IsSend X → IsSend (job.the_row κ W X Plan Taken g)
  job_send X s = variants_send (job.enum κ W X Plan Taken g) ((search (sendable, s) depth 20, tt), ((writing_send, tt), ((reading_send, tt), tt)))
