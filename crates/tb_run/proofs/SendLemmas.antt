-- The jobs of a run may go to other threads.
use denote.Param.Send.{IsSend, IsSync, sendable, view_send}
use denote.Param.SendFields.{declared_send, declared_sync, variants_send}
use denote.Ref.{NamedLft}
use denote.RattleType.{RattleType}
use Rattle.std.proofs.Crossing.{crosses, sync as global_sync}
use Rattle.std.proofs.option.Option.TheSendSync.{the_send as option_send}
use Rattle.atomic_table.proofs.badge.Badge.TheSendSync.{the_send as badge_send}
use Rattle.tb_process_steps.specs.declared.walker.Walker.{Ghosts}
use Rattle.tb_bells.specs.contracts.bell.Bell as bell
use Rattle.tb_bells.specs.contracts.bells.Bells as bells
use Rattle.tb_lock.specs.contracts.seat.Seat as seat
use Rattle.tb_lock.specs.contracts.seat.Seat.TheInside as seat_inside
use Rattle.tb_lock.specs.contracts.seat.View as view
use Rattle.tb_lock.proofs.SendLemmas.{shared_sync}
use Rattle.tb_log.specs.contracts.entry.Out as out
use Rattle.tb_process_steps.proofs.SendLemmas.{term_send}
use Rattle.tb_terms.proofs.text.Text.TheSendSync.{the_send as text_send}
use Rattle.tb_edge.specs.declared.outlet.Outlet.{Ghosts as OutletGhosts}
use Rattle.tb_run.specs.declared.desks.Begins.{Ghosts as BeginsGhosts}
use Rattle.tb_run.specs.contracts.buffer.Buffer as buffer
use Rattle.tb_run.specs.contracts.desks.Places as places
use Rattle.tb_run.specs.contracts.desks.StepperDesk as stepper_desk
use Rattle.tb_run.specs.contracts.desks.WriterDesk as writer_desk
use Rattle.tb_run.specs.contracts.desks.WriterDesk.TheInside as writer_desk_inside
use Rattle.tb_run.specs.contracts.helped_job.HelpedJob as helped_job
use Rattle.tb_run.specs.contracts.writer_stage.WriterStage as writer_stage
use Rattle.tb_run.specs.contracts.post.Post as post
use Rattle.tb_run.specs.contracts.tick_job.TickJob as tick_job
use Rattle.tb_run.specs.contracts.worker.Work as work
use Rattle.tb_run.specs.contracts.worker.Worker as worker

pub seat_send : IsSend seat.the_row
seat_send = view_send _ _ _ _ _ (declared_send seat_inside.the_type (badge_send view.the_row, tt))

bell_sync : IsSync bell.the_row
bell_sync = search (sendable, crosses) depth 40

pub bells_sync : IsSync bells.the_row
bells_sync = search (sendable, crosses, bell_sync) depth 40

buffer_send : IsSend buffer.the_row
buffer_send = search (sendable, crosses) depth 40

work_send : (I O : RattleType) → IsSend I → IsSend O → IsSend (work.the_row I O)
work_send I O i o = search (sendable, crosses) depth 40

-- threads may share what all workers of a bus share
pub post_sync : (W Plan Taken : RattleType) (g : Ghosts W.Denot Plan.Denot Taken.Denot) → IsSend W → IsSend Plan → IsSync (post.the_row W Plan Taken g)
post_sync W Plan Taken g w p = declared_sync (post.the_type W Plan Taken g) (shared_sync W Plan Taken g w p, (bells_sync, (search (sendable, crosses) depth 40, (global_sync, tt))))

module _ (κ : NamedLft) (W Plan Taken : RattleType) (g : Ghosts W.Denot Plan.Denot Taken.Denot) (w : IsSend W) (p : IsSend Plan) (t : IsSend Taken) where
  its_post_sync : IsSync (post.the_row W Plan Taken g)
  its_post_sync = post_sync W Plan Taken g w p

  pub worker_send : (I O : RattleType) → IsSend I → IsSend O → IsSend (worker.the_row κ W I O Plan Taken g)
  worker_send I O i o =
      declared_send (worker.the_type κ W I O Plan Taken g) (
        search (sendable, crosses, its_post_sync) depth 40,
        (seat_send, (buffer_send, (work_send I O i o, (search (sendable, crosses) depth 40, tt)))),
      )

  pub tick_job_send : (C : RattleType) → IsSend C → IsSend (tick_job.the_row κ W C Plan Taken g)
  tick_job_send C s =
      declared_send (tick_job.the_type κ W C Plan Taken g) (
        search (sendable, crosses, its_post_sync) depth 40,
        (
          seat_send,
          (
            search (sendable, crosses) depth 40,
            (search (sendable, crosses) depth 40, (search (sendable, crosses) depth 40, tt)),
          ),
        ),
      )

-- threads may share the desks
out_send : IsSend out.the_row
out_send = variants_send out.enum ((text_send, tt), ((term_send, tt), (tt, tt)))

stage_send : IsSend writer_stage.the_row
stage_send = variants_send writer_stage.enum (tt, ((out_send, tt), ((search (sendable, crosses) depth 40, tt), tt)))

module _ (K O : RattleType) (k : BeginsGhosts K.Denot) (o : OutletGhosts O.Denot) (ks : IsSend K) (os : IsSend O) where
  stepper_desk_send : IsSend (stepper_desk.the_row K k)
  stepper_desk_send = search (sendable, crosses, seat_send) depth 40

  writer_desk_send : IsSend (writer_desk.the_row K O k o)
  writer_desk_send = view_send _ _ _ _ _ (declared_send (writer_desk_inside.the_type K O k o) (search (sendable, crosses) depth 40, (search (sendable, crosses) depth 40, (seat_send, (search (sendable, crosses) depth 40, (buffer_send, (stage_send, (search (sendable, crosses) depth 40, tt))))))))

  pub places_sync : IsSync (places.the_row K O k o)
  places_sync = search (sendable, crosses, stepper_desk_send, writer_desk_send) depth 40

  pub helped_job_send : (κ : NamedLft) (W I Plan Taken : RattleType) (g : Ghosts W.Denot Plan.Denot Taken.Denot) → IsSend W → IsSend I → IsSend Plan → IsSend Taken → IsSend (helped_job.the_row κ K W I O Plan Taken k o g)
  helped_job_send κ W I Plan Taken g w i p t =
      declared_send (helped_job.the_type κ K W I O Plan Taken k o g) (
        option_send (worker.the_row κ W I O Plan Taken g) (worker_send κ W Plan Taken g w p t I O i os),
        (search (sendable, crosses) depth 40, (search (sendable, crosses, places_sync) depth 40, tt)),
      )
