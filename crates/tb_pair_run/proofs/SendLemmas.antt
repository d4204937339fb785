-- The ticker of a pair may go to another thread, with what is lent to it.
use denote.Param.Send.{IsSend, IsSync, sendable}
use denote.Param.SendFields.{declared_send}
use denote.Ref.{NamedLft}
use denote.RattleType.{RattleType}
use Rattle.std.proofs.Crossing.{crosses}
use Rattle.tb_process_steps.specs.declared.walker.Walker.{Ghosts}
use Rattle.tb_run.specs.contracts.post.Post as post
use Rattle.tb_run.proofs.SendLemmas.{seat_send, post_sync}
use Rattle.tb_pair.specs.contracts.ticker.TickedBus as ticked_bus
use Rattle.tb_pair_run.specs.contracts.lent.LentTicking as lent

module _ (κ κ' : NamedLft) (W Plan Taken : RattleType) (g : Ghosts W.Denot Plan.Denot Taken.Denot) (w : IsSend W) (p : IsSend Plan) (t : IsSend Taken) where
  its_post_sync : IsSync (post.the_row W Plan Taken g)
  its_post_sync = post_sync W Plan Taken g w p

  bus_send : IsSend (ticked_bus.the_row κ' W Plan Taken g)
  bus_send =
      declared_send (ticked_bus.the_type κ' W Plan Taken g) (
        search (sendable, crosses, its_post_sync) depth 40,
        (seat_send, (search (sendable, crosses) depth 40, tt)),
      )

  pub lent_send : (C : RattleType) → IsSend C → IsSend (lent.the_row κ κ' W C Plan Taken g)
  lent_send C s =
      declared_send (lent.the_type κ κ' W C Plan Taken g) (
        search (sendable, crosses, bus_send) depth 40,
        (
          search (sendable, crosses, bus_send) depth 40,
          (
            search (sendable, crosses) depth 40,
            (search (sendable, crosses) depth 40, (search (sendable, crosses) depth 40, (search (sendable, crosses) depth 40, tt))),
          ),
        ),
      )
