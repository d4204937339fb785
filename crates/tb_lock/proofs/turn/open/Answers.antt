use Rattle.std.proofs.Common.{[], ◌∷◌, Some, None, false, refl, arith, ap, ◌∙◌}
use Rattle.tb_lock.specs.Seats.{Serving}
use Rattle.tb_lock.specs.Helpers.Rule.{opening_seat}
use Rattle.tb_lock.specs.Helpers.Plays.{HolderState}
use Rattle.tb_lock.proofs.PassLemmas.{first_opens}
use Rattle.tb_lock.proofs.TurnLemmas.{put_back, may_pass_first}
use Rattle.tb_lock.proofs.turn.open.Goals as goal

pub load-requires : goal.load-requires
load-requires g c =
    let words = c.requires.board.0 in
    let first = c.requires.first in
    (c.requires.holder, omega arith, first_opens c.args.board.now.key.origin c.args.board.now.table_id.slots c.args.holder.now.id c.args.holder.now.me (ap (λ (m : HolderState). m.0.stage) first) (ap (λ (m : HolderState). m.1) first))

pub pass-requires-clause-may : goal.pass-requires-clause-may
pass-requires-clause-may g c =
    let seat = opening_seat c.args.core.origin in
    let opened = c.load.ensures.2 ∙ ap (λ (m : HolderState). (record m.0 { stage = Serving 0 false }, (0, None) ∷ m.1)) c.requires.first in
    let back = put_back c.load.new.seat.me c.exchange-empty.new.seat.me c.args.core (ap (λ (m : HolderState). m.1) opened) c.exchange-empty.ensures.3 in
    may_pass_first c.exchange-empty.new.seat.me seat c.args.core refl c.requires.core.0 c.requires.core.1 (back ∙ ap (λ (m : HolderState). (m.0, (0, Some c.args.core) ∷ [])) opened)
