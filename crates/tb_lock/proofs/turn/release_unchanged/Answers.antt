use Rattle.std.proofs.Common.{[], ap, ◌∙◌}
use Rattle.tb_lock.specs.Seats.{Idle}
use Rattle.tb_lock.specs.Helpers.Plays.{HolderState}
use Rattle.tb_lock.proofs.TurnLemmas.{put_back, may_pass_returned}
use Rattle.tb_lock.proofs.turn.release_unchanged.Goals as goal

pub pass-requires-clause-may : goal.pass-requires-clause-may
pass-requires-clause-may g c =
    let may = c.requires.may in
    let back = put_back c.args.holder.now.me c.exchange-empty.new.seat.me c.args.core may.slot c.exchange-empty.ensures.3 in
    may_pass_returned c.exchange-empty.new.seat.me c.args.holder.now.me.0 c.args.core may.ticket may.stage may.origin may.log back

pub returns-clause-releases : goal.returns-clause-releases
returns-clause-releases g c =
    let may = c.requires.may in
    let back = put_back c.args.holder.now.me c.exchange-empty.new.seat.me c.args.core may.slot c.exchange-empty.ensures.3 in
    c.pass.ensures.passes ∙ ap (λ (m : HolderState). (record m.0 { stage = Idle }, [])) back
