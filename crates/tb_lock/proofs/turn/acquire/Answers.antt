use Rattle.std.proofs.Common.{◌∷◌, Some, IsSome, arith, ap, sym, subst, ◌∙◌, refl}
use Rattle.atomic_table.specs.Table.{rest}
use Rattle.tb_lock.specs.Helpers.Plays.{HolderState}
use Rattle.tb_lock.proofs.DrawLemmas.{draws}
use Rattle.tb_lock.proofs.ReadLemmas.{reads}
use Rattle.tb_lock.proofs.TurnLemmas.{drawn, took, missed, taken_out, acquired}
use Rattle.tb_lock.proofs.turn.acquire.Goals as goal

pub fetch_add-ticket-requires : goal.fetch_add-ticket-requires
fetch_add-ticket-requires g c =
    let words = c.requires.board.0 in
    (c.requires.holder, omega arith, draws c.args.board.now.key.origin c.args.board.now.table_id.slots c.args.holder.now.id c.args.holder.now.me c.requires.idle.1 c.requires.room)

pub loop-init : goal.loop-init
loop-init g c =
    let t = drawn c.args.holder.now.me c.fetch_add-ticket.new.seat.me c.fetch_add-ticket.result c.requires.idle.0 c.fetch_add-ticket.ensures.2 in
    (t.0, t.1, c.fetch_add-ticket.ensures.0, t.2)

pub load-serving-requires : goal.load-serving-requires
load-serving-requires g c =
    let words = c.requires.board.0 in
    let i = c.loop.invariant in
    (i.2 ∙ c.requires.holder, omega arith, reads c.args.board.now.key.origin c.args.board.now.table_id.slots c.loop.holder.id c.loop.holder.me i.0 (ap (λ (m : HolderState). m.0.stage) i.3) (ap (λ (m : HolderState). m.1) i.3))

pub exchange-requires : goal.exchange-requires
exchange-requires g c =
    let i = c.loop.invariant in
    let t = took c.loop.holder.me c.load-serving.new.seat.me c.load-serving.result i.0 c.args.holder.now.me.0 i.3 (c.if-serving-ticket.true ∙ i.1) c.load-serving.ensures.2 in
    (c.load-serving.ensures.0 ∙ i.2 ∙ c.requires.holder, (Some t.0, ap (λ (m : HolderState). m.1) t.1 ∙ ap (λ (m : HolderState). (0, Some t.0) ∷ rest m.1) (sym t.1)))

pub unwrap-requires : goal.unwrap-requires
unwrap-requires g c =
    let i = c.loop.invariant in
    let t = took c.loop.holder.me c.load-serving.new.seat.me c.load-serving.result i.0 c.args.holder.now.me.0 i.3 (c.if-serving-ticket.true ∙ i.1) c.load-serving.ensures.2 in
    let out = taken_out c.args.holder.now.me.0 c.load-serving.new.seat.me c.exchange.new.seat.me i.0 t.0 c.exchange.result t.1 c.exchange.ensures.2 c.exchange.ensures.3 in
    subst IsSome (sym out.0) refl

pub returns-then-serving-ticket-clause-holder : goal.returns-then-serving-ticket-clause-holder
returns-then-serving-ticket-clause-holder g c = c.exchange.ensures.0 ∙ c.load-serving.ensures.0 ∙ c.loop.invariant.2

pub returns-then-serving-ticket-clause-turn : goal.returns-then-serving-ticket-clause-turn
returns-then-serving-ticket-clause-turn g c =
    let i = c.loop.invariant in
    let t = took c.loop.holder.me c.load-serving.new.seat.me c.load-serving.result i.0 c.args.holder.now.me.0 i.3 (c.if-serving-ticket.true ∙ i.1) c.load-serving.ensures.2 in
    let out = taken_out c.args.holder.now.me.0 c.load-serving.new.seat.me c.exchange.new.seat.me i.0 t.0 c.exchange.result t.1 c.exchange.ensures.2 c.exchange.ensures.3 in
    (acquired c.args.holder.now.me.0 c.exchange.new.seat.me c.exchange.result t.0 c.unwrap.result i.0 out.0 c.unwrap.ensures out.1 t.2).0

pub returns-then-serving-ticket-clause-meets : goal.returns-then-serving-ticket-clause-meets
returns-then-serving-ticket-clause-meets g c =
    let i = c.loop.invariant in
    let t = took c.loop.holder.me c.load-serving.new.seat.me c.load-serving.result i.0 c.args.holder.now.me.0 i.3 (c.if-serving-ticket.true ∙ i.1) c.load-serving.ensures.2 in
    let out = taken_out c.args.holder.now.me.0 c.load-serving.new.seat.me c.exchange.new.seat.me i.0 t.0 c.exchange.result t.1 c.exchange.ensures.2 c.exchange.ensures.3 in
    (acquired c.args.holder.now.me.0 c.exchange.new.seat.me c.exchange.result t.0 c.unwrap.result i.0 out.0 c.unwrap.ensures out.1 t.2).1

pub loop-preserved : goal.loop-preserved
loop-preserved g c =
    let i = c.loop.invariant in
    (i.0, i.1, c.load-serving.ensures.0 ∙ i.2, missed c.loop.holder.me c.load-serving.new.seat.me c.load-serving.result i.0 c.args.holder.now.me.0 i.3 (λ e. c.if-serving-ticket.false (e ∙ sym i.1)) c.load-serving.ensures.2)
