use Rattle.std.proofs.Common.{◌≡◌, true, ap, sym, subst, ◌∙◌}
use Rattle.tb_core.specs.Cores.{entries_of}
use Rattle.tb_lock.specs.Rights.{has, right_to}
use Rattle.tb_lock.specs.Seats.{SeatView}
use Rattle.tb_lock.specs.Calls.{added, noted}
use Rattle.tb_lock.specs.Helpers.Plays.{HolderState, IsSeat}
use Rattle.tb_lock.proofs.CallLemmas.{opened, follows, may_release, has_released, is_seat, seen_as, called}
use Rattle.tb_lock.proofs.shared.Shared.turn.Goals as goal

pub into_seat-holder-requires : goal.into_seat-holder-requires
into_seat-holder-requires g c =
    let i : IsSeat c.seat.inside.badge.views = c.seat.invariant in
    (i.0, ap (λ b. b.views) c.replace.ensures.value ∙ i.1)

pub release-requires-clause-may : goal.release-requires-clause-may
release-requires-clause-may g c =
    let o = opened c.seat.inside.badge.table_id c.seat.inside.badge.views c.args.seat.now c.into_seat-holder.result.me.0 c.seat.view_is c.seat.invariant (ap (λ b. b.views) (sym c.replace.ensures.value) ∙ c.into_seat-holder.ensures.2) in
    let call = g.C.CoreCall.call c.args.call in
    let seat = c.into_seat-holder.result.me.0 in
    let core = c.acquire-core.result in
    let right = subst (λ (s : SeatView). has s.rights (right_to call) ≡ true) o.is c.requires.right in
    let goes = follows (g.C.CoreCall.finds c.args.call) call c.make-answer.result core c.make-answer.new.core c.make-answer.ensures in
    may_release seat core c.acquire-core.ensures.meets c.make-answer.result c.acquire-core.new.holder.me c.make-answer.new.core call c.requires.form right c.acquire-core.ensures.turn goes

pub into_badge-requires : goal.into_badge-requires
into_badge-requires g c =
    let o = opened c.seat.inside.badge.table_id c.seat.inside.badge.views c.args.seat.now c.into_seat-holder.result.me.0 c.seat.view_is c.seat.invariant (ap (λ b. b.views) (sym c.replace.ensures.value) ∙ c.into_seat-holder.ensures.2) in
    let call = g.C.CoreCall.call c.args.call in
    let seat = c.into_seat-holder.result.me.0 in
    let core = c.acquire-core.result in
    let goes = follows (g.C.CoreCall.finds c.args.call) call c.make-answer.result core c.make-answer.new.core c.make-answer.ensures in
    let left_is = has_released seat core c.acquire-core.ensures.meets c.make-answer.result c.acquire-core.new.holder.me c.release.new.holder.me c.make-answer.new.core call o.idle c.acquire-core.ensures.turn goes c.release.ensures.releases in
    ap (λ (m : HolderState). m.1) left_is

pub invariant_of-seat : goal.invariant_of-seat
invariant_of-seat g c =
    let o = opened c.seat.inside.badge.table_id c.seat.inside.badge.views c.args.seat.now c.into_seat-holder.result.me.0 c.seat.view_is c.seat.invariant (ap (λ b. b.views) (sym c.replace.ensures.value) ∙ c.into_seat-holder.ensures.2) in
    let call = g.C.CoreCall.call c.args.call in
    let seat = c.into_seat-holder.result.me.0 in
    let core = c.acquire-core.result in
    let goes = follows (g.C.CoreCall.finds c.args.call) call c.make-answer.result core c.make-answer.new.core c.make-answer.ensures in
    let left_is = has_released seat core c.acquire-core.ensures.meets c.make-answer.result c.acquire-core.new.holder.me c.release.new.holder.me c.make-answer.new.core call o.idle c.acquire-core.ensures.turn goes c.release.ensures.releases in
    is_seat c.release.new.holder.me (noted seat core (added c.make-answer.result (entries_of core call))) c.into_badge.result.views left_is c.into_badge.ensures.2 o.idle o.room

pub returns : goal.returns
returns g c =
    let o = opened c.seat.inside.badge.table_id c.seat.inside.badge.views c.args.seat.now c.into_seat-holder.result.me.0 c.seat.view_is c.seat.invariant (ap (λ b. b.views) (sym c.replace.ensures.value) ∙ c.into_seat-holder.ensures.2) in
    let call = g.C.CoreCall.call c.args.call in
    let finds = g.C.CoreCall.finds c.args.call in
    let seat = c.into_seat-holder.result.me.0 in
    let core = c.acquire-core.result in
    let goes = follows finds call c.make-answer.result core c.make-answer.new.core c.make-answer.ensures in
    let left_is = has_released seat core c.acquire-core.ensures.meets c.make-answer.result c.acquire-core.new.holder.me c.release.new.holder.me c.make-answer.new.core call o.idle c.acquire-core.ensures.turn goes c.release.ensures.releases in
    let bus = c.seat.inside.badge.table_id in
    let by_is = c.into_badge.ensures.0 ∙ c.release.ensures.holder ∙ c.acquire-core.ensures.holder ∙ c.into_seat-holder.ensures.0 ∙ ap (λ b. b.table_id) c.replace.ensures.value in
    let now = seen_as c.release.new.holder.me (noted seat core (added c.make-answer.result (entries_of core call))) bus c.into_badge.result.table_id c.into_badge.result.views left_is by_is c.into_badge.ensures.2 in
    called finds call c.make-answer.result bus seat core c.make-answer.new.core c.args.seat.now _ o.is now c.acquire-core.ensures.meets c.make-answer.ensures
