use Rattle.std.proofs.Common.{◌≡◌, ◌++◌, ℕ, List, take, drop, refl, ap, sym, ◌∙◌}
use Rattle.std.proofs.lemmas.Result.{err_from_is_err_and}
use Rattle.tb_log.specs.declared.entry.Entry.{Entry}
use Rattle.tb_core.specs.Helpers.LiveBuses.{bus_of}
use Rattle.tb_why.proofs.FollowLemmas.{InParts, both-parts, crowded-down, crowded-up, is-end, not-down, not-up, same-err}
use Rattle.tb_why.proofs.following.end_of.Goals as goal

-- the parts of the log
abbrev halves : (entries up down : List Entry) (n : ℕ) → up ≡ take n entries → down ≡ drop n entries → entries ≡ up ++ down
halves entries up down n front back = both-parts entries n ∙ ap (λ (es : List Entry). es ++ drop n entries) (sym front) ∙ ap (λ (es : List Entry). up ++ es) (sym back)

pub returns-clause-ends : goal.returns-clause-ends
returns-clause-ends g c =
    let entries = c.args.entries.now in
    let up = c.split_at.result.0.now in
    let down = c.split_at.result.1.now in
    let middle = c.follow.new.core in
    let parts = halves entries up down c.up_len.result c.split_at.ensures.front c.split_at.ensures.back in
    is-end c.args.core middle c.follow-2.new.core entries up down (bus_of g.W.Walker.view c.bus-bus.result.now) c.bus-bus.result.now.ticks c.in_ok-standings.standings c.in_ok-waiters.waiters
    (record { fresh = c.requires.fresh; starts = c.split_at.ensures.front ∙ c.up_len.ensures.before; parts = parts; one = c.in_ok-follow.ensures.logs; two = c.in_ok-follow-2.ensures.logs })
    c.requires.running c.bus-bus.ensures.value refl c.in_ok-standings.ensures c.in_ok-waiters.ensures

pub returns-in_err-follow-clause-no_trace : goal.returns-in_err-follow-clause-no_trace
returns-in_err-follow-clause-no_trace g c =
    let entries = c.args.entries.now in
    let up = c.split_at.result.0.now in
    let down = c.split_at.result.1.now in
    let parts = halves entries up down c.up_len.result c.split_at.ensures.front c.split_at.ensures.back in
    let p = err_from_is_err_and c.from_residual.result c.from_residual.ensures.1 in
    rw (p.1, p.2) (λ e. not-up c.args.core entries up down c.requires.fresh parts (c.in_err-follow.ensures.no_trace (same-err _ _ e)))

pub returns-in_err-follow-clause-full : goal.returns-in_err-follow-clause-full
returns-in_err-follow-clause-full g c =
    let entries = c.args.entries.now in
    let up = c.split_at.result.0.now in
    let down = c.split_at.result.1.now in
    let parts = halves entries up down c.up_len.result c.split_at.ensures.front c.split_at.ensures.back in
    let p = err_from_is_err_and c.from_residual.result c.from_residual.ensures.1 in
    rw (p.1, p.2) (λ e. crowded-up c.args.core entries up down parts (c.in_err-follow.ensures.full (same-err _ _ e)))

pub returns-in_err-follow-2-clause-no_trace : goal.returns-in_err-follow-2-clause-no_trace
returns-in_err-follow-2-clause-no_trace g c =
    let entries = c.args.entries.now in
    let up = c.split_at.result.0.now in
    let down = c.split_at.result.1.now in
    let parts = halves entries up down c.up_len.result c.split_at.ensures.front c.split_at.ensures.back in
    let p = err_from_is_err_and c.from_residual-in_err-follow-2.result c.from_residual-in_err-follow-2.ensures.1 in
    rw (p.1, p.2) (λ e. not-down c.args.core c.follow.new.core entries up down c.requires.fresh parts c.in_ok-follow.ensures.logs (c.in_err-follow-2.ensures.no_trace (same-err _ _ e)))

pub returns-in_err-follow-2-clause-full : goal.returns-in_err-follow-2-clause-full
returns-in_err-follow-2-clause-full g c =
    let entries = c.args.entries.now in
    let up = c.split_at.result.0.now in
    let down = c.split_at.result.1.now in
    let parts = halves entries up down c.up_len.result c.split_at.ensures.front c.split_at.ensures.back in
    let p = err_from_is_err_and c.from_residual-in_err-follow-2.result c.from_residual-in_err-follow-2.ensures.1 in
    rw (p.1, p.2) (λ e. crowded-down c.args.core c.follow.new.core entries up down parts c.in_ok-follow.ensures.logs (c.in_err-follow-2.ensures.full (same-err _ _ e)))
