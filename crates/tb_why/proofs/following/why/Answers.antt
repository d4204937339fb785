use Rattle.std.proofs.Common.{sym, subst}
use Rattle.tb_bus.specs.Buses.{origin_of, start}
use Rattle.tb_bus.specs.Traces.{IsTrace}
use Rattle.tb_core.specs.Cores.{most_entries}
use Rattle.tb_why.specs.Helpers.Followed.{IsCrowdedIn}
use Rattle.tb_why.proofs.FollowLemmas.{crowded, no-trace}
use Rattle.tb_why.proofs.following.why.Goals as goal

pub returns-clause-no_trace : goal.returns-clause-no_trace
returns-clause-no_trace g c = λ e.
    let first = c.in_ok-core.core in
    no-trace (origin_of c.args.program c.args.connects.now most_entries) c.args.log.now c.in_ok-entries.entries first c.in_ok-entries.ensures.found.0 c.in_ok-entries.ensures.found.1 c.in_ok-core.ensures.origin
    (λ trace. c.end_of.ensures.no_trace e (subst (IsTrace (start first.origin)) (sym c.as_slice.ensures) trace))

pub returns-clause-full : goal.returns-clause-full
returns-clause-full g c = λ e.
    let first = c.in_ok-core.core in
    crowded (origin_of c.args.program c.args.connects.now most_entries) c.args.log.now c.in_ok-entries.entries first c.in_ok-entries.ensures.found.0 c.in_ok-entries.ensures.found.1 c.in_ok-core.ensures.origin c.in_ok-core.ensures.log
    (subst (IsCrowdedIn first) c.as_slice.ensures (c.end_of.ensures.full e))
