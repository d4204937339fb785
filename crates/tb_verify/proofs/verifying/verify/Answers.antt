use Rattle.std.proofs.Common.{subst}
use Rattle.tb_bus.specs.Buses.{origin_of}
use Rattle.tb_bus.specs.declared.origin.Origin.{Origin}
use Rattle.tb_core.specs.Cores.{most_entries}
use Rattle.tb_verify.specs.Helpers.Followed.{Settles}
use Rattle.tb_verify.proofs.FollowedLemmas.{tells-crowded, tells-only}
use Rattle.tb_verify.proofs.verifying.verify.Goals as goal

pub returns-clause-only : goal.returns-clause-only
returns-clause-only g c =
    let origin = origin_of c.args.program c.args.connects.now most_entries in
    let answer = c.verify_lines-verdict.result in
    tells-only origin c.args.log.now answer (subst (λ (it : Origin). Settles it c.args.log.now answer) c.in_ok-core.ensures.origin c.verify_lines-verdict.ensures)

pub returns-clause-crowded : goal.returns-clause-crowded
returns-clause-crowded g c =
    let origin = origin_of c.args.program c.args.connects.now most_entries in
    let answer = c.verify_lines-verdict.result in
    tells-crowded origin c.args.log.now answer (subst (λ (it : Origin). Settles it c.args.log.now answer) c.in_ok-core.ensures.origin c.verify_lines-verdict.ensures)
