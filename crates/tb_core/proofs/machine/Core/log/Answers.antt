use Rattle.std.proofs.Common.{◌≡◌, ◌≤◌, ℕ, length, subst}
use Rattle.tb_core.specs.Cores.{CoreState}
use Rattle.tb_core.proofs.machine.Core.log.Goals as goal

pub returns-clause-limit : goal.returns-clause-limit
returns-clause-limit g c = subst (λ (s : CoreState). c.self.inside.log.limit ≡ s.origin.limit) c.self.view_is c.self.invariant.limit

pub returns-clause-within : goal.returns-clause-within
returns-clause-within g c =
    let core = c.self.inside in
    let within : length core.log.entries ≤ core.bus.origin.limit = subst (λ (n : ℕ). length core.log.entries ≤ n) c.self.invariant.limit c.self.invariant.within in
    subst (λ (s : CoreState). length s.log ≤ s.origin.limit) c.self.view_is within
