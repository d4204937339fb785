use Rattle.std.proofs.Common.{◌≡◌, ℕ, Some, map, take}
use Rattle.tb_process_steps.specs.Walks.{offers_of, seen_offers}
use Rattle.tb_why.specs.Standing.{offering_of}
use Rattle.tb_why.proofs.looking.offerings.Given as goal

-- the offers so far are seen
abbrev pub invariant-loop-k : goal.invariant-loop-k
invariant-loop-k g l = (now : ℕ) → g.W.Walker.view.seen l.walker ≡ Some (seen_offers (g.W.Walker.view.body_of l.plan).atoms now (g.W.Walker.view.walking l.plan l.walker)) →
    l.offers ≡ map (offering_of (g.W.Walker.view.body_of l.plan).atoms now) (take l.k (offers_of (g.W.Walker.view.walking l.plan l.walker)))
