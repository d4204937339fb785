use Rattle.std.proofs.Common.{◌≡◌, ℕ, Some, take, false}
use Rattle.std.specs.List.{All}
use Rattle.tb_process_steps.specs.Walks.{offers_of, seen_offers}
use Rattle.tb_search.specs.Candidates.{readies}
use Rattle.tb_living.specs.Lives.{IsTimeless}
use Rattle.tb_living.proofs.looking.fill.Given as goal

abbrev pub invariant-loop-at : goal.invariant-loop-at
invariant-loop-at g l = (now : ℕ) → g.W.Walker.view.seen l.walker ≡ Some (seen_offers l.body.atoms now (g.W.Walker.view.walking l.plan l.walker)) →
    (l.ready.items ≡ readies l.body.atoms now 0 (take l.at (offers_of (g.W.Walker.view.walking l.plan l.walker))))
    × (l.timed ≡ false → All (IsTimeless l.body.atoms) (take l.at (offers_of (g.W.Walker.view.walking l.plan l.walker))))
