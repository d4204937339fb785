use Rattle.std.proofs.Common.{◌≡◌, ◌++◌, take, drop}
use Rattle.tb_notes.specs.Inboxes.{is_among, without}
use Rattle.tb_notes.proofs.subscriptions.position_of.Given as goal

-- the remaining subscriptions determine the result
abbrev pub invariant-loop-index : goal.invariant-loop-index
invariant-loop-index l =
    (is_among l.patterns (drop l.index l.subscriptions) ≡ is_among l.patterns l.subscriptions)
    × (take l.index l.subscriptions ++ without l.patterns (drop l.index l.subscriptions) ≡ without l.patterns l.subscriptions)
