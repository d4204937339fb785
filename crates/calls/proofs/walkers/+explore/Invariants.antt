use Rattle.calls.proofs.walkers.+explore.Given as goal

-- each call has fewer moves left
abbrev pub decreases-explore : goal.decreases-explore
decreases-explore g l = l.more
