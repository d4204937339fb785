use Rattle.std.proofs.Common.{◌≡◌, drop}
use Rattle.tb_tools.specs.Finding.{first_match}
use Rattle.tb_tools.proofs.events.Events.first_match.Given as goal

-- the events that are left decide
abbrev pub invariant-loop-place : goal.invariant-loop-place
invariant-loop-place l =
    first_match l.place l.patterns (drop l.place l.self-inside.queue.items) ≡ first_match 0 l.patterns l.self-inside.queue.items
