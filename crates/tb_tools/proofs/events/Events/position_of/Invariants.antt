use Rattle.std.proofs.Common.{◌≡◌, drop}
use Rattle.std.specs.List.{position_from}
use Rattle.tb_terms.specs.Same.{is_same_terms}
use Rattle.tb_tools.proofs.events.Events.position_of.Given as goal

-- the events that are left decide
abbrev pub invariant-loop-place : goal.invariant-loop-place
invariant-loop-place l =
    position_from (is_same_terms l.terms) l.place (drop l.place l.self-inside.queue.items) ≡ position_from (is_same_terms l.terms) 0 l.self-inside.queue.items
