use Rattle.std.proofs.Common.{◌≡◌, drop}
use Rattle.tb_notes.specs.Inboxes.{first_match}
use Rattle.tb_notes.proofs.queue.first_match.Given as goal

-- the remaining notes determine the result
abbrev pub invariant-loop-place : goal.invariant-loop-place
invariant-loop-place l = first_match l.place l.patterns (drop l.place l.queue.items) ≡ first_match 0 l.patterns l.queue.items
