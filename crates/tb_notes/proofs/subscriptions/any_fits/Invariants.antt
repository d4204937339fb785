use Rattle.std.proofs.Common.{◌≡◌, drop, IsTrue}
use Rattle.std.specs.List.{list_any, list_all}
use Rattle.tb_match.specs.Matches.{are_plain}
use Rattle.tb_notes.specs.Inboxes.{fits}
use Rattle.tb_notes.proofs.subscriptions.any_fits.Given as goal

-- the remaining subscriptions determine the result
abbrev pub invariant-loop-subscription : goal.invariant-loop-subscription
invariant-loop-subscription l =
    (list_any (fits l.note) (drop l.subscription-index l.subscriptions) ≡ list_any (fits l.note) l.subscriptions)
    × IsTrue (list_all are_plain (drop l.subscription-index l.subscriptions))
