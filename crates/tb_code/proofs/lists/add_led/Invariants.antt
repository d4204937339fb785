use Rattle.std.proofs.Common.{◌≡◌, ◌++◌, drop, map}
use Rattle.tb_code.specs.Entries.{led}
use Rattle.tb_code.proofs.lists.add_led.Given as goal

-- the entries so far, followed by the remaining entries in the list of the whole, are all entries
abbrev pub invariant-loop-entry : goal.invariant-loop-entry
invariant-loop-entry l = l.entries ++ map (led l.next) (drop l.entry-index l.list) ≡ l.fn.entries ++ map (led l.next) l.list
