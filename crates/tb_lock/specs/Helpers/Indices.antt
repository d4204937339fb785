-- The indices of a handle's own entries in a log.
use Rattle.std.specs.Prelude.{◌≡◌, ◌≤◌, ℕ, suc, ◌==◌, Bool, List, [], ◌∷◌, slice_get, Some, ⊤}
use Rattle.std.specs.List.{list_any}
use Rattle.tb_log.specs.declared.entry.Entry.{Entry}
use Rattle.tb_lock.specs.Histories.{Own}

-- the indices ascend, none is below the given one, and each entry is at its index in the log
abbrev pub AreIn : List Entry → ℕ → List Own → Type 0
AreIn log from [] = ⊤
AreIn log from (own ∷ owns) = (from ≤ own.index) × (slice_get log own.index ≡ Some own.entry) × AreIn log (suc own.index) owns

-- whether some entry has an index
abbrev pub has_index : ℕ → List Own → Bool
has_index index owns = list_any (λ own. own.index == index) owns
