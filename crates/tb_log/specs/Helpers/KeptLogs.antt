-- The entries that the lists of a `Log` represent, and the invariant of these lists.
use Rattle.std.specs.Prelude.{◌≡◌, ◌≤◌, ◌<◌, ◌+◌, ℕ, List, length, map, take, drop, slice_get, Option, Some, None, ⊤}
use Rattle.std.specs.List.{All}
use Rattle.tb_terms.specs.declared.term.Term.{Term}
use Rattle.tb_log.specs.declared.entry.Label.{Label}
use Rattle.tb_log.specs.declared.entry.Entry.{Entry}
use Rattle.tb_log.specs.declared.entry.Entry.TheVariants.{Did, Quiet, Fed, Gave}
use Rattle.tb_log.specs.declared.kept.KeptStep.{KeptStep}
use Rattle.tb_log.specs.declared.kept.Kept.{Kept}
use Rattle.tb_log.specs.declared.kept.Kept.TheVariants as kept
use Rattle.tb_log.specs.declared.kept.Other.{Other}
use Rattle.tb_log.specs.declared.kept.Other.TheVariants as other
use Rattle.tb_log.specs.Limits.{log_size, most_size}

-- a step, with its terms taken from a list that steps share
abbrev pub label_kept : List Term → KeptStep → Label
label_kept terms step = record { kind = step.kind; from = step.from; to = step.to; terms = take step.count (drop step.first terms) }

-- an entry that keeps its own content
abbrev pub other_entry : Other → Entry
other_entry (other.Did label) = Did label
other_entry (other.Fed input reply) = Fed input reply
other_entry (other.Gave lane out) = Gave lane out

-- the entry at an index of the list of others; `Quiet` if there is none, which the invariant excludes
abbrev pub other_there : Option Other → Entry
other_there None = Quiet
other_there (Some it) = other_entry it

-- the entry that one stored entry represents; the terms of a step of numbers are in the list of numbers, those of other steps in the
-- list of terms
abbrev pub entry_kept : List Term → List Term → List Other → Kept → Entry
entry_kept terms numbers others (kept.Did step) = Did (label_kept terms step)
entry_kept terms numbers others (kept.Numbers step) = Did (label_kept numbers step)
entry_kept terms numbers others kept.Quiet = Quiet
entry_kept terms numbers others (kept.Other at) = other_there (slice_get others at)

-- the entries that the four lists of a log represent
abbrev pub entries_kept : List Term → List Term → List Other → List Kept → List Entry
entries_kept terms numbers others entries = map (entry_kept terms numbers others) entries

-- the indices of a stored entry are within the lists, which have this many terms, numbers and others
abbrev pub NamesWithin : ℕ → ℕ → ℕ → Kept → Type 0
NamesWithin terms numbers others (kept.Did step) = step.first + step.count ≤ terms
NamesWithin terms numbers others (kept.Numbers step) = step.first + step.count ≤ numbers
NamesWithin terms numbers others kept.Quiet = ⊤
NamesWithin terms numbers others (kept.Other at) = at < others

-- The invariant of a log: all indices are within the lists, `size` is the total size of the entries, and the log is within its
-- limits. Each term has a size of at least 1. So there are at most `size` terms and at most `size` numbers. There are at most as many
-- others as entries.
pub record StandsFor (limit size : ℕ) (terms numbers : List Term) (others : List Other) (entries : List Kept) : Type 0 where
  pub named : All (NamesWithin (length terms) (length numbers) (length others)) entries
  pub sized : size ≡ log_size (entries_kept terms numbers others entries)
  pub small : size ≤ most_size
  pub within : length entries ≤ limit
  pub limited : limit ≤ 4294967295
  pub few_terms : length terms ≤ size
  pub few_numbers : length numbers ≤ size
  pub few_others : length others ≤ length entries
