-- The state of a core that follows the text of a log, and the claim of each result.
use Rattle.std.specs.Prelude.{◌≡◌, ◌≤◌, ℕ, List, [], ◌∷◌, ◌++◌, length, Bool, true, false, Result, Ok, Err}
use Rattle.tb_bus.specs.Buses.{Bus, start}
use Rattle.tb_bus.specs.Traces.{IsLegal, IsTrace}
use Rattle.tb_bus.specs.declared.origin.Origin.{Origin}
use Rattle.tb_core.specs.Cores.{CoreState, IsCrowded, Logs, bus_now}
use Rattle.tb_log.specs.Limits.{has_room, log_size, most_size}
use Rattle.tb_log.specs.LogText.{log_text}
use Rattle.tb_log.specs.declared.entry.Entry.{Entry}
use Rattle.tb_log_read.specs.Lines.{IsLine, IsLog}
use Rattle.tb_verify.specs.Verdicts.{IsCrowdedAt, IsVerdict}
use Rattle.tb_verify.specs.declared.verdict.Verdict.{Verdict}
use Rattle.tb_verify.specs.declared.verdict.VerifyFault.{VerifyFault}
use Rattle.tb_verify.specs.declared.verdict.VerifyFault.TheVariants as fault

-- the log has at most `limit` entries, and its terms are within the limit of size
pub record IsWithin (limit : ℕ) (log : List Entry) : Type 0 where
  pub few : length log ≤ limit
  pub small : log_size log ≤ most_size

-- the core has logged the lines before `rest`, which are a trace, and isn't stopped
pub record IsFollowed (origin : Origin) (bytes rest : List ℕ) (core : CoreState) : Type 0 where
  pub started : core.origin ≡ origin
  pub running : core.stopped ≡ false
  pub is_log : IsLog core.log
  pub so_far : bytes ≡ log_text core.log ++ rest
  pub trace : IsTrace (start origin) core.log
  pub within : IsWithin origin.limit core.log

-- `true`: the line is that of an entry with this number that can come next, and the core has logged this entry. `false`: it isn't.
abbrev pub FollowsLine : CoreState → ℕ → List ℕ → Bool → CoreState → Type 0
FollowsLine old number line true new =
    (entry : Entry) × IsLine number entry line × Logs old new (entry ∷ []) × (has_room old.origin.limit old.log entry ≡ true)
FollowsLine old number line false new = (entry : Entry) (next : Bus) → IsLine number entry line → IsLegal (bus_now old) entry next → ⊥

-- the line is that of an entry that can come next, and the core's log has no capacity for this entry
abbrev pub IsCrowdedLine : CoreState → ℕ → List ℕ → Type 0
IsCrowdedLine core number line = (entry : Entry) × IsLine number entry line × IsCrowded core entry

-- the claim of a result about the bytes: with a verdict, the log is crowded at no line; `NoMemory` makes no claim
abbrev pub Settles : Origin → List ℕ → Result Verdict VerifyFault → Type 0
Settles origin bytes (Ok verdict) = IsVerdict origin bytes verdict × ((number : ℕ) → IsCrowdedAt origin bytes number → ⊥)
Settles origin bytes (Err fault.Full) = (number : ℕ) × IsCrowdedAt origin bytes number
Settles origin bytes (Err fault.NoMemory) = Unit {0}
