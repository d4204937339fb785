-- The verdict on the bytes of a log: they are the text of a trace, or the first line at which they aren't. Also the line at which a log is
-- crowded: a log has no capacity for the line's entry.
use Rattle.std.specs.Prelude.{◌≡◌, ◌≢◌, ℕ, ◌+◌, List, [], ◌++◌, length, false}
use Rattle.tb_bus.specs.Buses.{Bus, start}
use Rattle.tb_bus.specs.Traces.{IsLegal, IsTrace, replay}
use Rattle.tb_bus.specs.declared.origin.Origin.{Origin}
use Rattle.tb_log.specs.Limits.{has_room}
use Rattle.tb_log.specs.LogText.{log_text}
use Rattle.tb_log.specs.declared.entry.Entry.{Entry}
use Rattle.tb_log_read.specs.Lines.{IsLine, IsLog, first_line}
use Rattle.tb_verify.specs.declared.verdict.Verdict.{Verdict}
use Rattle.tb_verify.specs.declared.verdict.Verdict.TheVariants as verdict

-- The bytes are the text of a log, and this log is a trace.
pub record IsTraceText (origin : Origin) (bytes : List ℕ) : Type 0 where
  pub log : List Entry
  pub is_log : IsLog log
  pub text : bytes ≡ log_text log
  pub trace : IsTrace (start origin) log

-- The lines before this line number are the text of a log that is a trace, and the line with this number exists.
pub record IsTraceBefore (origin : Origin) (bytes : List ℕ) (number : ℕ) (log : List Entry) (rest : List ℕ) : Type 0 where
  pub is_log : IsLog log
  pub before : bytes ≡ log_text log ++ rest
  pub counted : number ≡ length log + 1
  pub is_there : rest ≢ []
  pub trace : IsTrace (start origin) log

-- The verdict is this line: the lines before it are a trace, and it isn't the line of an entry with this number that can come next.
pub record LeavesAt (origin : Origin) (bytes : List ℕ) (number : ℕ) : Type 0 where
  pub log : List Entry
  pub rest : List ℕ
  pub is_before : IsTraceBefore origin bytes number log rest
  pub is_none : (entry : Entry) (next : Bus) → IsLine number entry (first_line rest)
      → IsLegal (replay (start origin) log) entry next → ⊥

-- The log is crowded at this line: the lines before it are a trace, it is the line of an entry that can come next, and a log of the origin
-- has no capacity for this entry.
pub record IsCrowdedAt (origin : Origin) (bytes : List ℕ) (number : ℕ) : Type 0 where
  pub log : List Entry
  pub rest : List ℕ
  pub is_before : IsTraceBefore origin bytes number log rest
  pub entry : Entry
  pub next : Bus
  pub line : IsLine number entry (first_line rest)
  pub legal : IsLegal (replay (start origin) log) entry next
  pub full : has_room origin.limit log entry ≡ false

-- the claim of a verdict about the bytes
abbrev pub IsVerdict : Origin → List ℕ → Verdict → Type 0
IsVerdict origin bytes verdict.Trace = IsTraceText origin bytes
IsVerdict origin bytes (verdict.Line number) = LeavesAt origin bytes number
