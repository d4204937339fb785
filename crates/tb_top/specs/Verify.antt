-- The answers of `verify`, and the bytes that it writes.
use Rattle.std.specs.Prelude.{◌≡◌, ℕ, List, Option, Result, Ok, Err, codes}
use Rattle.tb_edge.specs.Sinks.{Writes, WritesPrefix}
use Rattle.tb_body.specs.declared.program.Program.{Program}
use Rattle.tb_bus.specs.declared.origin.Origin.{Origin}
use Rattle.tb_bus.specs.Buses.{origin_of}
use Rattle.tb_core.specs.Cores.{most_entries}
use Rattle.tb_verify.specs.Verdicts.{IsCrowdedAt, IsVerdict}
use Rattle.tb_verify.specs.declared.verdict.Verdict.{Verdict}
use Rattle.tb_verify.specs.declared.verdict.Verdict.TheVariants as verdict
use Rattle.tb_load.specs.Loading.{HasProgram, IsAccepted, IsLoadedWithin, IsLongerThan}
use Rattle.tb_top.specs.Loading.{IsUnloaded}
use Rattle.tb_top.specs.declared.fault.Fault.{Fault}
use Rattle.tb_top.specs.declared.fault.Fault.TheVariants.{Script, File, Out, Limit, NoMemory, Log}
use Rattle.tb_top.specs.declared.status.Bound.TheVariants as bound
use Rattle.tb_top.specs.declared.status.LogWrong.TheVariants as log_wrong

-- the greatest size of a log, in bytes; a larger log is too long
abbrev pub most_log_bytes : ℕ
most_log_bytes = 67108864

abbrev pub trace_line : List ℕ
trace_line = codes "trace\n"

-- The arguments of a verification: the names of the script's file and of the log's, and the
-- commands that are connected.
pub record VerifyRequest : Type 0 where
  pub script : List ℕ
  pub log : List ℕ
  pub connects : List (List ℕ)

-- the origin of a log of the program
abbrev pub log_origin : VerifyRequest → Program → Origin
log_origin request program = origin_of program request.connects most_entries

-- no line has a legal entry for which the log has no capacity
abbrev pub HasRoom : Origin → List ℕ → Type 0
HasRoom origin bytes = (number : ℕ) → IsCrowdedAt origin bytes number → ⊥

-- this is the verdict on the bytes of a log with this origin, and the log has capacity for its
-- legal entries
abbrev pub HasVerdict : Verdict → Origin → List ℕ → Type 0
HasVerdict verdict origin bytes = IsVerdict origin bytes verdict × HasRoom origin bytes

-- the log has no capacity for one of its legal entries
abbrev pub IsCrowded : Origin → List ℕ → Type 0
IsCrowded origin bytes = (number : ℕ) × IsCrowdedAt origin bytes number

-- The script has a program, the bytes of the log's file are loaded, and `Says` holds for the origin
-- of the program and these bytes.
pub record IsJudged (held : List ℕ → Option (List ℕ)) (request : VerifyRequest)
    (Says : Origin → List ℕ → Type 0) : Type 0 where
  pub program : Program
  pub has : HasProgram (held request.script) program
  pub bytes : List ℕ
  pub loaded : IsLoadedWithin most_log_bytes (held request.log) bytes
  pub says : Says (log_origin request program) bytes

-- the claims about `verify` by its answer, for the reported content of the files, the arguments,
-- and the bytes of the sink before and after the call
abbrev pub VerifyOutcome : {A : Type 0} → (List ℕ → Option (List ℕ)) → VerifyRequest
    → Option (List ℕ) → Option (List ℕ) → Result A Fault → Type 0
-- the log is a trace
VerifyOutcome held request old new (Ok done) =
    IsJudged held request (HasVerdict verdict.Trace) × Writes old new trace_line
-- the log is a trace, and the sink failed
VerifyOutcome held request old new (Err Out) =
    IsJudged held request (HasVerdict verdict.Trace) × WritesPrefix old new trace_line
-- the lines before this line are a trace; with this line, they aren't
VerifyOutcome held request old new (Err (Log (log_wrong.Line number))) =
    IsJudged held request (HasVerdict (verdict.Line number)) × (new ≡ old)
-- the script is accepted, and the log's file has this number of bytes, which is too large
VerifyOutcome held request old new (Err (Log (log_wrong.TooLong len))) =
    IsAccepted (held request.script) × IsLongerThan most_log_bytes (held request.log) len
    × (new ≡ old)
-- there is no capacity for an entry of the log
VerifyOutcome held request old new (Err (Limit bound.Events)) =
    IsJudged held request IsCrowded × (new ≡ old)
-- the script was rejected
VerifyOutcome held request old new (Err (Script fault)) =
    IsUnloaded (held request.script) (Script fault) × (new ≡ old)
-- a file could not be read
VerifyOutcome held request old new (Err File) = new ≡ old
-- memory ran out
VerifyOutcome held request old new (Err NoMemory) = new ≡ old
-- no other answer comes
VerifyOutcome held request old new _ = ⊥
