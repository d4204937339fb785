-- The content of files for which only one status can come, unless some part of the environment
-- fails or memory runs out.
use Rattle.std.specs.Prelude.{◌≡◌, ◌<◌, ◌≤◌, ℕ, List, [], Option, Some, None, length}
use Rattle.tb_body.specs.declared.program.Program.{Program}
use Rattle.tb_bus.specs.Buses.{start}
use Rattle.tb_bus.specs.declared.origin.Origin.{Origin}
use Rattle.tb_feed.specs.Feeds.{IsFeedOf}
use Rattle.tb_log.specs.declared.entry.Entry.{Entry}
use Rattle.tb_log.specs.declared.entry.Input.{Input}
use Rattle.tb_iface.specs.declared.answer.Interface.{Interface}
use Rattle.tb_script.specs.Findings.{IsFound, Program'}
use Rattle.tb_sim.specs.Simulation.{IsSim, limits_of, sim_start}
use Rattle.tb_sim.specs.declared.ends.SimEnd.TheVariants as sim
use Rattle.tb_load.specs.Loading.{most_bytes}
use Rattle.tb_top.specs.Sim.{Request, origin_for}
use Rattle.tb_top.specs.Verify.{HasVerdict, IsCrowded, VerifyRequest, log_origin, most_log_bytes}
use Rattle.tb_top.specs.declared.status.Status.{Status}
use Rattle.tb_top.specs.declared.status.Status.TheVariants as status
use Rattle.tb_top.specs.declared.status.Bound.TheVariants as bound
use Rattle.tb_top.specs.declared.status.LogWrong.TheVariants as log_wrong
use Rattle.tb_verify.specs.declared.verdict.Verdict.{Verdict}
use Rattle.tb_verify.specs.declared.verdict.Verdict.TheVariants as verdict

-- The feed parses as these inputs: the reported content of its file is at most as long as allowed
-- and is a feed; or no file is named, and there are no inputs.
abbrev pub Reads : (List ℕ → Option (List ℕ)) → Option (List ℕ) → List Input → Type 0
Reads held None inputs = inputs ≡ []
Reads held (Some name) inputs =
    (bytes : List ℕ) × (held name ≡ Some bytes) × (length bytes ≤ most_bytes)
    × IsFeedOf bytes inputs

-- The files of the script and of the feed report accepted content, and the simulation of the
-- program ends because the bus has shut down.
pub record MustEnd (held : List ℕ → Option (List ℕ)) (request : Request) : Type 0 where
  pub bytes : List ℕ
  pub told : held request.script ≡ Some bytes
  pub few : length bytes ≤ most_bytes
  pub program : Program
  pub found : IsFound bytes (Program' program)
  pub inputs : List Input
  pub reads : Reads held request.feed inputs
  pub log : List Entry
  pub ends :
      IsSim (limits_of request.steps (origin_for request program))
      (sim_start (start (origin_for request program)) inputs) log sim.Down

-- The finding on the file of a log.
pub data Due : Type 0 where
  -- the verdict on it
  Judged : Verdict → Due
  -- a log has no capacity for one of its entries
  Crowd : Due
  -- the file is too long, with this number of bytes
  Long : ℕ → Due

-- the status that reports it
abbrev pub due_status : Due → Status
due_status (Judged verdict.Trace) = status.Ended
due_status (Judged (verdict.Line number)) = status.Log (log_wrong.Line number)
due_status Crowd = status.Limit bound.Events
due_status (Long len) = status.Log (log_wrong.TooLong len)

-- this is the finding on these bytes as a log with this origin
abbrev pub IsDue : Origin → List ℕ → Due → Type 0
IsDue origin bytes (Judged verdict) =
    (length bytes ≤ most_log_bytes) × HasVerdict verdict origin bytes
IsDue origin bytes Crowd = (length bytes ≤ most_log_bytes) × IsCrowded origin bytes
IsDue origin bytes (Long len) = (most_log_bytes < length bytes) × (len ≡ length bytes)

-- The script's file reports accepted content, and this is the finding on the reported content of
-- the log's file.
pub record MustTell (held : List ℕ → Option (List ℕ)) (request : VerifyRequest) (due : Due) : Type 0
  where
    pub bytes : List ℕ
    pub told : held request.script ≡ Some bytes
    pub few : length bytes ≤ most_bytes
    pub program : Program
    pub found : IsFound bytes (Program' program)
    pub log : List ℕ
    pub told_log : held request.log ≡ Some log
    pub is_due : IsDue (log_origin request program) log due

-- the status for a tool with this interface, or for no tool
abbrev pub tool_status : Option Interface → Status
tool_status None = status.Stranger
tool_status (Some interface) = status.Ended
