-- The effects of the job that writes the log while the bus runs.
use Rattle.std.specs.Prelude.{◌≡◌, ◌+◌, ℕ, List, [], ◌++◌, length, drop, take, Option}
use Rattle.tb_edge.specs.Faults.{Rose}
use Rattle.tb_edge.specs.Sinks.{Writes, WritesPrefix}
use Rattle.tb_log.specs.declared.entry.Entry.{Entry}
use Rattle.tb_log.specs.LogText.{log_text, log_text_from}
use Rattle.tb_lock.specs.Seats.{SeatView}
use Rattle.tb_write.specs.declared.log_writer.LogFault.{LogFault}
use Rattle.tb_write.specs.declared.log_writer.LogFault.TheVariants as fault
use Rattle.tb_run.specs.declared.ends.LogEnd.{LogEnd}
use Rattle.tb_run.specs.declared.ends.LogEnd.TheVariants as end
use Rattle.tb_write.specs.Writers.{WriterView}
use Rattle.tb_run.specs.Seats.{Adds, Stops}

-- the job goes on: it has written the next entries, after the entries that the writer had counted
pub record LogsOn (old new : SeatView) (from to : WriterView) (put_old put_new : Option (List ℕ)) (faults_old faults_new : ℕ) : Type 0 where
  pub adds : Adds old new []
  pub most : ℕ
  pub piece : List Entry
  pub is : piece ≡ take most (drop from.written new.seen)
  pub so_many : to ≡ record { written = from.written + length piece; held = [] }
  pub put : Writes put_old put_new (log_text_from (from.written + 1) piece)
  -- the sink's count of failures is unchanged
  pub calm : faults_new ≡ faults_old
  pub called : new.called ≡ old.called

-- a prefix of the text of the next entries was written
pub record PutsPart (old new : SeatView) (from : WriterView) (put_old put_new : Option (List ℕ)) : Type 0 where
  pub mid : List Entry
  pub more : List Entry
  pub grows : mid ≡ old.seen ++ more
  pub tail : List Entry
  pub seen : new.seen ≡ mid ++ tail
  pub most : ℕ
  pub piece : List Entry
  pub is : piece ≡ take most (drop from.written mid)
  pub prefix : WritesPrefix put_old put_new (log_text_from (from.written + 1) piece)

-- the effect of the job's last turn, by the reason why the job ends; `from` and `to` are the writer before the turn and after it
abbrev pub EndsLogging : SeatView → SeatView → WriterView → WriterView → Option (List ℕ) → Option (List ℕ) → ℕ → ℕ → LogEnd → Type 0
EndsLogging old new from to put_old put_new faults_old faults_new end.Over = Adds old new [] × (to ≡ from) × (put_new ≡ put_old) × (faults_new ≡ faults_old) × (new.called ≡ old.called)
EndsLogging old new from to put_old put_new faults_old faults_new end.Out = Stops old new × PutsPart old new from put_old put_new × Rose faults_old faults_new
EndsLogging old new from to put_old put_new faults_old faults_new end.NoMemory = Stops old new × PutsPart old new from put_old put_new

-- the effect of writing a piece of the log
pub record PutsSome (old new : SeatView) (piece : List Entry) (from to : WriterView) (put_old put_new : Option (List ℕ)) (faults_old faults_new : ℕ) : Type 0 where
  pub same : new ≡ old
  pub so_many : to ≡ record { written = from.written + length piece; held = [] }
  pub put : Writes put_old put_new (log_text_from (from.written + 1) piece)
  pub calm : faults_new ≡ faults_old

-- the effect of writing a piece of the log if the job ends at it, by the reason why it ends
abbrev pub PutsLast : SeatView → SeatView → List Entry → WriterView → WriterView → Option (List ℕ) → Option (List ℕ) → ℕ → ℕ → LogEnd → Type 0
PutsLast old new piece from to put_old put_new faults_old faults_new end.Over = (new ≡ old) × (to ≡ from) × (put_new ≡ put_old) × (faults_new ≡ faults_old)
PutsLast old new piece from to put_old put_new faults_old faults_new end.Out = Stops old new × WritesPrefix put_old put_new (log_text_from (from.written + 1) piece) × Rose faults_old faults_new
PutsLast old new piece from to put_old put_new faults_old faults_new end.NoMemory = Stops old new × WritesPrefix put_old put_new (log_text_from (from.written + 1) piece)

-- a prefix of the entries that the seat has seen was written, as many as the writer counts
pub record Logged (old new : SeatView) (writer : WriterView) (put_old put_new : Option (List ℕ)) (faults_old faults_new : ℕ) : Type 0 where
  pub adds : Adds old new []
  pub written : List Entry
  pub rest : List Entry
  pub seen : new.seen ≡ written ++ rest
  pub so_many : length written ≡ writer.written
  pub held : writer.held ≡ []
  pub put : Writes put_old put_new (log_text written)
  pub calm : faults_new ≡ faults_old
  pub called : new.called ≡ old.called

-- the effect of the whole job, by the reason why it ended
abbrev pub LogDone : SeatView → SeatView → WriterView → Option (List ℕ) → Option (List ℕ) → ℕ → ℕ → LogEnd → Type 0
LogDone old new writer put_old put_new faults_old faults_new end.Over = Logged old new writer put_old put_new faults_old faults_new
LogDone old new writer put_old put_new faults_old faults_new end.Out = Stops old new × WritesPrefix put_old put_new (log_text new.seen) × Rose faults_old faults_new
LogDone old new writer put_old put_new faults_old faults_new end.NoMemory = Stops old new × WritesPrefix put_old put_new (log_text new.seen)

-- why the job ends if a piece wasn't written
abbrev pub end_by : LogFault → LogEnd
end_by fault.Out = end.Out
end_by fault.NoMemory = end.NoMemory
