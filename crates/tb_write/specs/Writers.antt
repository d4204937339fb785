-- What contracts see of a writer of a log.
use Rattle.std.specs.Prelude.{ℕ, List}

pub record WriterView : Type 0 where
  -- the number of entries that the writer has received
  pub written : ℕ
  -- the bytes that the writer hasn't written to a sink yet
  pub held : List ℕ
