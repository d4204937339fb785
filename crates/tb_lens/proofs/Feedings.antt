-- Lemmas about what `feed` writes about a log, and why it fails.
use Rattle.std.proofs.Common.{◌≡◌, ℕ, List, Option, Err, refl}
use Rattle.tb_edge.specs.FilesHeld.{AsksSome}
use Rattle.tb_edge.specs.Sinks.{Writes, WritesPrefix}
use Rattle.tb_lens.specs.Fed.{FeedFailure, FeedInPart, FeedOutcome, TellsFeed, TellsFeedOf, most_log_bytes}
use Rattle.tb_lens.specs.Loads.{Asks, IsHeld, IsReasonOfOne}
use Rattle.tb_lens.specs.declared.status.Status.{Status}
use Rattle.tb_lens.specs.declared.status.Trouble.{Trouble}
use Rattle.tb_lens.specs.declared.status.Trouble.TheVariants as trouble

pub tells_held : (told : Option (List ℕ)) (name bytes text : List ℕ) (status : Status) → IsHeld most_log_bytes told bytes
    → TellsFeed name bytes text status → TellsFeedOf told name text status
tells_held told name bytes text status held tells = record { bytes = bytes; held = held; tells = tells }

pub fed : (told old new : Option (List ℕ)) (name text : List ℕ) (status : Status) → TellsFeedOf told name text status → Writes old new text
    → FeedOutcome told name old new status
fed told old new name text status tells written = record { text = text; tells = tells; written = written }

pub fed_in_part : (told old new : Option (List ℕ)) (name text : List ℕ) (status : Status) → TellsFeedOf told name text status → WritesPrefix old new text
    → FeedInPart told name old new
fed_in_part told old new name text status tells written = record { text = text; status = status; tells = tells; written = written }

module _ (most : ℕ) (told : Option (List ℕ)) (name : List ℕ) (failed : Type 0) where
  -- a reason that isn't a failure of the output holds with any claim about the output
  pub unloaded_anyhow : (Out : Type 0) (it : Trouble) → IsReasonOfOne most told name failed ⊥ it → IsReasonOfOne most told name failed Out it
  unloaded_anyhow Out (trouble.File file) is = is
  unloaded_anyhow Out trouble.Out is = absurd is
  unloaded_anyhow Out trouble.NoMemory is = is
  unloaded_anyhow Out (trouble.TooLong file) is = is
  unloaded_anyhow Out (trouble.Script file) is = is
  unloaded_anyhow Out trouble.Connect is = is
  unloaded_anyhow Out trouble.Input is = is

  pub unfed : (written : Option (List ℕ)) (it : Trouble) → IsReasonOfOne most told name failed ⊥ it → FeedFailure told name written written it
  unfed written (trouble.File file) is = refl
  unfed written trouble.Out is = absurd is
  unfed written trouble.NoMemory is = refl
  unfed written (trouble.TooLong file) is = refl
  unfed written (trouble.Script file) is = refl
  unfed written trouble.Connect is = refl
  unfed written trouble.Input is = refl

  pub asks_unloaded : (names old new : List (List ℕ)) (it : Trouble) → IsReasonOfOne most told name failed ⊥ it → AsksSome names old new
      → Asks names (Err it) old new
  asks_unloaded names old new (trouble.File file) is some = some
  asks_unloaded names old new trouble.Out is some = absurd is
  asks_unloaded names old new trouble.NoMemory is some = some
  asks_unloaded names old new (trouble.TooLong file) is some = some
  asks_unloaded names old new (trouble.Script file) is some = some
  asks_unloaded names old new trouble.Connect is some = some
  asks_unloaded names old new trouble.Input is some = some
