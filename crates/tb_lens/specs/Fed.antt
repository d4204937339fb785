-- What `feed` writes about the log in a file.
use Rattle.std.specs.Prelude.{◌≡◌, ℕ, List, [], ◌∷◌, ◌++◌, Option, codes}
use Rattle.std.specs.Fmt.{decimal}
use Rattle.tb_edge.specs.Sinks.{Writes, WritesPrefix}
use Rattle.tb_feed.specs.Feeds.{IsFeedOf}
use Rattle.tb_log.specs.LogText.{log_text}
use Rattle.tb_log.specs.declared.entry.Entry.{Entry}
use Rattle.tb_log_read.specs.Lines.{IsLog, StopsAt}
use Rattle.tb_refeed.specs.Feeding.{came_in, feed_text, IsFirstTooLong}
use Rattle.tb_lens.specs.Loads.{IsHeld}
use Rattle.tb_lens.specs.declared.status.Status.{Status}
use Rattle.tb_lens.specs.declared.status.Status.TheVariants.{Fine, Found, Trouble}
use Rattle.tb_lens.specs.declared.status.Trouble.{Trouble as Reason}
use Rattle.tb_lens.specs.declared.status.Trouble.TheVariants as trouble

-- the greatest number of bytes of a log: a longer file is rejected
abbrev pub most_log_bytes : ℕ
most_log_bytes = 67108864

-- The bytes are the text of a log, and the text is the feed with the inputs of this log, without the end of ticks.
pub record FeedsLog (bytes text : List ℕ) : Type 0 where
  pub log : List Entry
  pub is_log : IsLog log
  pub is_text : bytes ≡ log_text log
  pub feeds : IsFeedOf text (came_in log)
  pub lines : text ≡ feed_text (came_in log)

-- the name of the file, a colon, the number of a line, a colon and a space, a sentence, and a newline
abbrev pub line_text : List ℕ → ℕ → List ℕ → List ℕ
line_text name number sentence = name ++ 58 ∷ decimal number ++ codes ": " ++ sentence ++ 10 ∷ []

-- The text names a line of the file: the first line that isn't a line of a log or, if the file is a log, the first line that is too long
-- for a feed.
pub data NamesLine (name bytes text : List ℕ) : Type 0 where
  no_line : (number : ℕ) → StopsAt bytes number → text ≡ line_text name number (codes "this is no line of a log") → NamesLine name bytes text
  long_line : (number : ℕ) → IsFirstTooLong bytes number → text ≡ line_text name number (codes "no line of a feed is so long") → NamesLine name bytes text

-- what is written about the bytes of the file of this name, and the status that belongs to it
abbrev pub TellsFeed : List ℕ → List ℕ → List ℕ → Status → Type 0
TellsFeed name bytes text Fine = FeedsLog bytes text
TellsFeed name bytes text Found = NamesLine name bytes text
TellsFeed name bytes text Trouble = ⊥

-- what is written about the bytes that the name holds
pub record TellsFeedOf (told : Option (List ℕ)) (name text : List ℕ) (status : Status) : Type 0 where
  pub bytes : List ℕ
  pub held : IsHeld most_log_bytes told bytes
  pub tells : TellsFeed name bytes text status

-- the whole text is written, and nothing else
pub record FeedOutcome (told : Option (List ℕ)) (name : List ℕ) (old new : Option (List ℕ)) (status : Status) : Type 0 where
  pub text : List ℕ
  pub tells : TellsFeedOf told name text status
  pub written : Writes old new text

-- a prefix of the text is written
pub record FeedInPart (told : Option (List ℕ)) (name : List ℕ) (old new : Option (List ℕ)) : Type 0 where
  pub text : List ℕ
  pub status : Status
  pub tells : TellsFeedOf told name text status
  pub written : WritesPrefix old new text

-- nothing is written, unless the write to the output failed
abbrev pub FeedFailure : Option (List ℕ) → List ℕ → Option (List ℕ) → Option (List ℕ) → Reason → Type 0
FeedFailure told name old new (trouble.File file) = new ≡ old
FeedFailure told name old new trouble.Out = FeedInPart told name old new
FeedFailure told name old new trouble.NoMemory = new ≡ old
FeedFailure told name old new (trouble.TooLong file) = new ≡ old
FeedFailure told name old new (trouble.Script file) = new ≡ old
FeedFailure told name old new trouble.Connect = new ≡ old
FeedFailure told name old new trouble.Input = new ≡ old
