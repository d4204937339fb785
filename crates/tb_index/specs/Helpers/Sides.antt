-- What holds of the marks of one side: of the senders, or of the receivers.
use Rattle.std.specs.Prelude.{ℕ, Bool, List}
use Rattle.tb_index.specs.declared.mark.Mark.{Mark}
use Rattle.tb_index.specs.declared.pairs.Pairs.{Pairs}
use Rattle.tb_index.specs.declared.active.Side.{Side}
use Rattle.tb_index.specs.declared.active.Side.TheVariants.{Sends, Receives}
use Rattle.tb_index.specs.Helpers.Pairs.{AllOpened, AreCountedIf, AreOpened, SentAreHeard, ReceivedAreHeard, SentAreKept, ReceivedAreKept}

-- before `marks` of one side make marks active, the index counts the senders if an open mark of a receiver needs the counts
abbrev pub AreTold : Side → Bool → Pairs → Pairs → List Mark → Type 0
AreTold Sends opened receiving counted marks = AllOpened opened receiving
AreTold Receives opened sending counted marks = AreCountedIf opened sending counted × AreOpened opened marks

-- for each of `marks` that isn't in `others`: if it meets a mark of the other side, the received one of the two marks is active
abbrev pub AreHeardOn : Side → List Mark → List Mark → Pairs → List Mark → Type 0
AreHeardOn Sends marks others receiving active = SentAreHeard marks others receiving active
AreHeardOn Receives marks others sending active = ReceivedAreHeard marks others sending active

-- a mark stays active if a process of this side still needs it: sends a message that it meets, or receives under it
abbrev pub AreKeptOn : Side → List Mark → List Mark → Pairs → Type 0
AreKeptOn Sends old new sending = SentAreKept old new sending
AreKeptOn Receives old new receiving = ReceivedAreKept old new receiving
