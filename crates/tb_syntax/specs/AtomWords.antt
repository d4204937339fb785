-- The words of atoms and of time conditions, one case each: their texts, and how many arguments an atom takes.
use Rattle.std.specs.Prelude.{ℕ, Bool, true, false, List, [], ◌∷◌, Option, is_some, codes}
use Rattle.std.specs.List.{find}
use Rattle.std.specs.Str.{bytes_eq}
use Rattle.tb_syntax.specs.declared.atom_words.AtomWord.{AtomWord}
use Rattle.tb_syntax.specs.declared.atom_words.AtomWord.TheVariants as atom
use Rattle.tb_syntax.specs.declared.atom_words.TimeWord.{TimeWord}
use Rattle.tb_syntax.specs.declared.atom_words.TimeWord.TheVariants as time

-- the atoms that are written as a word with arguments; `create` isn't among them, because it takes a call
abbrev pub atom_text : AtomWord → List ℕ
atom_text atom.Delta = codes "delta"
atom_text atom.Tau = codes "tau"
atom_text atom.Printf = codes "printf"
atom_text atom.SndMsg = codes "snd-msg"
atom_text atom.RecMsg = codes "rec-msg"
atom_text atom.SndNote = codes "snd-note"
atom_text atom.RecNote = codes "rec-note"
atom_text atom.NoNote = codes "no-note"
atom_text atom.Subscribe = codes "subscribe"
atom_text atom.Unsubscribe = codes "unsubscribe"
atom_text atom.Execute = codes "execute"
atom_text atom.RecConnect = codes "rec-connect"
atom_text atom.RecDisconnect = codes "rec-disconnect"
atom_text atom.SndEval = codes "snd-eval"
atom_text atom.RecValue = codes "rec-value"
atom_text atom.SndDo = codes "snd-do"
atom_text atom.RecEvent = codes "rec-event"
atom_text atom.SndAckEvent = codes "snd-ack-event"
atom_text atom.SndTerminate = codes "snd-terminate"
atom_text atom.Shutdown = codes "shutdown"

-- each atom word once
abbrev pub atom_words : List AtomWord
atom_words =
    atom.Delta ∷ atom.Tau ∷ atom.Printf ∷ atom.SndMsg ∷ atom.RecMsg ∷ atom.SndNote
    ∷ atom.RecNote ∷ atom.NoNote ∷ atom.Subscribe ∷ atom.Unsubscribe ∷ atom.Execute ∷ atom.RecConnect
    ∷ atom.RecDisconnect ∷ atom.SndEval ∷ atom.RecValue ∷ atom.SndDo ∷ atom.RecEvent ∷ atom.SndAckEvent
    ∷ atom.SndTerminate ∷ atom.Shutdown ∷ []

-- the atom word with this text
abbrev pub atom_word : List ℕ → Option AtomWord
atom_word name = find (λ word. bytes_eq name (atom_text word)) atom_words

abbrev pub is_atom_word : List ℕ → Bool
is_atom_word name = is_some (atom_word name)

-- the least number of arguments of the atom
abbrev pub fewest : AtomWord → ℕ
fewest atom.Delta = 0
fewest atom.Tau = 0
fewest atom.Printf = 1
fewest atom.SndMsg = 1
fewest atom.RecMsg = 1
fewest atom.SndNote = 1
fewest atom.RecNote = 1
fewest atom.NoNote = 1
fewest atom.Subscribe = 1
fewest atom.Unsubscribe = 1
fewest atom.Execute = 2
fewest atom.RecConnect = 1
fewest atom.RecDisconnect = 1
fewest atom.SndEval = 2
fewest atom.RecValue = 2
fewest atom.SndDo = 2
fewest atom.RecEvent = 2
fewest atom.SndAckEvent = 2
fewest atom.SndTerminate = 2
fewest atom.Shutdown = 1

-- whether the atom can have more arguments than the fewest
abbrev pub takes_more : AtomWord → Bool
takes_more atom.Delta = false
takes_more atom.Tau = false
takes_more atom.Printf = true
takes_more atom.SndMsg = true
takes_more atom.RecMsg = true
takes_more atom.SndNote = true
takes_more atom.RecNote = true
takes_more atom.NoNote = true
takes_more atom.Subscribe = true
takes_more atom.Unsubscribe = true
takes_more atom.Execute = false
takes_more atom.RecConnect = false
takes_more atom.RecDisconnect = false
takes_more atom.SndEval = false
takes_more atom.RecValue = false
takes_more atom.SndDo = false
takes_more atom.RecEvent = true
takes_more atom.SndAckEvent = true
takes_more atom.SndTerminate = false
takes_more atom.Shutdown = false

abbrev pub time_text : TimeWord → List ℕ
time_text time.Delay = codes "delay"
time_text time.Timeout = codes "timeout"
time_text time.AbsDelay = codes "abs-delay"
time_text time.AbsTimeout = codes "abs-timeout"

-- each time word once
abbrev pub time_words : List TimeWord
time_words = time.Delay ∷ time.Timeout ∷ time.AbsDelay ∷ time.AbsTimeout ∷ []

-- the time word with this text
abbrev pub time_word : List ℕ → Option TimeWord
time_word name = find (λ word. bytes_eq name (time_text word)) time_words

abbrev pub is_time_word : List ℕ → Bool
is_time_word name = is_some (time_word name)
