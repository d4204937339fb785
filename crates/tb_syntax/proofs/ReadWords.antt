-- The text of each word is read as this word.
use Rattle.std.proofs.Common.{◌≡◌, Some, refl}
use Rattle.tb_syntax.specs.declared.atom_words.AtomWord.{AtomWord}
use Rattle.tb_syntax.specs.declared.atom_words.AtomWord.TheVariants as atom
use Rattle.tb_syntax.specs.declared.atom_words.TimeWord.{TimeWord}
use Rattle.tb_syntax.specs.declared.atom_words.TimeWord.TheVariants as time
use Rattle.tb_syntax.specs.AtomWords.{atom_text, atom_word, time_text, time_word}

pub each_atom_read : (word : AtomWord) → atom_word (atom_text word) ≡ Some word
each_atom_read atom.Delta = refl
each_atom_read atom.Tau = refl
each_atom_read atom.Printf = refl
each_atom_read atom.SndMsg = refl
each_atom_read atom.RecMsg = refl
each_atom_read atom.SndNote = refl
each_atom_read atom.RecNote = refl
each_atom_read atom.NoNote = refl
each_atom_read atom.Subscribe = refl
each_atom_read atom.Unsubscribe = refl
each_atom_read atom.Execute = refl
each_atom_read atom.RecConnect = refl
each_atom_read atom.RecDisconnect = refl
each_atom_read atom.SndEval = refl
each_atom_read atom.RecValue = refl
each_atom_read atom.SndDo = refl
each_atom_read atom.RecEvent = refl
each_atom_read atom.SndAckEvent = refl
each_atom_read atom.SndTerminate = refl
each_atom_read atom.Shutdown = refl

pub each_time_read : (word : TimeWord) → time_word (time_text word) ≡ Some word
each_time_read time.Delay = refl
each_time_read time.Timeout = refl
each_time_read time.AbsDelay = refl
each_time_read time.AbsTimeout = refl
