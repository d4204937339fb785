-- The kinds of step whose line shows one place.
use Rattle.std.proofs.Common.{◌≡◌, ℕ, true, List, ◌++◌, Some, refl}
use Rattle.tb_terms.specs.declared.term.Term.{Term}
use Rattle.tb_log.specs.LogText.{place_words, term_words, kind_word, label_words}
use Rattle.tb_log.specs.Shapes.{nowhere, HasPlaces}
use Rattle.tb_log.specs.declared.entry.Place.{Place}
use Rattle.tb_log.specs.declared.entry.LabelKind.{LabelKind}
use Rattle.tb_log.specs.declared.entry.LabelKind.TheVariants as kind
use Rattle.tb_log_read.specs.Helpers.Cutting.{prefix, behind}
use Rattle.tb_log_read.specs.Helpers.Numbers.{place_of}
use Rattle.tb_log_read.specs.Helpers.Terms.{label_terms}
use Rattle.tb_log_read.specs.Helpers.Words.{kind_of, labelled, step_of}
use Rattle.tb_log_read.proofs.Cuts.{lacks}

pub record HasOnePlace (k : LabelKind) : Type 0 where
  pub words : (from to : Place) (terms : List Term) → label_words k from to terms ≡ kind_word k ++ place_words from ++ term_words terms
  pub step : (bytes : List ℕ) → step_of k bytes ≡ labelled k (place_of (prefix 32 bytes)) nowhere (label_terms (behind 32 bytes))
  pub places : (from to : Place) → HasPlaces k from to → to ≡ nowhere
  pub newline : lacks 10 (kind_word k) ≡ true
  pub blank : lacks 32 (kind_word k) ≡ true
  pub known : kind_of (kind_word k) ≡ Some k

-- by the kinds: a message, the two ends of a bus, and all that have one place
pub kinds : (P : LabelKind → Type 0) → P kind.Msg → P kind.Finish → P kind.Halt → ((k : LabelKind) → HasOnePlace k → P k) → (k : LabelKind) → P k
kinds P msg finish halt one kind.Msg = msg
kinds P msg finish halt one kind.Finish = finish
kinds P msg finish halt one kind.Halt = halt
kinds P msg finish halt one kind.Set = one kind.Set (record { words = λ from to terms. refl; step = λ bytes. refl; places = λ from to h. h; newline = refl; blank = refl; known = refl })
kinds P msg finish halt one kind.Tau = one kind.Tau (record { words = λ from to terms. refl; step = λ bytes. refl; places = λ from to h. h; newline = refl; blank = refl; known = refl })
kinds P msg finish halt one kind.Printf = one kind.Printf (record { words = λ from to terms. refl; step = λ bytes. refl; places = λ from to h. h; newline = refl; blank = refl; known = refl })
kinds P msg finish halt one kind.SndNote = one kind.SndNote (record { words = λ from to terms. refl; step = λ bytes. refl; places = λ from to h. h; newline = refl; blank = refl; known = refl })
kinds P msg finish halt one kind.RecNote = one kind.RecNote (record { words = λ from to terms. refl; step = λ bytes. refl; places = λ from to h. h; newline = refl; blank = refl; known = refl })
kinds P msg finish halt one kind.NoNote = one kind.NoNote (record { words = λ from to terms. refl; step = λ bytes. refl; places = λ from to h. h; newline = refl; blank = refl; known = refl })
kinds P msg finish halt one kind.Subscribe = one kind.Subscribe (record { words = λ from to terms. refl; step = λ bytes. refl; places = λ from to h. h; newline = refl; blank = refl; known = refl })
kinds P msg finish halt one kind.Unsubscribe = one kind.Unsubscribe (record { words = λ from to terms. refl; step = λ bytes. refl; places = λ from to h. h; newline = refl; blank = refl; known = refl })
kinds P msg finish halt one kind.Create = one kind.Create (record { words = λ from to terms. refl; step = λ bytes. refl; places = λ from to h. h; newline = refl; blank = refl; known = refl })
kinds P msg finish halt one kind.Execute = one kind.Execute (record { words = λ from to terms. refl; step = λ bytes. refl; places = λ from to h. h; newline = refl; blank = refl; known = refl })
kinds P msg finish halt one kind.RecConnect = one kind.RecConnect (record { words = λ from to terms. refl; step = λ bytes. refl; places = λ from to h. h; newline = refl; blank = refl; known = refl })
kinds P msg finish halt one kind.RecDisconnect = one kind.RecDisconnect (record { words = λ from to terms. refl; step = λ bytes. refl; places = λ from to h. h; newline = refl; blank = refl; known = refl })
kinds P msg finish halt one kind.SndEval = one kind.SndEval (record { words = λ from to terms. refl; step = λ bytes. refl; places = λ from to h. h; newline = refl; blank = refl; known = refl })
kinds P msg finish halt one kind.RecValue = one kind.RecValue (record { words = λ from to terms. refl; step = λ bytes. refl; places = λ from to h. h; newline = refl; blank = refl; known = refl })
kinds P msg finish halt one kind.SndDo = one kind.SndDo (record { words = λ from to terms. refl; step = λ bytes. refl; places = λ from to h. h; newline = refl; blank = refl; known = refl })
kinds P msg finish halt one kind.RecEvent = one kind.RecEvent (record { words = λ from to terms. refl; step = λ bytes. refl; places = λ from to h. h; newline = refl; blank = refl; known = refl })
kinds P msg finish halt one kind.SndAckEvent = one kind.SndAckEvent (record { words = λ from to terms. refl; step = λ bytes. refl; places = λ from to h. h; newline = refl; blank = refl; known = refl })
kinds P msg finish halt one kind.SndTerminate = one kind.SndTerminate (record { words = λ from to terms. refl; step = λ bytes. refl; places = λ from to h. h; newline = refl; blank = refl; known = refl })
kinds P msg finish halt one kind.Shutdown = one kind.Shutdown (record { words = λ from to terms. refl; step = λ bytes. refl; places = λ from to h. h; newline = refl; blank = refl; known = refl })
