-- The effect of an action that a process does by itself, by the finding of a search.
use Rattle.std.specs.Prelude.{ℕ, List, [], ◌∷◌}
use Rattle.tb_terms.specs.declared.term.Term.{Term}
use Rattle.tb_notes.specs.Inboxes.{Held}
use Rattle.tb_notes.specs.declared.queue.Found.{Found}
use Rattle.tb_log.specs.declared.entry.LabelKind.TheVariants as kind
use Rattle.tb_bus.specs.Effects.{Nothing, PutsNote, Subscribes, Unsubscribes, GoesDown, Effect, creation, taking, speaking}
use Rattle.tb_bus.specs.Exchanges.{Setting, plain_on}
use Rattle.tb_bus.specs.declared.action.OwnAction.{OwnAction}
use Rattle.tb_bus.specs.declared.action.OwnAction.TheVariants.{Tau, Set, Print, Notify, TakeNote, NoNote, Subscribe, Unsubscribe, Create, Speak, Shutdown}
use Rattle.tb_bus.specs.declared.exchange.Exchange.{Exchange}
use Rattle.tb_search.specs.declared.candidate.Finding.{Finding}
use Rattle.tb_search.specs.declared.candidate.Finding.TheVariants as finding

-- the note that a finding takes; for another finding, a placeholder
abbrev pub note_found : Finding → Found
note_found finding.Plain = record { place = 0; binds = [] }
note_found (finding.Notify indices) = record { place = 0; binds = [] }
note_found (finding.TakeNote found) = found
note_found (finding.Speak exchange) = record { place = 0; binds = [] }

-- the exchange that a finding has; for another finding, a placeholder
abbrev pub exchange_found : Finding → Exchange
exchange_found finding.Plain = plain_on 0
exchange_found (finding.Notify indices) = plain_on 0
exchange_found (finding.TakeNote found) = plain_on 0
exchange_found (finding.Speak exchange) = exchange

-- the effect of a `snd-note` if each queue that wants the note has capacity
abbrev pub noting : List Term → Effect
noting terms = record { kind = kind.SndNote; shown = terms; binds = []; change = PutsNote terms }

-- The effect of an action that a process does by itself, by its finding. `next` is the number of the next process, `held` the
-- inbox of the process, and `setting` where it speaks with tools.
abbrev pub effect_by : ℕ → Held → Setting → OwnAction → Finding → Effect
effect_by next held setting Tau found = record { kind = kind.Tau; shown = []; binds = []; change = Nothing }
effect_by next held setting (Set values binds) found = record { kind = kind.Set; shown = values; binds = binds; change = Nothing }
effect_by next held setting (Print text) found = record { kind = kind.Printf; shown = text ∷ []; binds = []; change = Nothing }
effect_by next held setting (Notify terms) found = noting terms
effect_by next held setting (TakeNote patterns) found = taking held (note_found found)
effect_by next held setting (NoNote patterns) found = record { kind = kind.NoNote; shown = []; binds = []; change = Nothing }
effect_by next held setting (Subscribe patterns) found = record { kind = kind.Subscribe; shown = []; binds = []; change = Subscribes patterns }
effect_by next held setting (Unsubscribe patterns) found = record { kind = kind.Unsubscribe; shown = []; binds = []; change = Unsubscribes patterns }
effect_by next held setting (Create process actuals slot) found = creation next process actuals slot
effect_by next held setting (Speak does) found = speaking setting does (exchange_found found)
effect_by next held setting (Shutdown reason) found = record { kind = kind.Shutdown; shown = reason ∷ []; binds = []; change = GoesDown reason }
