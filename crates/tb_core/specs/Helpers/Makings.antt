-- The finding and the effect of an own action of a process.
use Rattle.std.specs.Prelude.{ℕ, Bool, true, false, IsTrue, Option, ⊤}
use Rattle.tb_log.specs.declared.entry.LabelKind.{LabelKind}
use Rattle.tb_log.specs.declared.entry.LabelKind.TheVariants as kind
use Rattle.tb_match.specs.Matches.{are_plain}
use Rattle.tb_bus.specs.Effects.{Effect}
use Rattle.tb_bus.specs.declared.action.OwnAction.{OwnAction}
use Rattle.tb_bus.specs.declared.action.OwnAction.TheVariants.{Tau, Set, Print, Notify, TakeNote, NoNote, Subscribe, Unsubscribe, Create, Speak, Shutdown}
use Rattle.tb_search.specs.Candidates.{finding_of, row_at, rows_of, setting_in}
use Rattle.tb_search.specs.FoundEffects.{effect_by}
use Rattle.tb_search.specs.declared.candidate.Finding.{Finding}
use Rattle.tb_core.specs.declared.bus.LiveBus.{LiveBus}
use Rattle.tb_core.specs.Helpers.LiveBuses.{scene_in}

-- the finding of a search for an own action of the process at an index, if the action is possible
abbrev pub finding_in : {W P T : Type 0} → LiveBus W P T → ℕ → OwnAction → Option Finding
finding_in bus at own = finding_of (scene_in bus) (row_at (rows_of bus.living.items) at) own

-- the effect of an own action of the process at an index, with its finding
abbrev pub effect_in : {W P T : Type 0} → LiveBus W P T → ℕ → OwnAction → Finding → Effect
effect_in bus at own found =
    effect_by bus.marks.next_number (row_at (rows_of bus.living.items) at).inbox (setting_in (scene_in bus) (row_at (rows_of bus.living.items) at)) own found

-- if the action subscribes to patterns, they have no variables that take terms
abbrev pub IsPlainIn : OwnAction → Type 0
IsPlainIn Tau = ⊤
IsPlainIn (Set values binds) = ⊤
IsPlainIn (Print text) = ⊤
IsPlainIn (Notify terms) = ⊤
IsPlainIn (TakeNote patterns) = ⊤
IsPlainIn (NoNote patterns) = ⊤
IsPlainIn (Subscribe patterns) = IsTrue (are_plain patterns)
IsPlainIn (Unsubscribe patterns) = ⊤
IsPlainIn (Create process actuals slot) = ⊤
IsPlainIn (Speak does) = ⊤
IsPlainIn (Shutdown reason) = ⊤

-- whether a step of this kind ends the bus without a process
abbrev pub is_end : LabelKind → Bool
is_end kind.Finish = true
is_end kind.Halt = true
is_end kind = false
