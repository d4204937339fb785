-- The line that a step takes from a tool, by what waits with the tool before the step and after it.
use Rattle.std.specs.Prelude.{◌≡◌, List, [], ◌∷◌, ◌++◌, Some, None, codes}
use Rattle.tb_terms.specs.declared.term.Term.{Term}
use Rattle.tb_terms.specs.declared.term.Term.TheVariants.{Appl}
use Rattle.tb_tools.specs.declared.stage.Stage.TheVariants.{Waiting, Live}
use Rattle.tb_tools.specs.Acts.{answer_of}
use Rattle.tb_tools.specs.Lanes.{Tool}

-- a tool before a step and after it, and the line of this tool that the step takes
pub data Takes (before later : Tool) : Term → Type 0 where
  -- the answer of the tool is there before the step, and not after it
  value : {value : Term} → answer_of before.eval ≡ Some value → answer_of later.eval ≡ None → Takes before later (Appl (codes "snd-value") (value ∷ []))
  -- the event is the last that was received
  event : (terms : List Term) → later.received ≡ before.received ++ terms ∷ [] → Takes before later (Appl (codes "snd-event") terms)
  -- the tool waited, and is live
  name : before.stage ≡ Waiting → later.stage ≡ Live → Takes before later (Appl (codes "snd-connect") (Appl before.name [] ∷ []))
