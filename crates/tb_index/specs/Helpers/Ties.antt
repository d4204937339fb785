-- How the parts of an index belong together, and which processes the index names as starters.
use Rattle.std.specs.Prelude.{ℕ, ◌==◌, ◌||◌, Bool, List}
use Rattle.std.specs.List.{list_any}
use Rattle.tb_index.specs.declared.mark.Mark.{Mark}
use Rattle.tb_index.specs.declared.pairs.Pairs.{Pairs}
use Rattle.tb_index.specs.Helpers.Pairs.{is_sender, AllOpened, AreCountedIf, AreHeard}
use Rattle.tb_index.specs.Helpers.Bits.{bit_in}

-- whether the index names the process: it is awake, or sends a message that is received under an active mark
unfoldable pub is_asked : Pairs → Pairs → List ℕ → List Mark → ℕ → Bool
is_asked sending counted awake active proc = (bit_in awake proc == 1) || list_any (λ mark. is_sender sending counted mark proc) active

-- What holds of every index. A mark is active if some process sends a message that some process receives under this mark.
-- Further marks may be active.
pub record IsTied (sending receiving : Pairs) (opened : Bool) (counted : Pairs) (active : List Mark) : Type 0 where
  pub told : AllOpened opened receiving
  pub counts : AreCountedIf opened sending counted
  pub heard : AreHeard sending receiving active
