-- The term that a branch represents, and the number of offers that the branches of a row have.
use Rattle.std.specs.Prelude.{ℕ, ◌+◌, ◌-◌, List, [], ◌∷◌, ◌++◌, length}
use Rattle.tb_func.specs.declared.slot.Slot.{Slot}
use Rattle.tb_body.specs.declared.atom.Atom.{Atom}
use Rattle.tb_process_steps.specs.Offers.{offers}
use Rattle.tb_process_steps.specs.Processes.{Process}
use Rattle.tb_process_steps.specs.Helpers.Runnings.{waited}
use Rattle.tb_process_steps.specs.Helpers.OfferViews.{OfferView, offer_views}
use Rattle.tb_code.specs.Positions.{part}
use Rattle.tb_walk.specs.declared.branch.Branch.{Branch}

-- the term of a branch: the part at its position, aged since the branch was entered
unfoldable pub term_at : Process → ℕ → Branch → Process
term_at whole ticks branch = waited (ticks - branch.entered) (part whole branch.position)

-- the number of offers of all branches of a row
abbrev pub counted : Process → ℕ → List Slot → List Branch → ℕ
counted whole ticks store [] = 0
counted whole ticks store (branch ∷ row) = length (offers (term_at whole ticks branch) store) + counted whole ticks store row

-- the offers of a row's branches, as a look keeps them
abbrev pub row_sights : Process → List Atom → ℕ → ℕ → List Slot → List Branch → List OfferView
row_sights whole atoms now ticks store [] = []
row_sights whole atoms now ticks store (branch ∷ row) = offer_views atoms now (term_at whole ticks branch) store ++ row_sights whole atoms now ticks store row
