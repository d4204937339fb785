-- The terms that a body reaches with a number of ticks, and bounds for the ages in a term.
use Rattle.std.specs.Prelude.{◌≡◌, ◌≤◌, ◌+◌, ℕ, List, Some, IfSome, Contains, ⊤}
use Rattle.tb_func.specs.declared.slot.Slot.{Slot}
use Rattle.tb_body.specs.declared.body.Body.{Body}
use Rattle.tb_body.specs.declared.tree.Tree.{Tree}
use Rattle.tb_process_steps.specs.Processes.{Process, At, Seq, Alt, Star, Par, Disrupt, If, When, Let, fresh, aged}
use Rattle.tb_process_steps.specs.Offers.{Offered, offers}
use Rattle.tb_process_steps.specs.Walks.{Walking}

-- entering the tree, taking offers, and this number of ticks can lead to the term
pub data Reaches (tree : Tree) : ℕ → Process → Type 0 where
  -- the tree is entered
  entered : Reaches tree 0 (fresh tree)
  -- an offer is taken, in any store
  went_on : {ticks : ℕ} {term left : Process} (store : List Slot) (offered : Offered) → Reaches tree ticks term → Contains (offers term store) offered → offered.residual ≡ Some left → Reaches tree ticks left
  -- a tick passes
  grew_older : {ticks : ℕ} {term : Process} → Reaches tree ticks term → Reaches tree (ticks + 1) (aged term)

-- the process has ended, or its body reaches its term with its number of ticks
abbrev pub IsReached : Body → Walking → Type 0
IsReached body walking = IfSome walking.term (Reaches body.tree walking.ticks)

-- no age in the term is greater than this number of ticks
abbrev pub IsAgedUpTo : ℕ → Process → Type 0
IsAgedUpTo ticks (At atom age) = age ≤ ticks
IsAgedUpTo ticks (Seq x y) = IsAgedUpTo ticks x × IsAgedUpTo ticks y
IsAgedUpTo ticks (Alt x y) = IsAgedUpTo ticks x × IsAgedUpTo ticks y
IsAgedUpTo ticks (Star x y) = IsAgedUpTo ticks x × IsAgedUpTo ticks y
IsAgedUpTo ticks (Par x y) = IsAgedUpTo ticks x × IsAgedUpTo ticks y
IsAgedUpTo ticks (Disrupt x y) = IsAgedUpTo ticks x × IsAgedUpTo ticks y
IsAgedUpTo ticks (If test x y) = IsAgedUpTo ticks x × IsAgedUpTo ticks y
IsAgedUpTo ticks (When test x) = IsAgedUpTo ticks x
IsAgedUpTo ticks (Let settings x) = IsAgedUpTo ticks x

-- all ages are 0
abbrev pub IsNew : Process → Type 0
IsNew term = IsAgedUpTo 0 term

-- all ages are 0 on the right of a sequence and within a star
abbrev pub IsNewBehind : Process → Type 0
IsNewBehind (At atom age) = ⊤
IsNewBehind (Seq x y) = IsNewBehind x × IsNew y
IsNewBehind (Alt x y) = IsNewBehind x × IsNewBehind y
IsNewBehind (Star x y) = IsNew x × IsNew y
IsNewBehind (Par x y) = IsNewBehind x × IsNewBehind y
IsNewBehind (Disrupt x y) = IsNewBehind x × IsNewBehind y
IsNewBehind (If test x y) = IsNewBehind x × IsNewBehind y
IsNewBehind (When test x) = IsNewBehind x
IsNewBehind (Let settings x) = IsNewBehind x
