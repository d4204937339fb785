-- Where a disrupt is in a term, and the terms to which a process comes before it enters this disrupt again.
use Rattle.std.specs.Prelude.{◌≡◌, ◌⊎◌, List, Some, Contains}
use Rattle.tb_func.specs.declared.slot.Slot.{Slot}
use Rattle.tb_process_steps.specs.Processes.{Process, At, Seq, Alt, Star, Par, Disrupt, If, When, Let, aged}
use Rattle.tb_process_steps.specs.Offers.{Offered, offers}

-- The disrupt `left >> right` is in the term. The process has entered it, or can enter it later.
abbrev pub HasDisrupt : Process → Process → Process → Type 0
HasDisrupt left right (At atom age) = ⊥
HasDisrupt left right (Seq x y) = HasDisrupt left right x ⊎ HasDisrupt left right y
HasDisrupt left right (Alt x y) = HasDisrupt left right x ⊎ HasDisrupt left right y
HasDisrupt left right (Star x y) = HasDisrupt left right x ⊎ HasDisrupt left right y
HasDisrupt left right (Par x y) = HasDisrupt left right x ⊎ HasDisrupt left right y
HasDisrupt left right (Disrupt x y) = ((x ≡ left) × (y ≡ right)) ⊎ (HasDisrupt left right x ⊎ HasDisrupt left right y)
HasDisrupt left right (If test x y) = HasDisrupt left right x ⊎ HasDisrupt left right y
HasDisrupt left right (When test x) = HasDisrupt left right x
HasDisrupt left right (Let settings x) = HasDisrupt left right x

-- The process has entered the disrupt `left >> right`, and the disrupt has neither taken a step nor aged. The second part of a sequence
-- isn't entered.
abbrev pub Enters : Process → Process → Process → Type 0
Enters left right (At atom age) = ⊥
Enters left right (Seq x y) = Enters left right x
Enters left right (Alt x y) = Enters left right x ⊎ Enters left right y
Enters left right (Star x y) = Enters left right x ⊎ Enters left right y
Enters left right (Par x y) = Enters left right x ⊎ Enters left right y
Enters left right (Disrupt x y) = ((x ≡ left) × (y ≡ right)) ⊎ (Enters left right x ⊎ Enters left right y)
Enters left right (If test x y) = Enters left right x ⊎ Enters left right y
Enters left right (When test x) = Enters left right x
Enters left right (Let settings x) = Enters left right x

-- the terms to which steps and ticks lead from this term, as long as the process doesn't enter the disrupt `left >> right`
pub data GoesOn (left right term : Process) : Process → Type 0 where
  -- no step and no tick
  begins : (Enters left right term → ⊥) → GoesOn left right term term
  -- an offer is taken, in any store
  takes : {later rest : Process} (store : List Slot) (offered : Offered) → GoesOn left right term later → Contains (offers later store) offered
      → offered.residual ≡ Some rest → (Enters left right rest → ⊥) → GoesOn left right term rest
  -- a tick passes
  grows_older : {later : Process} → GoesOn left right term later → GoesOn left right term (aged later)
