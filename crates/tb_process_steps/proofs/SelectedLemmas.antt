-- The offer of an entered part of a plan at an index, by the part's own parts.
use Rattle.std.proofs.Common.{◌≡◌, ℕ, zero, suc, ◌-◌, Bool, true, false, Option, Some, None, List, [], ◌∷◌, ◌++◌, map, slice_get, refl, ap, ◌∙◌}
use Rattle.tb_terms.specs.declared.expr.Expr.{Expr}
use Rattle.tb_func.specs.declared.slot.Slot.{Slot}
use Rattle.tb_body.specs.declared.tree.Setting.{Setting}
use Rattle.tb_process_steps.specs.Helpers.Selections.{Selected, Past, On, chosen, selected, selected_at, selected_with, or_past}
use Rattle.tb_process_steps.specs.Processes as process
use Rattle.tb_process_steps.specs.Processes.{Process}
use Rattle.tb_process_steps.specs.Offers.{until, in_wait, Offered, offers, before, on_the_left, on_the_right, offers_if, offers_after, followed, left_of, right_of}
use Rattle.tb_process_steps.specs.Helpers.Plans.{process_at, AreBehind}
use Rattle.tb_process_steps.specs.Helpers.Runnings.{entered_term}
use Rattle.tb_process_steps.specs.Settings.{tested, with_settings}
use Rattle.tb_process_steps.specs.declared.node.Node.{Node}
use Rattle.tb_process_steps.specs.declared.node.Node.TheVariants.{At, Seq, Alt, Star, Par, Disrupt, If, Let}
use Rattle.tb_process_steps.specs.declared.running.Entry.{Entry}
use Rattle.tb_process_steps.proofs.EntryLemmas.{part, entered-At, entered-Seq, entered-Alt, entered-Star, entered-Par, entered-Disrupt, entered-When, entered-If, entered-Let}

pub at-append : (k : ℕ) (xs ys : List Offered) → selected_at k (xs ++ ys) ≡ or_past (selected_at k xs) (λ rest. selected_at rest ys)
at-append k [] ys = refl
at-append zero (x ∷ xs) ys = refl
at-append (suc k) (x ∷ xs) ys = at-append k xs ys

abbrev pub with_left : (Option Process → Option Process) → Offered → Offered
with_left f offered = record offered { residual = f offered.residual }

pub at-map : (f : Option Process → Option Process) (k : ℕ) (xs : List Offered) → selected_at k (map (with_left f) xs) ≡ selected_with f (selected_at k xs)
at-map f k [] = refl
at-map f zero (x ∷ xs) = refl
at-map f (suc k) (x ∷ xs) = at-map f k xs

-- the rest followed by a term, or merged with a term

abbrev pub then : Process → Option Process → Option Process
then y left = Some (followed left y)

abbrev pub beside : Process → Option Process → Option Process
beside y left = Some (left_of left y)

abbrev pub along : Process → Option Process → Option Process
along x right = Some (right_of x right)

abbrev pub held : Process → Option Process → Option Process
held y left = until y left

pub selected-Seq : (x y : Process) (store : List Slot) (k : ℕ) → selected (process.Seq x y) store k ≡ selected_with (then y) (selected x store k)
unfolding selected
selected-Seq x y store k = at-map (then y) k (offers x store)

pub selected-Par : (x y : Process) (store : List Slot) (k : ℕ) → selected (process.Par x y) store k ≡ or_past (selected_with (beside y) (selected x store k)) (λ rest. selected_with (along x) (selected y store rest))
unfolding selected
selected-Par x y store k =
    at-append k (map (on_the_left y) (offers x store)) (map (on_the_right x) (offers y store))
    ∙ ap (λ (h : Selected). or_past h (λ rest. selected_at rest (map (on_the_right x) (offers y store)))) (at-map (beside y) k (offers x store))
    ∙ second (selected_with (beside y) (selected_at k (offers x store)))
  where
    second : (h : Selected) → or_past h (λ rest. selected_at rest (map (on_the_right x) (offers y store))) ≡ or_past h (λ rest. selected_with (along x) (selected_at rest (offers y store)))
    second (Past rest) = at-map (along x) rest (offers y store)
    second (On left own) = refl

pub selected-Disrupt : (x y : Process) (store : List Slot) (k : ℕ) → selected (process.Disrupt x y) store k ≡ or_past (selected_with (held y) (selected x store k)) (λ rest. selected y store rest)
unfolding selected
selected-Disrupt x y store k =
    at-append k (map (in_wait y) (offers x store)) (offers y store)
    ∙ ap (λ (h : Selected). or_past h (λ rest. selected_at rest (offers y store))) (at-map (held y) k (offers x store))

module _ (nodes : List Node) (ticks : ℕ) (entry : Entry) (all : AreBehind nodes) where
  abbrev of_entry : Entry → List Slot → ℕ → Selected
  of_entry e store k = selected (entered_term nodes ticks e) store k

  abbrev here : Node → Type 0
  here node = slice_get nodes entry.node ≡ Some node

  pub hit_atom : (atom : ℕ) (store : List Slot) (k : ℕ) → here (At atom) → of_entry entry store k ≡ selected (process.At atom (ticks - entry.entered)) store k
  hit_atom atom store k e = ap (λ (p : Process). selected p store k) (entered-At nodes ticks entry all atom e)

  pub hit_seq : (x y : ℕ) (store : List Slot) (k : ℕ) → here (Seq x y) → of_entry entry store k ≡ selected_with (then (process_at nodes y)) (of_entry (part entry x) store k)
  hit_seq x y store k e =
      ap (λ (p : Process). selected p store k) (entered-Seq nodes ticks entry all x y e)
      ∙ selected-Seq (entered_term nodes ticks (part entry x)) (process_at nodes y) store k

  pub hit_alt : (x y : ℕ) (store : List Slot) (k : ℕ) → here (Alt x y) → of_entry entry store k ≡ or_past (of_entry (part entry x) store k) (λ rest. of_entry (part entry y) store rest)
  unfolding selected
  hit_alt x y store k e =
      ap (λ (p : Process). selected_at k (offers p store)) (entered-Alt nodes ticks entry all x y e)
      ∙ at-append k (offers (entered_term nodes ticks (part entry x)) store) (offers (entered_term nodes ticks (part entry y)) store)

  pub hit_star : (x y : ℕ) (store : List Slot) (k : ℕ) → here (Star x y) → of_entry entry store k ≡ or_past (selected_with (then (process_at nodes entry.node)) (of_entry (part entry x) store k)) (λ rest. of_entry (part entry y) store rest)
  unfolding selected
  hit_star x y store k e =
      let again = process_at nodes entry.node in
      let first = offers (entered_term nodes ticks (part entry x)) store in
      let second = offers (entered_term nodes ticks (part entry y)) store in
      ap (selected_at k) (entered-Star nodes ticks entry all x y store e)
      ∙ at-append k (map (before again) first) second
      ∙ ap (λ (h : Selected). or_past h (λ rest. selected_at rest second)) (at-map (then again) k first)

  pub hit_par : (x y : ℕ) (store : List Slot) (k : ℕ) → here (Par x y) → of_entry entry store k ≡ or_past (selected_with (beside (entered_term nodes ticks (part entry y))) (of_entry (part entry x) store k)) (λ rest. selected_with (along (entered_term nodes ticks (part entry x))) (of_entry (part entry y) store rest))
  hit_par x y store k e =
      ap (λ (p : Process). selected p store k) (entered-Par nodes ticks entry all x y e)
      ∙ selected-Par (entered_term nodes ticks (part entry x)) (entered_term nodes ticks (part entry y)) store k

  pub hit_disrupt : (x y : ℕ) (store : List Slot) (k : ℕ) → here (Disrupt x y) → of_entry entry store k ≡ or_past (selected_with (held (entered_term nodes ticks (part entry y))) (of_entry (part entry x) store k)) (λ rest. of_entry (part entry y) store rest)
  hit_disrupt x y store k e =
      ap (λ (p : Process). selected p store k) (entered-Disrupt nodes ticks entry all x y e)
      ∙ selected-Disrupt (entered_term nodes ticks (part entry x)) (entered_term nodes ticks (part entry y)) store k

  pub hit_true : (test : Expr) (x : ℕ) (y : Option ℕ) (store : List Slot) (k : ℕ) → here (If test x y) → tested store test ≡ Some true → of_entry entry store k ≡ of_entry (part entry x) store k
  unfolding selected
  hit_true test x None store k e t =
      ap (λ (p : Process). selected_at k (offers p store)) (entered-When nodes ticks entry all test x e)
      ∙ ap (λ (o : Option Bool). selected_at k (offers_if o (offers (entered_term nodes ticks (part entry x)) store) [])) t
  hit_true test x (Some y) store k e t =
      ap (λ (p : Process). selected_at k (offers p store)) (entered-If nodes ticks entry all test x y e)
      ∙ ap (λ (o : Option Bool). selected_at k (offers_if o (offers (entered_term nodes ticks (part entry x)) store) (offers (entered_term nodes ticks (part entry y)) store))) t

  pub hit_false : (test : Expr) (x y : ℕ) (store : List Slot) (k : ℕ) → here (If test x (Some y)) → tested store test ≡ Some false → of_entry entry store k ≡ of_entry (part entry y) store k
  unfolding selected
  hit_false test x y store k e t =
      ap (λ (p : Process). selected_at k (offers p store)) (entered-If nodes ticks entry all test x y e)
      ∙ ap (λ (o : Option Bool). selected_at k (offers_if o (offers (entered_term nodes ticks (part entry x)) store) (offers (entered_term nodes ticks (part entry y)) store))) t

  pub hit_absent : (test : Expr) (x : ℕ) (store : List Slot) (k : ℕ) → here (If test x None) → tested store test ≡ Some false → of_entry entry store k ≡ Past k
  unfolding selected
  hit_absent test x store k e t =
      ap (λ (p : Process). selected_at k (offers p store)) (entered-When nodes ticks entry all test x e)
      ∙ ap (λ (o : Option Bool). selected_at k (offers_if o (offers (entered_term nodes ticks (part entry x)) store) [])) t

  pub hit_untold : (test : Expr) (x : ℕ) (y : Option ℕ) (store : List Slot) (k : ℕ) → here (If test x y) → tested store test ≡ None → of_entry entry store k ≡ Past k
  unfolding selected
  hit_untold test x None store k e t =
      ap (λ (p : Process). selected_at k (offers p store)) (entered-When nodes ticks entry all test x e)
      ∙ ap (λ (o : Option Bool). selected_at k (offers_if o (offers (entered_term nodes ticks (part entry x)) store) [])) t
  hit_untold test x (Some y) store k e t =
      ap (λ (p : Process). selected_at k (offers p store)) (entered-If nodes ticks entry all test x y e)
      ∙ ap (λ (o : Option Bool). selected_at k (offers_if o (offers (entered_term nodes ticks (part entry x)) store) (offers (entered_term nodes ticks (part entry y)) store))) t

  pub hit_set : (settings : List Setting) (x : ℕ) (store after : List Slot) (k : ℕ) → here (Let settings x) → with_settings store settings ≡ Some after → of_entry entry store k ≡ of_entry (part entry x) after k
  unfolding selected
  hit_set settings x store after k e t =
      ap (λ (p : Process). selected_at k (offers p store)) (entered-Let nodes ticks entry all settings x e)
      ∙ ap (λ (o : Option (List Slot)). selected_at k (offers_after o (offers (entered_term nodes ticks (part entry x))))) t

  pub hit_unset : (settings : List Setting) (x : ℕ) (store : List Slot) (k : ℕ) → here (Let settings x) → with_settings store settings ≡ None → of_entry entry store k ≡ Past k
  unfolding selected
  hit_unset settings x store k e t =
      ap (λ (p : Process). selected_at k (offers p store)) (entered-Let nodes ticks entry all settings x e)
      ∙ ap (λ (o : Option (List Slot)). selected_at k (offers_after o (offers (entered_term nodes ticks (part entry x))))) t

  abbrev pub of_part : Option ℕ → List Slot → ℕ → Selected
  of_part None store k = Past k
  of_part (Some at) store k = of_entry (part entry at) store k

  pub hit_chosen : (test : Expr) (x : ℕ) (y : Option ℕ) (store : List Slot) (k : ℕ) → here (If test x y) → of_entry entry store k ≡ of_part (chosen (tested store test) x y) store k
  hit_chosen test x y store k e = by_cases (tested store test) y e refl
    where
      by_cases : (says : Option Bool) (y : Option ℕ) → here (If test x y) → tested store test ≡ says → of_entry entry store k ≡ of_part (chosen says x y) store k
      by_cases (Some true) y e t = hit_true test x y store k e t
      by_cases (Some false) None e t = hit_absent test x store k e t
      by_cases (Some false) (Some y) e t = hit_false test x y store k e t
      by_cases None y e t = hit_untold test x y store k e t
