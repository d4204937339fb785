-- The visible offers of an entered part of a plan, by its own parts.
use Rattle.std.proofs.Common.{◌≡◌, ℕ, ◌-◌, Bool, true, false, Option, Some, None, List, [], ◌∷◌, ◌++◌, map, slice_get, refl, ap, sym, ◌∙◌, append_assoc, inl, inr}
use Rattle.std.proofs.lemmas.List.{append-nil}
use Rattle.tb_terms.specs.declared.expr.Expr.{Expr}
use Rattle.tb_func.specs.declared.slot.Slot.{Slot}
use Rattle.tb_body.specs.declared.atom.Atom.{Atom}
use Rattle.tb_body.specs.declared.tree.Setting.{Setting}
use Rattle.tb_process_steps.specs.Atoms.{is_ready, times_of}
use Rattle.tb_process_steps.specs.Processes as process
use Rattle.tb_process_steps.specs.Processes.{Process}
use Rattle.tb_process_steps.specs.Offers.{in_wait, Offered, offers, before, on_the_left, on_the_right, offers_if, offers_after}
use Rattle.tb_process_steps.specs.Helpers.Plans.{process_at, AreBehind}
use Rattle.tb_process_steps.specs.Helpers.Runnings.{entered_term}
use Rattle.tb_process_steps.specs.Settings.{tested, with_settings}
use Rattle.tb_process_steps.specs.Helpers.OfferViews.{OfferView, offer_view, offer_views}
use Rattle.tb_process_steps.specs.declared.node.Node.{Node}
use Rattle.tb_process_steps.specs.declared.node.Node.TheVariants.{At, Seq, Alt, Star, Par, Disrupt, If, Let}
use Rattle.tb_process_steps.specs.declared.running.Entry.{Entry}
use Rattle.tb_process_steps.proofs.PlanLemmas.{IsTwoSided}
use Rattle.tb_process_steps.proofs.EntryLemmas.{part, entered-At, entered-Seq, entered-Alt, entered-Star, entered-Par, entered-Disrupt, entered-When, entered-If, entered-Let}

module _ (atoms : List Atom) (now : ℕ) where
  abbrev seen : List Offered → List OfferView
  seen os = map (offer_view atoms now) os

  -- the rest of an offer isn't visible
  seen-before : (y : Process) (os : List Offered) → seen (map (before y) os) ≡ seen os
  seen-before y [] = refl
  seen-before y (o ∷ os) = ap (λ rest. offer_view atoms now o ∷ rest) (seen-before y os)

  seen-left : (y : Process) (os : List Offered) → seen (map (on_the_left y) os) ≡ seen os
  seen-left y [] = refl
  seen-left y (o ∷ os) = ap (λ rest. offer_view atoms now o ∷ rest) (seen-left y os)

  seen-right : (x : Process) (os : List Offered) → seen (map (on_the_right x) os) ≡ seen os
  seen-right x [] = refl
  seen-right x (o ∷ os) = ap (λ rest. offer_view atoms now o ∷ rest) (seen-right x os)

  seen-wait : (y : Process) (os : List Offered) → seen (map (in_wait y) os) ≡ seen os
  seen-wait y [] = refl
  seen-wait y (o ∷ os) = ap (λ rest. offer_view atoms now o ∷ rest) (seen-wait y os)

  seen-append : (xs ys : List Offered) → seen (xs ++ ys) ≡ seen xs ++ seen ys
  seen-append [] ys = refl
  seen-append (x ∷ xs) ys = ap (λ rest. offer_view atoms now x ∷ rest) (seen-append xs ys)

  pub offer_views-Seq : (x y : Process) (store : List Slot) → offer_views atoms now (process.Seq x y) store ≡ offer_views atoms now x store
  unfolding offer_views
  offer_views-Seq x y store = seen-before y (offers x store)

  pub offer_views-Alt : (x y : Process) (store : List Slot) → offer_views atoms now (process.Alt x y) store ≡ offer_views atoms now x store ++ offer_views atoms now y store
  unfolding offer_views
  offer_views-Alt x y store = seen-append (offers x store) (offers y store)

  pub offer_views-Par : (x y : Process) (store : List Slot) → offer_views atoms now (process.Par x y) store ≡ offer_views atoms now x store ++ offer_views atoms now y store
  unfolding offer_views
  offer_views-Par x y store =
      seen-append (map (on_the_left y) (offers x store)) (map (on_the_right x) (offers y store))
      ∙ ap (λ (first : List OfferView). first ++ seen (map (on_the_right x) (offers y store))) (seen-left y (offers x store))
      ∙ ap (λ (second : List OfferView). seen (offers x store) ++ second) (seen-right x (offers y store))

  pub offer_views-Disrupt : (x y : Process) (store : List Slot) → offer_views atoms now (process.Disrupt x y) store ≡ offer_views atoms now x store ++ offer_views atoms now y store
  unfolding offer_views
  offer_views-Disrupt x y store =
      seen-append (map (in_wait y) (offers x store)) (offers y store) ∙ ap (λ (first : List OfferView). first ++ seen (offers y store)) (seen-wait y (offers x store))

  module _ (nodes : List Node) (ticks : ℕ) (entry : Entry) (all : AreBehind nodes) where
    abbrev of_entry : Entry → List Slot → List OfferView
    of_entry e store = offer_views atoms now (entered_term nodes ticks e) store

    abbrev here : Node → Type 0
    here node = slice_get nodes entry.node ≡ Some node

    pub offer_views_at : (atom : ℕ) (store : List Slot) → here (At atom) → of_entry entry store ≡ record { atom = atom; age = ticks - entry.entered; ready = is_ready store (ticks - entry.entered) now (times_of atoms atom); store = store } ∷ []
    unfolding offer_views
    offer_views_at atom store e = ap (λ (p : Process). seen (offers p store)) (entered-At nodes ticks entry all atom e)

    pub offer_views_seq : (x y : ℕ) (store : List Slot) → here (Seq x y) → of_entry entry store ≡ of_entry (part entry x) store
    offer_views_seq x y store e =
        ap (λ (p : Process). offer_views atoms now p store) (entered-Seq nodes ticks entry all x y e)
        ∙ offer_views-Seq (entered_term nodes ticks (part entry x)) (process_at nodes y) store

    pub offer_views_alt : (x y : ℕ) (store : List Slot) → here (Alt x y) → of_entry entry store ≡ of_entry (part entry x) store ++ of_entry (part entry y) store
    offer_views_alt x y store e =
        ap (λ (p : Process). offer_views atoms now p store) (entered-Alt nodes ticks entry all x y e)
        ∙ offer_views-Alt (entered_term nodes ticks (part entry x)) (entered_term nodes ticks (part entry y)) store

    pub offer_views_star : (x y : ℕ) (store : List Slot) → here (Star x y) → of_entry entry store ≡ of_entry (part entry x) store ++ of_entry (part entry y) store
    unfolding offer_views
    offer_views_star x y store e =
        let first = offers (entered_term nodes ticks (part entry x)) store in
        let second = offers (entered_term nodes ticks (part entry y)) store in
        let again = process_at nodes entry.node in
        ap (λ (os : List Offered). seen os) (entered-Star nodes ticks entry all x y store e)
        ∙ seen-append (map (before again) first) second
        ∙ ap (λ (l : List OfferView). l ++ seen second) (seen-before again first)

    pub offer_views_par : (x y : ℕ) (store : List Slot) → here (Par x y) → of_entry entry store ≡ of_entry (part entry x) store ++ of_entry (part entry y) store
    offer_views_par x y store e =
        ap (λ (p : Process). offer_views atoms now p store) (entered-Par nodes ticks entry all x y e)
        ∙ offer_views-Par (entered_term nodes ticks (part entry x)) (entered_term nodes ticks (part entry y)) store

    pub offer_views_disrupt : (x y : ℕ) (store : List Slot) → here (Disrupt x y) → of_entry entry store ≡ of_entry (part entry x) store ++ of_entry (part entry y) store
    offer_views_disrupt x y store e =
        ap (λ (p : Process). offer_views atoms now p store) (entered-Disrupt nodes ticks entry all x y e)
        ∙ offer_views-Disrupt (entered_term nodes ticks (part entry x)) (entered_term nodes ticks (part entry y)) store

    abbrev if_offer_views : Option Bool → List OfferView → List OfferView → List OfferView
    if_offer_views (Some true) first second = first
    if_offer_views (Some false) first second = second
    if_offer_views None first second = []

    seen-if : (says : Option Bool) (xs ys : List Offered) → seen (offers_if says xs ys) ≡ if_offer_views says (seen xs) (seen ys)
    seen-if None xs ys = refl
    seen-if (Some true) xs ys = refl
    seen-if (Some false) xs ys = refl

    pub offer_views_when : (test : Expr) (x : ℕ) (store : List Slot) (says : Option Bool) → here (If test x None) → tested store test ≡ says → of_entry entry store ≡ if_offer_views says (of_entry (part entry x) store) []
    unfolding offer_views
    offer_views_when test x store says e t =
        ap (λ (p : Process). seen (offers p store)) (entered-When nodes ticks entry all test x e)
        ∙ seen-if (tested store test) (offers (entered_term nodes ticks (part entry x)) store) []
        ∙ ap (λ (o : Option Bool). if_offer_views o (seen (offers (entered_term nodes ticks (part entry x)) store)) []) t

    pub offer_views_if : (test : Expr) (x y : ℕ) (store : List Slot) (says : Option Bool) → here (If test x (Some y)) → tested store test ≡ says → of_entry entry store ≡ if_offer_views says (of_entry (part entry x) store) (of_entry (part entry y) store)
    unfolding offer_views
    offer_views_if test x y store says e t =
        ap (λ (p : Process). seen (offers p store)) (entered-If nodes ticks entry all test x y e)
        ∙ seen-if (tested store test) (offers (entered_term nodes ticks (part entry x)) store) (offers (entered_term nodes ticks (part entry y)) store)
        ∙ ap (λ (o : Option Bool). if_offer_views o (seen (offers (entered_term nodes ticks (part entry x)) store)) (seen (offers (entered_term nodes ticks (part entry y)) store))) t

    abbrev after_offer_views : Option (List Slot) → (List Slot → List OfferView) → List OfferView
    after_offer_views None f = []
    after_offer_views (Some store) f = f store

    seen-after : (after : Option (List Slot)) (f : List Slot → List Offered) → seen (offers_after after f) ≡ after_offer_views after (λ s. seen (f s))
    seen-after None f = refl
    seen-after (Some store) f = refl

    pub offer_views_let : (settings : List Setting) (x : ℕ) (store : List Slot) (after : Option (List Slot)) → here (Let settings x) → with_settings store settings ≡ after → of_entry entry store ≡ after_offer_views after (of_entry (part entry x))
    unfolding offer_views
    offer_views_let settings x store after e t =
        ap (λ (p : Process). seen (offers p store)) (entered-Let nodes ticks entry all settings x e)
        ∙ seen-after (with_settings store settings) (offers (entered_term nodes ticks (part entry x)))
        ∙ ap (λ (o : Option (List Slot)). after_offer_views o (λ s. seen (offers (entered_term nodes ticks (part entry x)) s))) t

    pub offer_views_true : (test : Expr) (x : ℕ) (y : Option ℕ) (store : List Slot) → here (If test x y) → tested store test ≡ Some true → of_entry entry store ≡ of_entry (part entry x) store
    offer_views_true test x None store e t = offer_views_when test x store (Some true) e t
    offer_views_true test x (Some y) store e t = offer_views_if test x y store (Some true) e t

    pub offer_views_false : (test : Expr) (x y : ℕ) (store : List Slot) → here (If test x (Some y)) → tested store test ≡ Some false → of_entry entry store ≡ of_entry (part entry y) store
    offer_views_false test x y store e t = offer_views_if test x y store (Some false) e t

    pub offer_views_absent : (test : Expr) (x : ℕ) (store : List Slot) → here (If test x None) → tested store test ≡ Some false → of_entry entry store ≡ []
    offer_views_absent test x store e t = offer_views_when test x store (Some false) e t

    pub offer_views_untold : (test : Expr) (x : ℕ) (y : Option ℕ) (store : List Slot) → here (If test x y) → tested store test ≡ None → of_entry entry store ≡ []
    offer_views_untold test x None store e t = offer_views_when test x store None e t
    offer_views_untold test x (Some y) store e t = offer_views_if test x y store None e t

    pub offer_views_set : (settings : List Setting) (x : ℕ) (store after : List Slot) → here (Let settings x) → with_settings store settings ≡ Some after → of_entry entry store ≡ of_entry (part entry x) after
    offer_views_set settings x store after e t = offer_views_let settings x store (Some after) e t

    pub offer_views_unset : (settings : List Setting) (x : ℕ) (store : List Slot) → here (Let settings x) → with_settings store settings ≡ None → of_entry entry store ≡ []
    offer_views_unset settings x store e t = offer_views_let settings x store None e t

    pub offer_views_sides : (node : Node) (x y : ℕ) (store : List Slot) → here node → IsTwoSided node x y → of_entry entry store ≡ of_entry (part entry x) store ++ of_entry (part entry y) store
    offer_views_sides node x y store e (inl k) = offer_views_alt x y store (e ∙ ap Some k)
    offer_views_sides node x y store e (inr (inl k)) = offer_views_star x y store (e ∙ ap Some k)
    offer_views_sides node x y store e (inr (inr (inl k))) = offer_views_par x y store (e ∙ ap Some k)
    offer_views_sides node x y store e (inr (inr (inr k))) = offer_views_disrupt x y store (e ∙ ap Some k)

pub nothing_more : (xs ys : List OfferView) → ys ≡ [] → xs ≡ xs ++ ys
nothing_more xs ys e = sym (append-nil xs) ∙ ap (λ (l : List OfferView). xs ++ l) (sym e)

pub both_more : (old first new whole second : List OfferView) → first ≡ old ++ new → whole ≡ new ++ second → first ++ second ≡ old ++ whole
both_more old first new whole second e k =
    ap (λ (l : List OfferView). l ++ second) e ∙ append_assoc old new second ∙ ap (λ (l : List OfferView). old ++ l) (sym k)
