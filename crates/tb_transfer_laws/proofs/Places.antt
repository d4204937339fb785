-- Where the process is in a disrupt: not in it, in both sides, or in the right side alone.
use Rattle.std.proofs.Common.{◌≡◌, ℕ, ◌+◌, ◌⊎◌, inl, inr, List, ◌++◌, length, true, Contains, ap, sym, subst, ◌∙◌}
use Rattle.std.proofs.lemmas.List.Elements.{Contains-append_left, Contains-append_right}
use Rattle.tb_body.specs.InRange.{ascends_by_one}
use Rattle.tb_process_steps.specs.Processes.{Process, At, Seq, Alt, Star, Par, Disrupt, If, When, Let}
use Rattle.tb_process_steps.specs.Transfers.{atoms_of}
use Rattle.tb_transfer_laws.specs.Entering.{HasDisrupt}
use Rattle.tb_transfer_laws.proofs.AtomLemmas.{HasOnly, only-from}
use Rattle.tb_transfer_laws.proofs.AscendLemmas.{ascends-append, ascends-apart}

pub only-weaker : (P Q : ℕ → Type 0) → ((atom : ℕ) → P atom → Q atom) → (term : Process) → HasOnly P term → HasOnly Q term
only-weaker P Q f (At atom age) h = f atom h
only-weaker P Q f (Seq x y) h = (only-weaker P Q f x h.0, only-weaker P Q f y h.1)
only-weaker P Q f (Alt x y) h = (only-weaker P Q f x h.0, only-weaker P Q f y h.1)
only-weaker P Q f (Star x y) h = (only-weaker P Q f x h.0, only-weaker P Q f y h.1)
only-weaker P Q f (Par x y) h = (only-weaker P Q f x h.0, only-weaker P Q f y h.1)
only-weaker P Q f (Disrupt x y) h = (only-weaker P Q f x h.0, only-weaker P Q f y h.1)
only-weaker P Q f (If test x y) h = (only-weaker P Q f x h.0, only-weaker P Q f y h.1)
only-weaker P Q f (When test x) h = only-weaker P Q f x h
only-weaker P Q f (Let settings x) h = only-weaker P Q f x h

module _ (l r : Process) where
  abbrev pub NotOfLeft : ℕ → Type 0
  NotOfLeft atom = Contains (atoms_of l) atom → ⊥

  abbrev pub NotOfBoth : ℕ → Type 0
  NotOfBoth atom = Contains (atoms_of l ++ atoms_of r) atom → ⊥

  -- the term has no atom of the disrupt
  abbrev pub Free : Process → Type 0
  Free term = HasOnly NotOfBoth term

  -- the term has no atom of the left side
  abbrev pub FreeOfLeft : Process → Type 0
  FreeOfLeft term = HasOnly NotOfLeft term

  pub left-free : (term : Process) → Free term → FreeOfLeft term
  left-free term h = only-weaker NotOfBoth NotOfLeft (λ atom f c. f (Contains-append_left (atoms_of l) (atoms_of r) atom c)) term h

  -- the disrupt is in the term once, and no atom of it is elsewhere in the term
  abbrev pub HasOnce : Process → Type 0
  HasOnce (At atom age) = ⊥
  HasOnce (Seq x y) = (HasOnce x × Free y) ⊎ (Free x × HasOnce y)
  HasOnce (Alt x y) = (HasOnce x × Free y) ⊎ (Free x × HasOnce y)
  HasOnce (Star x y) = (HasOnce x × Free y) ⊎ (Free x × HasOnce y)
  HasOnce (Par x y) = (HasOnce x × Free y) ⊎ (Free x × HasOnce y)
  HasOnce (Disrupt x y) = ((x ≡ l) × (y ≡ r)) ⊎ ((HasOnce x × Free y) ⊎ (Free x × HasOnce y))
  HasOnce (If test x y) = (HasOnce x × Free y) ⊎ (Free x × HasOnce y)
  HasOnce (When test x) = HasOnce x
  HasOnce (Let settings x) = HasOnce x

  -- a disrupt of a term has its atoms there

  abbrev HasAtoms : Process → Type 0
  HasAtoms term = (atom : ℕ) → Contains (atoms_of l ++ atoms_of r) atom → Contains (atoms_of term) atom

  in-one : (x y : Process) → HasAtoms x → (atom : ℕ) → Contains (atoms_of l ++ atoms_of r) atom → Contains (atoms_of x ++ atoms_of y) atom
  in-one x y f atom c = Contains-append_left (atoms_of x) (atoms_of y) atom (f atom c)

  in-other : (x y : Process) → HasAtoms y → (atom : ℕ) → Contains (atoms_of l ++ atoms_of r) atom → Contains (atoms_of x ++ atoms_of y) atom
  in-other x y f atom c = Contains-append_right (atoms_of x) (atoms_of y) atom (f atom c)

  has-atoms : (term : Process) → HasDisrupt l r term → HasAtoms term
  has-atoms (At atom age) h = elim h [ ]
  has-atoms (Seq x y) (inl h) = in-one x y (has-atoms x h)
  has-atoms (Seq x y) (inr h) = in-other x y (has-atoms y h)
  has-atoms (Alt x y) (inl h) = in-one x y (has-atoms x h)
  has-atoms (Alt x y) (inr h) = in-other x y (has-atoms y h)
  has-atoms (Star x y) (inl h) = in-one x y (has-atoms x h)
  has-atoms (Star x y) (inr h) = in-other x y (has-atoms y h)
  has-atoms (Par x y) (inl h) = in-one x y (has-atoms x h)
  has-atoms (Par x y) (inr h) = in-other x y (has-atoms y h)
  has-atoms (Disrupt x y) (inl h) = λ atom c.
      let same : atoms_of l ++ atoms_of r ≡ atoms_of x ++ atoms_of y = ap (λ (p : Process). atoms_of p ++ atoms_of r) (sym h.0) ∙ ap (λ (p : Process). atoms_of x ++ atoms_of p) (sym h.1) in
      subst (λ (atoms : List ℕ). Contains atoms atom) same c
  has-atoms (Disrupt x y) (inr (inl h)) = in-one x y (has-atoms x h)
  has-atoms (Disrupt x y) (inr (inr h)) = in-other x y (has-atoms y h)
  has-atoms (If test x y) (inl h) = in-one x y (has-atoms x h)
  has-atoms (If test x y) (inr h) = in-other x y (has-atoms y h)
  has-atoms (When test x) h = has-atoms x h
  has-atoms (Let settings x) h = has-atoms x h

  -- where the atoms of a term ascend by one, a disrupt is there once

  abbrev Ascends : ℕ → Process → Type 0
  Ascends from term = ascends_by_one from (atoms_of term) ≡ true

  free-behind : (from : ℕ) (x y : Process) → ascends_by_one from (atoms_of x ++ atoms_of y) ≡ true → HasDisrupt l r x → Free y
  free-behind from x y e h = only-from NotOfBoth y (λ atom c d. ascends-apart from (atoms_of x) (atoms_of y) atom e (has-atoms x h atom d) c)

  free-before : (from : ℕ) (x y : Process) → ascends_by_one from (atoms_of x ++ atoms_of y) ≡ true → HasDisrupt l r y → Free x
  free-before from x y e h = only-from NotOfBoth x (λ atom c d. ascends-apart from (atoms_of x) (atoms_of y) atom e c (has-atoms y h atom d))

  abbrev Once : Process → Type 0
  Once term = (from : ℕ) → Ascends from term → HasDisrupt l r term → HasOnce term

  one-once : (x y : Process) → Once x → Once y → (from : ℕ) → ascends_by_one from (atoms_of x ++ atoms_of y) ≡ true → HasDisrupt l r x ⊎ HasDisrupt l r y → (HasOnce x × Free y) ⊎ (Free x × HasOnce y)
  one-once x y f g from e (inl h) = inl (f from (ascends-append from (atoms_of x) (atoms_of y) e).0 h, free-behind from x y e h)
  one-once x y f g from e (inr h) = inr (free-before from x y e h, g (from + length (atoms_of x)) (ascends-append from (atoms_of x) (atoms_of y) e).1 h)

  pub has-once : (term : Process) (from : ℕ) → ascends_by_one from (atoms_of term) ≡ true → HasDisrupt l r term → HasOnce term
  has-once (At atom age) from e h = elim h [ ]
  has-once (Seq x y) from e h = one-once x y (has-once x) (has-once y) from e h
  has-once (Alt x y) from e h = one-once x y (has-once x) (has-once y) from e h
  has-once (Star x y) from e h = one-once x y (has-once x) (has-once y) from e h
  has-once (Par x y) from e h = one-once x y (has-once x) (has-once y) from e h
  has-once (Disrupt x y) from e (inl h) = inl h
  has-once (Disrupt x y) from e (inr h) = inr (one-once x y (has-once x) (has-once y) from e h)
  has-once (If test x y) from e h = one-once x y (has-once x) (has-once y) from e h
  has-once (When test x) from e h = has-once x from e h
  has-once (Let settings x) from e h = has-once x from e h

  -- and its sides have no atom in common
  pub has-apart : (term : Process) (from : ℕ) → ascends_by_one from (atoms_of term) ≡ true → HasDisrupt l r term → (atom : ℕ) → Contains (atoms_of l) atom → Contains (atoms_of r) atom → ⊥
  has-apart (At atom age) from e h = elim h [ ]
  has-apart (Seq x y) from e (inl h) = has-apart x from (ascends-append from (atoms_of x) (atoms_of y) e).0 h
  has-apart (Seq x y) from e (inr h) = has-apart y (from + length (atoms_of x)) (ascends-append from (atoms_of x) (atoms_of y) e).1 h
  has-apart (Alt x y) from e (inl h) = has-apart x from (ascends-append from (atoms_of x) (atoms_of y) e).0 h
  has-apart (Alt x y) from e (inr h) = has-apart y (from + length (atoms_of x)) (ascends-append from (atoms_of x) (atoms_of y) e).1 h
  has-apart (Star x y) from e (inl h) = has-apart x from (ascends-append from (atoms_of x) (atoms_of y) e).0 h
  has-apart (Star x y) from e (inr h) = has-apart y (from + length (atoms_of x)) (ascends-append from (atoms_of x) (atoms_of y) e).1 h
  has-apart (Par x y) from e (inl h) = has-apart x from (ascends-append from (atoms_of x) (atoms_of y) e).0 h
  has-apart (Par x y) from e (inr h) = has-apart y (from + length (atoms_of x)) (ascends-append from (atoms_of x) (atoms_of y) e).1 h
  has-apart (Disrupt x y) from e (inl h) = λ atom c d.
      ascends-apart from (atoms_of x) (atoms_of y) atom e (subst (λ (p : Process). Contains (atoms_of p) atom) (sym h.0) c) (subst (λ (p : Process). Contains (atoms_of p) atom) (sym h.1) d)
  has-apart (Disrupt x y) from e (inr (inl h)) = has-apart x from (ascends-append from (atoms_of x) (atoms_of y) e).0 h
  has-apart (Disrupt x y) from e (inr (inr h)) = has-apart y (from + length (atoms_of x)) (ascends-append from (atoms_of x) (atoms_of y) e).1 h
  has-apart (If test x y) from e (inl h) = has-apart x from (ascends-append from (atoms_of x) (atoms_of y) e).0 h
  has-apart (If test x y) from e (inr h) = has-apart y (from + length (atoms_of x)) (ascends-append from (atoms_of x) (atoms_of y) e).1 h
  has-apart (When test x) from e h = has-apart x from e h
  has-apart (Let settings x) from e h = has-apart x from e h
