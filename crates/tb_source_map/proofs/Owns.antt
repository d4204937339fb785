-- The atoms in the expansion of a process are in bodies of the script.
use Rattle.std.proofs.Common.{◌≡◌, ℕ, zero, suc, ◌⊎◌, inl, inr, Bool, true, false, cond, List, [], ◌∷◌, ◌++◌, length, Contains, All, Option, Some, None, refl, subst, bytes_eq}
use Rattle.std.proofs.lemmas.List.Elements.{All-contains_itself, All-weaker, Contains-append_cases, Contains-append_left, Contains-append_right}
use Rattle.tb_syntax.specs.declared.proc.AtomDef.{AtomDef}
use Rattle.tb_syntax.specs.declared.proc.Call.{Call}
use Rattle.tb_syntax.specs.declared.proc.Proc.{Proc}
use Rattle.tb_syntax.specs.declared.script.ProcDef.{ProcDef}
use Rattle.tb_syntax.specs.declared.script.Script.{Script}
use Rattle.tb_types.specs.Names.{process_named}
use Rattle.tb_expand.proofs.ProcInduction.{Related, folds_related}
use Rattle.tb_expand.proofs.Readings.{contains_here, contains_there, none_in}
use Rattle.tb_source_map.specs.Places.{IsAtomOf}
use Rattle.tb_source_map.specs.Sites.{own_atoms, own_step, sites, sites_called, sites_of, sites_step, sites_with}

-- a process that is found by its name is one of the processes
found_there : (procs : List ProcDef) (name : List ℕ) (d : ProcDef) → process_named procs name ≡ Some d → Contains procs d
found_there [] name d found = absurd cc
found_there (first ∷ procs) name d found = step (bytes_eq first.name name) found (λ h. found_there procs name d h) where
  step : (b : Bool) → cond b (Some first) (process_named procs name) ≡ Some d → (process_named procs name ≡ Some d → Contains procs d) → Contains (first ∷ procs) d
  step true h ih =
      let same : first ≡ d = cc in
      subst (Contains (first ∷ procs)) same (contains_here first procs)
  step false h ih = contains_there first procs d (ih h)

module _ (script : Script) where
  -- each atom is in the body itself, or in the body of some process of the script
  abbrev AreOwn : List AtomDef → List AtomDef → Type 0
  AreOwn sites own = (def : AtomDef) → Contains sites def → Contains own def ⊎ IsAtomOf script def

  two_own : (x y v w : List AtomDef) → AreOwn x v → AreOwn y w → AreOwn (x ++ y) (v ++ w)
  two_own x y v w p q def there = sided (Contains-append_cases x y def there) where
    first : Contains v def ⊎ IsAtomOf script def → Contains (v ++ w) def ⊎ IsAtomOf script def
    first (inl stands) = inl (Contains-append_left v w def stands)
    first (inr is) = inr is

    second : Contains w def ⊎ IsAtomOf script def → Contains (v ++ w) def ⊎ IsAtomOf script def
    second (inl stands) = inl (Contains-append_right v w def stands)
    second (inr is) = inr is

    sided : Contains x def ⊎ Contains y def → Contains (v ++ w) def ⊎ IsAtomOf script def
    sided (inl stands) = first (p def stands)
    sided (inr stands) = second (q def stands)

  none_own : AreOwn [] []
  none_own def there = inl there

  -- the atoms of the expansions of all processes, to some depth, are atoms of the script
  abbrev AreKnown : (Proc → List AtomDef) → Type 0
  AreKnown body = (d : ProcDef) → Contains script.procs d → (def : AtomDef) → Contains (body d.body) def → IsAtomOf script def

  module _ (body : Proc → List AtomDef) (known : AreKnown body) where
    called_own : (call : Call) → AreOwn (sites_called body (process_named script.procs call.name)) []
    called_own call def there = found (process_named script.procs call.name) refl there where
      found : (o : Option ProcDef) → process_named script.procs call.name ≡ o → Contains (sites_called body o) def → Contains [] def ⊎ IsAtomOf script def
      found None e stands = inl stands
      found (Some d) e stands = inr (known d (found_there script.procs call.name d e) def stands)

    steps_own : Related (List AtomDef) (List AtomDef) (sites_step script body) own_step AreOwn
    steps_own = record {
      atom = λ atom def there. inl there;
      call = called_own;
      seq = λ x y v w p q. two_own x y v w p q;
      alt = λ x y v w p q. two_own x y v w p q;
      star = λ x y v w p q. two_own x y v w p q;
      par = λ x y v w p q. two_own x y v w p q;
      disrupt = λ x y v w p q. two_own x y v w p q;
      test = λ test x v p. two_own x [] v [] p none_own;
      test_else = λ test x y v w p q. two_own x y v w p q;
      block = λ vars x v p. p;
    }

    body_own : (p : Proc) → AreOwn (sites_with script body p) (own_atoms p)
    body_own p = folds_related (List AtomDef) (List AtomDef) (sites_step script body) own_step AreOwn steps_own p

    all_known : AreKnown (sites_with script body)
    all_known d defined def there = of (body_own d.body def there) where
      of : Contains (own_atoms d.body) def ⊎ IsAtomOf script def → IsAtomOf script def
      of (inl stands) = (d, defined, stands)
      of (inr is) = is

  sites_known : (depth : ℕ) → AreKnown (sites script depth)
  sites_known zero d defined def there = absurd (none_in def there)
  sites_known (suc depth) d defined def there = all_known (sites script depth) (sites_known depth) d defined def there

pub sites_are_atoms : (script : Script) (d : ProcDef) → Contains script.procs d → All (IsAtomOf script) (sites_of script d)
sites_are_atoms script d defined =
    All-weaker (Contains (sites_of script d)) (IsAtomOf script) (λ def there. sites_known script (length script.procs) d defined def there)
    (sites_of script d) (All-contains_itself (sites_of script d))
