-- Lemmas about the reasons why `at` fails: from the parts of a call to the whole.
use Rattle.std.proofs.Common.{◌≡◌, ◌∙◌, ℕ, ◌≤◌, ◌-◌, List, [], ◌∷◌, ◌++◌, map, length, take, drop, slice_index_or, Option, refl, ap, sym, subst, arith}
use Rattle.std.proofs.lemmas.List.{append_assoc, take_all}
use Rattle.tb_lens.specs.Loads.{CantRead}
use Rattle.tb_lens.specs.Told.{AtFailure, IsReason}
use Rattle.tb_lens.specs.declared.status.Trouble.{Trouble}
use Rattle.tb_lens.specs.declared.status.Trouble.TheVariants as trouble

-- `asked` and `faults` give the names that the files were asked for, and the number of their faults
module _ {S : Type 0} (asked : S → List (List ℕ)) (faults : S → ℕ) where
  cant_first : (name : List ℕ) (names : List (List ℕ)) (file : List ℕ) (old new : S) → CantRead asked faults (name ∷ []) file old new
      → CantRead asked faults (name ∷ names) file old new
  cant_first name names file old new cant = record {
    start = cant.start;
    others = cant.others ++ names;
    among = sym (append_assoc cant.start (file ∷ cant.others) names) ∙ ap (λ those. those ++ names) cant.among;
    before = cant.before;
    asked_before = cant.asked_before;
    never_fell = cant.never_fell;
    asked_last = cant.asked_last;
    failed = cant.failed;
  }

  cant_rest : (name : List ℕ) (names : List (List ℕ)) (file : List ℕ) (old mid new : S) → asked mid ≡ asked old ++ name ∷ []
      → faults old ≤ faults mid → CantRead asked faults names file mid new → CantRead asked faults (name ∷ names) file old new
  cant_rest name names file old mid new one kept cant = record {
    start = name ∷ cant.start;
    others = cant.others;
    among = ap (λ those. name ∷ those) cant.among;
    before = cant.before;
    asked_before = cant.asked_before ∙ ap (λ those. those ++ cant.start) one ∙ append_assoc (asked old) (name ∷ []) cant.start;
    never_fell = omega (arith, kept, cant.never_fell);
    asked_last = cant.asked_last;
    failed = cant.failed;
  }

  reason_first : (name : List ℕ) (names : List (List ℕ)) (old new : S) (it : Trouble) → IsReason asked faults (name ∷ []) old new ⊥ it
      → IsReason asked faults (name ∷ names) old new ⊥ it
  reason_first name names old new (trouble.File file) is = cant_first name names file.bytes.items old new is
  reason_first name names old new trouble.Out is = is
  reason_first name names old new trouble.NoMemory is = is
  reason_first name names old new (trouble.TooLong file) is = is
  reason_first name names old new (trouble.Script file) is = is
  reason_first name names old new trouble.Connect is = is
  reason_first name names old new trouble.Input is = is

  reason_rest : (name : List ℕ) (names : List (List ℕ)) (old mid new : S) (it : Trouble) → asked mid ≡ asked old ++ name ∷ []
      → faults old ≤ faults mid → IsReason asked faults names mid new ⊥ it → IsReason asked faults (name ∷ names) old new ⊥ it
  reason_rest name names old mid new (trouble.File file) one kept is = cant_rest name names file.bytes.items old mid new one kept is
  reason_rest name names old mid new trouble.Out one kept is = is
  reason_rest name names old mid new trouble.NoMemory one kept is = is
  reason_rest name names old mid new (trouble.TooLong file) one kept is = is
  reason_rest name names old mid new (trouble.Script file) one kept is = is
  reason_rest name names old mid new trouble.Connect one kept is = is
  reason_rest name names old mid new trouble.Input one kept is = is

  -- a reason that isn't a failure of the output holds with any claim about the output
  pub reason_anyhow : (names : List (List ℕ)) (old new : S) (Out : Type 0) (it : Trouble) → IsReason asked faults names old new ⊥ it
      → IsReason asked faults names old new Out it
  reason_anyhow names old new Out (trouble.File file) is = is
  reason_anyhow names old new Out trouble.Out is = absurd is
  reason_anyhow names old new Out trouble.NoMemory is = is
  reason_anyhow names old new Out (trouble.TooLong file) is = is
  reason_anyhow names old new Out (trouble.Script file) is = is
  reason_anyhow names old new Out trouble.Connect is = is
  reason_anyhow names old new Out trouble.Input is = is

  pub untold : (held : List ℕ → Option (List ℕ)) (names : List (List ℕ)) (old new : S) (told : Option (List ℕ)) (it : Trouble)
      → IsReason asked faults names old new ⊥ it → AtFailure held names told told it
  untold held names old new told (trouble.File file) is = refl
  untold held names old new told trouble.Out is = absurd is
  untold held names old new told trouble.NoMemory is = refl
  untold held names old new told (trouble.TooLong file) is = refl
  untold held names old new told (trouble.Script file) is = refl
  untold held names old new told trouble.Connect is = refl
  untold held names old new told trouble.Input is = refl

  -- the first file of a list that isn't empty
  pub reason_of_first : {B : Type 0} (value : B → List ℕ) (scripts : List B) (d : B) (old new : S) (it : Trouble) → 1 ≤ length scripts
      → IsReason asked faults (value (slice_index_or scripts 0 d) ∷ []) old new ⊥ it → IsReason asked faults (map value scripts) old new ⊥ it
  reason_of_first value [] d old new it some is = absurd (omega (arith, some))
  reason_of_first value (script ∷ scripts) d old new it some is = reason_first (value script) (map value scripts) old new it is

  -- and all others, after the first was read
  pub reason_of_others : {B : Type 0} (value : B → List ℕ) (scripts : List B) (d : B) (old mid new : S) (it : Trouble) → 1 ≤ length scripts
      → asked mid ≡ asked old ++ value (slice_index_or scripts 0 d) ∷ [] → faults old ≤ faults mid
      → IsReason asked faults (map value (take (length scripts - 1) (drop 1 scripts))) mid new ⊥ it
      → IsReason asked faults (map value scripts) old new ⊥ it
  reason_of_others value [] d old mid new it some one kept is = absurd (omega (arith, some))
  reason_of_others value (script ∷ scripts) d old mid new it some one kept is =
      let others : take (length (script ∷ scripts) - 1) scripts ≡ scripts = take_all (length (script ∷ scripts) - 1) scripts (omega arith) in
      reason_rest (value script) (map value scripts) old mid new it one kept
      (subst (λ those. IsReason asked faults (map value those) mid new ⊥ it) others is)
