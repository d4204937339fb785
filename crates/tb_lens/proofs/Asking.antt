-- Lemmas about the names that were asked for: from the parts of a call to the whole.
use Rattle.std.proofs.Common.{◌≡◌, ◌∙◌, ℕ, ◌≤◌, ◌-◌, List, [], ◌∷◌, ◌++◌, map, length, take, drop, slice_index_or, Result, Ok, Err, refl, sym, ap, subst, arith}
use Rattle.std.specs.Prelude.{OnErr}
use Rattle.std.proofs.lemmas.List.{append-nil, append_assoc, take_all}
use Rattle.tb_edge.specs.Faults.{Rose}
use Rattle.tb_edge.specs.FilesHeld.{AsksSome}
use Rattle.tb_lens.specs.Loads.{Asks, CantRead}
use Rattle.tb_lens.specs.Told.{IsReason}
use Rattle.tb_lens.specs.declared.status.Trouble.{Trouble}
use Rattle.tb_lens.specs.declared.status.Trouble.TheVariants as trouble

-- what holds for every error
pub on_err : {T E P : Type 0} (result : Result T E) → P → OnErr result P
on_err (Ok value) holds = tt
on_err (Err fault) holds = holds

pub some_none : (names old new : List (List ℕ)) → new ≡ old → AsksSome names old new
some_none names old new same = record { asked = []; others = names; first = refl; is = same ∙ sym (append-nil old) }

pub some_all : (names old new : List (List ℕ)) → new ≡ old ++ names → AsksSome names old new
some_all names old new is = record { asked = names; others = []; first = append-nil names; is = is }

some_first : (name : List ℕ) (names old new : List (List ℕ)) → AsksSome (name ∷ []) old new → AsksSome (name ∷ names) old new
some_first name names old new some = record {
  asked = some.asked;
  others = some.others ++ names;
  first = sym (append_assoc some.asked some.others names) ∙ ap (λ those. those ++ names) some.first;
  is = some.is;
}

both_asked : (name : List ℕ) (asked old mid new : List (List ℕ)) → mid ≡ old ++ name ∷ [] → new ≡ mid ++ asked → new ≡ old ++ name ∷ asked
both_asked name asked old mid new one rest = rest ∙ ap (λ those. those ++ asked) one ∙ append_assoc old (name ∷ []) asked

some_rest : (name : List ℕ) (names old mid new : List (List ℕ)) → mid ≡ old ++ name ∷ [] → AsksSome names mid new → AsksSome (name ∷ names) old new
some_rest name names old mid new one some = record {
  asked = name ∷ some.asked;
  others = some.others;
  first = ap (λ those. name ∷ those) some.first;
  is = both_asked name some.asked old mid new one some.is;
}

-- a list of files that isn't empty: its first file, and all others
module _ {B : Type 0} (value : B → List ℕ) where
  all_others : (script : B) (scripts : List B) → take (length (script ∷ scripts) - 1) scripts ≡ scripts
  all_others script scripts = take_all (length (script ∷ scripts) - 1) scripts (omega arith)

  pub asks_first : (scripts : List B) (d : B) (old new : List (List ℕ)) → 1 ≤ length scripts
      → AsksSome (value (slice_index_or scripts 0 d) ∷ []) old new → AsksSome (map value scripts) old new
  asks_first [] d old new some asks = absurd (omega (arith, some))
  asks_first (script ∷ scripts) d old new some asks = some_first (value script) (map value scripts) old new asks

  pub asks_others : (scripts : List B) (d : B) (old mid new : List (List ℕ)) → 1 ≤ length scripts
      → mid ≡ old ++ value (slice_index_or scripts 0 d) ∷ []
      → AsksSome (map value (take (length scripts - 1) (drop 1 scripts))) mid new → AsksSome (map value scripts) old new
  asks_others [] d old mid new some one asks = absurd (omega (arith, some))
  asks_others (script ∷ scripts) d old mid new some one asks =
      some_rest (value script) (map value scripts) old mid new one
      (subst (λ those. AsksSome (map value those) mid new) (all_others script scripts) asks)

  pub asks_each : (scripts : List B) (d : B) (old mid new : List (List ℕ)) → 1 ≤ length scripts
      → mid ≡ old ++ value (slice_index_or scripts 0 d) ∷ []
      → new ≡ mid ++ map value (take (length scripts - 1) (drop 1 scripts)) → new ≡ old ++ map value scripts
  asks_each [] d old mid new some one rest = absurd (omega (arith, some))
  asks_each (script ∷ scripts) d old mid new some one rest =
      both_asked (value script) (map value scripts) old mid new one
      (subst (λ those. new ≡ mid ++ map value those) (all_others script scripts) rest)

-- without files, no name is asked for
pub asks_nothing : {B : Type 0} (value : B → List ℕ) (scripts : List B) (old : List (List ℕ)) → length scripts ≡ 0 → old ≡ old ++ map value scripts
asks_nothing value [] old none = sym (append-nil old)
asks_nothing value (script ∷ scripts) old none = absurd (omega (arith, none))

-- at an error before the write, a prefix of the names was asked for
pub asks_anyhow : {S : Type 0} (asked : S → List (List ℕ)) (faults : S → ℕ) (names : List (List ℕ)) (old new : S) (it : Trouble)
    → IsReason asked faults names old new ⊥ it → AsksSome names (asked old) (asked new) → Asks names (Err it) (asked old) (asked new)
asks_anyhow asked faults names old new (trouble.File file) is some = some
asks_anyhow asked faults names old new trouble.Out is some = absurd is
asks_anyhow asked faults names old new trouble.NoMemory is some = some
asks_anyhow asked faults names old new (trouble.TooLong file) is some = some
asks_anyhow asked faults names old new (trouble.Script file) is some = some
asks_anyhow asked faults names old new trouble.Connect is some = some
asks_anyhow asked faults names old new trouble.Input is some = some

-- the load of one file failed
pub failed_one : {S : Type 0} (asked : S → List (List ℕ)) (faults : S → ℕ) (name file : List ℕ) (old new : S) → file ≡ name
    → asked new ≡ asked old ++ name ∷ [] → Rose (faults old) (faults new) → CantRead asked faults (name ∷ []) file old new
failed_one asked faults name file old new same is rose = record {
  start = [];
  others = [];
  among = ap (λ it. it ∷ []) same;
  before = old;
  asked_before = sym (append-nil (asked old));
  never_fell = omega arith;
  asked_last = is ∙ ap (λ it. asked old ++ it ∷ []) (sym same);
  failed = rose;
}
