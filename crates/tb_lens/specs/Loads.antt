-- What a command loads: the bytes that a name holds, the names that were asked for, and the load that failed.
use Rattle.std.specs.Prelude.{◌≡◌, ℕ, ◌<◌, ◌≤◌, List, [], ◌∷◌, ◌++◌, length, Option, IfSome, Result, Ok, Err}
use Rattle.tb_edge.specs.Faults.{Rose}
use Rattle.tb_edge.specs.FilesHeld.{AsksSome}
use Rattle.tb_lens.specs.declared.status.Status.{Status}
use Rattle.tb_lens.specs.declared.status.Trouble.{Trouble as Reason}
use Rattle.tb_lens.specs.declared.status.Trouble.TheVariants as trouble

-- There are at most `most` bytes. If `told` says which bytes the name holds, they are these bytes.
abbrev pub IsHeld : ℕ → Option (List ℕ) → List ℕ → Type 0
IsHeld most told bytes = IfSome told (λ held. bytes ≡ held) × (length bytes ≤ most)

-- The number `len` is more than `most`. If `told` says which bytes the name holds, `len` is their number.
abbrev pub IsOver : ℕ → Option (List ℕ) → ℕ → Type 0
IsOver most told len = (most < len) × IfSome told (λ held. len ≡ length held)

-- the names that a call asked for: all of them, in order, unless the call failed before the output
abbrev pub Asks : List (List ℕ) → Result Status Reason → List (List ℕ) → List (List ℕ) → Type 0
Asks names (Ok status) old new = new ≡ old ++ names
Asks names (Err trouble.Out) old new = new ≡ old ++ names
Asks names (Err _) old new = AsksSome names old new

-- The names up to `name` were asked for, in order, and no others. The last load, that of `name`, failed.
pub record CantRead {S : Type 0} (asked : S → List (List ℕ)) (faults : S → ℕ) (names : List (List ℕ)) (name : List ℕ) (old new : S) : Type 0 where
  pub start : List (List ℕ)
  pub others : List (List ℕ)
  pub among : start ++ name ∷ others ≡ names
  pub before : S
  pub asked_before : asked before ≡ asked old ++ start
  pub never_fell : faults old ≤ faults before
  pub asked_last : asked new ≡ asked before ++ name ∷ []
  pub failed : Rose (faults before) (faults new)

-- why a command with one file fails: the file can't be read or is too long, the write fails, or memory runs out (at any time)
abbrev pub IsReasonOfOne : ℕ → Option (List ℕ) → List ℕ → Type 0 → Type 0 → Reason → Type 0
IsReasonOfOne most told name file_failed out_failed (trouble.File file) = (file.bytes.items ≡ name) × file_failed
IsReasonOfOne most told name file_failed out_failed (trouble.TooLong file) = (file.bytes.items ≡ name) × (len : ℕ) × IsOver most told len
IsReasonOfOne most told name file_failed out_failed trouble.Out = out_failed
IsReasonOfOne most told name file_failed out_failed trouble.NoMemory = Unit {0}
IsReasonOfOne most told name file_failed out_failed (trouble.Script file) = ⊥
IsReasonOfOne most told name file_failed out_failed trouble.Connect = ⊥
IsReasonOfOne most told name file_failed out_failed trouble.Input = ⊥
