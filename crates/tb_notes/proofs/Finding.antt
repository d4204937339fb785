-- The found note is the first one that matches.
use Rattle.std.proofs.Common.{◌≡◌, ℕ, zero, suc, ◌+◌, ◌<◌, List, [], ◌∷◌, Option, Some, None, MatchOption, refl, subst, arith}
use Rattle.tb_terms.specs.declared.term.Term.{Term}
use Rattle.tb_terms.specs.declared.pattern.Pattern.{Pattern}
use Rattle.tb_match.specs.declared.bind.Bind.{Bind}
use Rattle.tb_match.specs.Matches.{match_list}
use Rattle.tb_notes.specs.declared.queue.Found.{Found}
use Rattle.tb_notes.specs.Inboxes.{Held, found_or, first_match, oldest_match}
use Rattle.tb_notes.specs.Oldest.{binds_at, NoneMatches, IsOldest}

abbrev Notes : Type 0
Notes = List (List Term)

-- the found note is at the offset j of a queue whose first note has the position p, and no earlier note matches
abbrev IsFound : ℕ → List Pattern → Notes → Found → Type 0
IsFound p ps notes found = (j : ℕ) × (found.place ≡ p + j) × (binds_at ps notes j ≡ Some found.binds) × ((k : ℕ) → k < j → binds_at ps notes k ≡ None)

abbrev Claim : ℕ → List Pattern → Notes → Option Found → Type 0
Claim p ps notes found = MatchOption found (NoneMatches ps notes) (IsFound p ps notes)

later : (p : ℕ) (ps : List Pattern) (note : List Term) (notes : Notes) (found : Option Found) → match_list ps note ≡ None → Claim (p + 1) ps notes found → Claim p ps (note ∷ notes) found
later p ps note notes None e h = none
  where
    none : NoneMatches ps (note ∷ notes)
    none zero = e
    none (suc k) = h k
later p ps note notes (Some found) e h = (suc h.0, omega (arith, h.1), h.2, before)
  where
    before : (k : ℕ) → k < suc h.0 → binds_at ps (note ∷ notes) k ≡ None
    before zero l = e
    before (suc k) l = let m : k < h.0 = omega arith in h.3 k m

step : (p : ℕ) (ps : List Pattern) (note : List Term) (notes : Notes) (m : Option (List Bind)) (found : Option Found) → match_list ps note ≡ m → Claim (p + 1) ps notes found → Claim p ps (note ∷ notes) (found_or p m found)
step p ps note notes None found e h = later p ps note notes found e h
step p ps note notes (Some binds) found e h = (0, omega arith, e, λ k l. absurd (omega arith))

first : (p : ℕ) (ps : List Pattern) (notes : Notes) → Claim p ps notes (first_match p ps notes)
first p ps [] = λ k. refl
first p ps (note ∷ notes) = step p ps note notes (match_list ps note) (first_match (p + 1) ps notes) refl (first (p + 1) ps notes)

from_start : (ps : List Pattern) (notes : Notes) (found : Option Found) → Claim 0 ps notes found → MatchOption found (NoneMatches ps notes) (IsOldest ps notes)
from_start ps notes None h = h
from_start ps notes (Some found) h =
    let e : h.0 ≡ found.place = omega (arith, h.1) in (
      subst (λ (k : ℕ). binds_at ps notes k ≡ Some found.binds) e h.2,
      λ k l. let m : k < h.0 = omega arith in h.3 k m,
    )

pub oldest-first : (ps : List Pattern) (held : Held) → MatchOption (oldest_match ps held) (NoneMatches ps held.notes) (IsOldest ps held.notes)
oldest-first ps held = from_start ps held.notes (first_match 0 ps held.notes) (first 0 ps held.notes)
