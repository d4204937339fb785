-- The event that is found is the first that matches.
use Rattle.std.proofs.Common.{◌≡◌, ℕ, zero, suc, ◌+◌, ◌<◌, List, [], ◌∷◌, Option, Some, None, MatchOption, refl, subst, arith}
use Rattle.tb_terms.specs.declared.term.Term.{Term}
use Rattle.tb_terms.specs.declared.pattern.Pattern.{Pattern}
use Rattle.tb_match.specs.declared.bind.Bind.{Bind}
use Rattle.tb_match.specs.Matches.{match_list}
use Rattle.tb_tools.specs.declared.found.FoundEvent.{FoundEvent}
use Rattle.tb_tools.specs.Lanes.{BenchState}
use Rattle.tb_tools.specs.Acts.{events_at}
use Rattle.tb_tools.specs.Finding.{found_or, first_match, oldest_event}
use Rattle.tb_tools.specs.First.{binds_at, NoneMatches, IsOldest}

abbrev Events : Type 0
Events = List (List Term)

-- it stands at the offset j of a queue whose first event stands at the position p
abbrev IsFound : ℕ → List Pattern → Events → FoundEvent → Type 0
IsFound p ps events found = (j : ℕ) × (found.place ≡ p + j) × (binds_at ps events j ≡ Some found.binds) × ((k : ℕ) → k < j → binds_at ps events k ≡ None)

abbrev Claim : ℕ → List Pattern → Events → Option FoundEvent → Type 0
Claim p ps events found = MatchOption found (NoneMatches ps events) (IsFound p ps events)

later : (p : ℕ) (ps : List Pattern) (event : List Term) (events : Events) (found : Option FoundEvent) → match_list ps event ≡ None → Claim (p + 1) ps events found → Claim p ps (event ∷ events) found
later p ps event events None e h = none
  where
    none : NoneMatches ps (event ∷ events)
    none zero = e
    none (suc k) = h k
later p ps event events (Some found) e h = (suc h.0, omega (arith, h.1), h.2, before)
  where
    before : (k : ℕ) → k < suc h.0 → binds_at ps (event ∷ events) k ≡ None
    before zero l = e
    before (suc k) l = let m : k < h.0 = omega arith in h.3 k m

step : (p : ℕ) (ps : List Pattern) (event : List Term) (events : Events) (m : Option (List Bind)) (found : Option FoundEvent) → match_list ps event ≡ m → Claim (p + 1) ps events found → Claim p ps (event ∷ events) (found_or p m found)
step p ps event events None found e h = later p ps event events found e h
step p ps event events (Some binds) found e h = (0, omega arith, e, λ k l. absurd (omega arith))

first : (p : ℕ) (ps : List Pattern) (events : Events) → Claim p ps events (first_match p ps events)
first p ps [] = λ k. refl
first p ps (event ∷ events) = step p ps event events (match_list ps event) (first_match (p + 1) ps events) refl (first (p + 1) ps events)

from_start : (ps : List Pattern) (events : Events) (found : Option FoundEvent) → Claim 0 ps events found → MatchOption found (NoneMatches ps events) (IsOldest ps events)
from_start ps events None h = h
from_start ps events (Some found) h =
    let e : h.0 ≡ found.place = omega (arith, h.1) in (
      subst (λ (k : ℕ). binds_at ps events k ≡ Some found.binds) e h.2,
      λ k l. let m : k < h.0 = omega arith in h.3 k m,
    )

pub oldest-first : (ps : List Pattern) (lane : ℕ) (bench : BenchState) → MatchOption (oldest_event ps lane bench) (NoneMatches ps (events_at lane bench)) (IsOldest ps (events_at lane bench))
oldest-first ps lane bench = from_start ps (events_at lane bench) (first_match 0 ps (events_at lane bench)) (first 0 ps (events_at lane bench))
