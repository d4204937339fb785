-- The first lane, and the tool with the smallest number.
use Rattle.std.proofs.Common.{◌≡◌, ◌⊎◌, inl, inr, ℕ, zero, suc, ◌+◌, ◌-◌, ◌<◌, ◌≤◌, nat_le, Bool, true, false, cond, if◌then◌else◌, List, [], ◌∷◌, length, get_or, Option, Some, None, option_map, MatchOption, refl, ap, sym, ◌∙◌, subst, arith}
use Rattle.std.specs.List.{position_from}
use Rattle.std.proofs.lemmas.Bool.{leb-true, leb-false}
use Rattle.tb_tools.specs.declared.stage.Stage.{Stage}
use Rattle.tb_tools.specs.declared.found.FoundTool.{FoundTool}
use Rattle.tb_tools.specs.Lanes.{Tool, Lane, BenchState, unused}
use Rattle.tb_tools.specs.Finding.{first_lane, is_at, smaller, smaller_of, smallest_from, first_at}
use Rattle.tb_tools.specs.First.{NoLane, IsFirstLane, IsToolAt, NoToolAt, HasSmallest}

-- the first that passes stands at the offset k of lanes that have the numbers from n on
IsFirstFrom : (Lane → Bool) → ℕ → List Lane → ℕ → Type 0
IsFirstFrom test n xs r = (k : ℕ) × (r ≡ n + k) × (k < length xs) × (test (get_or xs k unused) ≡ true) × ((j : ℕ) → j < k → test (get_or xs j unused) ≡ false)

NonePasses : (Lane → Bool) → List Lane → Type 0
NonePasses test xs = (k : ℕ) → k < length xs → test (get_or xs k unused) ≡ false

first-from : (test : Lane → Bool) (n : ℕ) (xs : List Lane) → MatchOption (position_from test n xs) (NonePasses test xs) (IsFirstFrom test n xs)
unfolding NonePasses IsFirstFrom
first-from test n [] = λ k l. absurd (omega arith)
first-from test n (x ∷ xs) = by (test x) refl (first-from test (n + 1) xs)
  where
    past : test x ≡ false → (o : Option ℕ) → MatchOption o (NonePasses test xs) (IsFirstFrom test (n + 1) xs) → MatchOption o (NonePasses test (x ∷ xs)) (IsFirstFrom test n (x ∷ xs))
    past e None h = none
      where
        none : (k : ℕ) → k < length (x ∷ xs) → test (get_or (x ∷ xs) k unused) ≡ false
        none zero l = e
        none (suc k) l = let m : k < length xs = omega arith in h k m
    past e (Some r) h = (suc h.0, omega (arith, h.1), omega (arith, h.2), h.3, before)
      where
        before : (j : ℕ) → j < suc h.0 → test (get_or (x ∷ xs) j unused) ≡ false
        before zero l = e
        before (suc j) l = let m : j < h.0 = omega arith in h.4 j m

    by : (b : Bool) → test x ≡ b → MatchOption (position_from test (n + 1) xs) (NonePasses test xs) (IsFirstFrom test (n + 1) xs)
        → MatchOption (cond b (Some n) (position_from test (n + 1) xs)) (NonePasses test (x ∷ xs)) (IsFirstFrom test n (x ∷ xs))
    by true e h = (0, omega arith, omega arith, e, λ j l. absurd (omega arith))
    by false e h = past e (position_from test (n + 1) xs) h

pub first_lane-lowest : (test : Lane → Bool) (bench : BenchState) → MatchOption (first_lane test bench) (NoLane test bench) (IsFirstLane test bench)
unfolding NonePasses IsFirstFrom
first_lane-lowest test bench = by (position_from test 1 bench.lanes) (first-from test 1 bench.lanes)
  where
    by : (o : Option ℕ) → MatchOption o (NonePasses test bench.lanes) (IsFirstFrom test 1 bench.lanes) → MatchOption o (NoLane test bench) (IsFirstLane test bench)
    by None h = λ lane there. h (lane - 1) (omega (arith, there.0, there.1))
    by (Some r) h =
        let at : r - 1 ≡ h.0 = omega (arith, h.1) in (
          (omega (arith, h.1), omega (arith, h.1, h.2)),
          ap (λ (k : ℕ). test (get_or bench.lanes k unused)) at ∙ h.3,
          λ other first below. h.4 (other - 1) (omega (arith, h.1)),
        )

-- the tool has the smallest number of the candidates; without a tool, there are no candidates
abbrev IsLeast : (FoundTool → Type 0) → Option FoundTool → Type 0
IsLeast C found = MatchOption found ((other : FoundTool) → C other → ⊥) (λ least. C least × ((other : FoundTool) → C other → least.number ≤ other.number))

some-same : {A : Type 0} (a b : A) → Some a ≡ Some b → a ≡ b
some-same a b e = cc

least-same : (C D : FoundTool → Type 0) (found : Option FoundTool) → ((other : FoundTool) → C other → D other) → ((other : FoundTool) → D other → C other) → IsLeast C found → IsLeast D found
least-same C D None to from h = λ other d. h other (from other d)
least-same C D (Some least) to from h = (to least h.0, λ other d. h.1 other (from other d))

-- the best of some candidates and others is the best of all
least-both : (C R : FoundTool → Type 0) (best found : Option FoundTool) → IsLeast C best → IsLeast (λ other. (best ≡ Some other) ⊎ R other) found → IsLeast (λ other. C other ⊎ R other) found
least-both C R None None h k = λ other c. elim c [ inl d ↦ h other d | inr d ↦ k other (inr d) ]
least-both C R (Some best) None h k = λ other c. k best (inl refl)
least-both C R None (Some found) h k = (
  elim k.0 [ inl e ↦ cc | inr d ↦ inr d ],
  λ other c. elim c [ inl d ↦ absurd (h other d) | inr d ↦ k.1 other (inr d) ],
)
least-both C R (Some best) (Some found) h k = (
  elim k.0 [ inl e ↦ inl (subst C (some-same best found e) h.0) | inr d ↦ inr d ],
  λ other c. elim c [ inl d ↦ omega (arith, k.1 best (inl refl), h.1 other d) | inr d ↦ k.1 other (inr d) ],
)

-- the tool of one lane, where it has the name and is at the stage
abbrev IsHere : List ℕ → Stage → ℕ → Option Tool → FoundTool → Type 0
IsHere name stage lane here found = (tool : Tool) × (here ≡ Some tool) × (is_at name stage tool ≡ true) × (found.number ≡ tool.number) × (found.lane ≡ lane)

least-smaller : (name : List ℕ) (stage : Stage) (best : Option FoundTool) (lane : ℕ) (here : Option Tool)
    → IsLeast (λ other. (best ≡ Some other) ⊎ IsHere name stage lane here other) (smaller_of name stage best lane here)
least-smaller name stage best lane None = by best
  where
    nobody : (other : FoundTool) → IsHere name stage lane None other → ⊥
    nobody other h = let e : ◌≡◌ {A = Option Tool} None (Some h.0) = h.1 in cc

    by : (best : Option FoundTool) → IsLeast (λ other. (best ≡ Some other) ⊎ IsHere name stage lane None other) best
    by None = λ other c. elim c [ inl e ↦ cc | inr h ↦ nobody other h ]
    by (Some found) = (inl refl, λ other c. elim c [ inl e ↦ omega (arith, ap (λ (x : FoundTool). x.number) (some-same found other e)) | inr h ↦ absurd (nobody other h) ])
least-smaller name stage best lane (Some tool) = by (is_at name stage tool) refl best
  where
    new : FoundTool
    new = record { number = tool.number; lane = lane }

    same : (other : FoundTool) → IsHere name stage lane (Some tool) other → (is_at name stage tool ≡ true) × (other.number ≡ tool.number)
    same other h =
        let e = some-same tool h.0 h.1 in
        (ap (is_at name stage) e ∙ h.2, h.3 ∙ sym (ap (λ (x : Tool). x.number) e))

    chosen : (b : Bool) (found : FoundTool) → nat_le found.number tool.number ≡ b → is_at name stage tool ≡ true
        → IsLeast (λ other. (Some found ≡ Some other) ⊎ IsHere name stage lane (Some tool) other) (Some (if b then found else new))
    chosen true found e at = (
      inl refl,
      λ other c. elim c [
        | inl f ↦ omega (arith, ap (λ (x : FoundTool). x.number) (some-same found other f))
        | inr h ↦ omega (arith, leb-true found.number tool.number e, (same other h).1)
      ],
    )
    chosen false found e at = (
      inr (tool, refl, at, refl, refl),
      λ other c. elim c [
        | inl f ↦ omega (arith, leb-false found.number tool.number e, ap (λ (x : FoundTool). x.number) (some-same found other f))
        | inr h ↦ omega (arith, (same other h).1)
      ],
    )

    by : (b : Bool) → is_at name stage tool ≡ b → (best : Option FoundTool)
        → IsLeast (λ other. (best ≡ Some other) ⊎ IsHere name stage lane (Some tool) other) (if b then Some (smaller best (record { number = tool.number; lane = lane })) else best)
    by true at None = (inr (tool, refl, at, refl, refl), λ other c. elim c [ inl e ↦ cc | inr h ↦ omega (arith, (same other h).1) ])
    by true at (Some found) = chosen (nat_le found.number tool.number) found refl at
    by false at None = λ other c. elim c [ inl e ↦ cc | inr h ↦ let f = (same other h).0 in cc ]
    by false at (Some found) = (inl refl, λ other c. elim c [ inl e ↦ omega (arith, ap (λ (x : FoundTool). x.number) (some-same found other e)) | inr h ↦ let f = (same other h).0 in cc ])

-- a tool of that name at that stage stands on one of these lanes, which have the numbers from n on
abbrev IsAmong : List ℕ → Stage → ℕ → List Lane → FoundTool → Type 0
IsAmong name stage n xs found = (k : ℕ) × (k < length xs) × IsHere name stage (n + k) (get_or xs k unused).tool found

among-to : (name : List ℕ) (stage : Stage) (n : ℕ) (x : Lane) (xs : List Lane) (best : Option FoundTool) (other : FoundTool)
    → ((best ≡ Some other) ⊎ IsHere name stage n x.tool other) ⊎ IsAmong name stage (n + 1) xs other → (best ≡ Some other) ⊎ IsAmong name stage n (x ∷ xs) other
among-to name stage n x xs best other (inl (inl e)) = inl e
among-to name stage n x xs best other (inl (inr h)) = inr (0, omega arith, (h.0, h.1, h.2, h.3, omega (arith, h.4)))
among-to name stage n x xs best other (inr h) = inr (suc h.0, omega (arith, h.1), (h.2.0, h.2.1, h.2.2, h.2.3, omega (arith, h.2.4)))

among-from : (name : List ℕ) (stage : Stage) (n : ℕ) (x : Lane) (xs : List Lane) (best : Option FoundTool) (other : FoundTool)
    → (best ≡ Some other) ⊎ IsAmong name stage n (x ∷ xs) other → ((best ≡ Some other) ⊎ IsHere name stage n x.tool other) ⊎ IsAmong name stage (n + 1) xs other
among-from name stage n x xs best other (inl e) = inl (inl e)
among-from name stage n x xs best other (inr (zero, l, h)) = inl (inr (h.0, h.1, h.2, h.3, omega (arith, h.4)))
among-from name stage n x xs best other (inr (suc k, l, h)) = inr (k, omega (arith, l), (h.0, h.1, h.2, h.3, omega (arith, h.4)))

least-from : (name : List ℕ) (stage : Stage) (best : Option FoundTool) (n : ℕ) (xs : List Lane)
    → IsLeast (λ other. (best ≡ Some other) ⊎ IsAmong name stage n xs other) (smallest_from name stage best n xs)
least-from name stage None n [] = λ other c. elim c [ inl e ↦ cc | inr h ↦ absurd (omega (arith, h.1)) ]
least-from name stage (Some best) n [] = (inl refl, λ other c. elim c [ inl e ↦ omega (arith, ap (λ (x : FoundTool). x.number) (some-same best other e)) | inr h ↦ absurd (omega (arith, h.1)) ])
least-from name stage best n (x ∷ xs) =
    let better = smaller_of name stage best n x.tool in
    let found = smallest_from name stage better (n + 1) xs in
    least-same (λ other. ((best ≡ Some other) ⊎ IsHere name stage n x.tool other) ⊎ IsAmong name stage (n + 1) xs other) (λ other. (best ≡ Some other) ⊎ IsAmong name stage n (x ∷ xs) other) found
    (among-to name stage n x xs best) (among-from name stage n x xs best)
    (least-both (λ other. (best ≡ Some other) ⊎ IsHere name stage n x.tool other) (IsAmong name stage (n + 1) xs) better found
    (least-smaller name stage best n x.tool) (least-from name stage better (n + 1) xs))

pub first_at-smallest : (name : List ℕ) (stage : Stage) (bench : BenchState) → MatchOption (first_at name stage bench) (NoToolAt name stage bench) (HasSmallest name stage bench)
first_at-smallest name stage bench = by (smallest_from name stage None 1 bench.lanes) (least-from name stage None 1 bench.lanes)
  where
    Candidate : FoundTool → Type 0
    Candidate other = (None ≡ Some other) ⊎ IsAmong name stage 1 bench.lanes other

    -- a tool that stands on a lane is a candidate
    made : (lane : ℕ) (tool : Tool) → IsToolAt name stage bench lane tool → Candidate (record { number = tool.number; lane = lane })
    made lane tool h = inr (lane - 1, omega (arith, h.0.0, h.0.1), (tool, h.1, h.2, refl, omega (arith, h.0.0)))

    -- a candidate is a tool on a lane
    there : (found : FoundTool) → Candidate found → (tool : Tool) × IsToolAt name stage bench found.lane tool × (found.number ≡ tool.number)
    there found (inl e) = cc
    there found (inr (k, l, h)) =
        let at : found.lane - 1 ≡ k = omega (arith, h.4) in (
          h.0,
          ((omega (arith, h.4), omega (arith, h.4, l)), ap (λ (i : ℕ). (get_or bench.lanes i unused).tool) at ∙ h.1, h.2),
          h.3,
        )

    by : (o : Option FoundTool) → IsLeast Candidate o → MatchOption (option_map (λ found. found.lane) o) (NoToolAt name stage bench) (HasSmallest name stage bench)
    by None h = λ lane tool is. h (record { number = tool.number; lane = lane }) (made lane tool is)
    by (Some found) h =
        let t = there found h.0 in
        (t.0, t.1, λ other another is. let l = h.1 (record { number = another.number; lane = other }) (made other another is) in omega (arith, l, t.2))
