-- Searches find the same after one lane changes, if it is free if and only if it was free, and its tool keeps its number, name, and
-- stage.
use Rattle.std.proofs.Common.{◌≡◌, ◌⊎◌, inl, inr, ℕ, zero, suc, ◌+◌, ◌-◌, nat_le, Bool, true, false, ◌&&◌, cond, if◌then◌else◌, List, [], ◌∷◌, get_or, set, Option, Some, None, option_map, refl, ap, sym, ◌∙◌, subst}
use Rattle.std.specs.List.{position_from, remove}
use Rattle.std.specs.Str.{bytes_eq}
use Rattle.tb_terms.specs.declared.term.Term.{Term}
use Rattle.tb_terms.specs.Same.{is_same_term}
use Rattle.tb_tools.specs.declared.stage.Stage.{Stage}
use Rattle.tb_tools.specs.declared.found.FoundTool.{FoundTool}
use Rattle.tb_tools.specs.Lanes.{Tool, Lane, BenchState, unused, of_tool, is_same_stage, term_of, tool_term, lane_at, tool_at, with_lane, is_free}
use Rattle.tb_tools.specs.Acts.{is_closed, answer_of}
use Rattle.tb_tools.specs.Finding.{first_lane, find_tool, has_tool, first_at, is_at, smaller, smaller_of, smallest_from}
use Rattle.tb_tools.proofs.Staying.{with_lane-or}

-- a tool before and after, which is named and stands as it did
pub record IsKept (before after : Tool) : Type 0 where
  pub number : after.number ≡ before.number
  pub name : after.name ≡ before.name
  pub stage : after.stage ≡ before.stage

-- there is no tool, or this holds of both
abbrev pub OfTools : (Tool → Tool → Type 0) → Option Tool → Option Tool → Type 0
OfTools Holds None None = Unit {0}
OfTools Holds None (Some after) = ⊥
OfTools Holds (Some before) None = ⊥
OfTools Holds (Some before) (Some after) = Holds before after

-- a lane before and after, with the same tool
pub record IsLaneKept (before after : Lane) : Type 0 where
  pub free : is_free after ≡ is_free before
  pub tool : OfTools IsKept before.tool after.tool

-- a tool before and after a change that closes no evaluation, and adds neither an answer nor an event
pub record HasLess (before after : Tool) : Type 0 where
  pub kept : IsKept before after
  pub closed : is_closed after.eval ≡ true → is_closed before.eval ≡ true
  pub answer : (value : Term) → answer_of after.eval ≡ Some value → answer_of before.eval ≡ Some value
  pub events : after.events ≡ before.events
  pub received : (test : List Term → Bool) (place : ℕ) → position_from test 0 after.received ≡ Some place → (other : ℕ) × (position_from test 0 before.received ≡ Some other)

pub of-weaker : (P Q : Tool → Tool → Type 0) → ((before after : Tool) → P before after → Q before after) → (before after : Option Tool) → OfTools P before after → OfTools Q before after
of-weaker P Q weaker None None h = tt
of-weaker P Q weaker None (Some after) h = absurd h
of-weaker P Q weaker (Some before) None h = absurd h
of-weaker P Q weaker (Some before) (Some after) h = weaker before after h

pub kept-self : (tool : Tool) → IsKept tool tool
kept-self tool = record { number = refl; name = refl; stage = refl }

pub less-self : (tool : Tool) → HasLess tool tool
less-self tool = record { kept = kept-self tool; closed = λ e. e; answer = λ value e. e; events = refl; received = λ test place e. (place, e) }

pub of-self : (P : Tool → Tool → Type 0) → ((tool : Tool) → P tool tool) → (found : Option Tool) → OfTools P found found
of-self P self None = tt
of-self P self (Some tool) = self tool

-- what is found

first-set : (test : Lane → Bool) (n : ℕ) (xs : List Lane) (i : ℕ) (y : Lane) → test y ≡ test (get_or xs i unused) → position_from test n (set xs i y) ≡ position_from test n xs
first-set test n [] i y e = refl
first-set test n (x ∷ xs) zero y e = ap (λ b. cond b (Some n) (position_from test (n + 1) xs)) e
first-set test n (x ∷ xs) (suc i) y e = ap (λ o. cond (test x) (Some n) o) (first-set test (n + 1) xs i y e)

-- the first lane that passes a test which the lane passes as before
pub first_lane-kept : (test : Lane → Bool) (lane : ℕ) (new : Lane) (bench : BenchState) → test new ≡ test (lane_at lane bench) → first_lane test (with_lane lane new bench) ≡ first_lane test bench
first_lane-kept test lane new bench e = first-set test 1 bench.lanes (lane - 1) new e

-- what depends on the tool of a lane alone
pub tool-kept : {A : Type 0} (seen : Option Tool → A) (lane other : ℕ) (new : Lane) (bench : BenchState) → seen new.tool ≡ seen (tool_at lane bench) → seen (tool_at other (with_lane lane new bench)) ≡ seen (tool_at other bench)
tool-kept seen lane other new bench e = elim (with_lane-or lane other new bench) [
  | inl same ↦ ap (λ (x : Lane). seen x.tool) same
  | inr h ↦ ap (λ (x : Lane). seen x.tool) h.0 ∙ e ∙ ap (λ (k : ℕ). seen (get_or bench.lanes k unused).tool) (sym h.1)
]

-- what holds of no tool and of each that is the same holds of the tools of each lane
pub of-lanes : (P : Tool → Tool → Type 0) → ((tool : Tool) → P tool tool) → (lane other : ℕ) (new : Lane) (bench : BenchState) → OfTools P (tool_at lane bench) new.tool → OfTools P (tool_at other bench) (tool_at other (with_lane lane new bench))
of-lanes P self lane other new bench h = elim (with_lane-or lane other new bench) [
  | inl same ↦ subst (λ (x : Lane). OfTools P (tool_at other bench) x.tool) (sym same) (of-self P self (tool_at other bench))
  | inr at ↦ subst (λ (x : Lane). OfTools P (tool_at other bench) x.tool) (sym at.0) (subst (λ (k : ℕ). OfTools P (get_or bench.lanes k unused).tool new.tool) (sym at.1) h)
]

kept-term : (before after : Tool) → IsKept before after → term_of after ≡ term_of before
kept-term before after h = ap (λ (n : ℕ). tool_term after.name n) h.number ∙ ap (λ (name : List ℕ). tool_term name before.number) h.name

pub kept-terms : (before after : Option Tool) → OfTools IsKept before after → option_map term_of after ≡ option_map term_of before
kept-terms None None h = refl
kept-terms None (Some after) h = absurd h
kept-terms (Some before) None h = absurd h
kept-terms (Some before) (Some after) h = ap (λ (t : Term). Some t) (kept-term before after h)

-- what depends on the term of a tool
has-kept : (term : Term) (before after : Option Tool) → OfTools IsKept before after → of_tool (λ tool. is_same_term term (term_of tool)) after ≡ of_tool (λ tool. is_same_term term (term_of tool)) before
has-kept term None None h = refl
has-kept term None (Some after) h = absurd h
has-kept term (Some before) None h = absurd h
has-kept term (Some before) (Some after) h = ap (is_same_term term) (kept-term before after h)

pub find_tool-kept : (term : Term) (lane : ℕ) (new : Lane) (bench : BenchState) → OfTools IsKept (tool_at lane bench) new.tool → find_tool term (with_lane lane new bench) ≡ find_tool term bench
find_tool-kept term lane new bench h = first_lane-kept (has_tool term) lane new bench (has-kept term (tool_at lane bench) new.tool h)

pub stage-kept : (stage : Stage) (before after : Option Tool) → OfTools IsKept before after → of_tool (λ tool. is_same_stage tool.stage stage) after ≡ of_tool (λ tool. is_same_stage tool.stage stage) before
stage-kept stage None None h = refl
stage-kept stage None (Some after) h = absurd h
stage-kept stage (Some before) None h = absurd h
stage-kept stage (Some before) (Some after) h = ap (λ (s : Stage). is_same_stage s stage) h.stage

smaller-kept : (name : List ℕ) (stage : Stage) (best : Option FoundTool) (lane : ℕ) (before after : Option Tool) → OfTools IsKept before after → smaller_of name stage best lane after ≡ smaller_of name stage best lane before
smaller-kept name stage best lane None None h = refl
smaller-kept name stage best lane None (Some after) h = absurd h
smaller-kept name stage best lane (Some before) None h = absurd h
smaller-kept name stage best lane (Some before) (Some after) h =
    ap (λ (n : ℕ). if is_at name stage after then Some (smaller best (record { number = n; lane = lane })) else best) h.number
    ∙ ap (λ (own : List ℕ). if bytes_eq own name && is_same_stage after.stage stage then Some (smaller best (record { number = before.number; lane = lane })) else best) h.name
    ∙ ap (λ (s : Stage). if bytes_eq before.name name && is_same_stage s stage then Some (smaller best (record { number = before.number; lane = lane })) else best) h.stage

smallest-set : (name : List ℕ) (stage : Stage) (best : Option FoundTool) (n : ℕ) (xs : List Lane) (i : ℕ) (y : Lane) → OfTools IsKept (get_or xs i unused).tool y.tool → smallest_from name stage best n (set xs i y) ≡ smallest_from name stage best n xs
smallest-set name stage best n [] i y h = refl
smallest-set name stage best n (x ∷ xs) zero y h = ap (λ o. smallest_from name stage o (n + 1) xs) (smaller-kept name stage best n x.tool y.tool h)
smallest-set name stage best n (x ∷ xs) (suc i) y h = smallest-set name stage (smaller_of name stage best n x.tool) (n + 1) xs i y h

pub first_at-kept : (name : List ℕ) (stage : Stage) (lane : ℕ) (new : Lane) (bench : BenchState) → OfTools IsKept (tool_at lane bench) new.tool → first_at name stage (with_lane lane new bench) ≡ first_at name stage bench
first_at-kept name stage lane new bench h = ap (option_map (λ (found : FoundTool). found.lane)) (smallest-set name stage None 1 bench.lanes (lane - 1) new h)

-- fewer events

-- if an element passes, an element passes whatever number the first element has
renumbered : {A : Type 0} (test : A → Bool) (n m : ℕ) (xs : List A) (place : ℕ) → position_from test n xs ≡ Some place → (other : ℕ) × (position_from test m xs ≡ Some other)
renumbered test n m [] place e = cc
renumbered {A = A} test n m (x ∷ xs) place e = by (test x) (renumbered test (n + 1) (m + 1) xs place) e
  where
    by : (b : Bool) → (position_from test (n + 1) xs ≡ Some place → (other : ℕ) × (position_from test (m + 1) xs ≡ Some other)) → cond b (Some n) (position_from test (n + 1) xs) ≡ Some place → (other : ℕ) × (cond b (Some m) (position_from test (m + 1) xs) ≡ Some other)
    by true rest h = (m, refl)
    by false rest h = rest h

-- if one of the remaining elements passes, an element passed before
removed-passes : {A : Type 0} (test : A → Bool) (n m : ℕ) (xs : List A) (at place : ℕ) → position_from test n (remove xs at) ≡ Some place → (other : ℕ) × (position_from test m xs ≡ Some other)
removed-passes test n m [] zero place e = cc
removed-passes test n m [] (suc at) place e = cc
removed-passes {A = A} test n m (x ∷ xs) zero place e = by (test x)
  where
    by : (b : Bool) → (other : ℕ) × (cond b (Some m) (position_from test (m + 1) xs) ≡ Some other)
    by true = (m, refl)
    by false = renumbered test n (m + 1) xs place e
removed-passes {A = A} test n m (x ∷ xs) (suc at) place e = by (test x) (removed-passes test (n + 1) (m + 1) xs at place) e
  where
    by : (b : Bool) → (position_from test (n + 1) (remove xs at) ≡ Some place → (other : ℕ) × (position_from test (m + 1) xs ≡ Some other)) → cond b (Some n) (position_from test (n + 1) (remove xs at)) ≡ Some place → (other : ℕ) × (cond b (Some m) (position_from test (m + 1) xs) ≡ Some other)
    by true rest h = (m, refl)
    by false rest h = rest h

pub fewer-received : (events : List (List Term)) (at : ℕ) (test : List Term → Bool) (place : ℕ) → position_from test 0 (remove events at) ≡ Some place → (other : ℕ) × (position_from test 0 events ≡ Some other)
fewer-received events at test place e = removed-passes test 0 0 events at place e
