-- The tool with the smallest number is chosen lane by lane.
use Rattle.std.proofs.Common.{◌≡◌, ℕ, ◌+◌, ◌<◌, nat_le, Bool, true, false, if◌then◌else◌, List, Option, Some, None, IsTrue, refl, ap, ◌∙◌, subst, arith}
use Rattle.std.specs.Option.{ForSome}
use Rattle.tb_terms.proofs.SameLemmas.{both-true}
use Rattle.std.specs.Str.{bytes_eq}
use Rattle.tb_tools.specs.declared.stage.Stage.{Stage}
use Rattle.tb_tools.specs.declared.found.FoundTool.{FoundTool}
use Rattle.tb_log.specs.Shapes.{IsLane}
use Rattle.tb_tools.specs.Lanes.{Tool, Lane, BenchState, is_same_stage, of_tool, is_stage_at, lane_at}
use Rattle.tb_tools.specs.Finding.{is_at, smaller, smaller_of}

smaller-either : (P : FoundTool → Type 0) (best : Option FoundTool) (other : FoundTool) → ForSome best P → P other → P (smaller best other)
smaller-either P None other h p = p
smaller-either P (Some best) other h p =
    elim (nat_le best.number other.number) as (λ b. P (if b then best else other)) [ true ↦ h best refl | false ↦ p ]

-- what holds of the best so far, and of the tool of this lane, holds of the better one
smaller_of-either : (P : FoundTool → Type 0) (name : List ℕ) (stage : Stage) (best : Option FoundTool) (lane : ℕ) (tool : Option Tool) → ForSome best P
    → ((found : Tool) → tool ≡ Some found → is_at name stage found ≡ true → P (record { number = found.number; lane = lane }))
    → ForSome (smaller_of name stage best lane tool) P
smaller_of-either P name stage best lane None h p = h
smaller_of-either P name stage best lane (Some tool) h p = by (is_at name stage tool) refl
  where
    by : (b : Bool) → is_at name stage tool ≡ b → ForSome (if b then Some (smaller best (record { number = tool.number; lane = lane })) else best) P
    by false e = h
    by true e = λ found is. subst P (ap out is) (smaller-either P best (record { number = tool.number; lane = lane }) h (p tool refl e))
      where
        out : Option FoundTool → FoundTool
        out None = record { number = tool.number; lane = lane }
        out (Some found) = found

-- it is on a lane, and at the stage
abbrev IsThere : Stage → BenchState → FoundTool → Type 0
IsThere stage bench found = IsLane found.lane × IsTrue (is_stage_at stage found.lane bench)

pub smaller_of-there : (name : List ℕ) (stage : Stage) (bench : BenchState) (best : Option FoundTool) (index : ℕ) (row : Lane) → index < 16 → lane_at (index + 1) bench ≡ row
    → ForSome best (IsThere stage bench) → ForSome (smaller_of name stage best (index + 1) row.tool) (IsThere stage bench)
smaller_of-there name stage bench best index row l e h =
    smaller_of-either (IsThere stage bench) name stage best (index + 1) row.tool h (λ tool is at. (
      (omega arith, omega arith),
      ap (λ (x : Lane). of_tool (λ found. is_same_stage found.stage stage) x.tool) e
          ∙ ap (λ (o : Option Tool). of_tool (λ found. is_same_stage found.stage stage) o) is
          ∙ (both-true (bytes_eq tool.name name) (is_same_stage tool.stage stage) at).1,
    ))
