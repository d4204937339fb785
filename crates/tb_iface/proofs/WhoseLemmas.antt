-- Each line that a step queues on a lane is for a tool.
use Rattle.std.proofs.Common.{◌≡◌, ◌⊎◌, inl, inr, ℕ, Bool, true, false, List, [], ◌∷◌, Option, Some, None, Contains, IsTrue, if◌then◌else◌, refl, arith}
use Rattle.std.specs.Str.{bytes_eq}
use Rattle.std.proofs.lemmas.Slice.Eq.{bytes_eq-Decides}
use Rattle.tb_terms.specs.declared.term.Term.{Term}
use Rattle.tb_log.specs.declared.entry.Label.{Label}
use Rattle.tb_log.specs.declared.entry.LabelKind.{LabelKind}
use Rattle.tb_log.specs.declared.entry.LabelKind.TheVariants as kind
use Rattle.tb_log.specs.declared.entry.Out.{Out}
use Rattle.tb_log.specs.declared.entry.Out.TheVariants.{End}
use Rattle.tb_tools.specs.Acts.{tool_line}
use Rattle.tb_tools.specs.Finding.{has_tool}
use Rattle.tb_tools.specs.Lanes.{Tool, Lane, of_tool}
use Rattle.tb_bus.specs.Ends.{TakesDown}
use Rattle.tb_iface.specs.Handing.{to_tool, puts_as, puts, IsFor}

-- the lane has a tool of this name
abbrev Stands : List ℕ → Option Tool → Type 0
Stands tool found = IsTrue (of_tool (λ (it : Tool). bytes_eq it.name tool) found)

tool-there : (test : Tool → Bool) (found : Option Tool) → of_tool test found ≡ true → (tool : List ℕ) × Stands tool found
tool-there test None h = cc
tool-there test (Some it) h = (it.name, (bytes_eq-Decides it.name it.name).1 refl)

none-there : {A : Type 0} (line : Out) → Contains [] line → A
none-there line c = let l = c.1 in absurd (omega arith)

stands-by : (named : Term) (lane : Lane) (outs : List Out) (line : Out) (b : Bool) → has_tool named lane ≡ b → Contains (if b then outs else []) line → (tool : List ℕ) × Stands tool lane.tool
stands-by named lane outs line true e c = tool-there _ lane.tool e
stands-by named lane outs line false e c = none-there line c

-- if a step queues a line for the tool that it names
tool-stands : (word : List ℕ) (behind : List Out) (terms : List Term) (lane : Lane) (line : Out) → Contains (to_tool word behind terms lane) line → (tool : List ℕ) × Stands tool lane.tool
tool-stands word behind [] lane line c = none-there line c
tool-stands word behind (named ∷ parts) lane line c = stands-by named lane (tool_line word parts ∷ behind) line (has_tool named lane) refl c

-- what holds of the one holds of one of both
or-stands : (seen : LabelKind) (lane : Lane) → (tool : List ℕ) × Stands tool lane.tool → (tool : List ℕ) × (TakesDown seen ⊎ Stands tool lane.tool)
or-stands seen lane (tool, stands) = (tool, inr stands)

kind-whose : (seen : LabelKind) (terms : List Term) (lane : Lane) (line : Out) → Contains (puts_as seen terms lane) line → (tool : List ℕ) × (TakesDown seen ⊎ Stands tool lane.tool)
kind-whose kind.SndEval terms lane line c = or-stands kind.SndEval lane (tool-stands _ [] terms lane line c)
kind-whose kind.SndDo terms lane line c = or-stands kind.SndDo lane (tool-stands _ [] terms lane line c)
kind-whose kind.SndAckEvent terms lane line c = or-stands kind.SndAckEvent lane (tool-stands _ [] terms lane line c)
kind-whose kind.SndTerminate terms lane line c = or-stands kind.SndTerminate lane (tool-stands _ (End ∷ []) terms lane line c)
kind-whose kind.Shutdown terms lane line c = ([], inl tt)
kind-whose kind.Finish terms lane line c = ([], inl tt)
kind-whose kind.Halt terms lane line c = ([], inl tt)
kind-whose _ terms lane line c = none-there line c

-- If a step queues a line, the bus shuts down, or the lane has a tool.
pub line-whose : (label : Label) (lane : Lane) (line : Out) → Contains (puts label lane) line → (tool : List ℕ) × IsFor tool label lane
line-whose label lane line c = kind-whose label.kind label.terms lane line c
