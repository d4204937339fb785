-- Tools keep their numbers, and a new one has the next.
use Rattle.std.proofs.Common.{◌≡◌, ◌⊎◌, inl, inr, pos, negsuc, ℕ, zero, suc, ◌+◌, ◌-◌, ◌<◌, ◌≤◌, Bool, true, false, if◌then◌else◌, List, [], ◌∷◌, ◌++◌, length, get_or, map, replicate, option_map, Option, Some, None, refl, ap, sym, ◌∙◌, arith, rules}
use Rattle.std.proofs.Math.ListN.{get_or-map}
use Rattle.tb_terms.specs.declared.term.Term.{Term, out-Term, the_lemmas}
use Rattle.tb_terms.specs.declared.term.Term.TheOpen.{Term-F}
use Rattle.tb_terms.specs.declared.term.Term.TheOpen as term
use Rattle.tb_log.specs.declared.entry.ToolLine.{ToolLine}
use Rattle.tb_log.specs.declared.entry.ToolLine.TheVariants.{Value, Event, Connect, Disconnect, Bad}
use Rattle.tb_log.specs.declared.entry.Reply.TheVariants.{Took, Dropped}
use Rattle.tb_log.specs.declared.entry.Why.{Why}
use Rattle.tb_log.specs.declared.entry.Why.TheVariants as why
use Rattle.tb_tools.specs.declared.stage.Stage.{Stage}
use Rattle.tb_tools.specs.declared.stage.Stage.TheVariants as stage
use Rattle.tb_tools.specs.declared.stage.Eval.TheVariants as eval
use Rattle.tb_log.specs.Shapes.{IsLane}
use Rattle.tb_tools.specs.Lanes.{Tool, Lane, BenchState, unused, started, is_open, term_of, new_tool, opening, lane_at, tool_at, on_lane, on_tool, with_tool, with_next_tool}
use Rattle.tb_tools.specs.Inputs.{Answer, departed, departed_by, closed, lost, while_up, answered, with_event, with_line, line_by, dropped, put_line}
use Rattle.tb_tools.specs.Acts.{with_acknowledged, with_acknowledged_of, dismissed, ended_with, gone_down, last_line}
use Rattle.tb_tools.specs.Numbers.{IsNumbered, KeepsNumbers}
use Rattle.tb_tools.proofs.Staying.{with_lane-or}

-- this tool was there before, with the same number
abbrev WasThere : Option Tool → Tool → Type 0
WasThere before tool = (old : Tool) × (before ≡ Some old) × (old.number ≡ tool.number)

-- each tool was there before, on the same lane
abbrev HasOrigins : BenchState → BenchState → Type 0
HasOrigins before after = (lane : ℕ) (tool : Tool) → tool_at lane after ≡ Some tool → WasThere (tool_at lane before) tool

numbered-from : (before after : BenchState) → HasOrigins before after → after.next_tool ≡ before.next_tool → IsNumbered before → IsNumbered after
numbered-from before after origins next h = record {
  first = omega (arith, h.first);
  given = λ lane tool is.
      let o = origins lane tool is in
      let g = h.given lane o.0 o.1 in
      (omega (arith, g.0, o.2), omega (arith, g.1, o.2));
  once = λ lane other tool another l m is isn same.
      let o = origins lane tool is in
      let p = origins other another isn in
      h.once lane other o.0 p.0 l m o.1 p.1 (o.2 ∙ same ∙ sym p.2);
}

-- a change of a lane gives it no tool that it hadn't
abbrev KeepsTool : (Lane → Lane) → Type 0
KeepsTool change = (lane : Lane) (tool : Tool) → (change lane).tool ≡ Some tool → WasThere lane.tool tool

-- the tool of one of two lanes that are the same
tool-along : (xs : List Lane) (i k : ℕ) (tool : Tool) → k ≡ i → WasThere (get_or xs i unused).tool tool → WasThere (get_or xs k unused).tool tool
tool-along xs i k tool e w = (w.0, ap (λ (n : ℕ). (get_or xs n unused).tool) e ∙ w.1, w.2)

on_lane-origins : (change : Lane → Lane) (lane : ℕ) (bench : BenchState) → KeepsTool change → HasOrigins bench (on_lane change lane bench)
on_lane-origins change lane bench keeps other tool is =
    elim (with_lane-or lane other (change (lane_at lane bench)) bench) [
      | inl e ↦ (tool, sym (ap (λ (x : Lane). x.tool) e) ∙ is, refl)
      | inr h ↦ tool-along bench.lanes (lane - 1) (other - 1) tool h.1 (keeps (lane_at lane bench) tool (sym (ap (λ (x : Lane). x.tool) h.0) ∙ is))
    ]

pub on_lane-numbered : (change : Lane → Lane) → KeepsTool change → (lane : ℕ) → KeepsNumbers (on_lane change lane)
on_lane-numbered change keeps lane bench h = numbered-from bench (on_lane change lane bench) (on_lane-origins change lane bench keeps) refl h

-- what changes a tool and not its number
pub on_tool-keeps : (change : Tool → Tool) → ((tool : Tool) → (change tool).number ≡ tool.number) → KeepsTool (on_tool change)
on_tool-keeps change same lane tool is = by lane.tool is
  where
    by : (before : Option Tool) → option_map change before ≡ Some tool → WasThere before tool
    by None e = cc
    by (Some old) e = let made : change old ≡ tool = cc in (old, refl, sym (same old) ∙ ap (λ (x : Tool). x.number) made)

pub same-keeps : (change : Lane → Lane) → ((lane : Lane) → (change lane).tool ≡ lane.tool) → KeepsTool change
same-keeps change same lane tool is = (tool, sym (same lane) ∙ is, refl)

pub without_tool-keeps : (change : Lane → Lane) → ((lane : Lane) → (change lane).tool ≡ None) → KeepsTool change
without_tool-keeps change none lane tool is =
    let e : ◌≡◌ {A = Option Tool} None (Some tool) = sym (none lane) ∙ is in
    cc

departed-there : (before : Option Tool) (tool : Tool) → departed before ≡ Some tool → WasThere before tool
departed-there None tool e = cc
departed-there (Some old) tool e = by old.stage e
  where
    by : (stage : Stage) → departed_by old stage ≡ Some tool → WasThere (Some old) tool
    by stage.Waiting e = cc
    by stage.Live e = let made : record old { stage = stage.Leaving } ≡ tool = cc in (old, refl, ap (λ (x : Tool). x.number) made)
    by stage.Leaving e = let made : old ≡ tool = cc in (old, refl, ap (λ (x : Tool). x.number) made)

pub closed-keeps : KeepsTool closed
closed-keeps lane tool is = departed-there lane.tool tool is

pub lost-keeps : KeepsTool lost
lost-keeps lane tool is = departed-there lane.tool tool is

pub acknowledged-keeps : (place : ℕ) → KeepsTool (with_acknowledged place)
acknowledged-keeps place lane tool is = by lane.tool is refl
  where
    by : (before : Option Tool) → (with_acknowledged_of place lane before).tool ≡ Some tool → lane.tool ≡ before → WasThere before tool
    by None e f = (tool, sym f ∙ e, refl)
    by (Some old) e f = let made = some-same _ tool e in (old, refl, ap (λ (x : Tool). x.number) made)
      where
        some-same : (a b : Tool) → Some a ≡ Some b → a ≡ b
        some-same a b e = cc

-- a lane gets a tool with the next number
pub new-numbered : (change : Lane → Lane) (name : List ℕ) (stage : Stage) (lane : ℕ) (bench : BenchState)
    → ((old : Lane) → (change old).tool ≡ Some (new_tool name bench.next_tool stage)) → IsNumbered bench → IsNumbered (with_next_tool (on_lane change lane bench))
new-numbered change name stage lane bench new h = record {
  first = omega (arith, h.first);
  given = λ other tool is. given other tool (origin other tool is);
  once = λ other third tool another l m is isn same. once other third tool another l m (origin other tool is) (origin third another isn) same;
}
  where
    -- a tool was there before, or it is the new one
    Origin : ℕ → Tool → Type 0
    Origin other tool = (tool_at other bench ≡ Some tool) ⊎ ((tool.number ≡ bench.next_tool) × (other - 1 ≡ lane - 1))

    some-same : (a b : Tool) → Some a ≡ Some b → a ≡ b
    some-same a b e = cc

    origin : (other : ℕ) (tool : Tool) → tool_at other (on_lane change lane bench) ≡ Some tool → Origin other tool
    origin other tool is =
        elim (with_lane-or lane other (change (lane_at lane bench)) bench) [
          | inl e ↦ inl (sym (ap (λ (x : Lane). x.tool) e) ∙ is)
          | inr h ↦ inr (sym (ap (λ (x : Tool). x.number) (some-same _ tool (sym (new (lane_at lane bench)) ∙ sym (ap (λ (x : Lane). x.tool) h.0) ∙ is))), h.1)
        ]

    given : (other : ℕ) (tool : Tool) → Origin other tool → (1 ≤ tool.number) × (tool.number < bench.next_tool + 1)
    given other tool (inl e) = let g = h.given other tool e in (g.0, omega (arith, g.1))
    given other tool (inr e) = (omega (arith, h.first, e.0), omega (arith, e.0))

    once : (other third : ℕ) (tool another : Tool) → IsLane other → IsLane third → Origin other tool → Origin third another → tool.number ≡ another.number → other ≡ third
    once other third tool another l m (inl e) (inl f) same = h.once other third tool another l m e f same
    once other third tool another l m (inl e) (inr f) same = let g = h.given other tool e in absurd (omega (arith, g.1, f.0))
    once other third tool another l m (inr e) (inl f) same = let g = h.given third another f in absurd (omega (arith, g.1, e.0))
    once other third tool another l m (inr e) (inr f) same = omega (arith, l.0, m.0, e.1, f.1)

none-unused : (n k : ℕ) → (get_or (replicate n unused) k unused).tool ≡ None
none-unused zero k = refl
none-unused (suc n) zero = refl
none-unused (suc n) (suc k) = none-unused n k

none-opening : (commands : List (List ℕ)) (n k : ℕ) → (get_or (map (λ command. started command unused) commands ++ replicate n unused) k unused).tool ≡ None
none-opening [] n k = none-unused n k
none-opening (command ∷ commands) n zero = refl
none-opening (command ∷ commands) n (suc k) = none-opening commands n k

pub opening-numbered : (commands : List (List ℕ)) → IsNumbered (opening commands)
opening-numbered commands = record {
  first = omega arith;
  given = λ lane tool is. absurd (without lane tool is);
  once = λ lane other tool another l m is isn same. absurd (without lane tool is);
}
  where
    without : (lane : ℕ) (tool : Tool) → tool_at lane (opening commands) ≡ Some tool → ⊥
    without lane tool is =
        let e : ◌≡◌ {A = Option Tool} None (Some tool) = sym (none-opening commands (16 - length commands) (lane - 1)) ∙ is in
        cc

pub down-numbered : (reason : Term) → KeepsNumbers (gone_down reason)
down-numbered reason bench h = numbered-from bench (gone_down reason bench) origins refl h
  where
    same : (lane : Lane) → (dismissed (last_line reason) lane).tool ≡ lane.tool
    same lane = elim (is_open lane) as (λ b. (if b then ended_with (last_line reason) lane else lane).tool ≡ lane.tool) [ true ↦ refl | false ↦ refl ]

    origins : HasOrigins bench (gone_down reason bench)
    origins lane tool is =
        let at = get_or-map (dismissed (last_line reason)) bench.lanes (lane - 1) unused in
        (tool, sym (same (lane_at lane bench)) ∙ sym (ap (λ (x : Lane). x.tool) at) ∙ is, refl)

pub while_up-numbered : (change : Lane → Lane) → KeepsTool change → (lane : ℕ) → KeepsNumbers (λ bench. (while_up change lane bench).bench)
while_up-numbered change keeps lane bench h =
    elim (lane_at lane bench).up as (λ b. IsNumbered ((if◌then◌else◌ {A = Answer} b (record { reply = Took; bench = on_lane change lane bench }) (record { reply = Dropped why.NotLive; bench = bench })).bench))
    [ true ↦ on_lane-numbered change keeps lane bench h | false ↦ h ]

with_line-numbered : (line : ToolLine) (lane : ℕ) → KeepsNumbers (with_line line lane)
with_line-numbered (Value value) lane = on_lane-numbered (answered value) (on_tool-keeps (λ tool. record tool { eval = eval.Answered value }) (λ tool. refl)) lane
with_line-numbered (Event terms) lane = on_lane-numbered (with_event terms) (on_tool-keeps (λ tool. record tool { events = tool.events ++ terms ∷ [] }) (λ tool. refl)) lane
with_line-numbered (Connect name) lane = λ bench. new-numbered (with_tool (new_tool name bench.next_tool stage.Waiting)) name stage.Waiting lane bench (λ old. refl)
with_line-numbered Disconnect lane = on_lane-numbered closed closed-keeps lane
with_line-numbered Bad lane = λ bench h. h

pub put_line-numbered : (declared : Bool) (line : ToolLine) (lane : ℕ) → KeepsNumbers (λ bench. (put_line declared line lane bench).bench)
put_line-numbered declared line lane bench h = by (dropped declared line (lane_at lane bench))
  where
    by : (why : Option Why) → IsNumbered ((line_by why line lane bench).bench)
    by None = with_line-numbered line lane bench h
    by (Some why) = h

number_in : Term-F Term → ℕ
number_in (term.Int (pos n)) = n
number_in (term.Int (negsuc n)) = 0
number_in (term.Str bytes) = 0
number_in (term.Appl name parts) = 0
number_in (term.List parts) = 0

-- the number in the term of a tool
number_of : Term-F Term → ℕ
number_of (term.Int number) = 0
number_of (term.Str bytes) = 0
number_of (term.Appl name []) = 0
number_of (term.Appl name (part ∷ parts)) = number_in (out-Term part)
number_of (term.List parts) = 0

number_of-term : (tool : Tool) → number_of (out-Term (term_of tool)) ≡ tool.number
unfolding number_in number_of
number_of-term tool = search (rules, the_lemmas)

pub one-tool : (bench : BenchState) (lane other : ℕ) (tool another : Tool) → IsNumbered bench → IsLane lane → IsLane other
    → tool_at lane bench ≡ Some tool → tool_at other bench ≡ Some another → term_of tool ≡ term_of another → lane ≡ other
one-tool bench lane other tool another h l m is isn e =
    h.once lane other tool another l m is isn (sym (number_of-term tool) ∙ ap (λ (t : Term). number_of (out-Term t)) e ∙ number_of-term another)
