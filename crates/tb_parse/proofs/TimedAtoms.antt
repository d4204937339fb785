-- An atom with its time conditions, of which only the built form is known.
use Rattle.std.proofs.Common.{◌≡◌, ℕ, List, sym, ap, ◌∙◌}
use Rattle.tb_syntax.specs.declared.proc.ActDef.{ActDef}
use Rattle.tb_syntax.specs.declared.proc.AtomDef.{AtomDef}
use Rattle.tb_syntax.specs.declared.proc.Proc.TheVariants as tree
use Rattle.tb_syntax.specs.declared.proc.TimeDef.{TimeDef}
use Rattle.tb_parse.specs.declared.built.Built.{Built}
use Rattle.tb_parse.specs.declared.built.Built.TheVariants.{Tree}
use Rattle.tb_parse.specs.Helpers.Parsing.{Outcome, Found, Stops, mapped, times, timed}
use Rattle.tb_parse.specs.Helpers.Heights.{built, as_built}
use Rattle.tb_parse.specs.Helpers.Reading.{Ahead, runs}
use Rattle.tb_parse.proofs.Trees.{built_atom}

module _ (room position : ℕ) (act : ActDef) (start : Ahead) where
  abbrev atom : List TimeDef → AtomDef
  atom found = record { act = act; times = found; token = position }

  abbrev step : Outcome (List TimeDef) → Outcome Built
  step o = mapped built (mapped (λ found. tree.Atom (atom found)) o)

  pub timed_stops : {at : ℕ} → runs (times room room) start ≡ Stops at → runs (as_built (timed room position act)) start ≡ Stops at
  unfolding timed
  timed_stops e = ap step e

  pub timed_found : {found : List TimeDef} {new : Ahead} {made : Built} → runs (times room room) start ≡ Found found new.at new.kinds
      → made ≡ Tree (tree.Atom (atom found)) 1 → runs (as_built (timed room position act)) start ≡ Found made new.at new.kinds
  unfolding timed
  timed_found {found} {new} e is_made = ap step e ∙ ap (λ (b : Built). Found b new.at new.kinds) (built_atom (atom found) ∙ sym is_made)
