-- A parameter, which can be a result parameter.
use Rattle.std.proofs.Common.{◌≡◌, ℕ, ◌+◌, Bool, true, false, refl, sym, ap, ◌∙◌, if◌then◌else◌}
use Rattle.tb_lex.specs.declared.symbol.Symbol.TheVariants.{Question}
use Rattle.tb_syntax.specs.declared.proc.Var.{Var}
use Rattle.tb_syntax.specs.declared.script.Formal.{Formal}
use Rattle.tb_parse.specs.Helpers.Parsing.{Outcome, Found, Stops, after, begins, tail, is_sign, var, formal}
use Rattle.tb_parse.specs.Helpers.Reading.{Ahead, runs, next, eaten}

abbrev pub formal_of : Var → Bool → Formal
formal_of v result = record { name = v.name; sort = v.sort; result = result; token = v.token; sort_token = v.sort_token }

module _ (room : ℕ) (start : Ahead) where
  abbrev step : Var → Bool → Ahead → Outcome Formal
  step v more a = if more then Found (formal_of v true) (a.at + 1) (tail a.kinds) else Found (formal_of v false) a.at a.kinds

  abbrev behind_var : Outcome Var → Outcome Formal
  behind_var o = after o (λ v at ks. step v (begins (is_sign Question) ks) (record { at = at; kinds = ks }))

  same : runs (formal room) start ≡ behind_var (runs (var room) start)
  unfolding formal
  same = refl

  one : (v : Var) (more : Bool) (a : Ahead) → let b : Ahead = if more then next a else a in step v more a ≡ Found (formal_of v more) b.at b.kinds
  one v true a = refl
  one v false a = refl

  pub formal_stops : {position : ℕ} → runs (var room) start ≡ Stops position → runs (formal room) start ≡ Stops position
  formal_stops e = same ∙ ap behind_var e

  pub formal_found : {v : Var} {a behind : Ahead} {more : Bool} → runs (var room) start ≡ Found v a.at a.kinds → more ≡ begins (is_sign Question) a.kinds
      → behind ≡ eaten (is_sign Question) a → runs (formal room) start ≡ Found (formal_of v more) behind.at behind.kinds
  formal_found {v} {a} {behind} {more} e is_more is_behind =
      same ∙ ap behind_var e ∙ one v (begins (is_sign Question) a.kinds) a
      ∙ ap (λ (b : Ahead). Found (formal_of v (begins (is_sign Question) a.kinds)) b.at b.kinds) (sym is_behind)
      ∙ ap (λ marked. Found (formal_of v marked) behind.at behind.kinds) (sym is_more)
