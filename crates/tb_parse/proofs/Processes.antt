-- The definition of a process, of whose body only the built form is known.
use Rattle.std.proofs.Common.{◌≡◌, ℕ, List, codes, sym, ap, ◌∙◌}
use Rattle.tb_syntax.specs.declared.proc.Proc.{Proc}
use Rattle.tb_syntax.specs.declared.script.Formal.{Formal}
use Rattle.tb_syntax.specs.declared.script.ProcDef.{ProcDef}
use Rattle.tb_parse.specs.declared.built.Built.{Built}
use Rattle.tb_parse.specs.declared.kept.Made.{Made}
use Rattle.tb_parse.specs.Helpers.Heights.{built, as_built}
use Rattle.tb_parse.specs.Helpers.Parsing.{Outcome, Found, Stops, Parser, after, mapped, skip, is_word, upper, in_parens, formal, proc, process}
use Rattle.tb_parse.specs.Helpers.Defining.{made_of, process_made}
use Rattle.tb_parse.specs.Helpers.Reading.{Ahead, runs}
use Rattle.tb_parse.proofs.Skips.{came, got, skip_found, skip_stops}
use Rattle.tb_parse.proofs.Trees.{seen, unseen}

module _ (room position : ℕ) (start : Ahead) where
  abbrev definition : List ℕ → List Formal → Proc → ProcDef
  definition name formals body = record { name = name; formals = formals; body = body; token = position }

  abbrev from_body : List ℕ → List Formal → Parser ProcDef
  from_body name formals at ks = mapped (λ body. definition name formals body) (proc room at ks)

  abbrev from_is : List ℕ → List Formal → Parser ProcDef
  from_is name formals = skip (is_word (codes "is")) (from_body name formals)

  abbrev from_formals : List ℕ → Parser ProcDef
  from_formals name at ks = after (in_parens (formal room) room at ks) (from_is name)

  named : {name : List ℕ} {a : Ahead} → runs upper start ≡ Found name a.at a.kinds → runs (process room position) start ≡ runs (from_formals name) a
  unfolding process
  named e = ap (λ (o : Outcome (List ℕ)). after o from_formals) e

  pub process_unnamed : {p : ℕ} → runs upper start ≡ Stops p → runs (process_made room position) start ≡ Stops p
  unfolding process
  process_unnamed e = ap (λ (o : Outcome (List ℕ)). mapped made_of (after o from_formals)) e

  pub process_no_formals : {name : List ℕ} {a : Ahead} {p : ℕ} → runs upper start ≡ Found name a.at a.kinds → runs (in_parens (formal room) room) a ≡ Stops p → runs (process_made room position) start ≡ Stops p
  process_no_formals {name} e f = ap (mapped made_of) (named e ∙ ap (λ (o : Outcome (List Formal)). after o (from_is name)) f)

  with_formals : {name : List ℕ} {formals : List Formal} {a b : Ahead} → runs upper start ≡ Found name a.at a.kinds
      → runs (in_parens (formal room) room) a ≡ Found formals b.at b.kinds → runs (process room position) start ≡ runs (from_is name formals) b
  with_formals {name} e f = named e ∙ ap (λ (o : Outcome (List Formal)). after o (from_is name)) f

  pub process_no_is : {name : List ℕ} {formals : List Formal} {a b : Ahead} {p : ℕ} → runs upper start ≡ Found name a.at a.kinds
      → runs (in_parens (formal room) room) a ≡ Found formals b.at b.kinds → came (is_word (codes "is")) b ≡ Stops p → runs (process_made room position) start ≡ Stops p
  process_no_is {name} {formals} {a} {b} e f g = ap (mapped made_of) (with_formals e f ∙ skip_stops (is_word (codes "is")) (from_body name formals) b g)

  bodied : {name : List ℕ} {formals : List Formal} {a b d : Ahead} → runs upper start ≡ Found name a.at a.kinds
      → runs (in_parens (formal room) room) a ≡ Found formals b.at b.kinds → came (is_word (codes "is")) b ≡ got d
      → runs (process room position) start ≡ runs (from_body name formals) d
  bodied {name} {formals} {a} {b} e f g = with_formals e f ∙ skip_found (is_word (codes "is")) (from_body name formals) b g

  pub process_no_body : {name : List ℕ} {formals : List Formal} {a b d : Ahead} {p : ℕ} → runs upper start ≡ Found name a.at a.kinds
      → runs (in_parens (formal room) room) a ≡ Found formals b.at b.kinds → came (is_word (codes "is")) b ≡ got d
      → runs (as_built (proc room)) d ≡ Stops p → runs (process_made room position) start ≡ Stops p
  process_no_body {name} {formals} {a} {b} {d} e f g h =
      ap (mapped made_of) (bodied e f g ∙ ap (mapped (λ body. definition name formals body)) (unseen built (runs (proc room) d) h))

  pub process_found : {name : List ℕ} {formals : List Formal} {a b d new : Ahead} {body : Built} {m : Made} → runs upper start ≡ Found name a.at a.kinds
      → runs (in_parens (formal room) room) a ≡ Found formals b.at b.kinds → came (is_word (codes "is")) b ≡ got d
      → runs (as_built (proc room)) d ≡ Found body new.at new.kinds → ((p : Proc) → body ≡ built p → m ≡ made_of (definition name formals p))
      → runs (process_made room position) start ≡ Found m new.at new.kinds
  process_found {name} {formals} {a} {b} {d} {new} e f g h is_made =
      let one = seen built (runs (proc room) d) h in
      ap (mapped made_of) (bodied e f g ∙ ap (mapped (λ body. definition name formals body)) one.2)
      ∙ ap (λ (m : Made). Found m new.at new.kinds) (sym (is_made one.0 one.1))
