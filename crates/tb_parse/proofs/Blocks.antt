-- Processes between words, of which only the built form is known.
use Rattle.std.proofs.Common.{◌≡◌, ℕ, ◌+◌, Bool, true, false, List, Some, None, codes, refl, sym, ap, ◌∙◌, if◌then◌else◌}
use Rattle.tb_syntax.specs.declared.ast.Ast.{Ast}
use Rattle.tb_syntax.specs.declared.proc.Proc.{Proc}
use Rattle.tb_syntax.specs.declared.proc.Proc.TheVariants as tree
use Rattle.tb_syntax.specs.declared.proc.Var.{Var}
use Rattle.tb_parse.specs.declared.built.Built.{Built}
use Rattle.tb_parse.specs.Helpers.Parsing.{Outcome, Found, Parser, after, mapped, begins, tail, skip, expect, is_word, parted, var, block, sides}
use Rattle.tb_parse.specs.Helpers.Heights.{built, as_built, both, one}
use Rattle.tb_parse.specs.Helpers.Reading.{Ahead, runs, next, eaten}
use Rattle.tb_parse.proofs.Skips.{came, got, skip_found, expect_found}
use Rattle.tb_parse.proofs.Trees.{seen, built_within, built_only, built_either}

pub block_found : (whole : Parser Proc) (room : ℕ) (start : Ahead) {vars : List Var} {a b d new : Ahead} {x made : Built}
    → runs (parted (var room) room) start ≡ Found vars a.at a.kinds → came (is_word (codes "in")) a ≡ got b
    → runs (as_built whole) b ≡ Found x d.at d.kinds → came (is_word (codes "endlet")) d ≡ got new
    → made ≡ one (tree.Let vars) x → runs (as_built (block whole room)) start ≡ Found made new.at new.kinds
unfolding block
block_found whole room start {vars} {a} {b} {d} {new} {x} {made} e f g h is_made =
    let one' = seen built (runs whole b) g in
    let last : Proc → Parser Proc = λ x. expect (is_word (codes "endlet")) (tree.Let vars x) in
    let inner : Parser Proc = λ at ks. after (whole at ks) last in
    let outer : List Var → Parser Proc = λ vars. skip (is_word (codes "in")) (λ at ks. after (whole at ks) (λ x. expect (is_word (codes "endlet")) (tree.Let vars x))) in
    ap (mapped built) (ap (λ (o : Outcome (List Var)). after o outer) e ∙ skip_found (is_word (codes "in")) inner a f
    ∙ ap (λ (o : Outcome Proc). after o last) one'.2 ∙ expect_found (is_word (codes "endlet")) (tree.Let vars one'.0) d h)
    ∙ ap (λ (b : Built). Found b new.at new.kinds) (built_within vars one'.0 ∙ ap (λ b. one (tree.Let vars) b) (sym one'.1) ∙ sym is_made)

module _ (whole : Parser Proc) (test : Ast) (p : Proc) (start : Ahead) where
  abbrev last : Proc → Parser Proc
  last y = expect (is_word (codes "fi")) (tree.If test p (Some y))

  abbrev step : Bool → Outcome Proc
  step more = if more then after (whole (start.at + 1) (tail start.kinds)) last else expect (is_word (codes "fi")) (tree.If test p None) start.at start.kinds

  goes : runs (sides whole test p) start ≡ step (begins (is_word (codes "else")) start.kinds)
  unfolding sides
  goes = refl

  pub side_found : {x made : Built} {more : Bool} {behind new : Ahead} → x ≡ built p → more ≡ begins (is_word (codes "else")) start.kinds → behind ≡ eaten (is_word (codes "else")) start
      → more ≡ false → came (is_word (codes "fi")) behind ≡ got new → made ≡ one (λ x. tree.If test x None) x
      → runs (as_built (sides whole test p)) start ≡ Found made new.at new.kinds
  side_found {x} {made} {more} {behind} {new} is_x e is_behind absent f is_made =
      let none = sym e ∙ absent in
      let same : start ≡ behind = sym (is_behind ∙ ap (λ b. if b then next start else start) none) in
      ap (mapped built) (goes ∙ ap step none ∙ ap (λ (r : Ahead). expect (is_word (codes "fi")) (tree.If test p None) r.at r.kinds) same
      ∙ expect_found (is_word (codes "fi")) (tree.If test p None) behind f)
      ∙ ap (λ (b : Built). Found b new.at new.kinds) (built_only test p ∙ ap (λ b. one (λ x. tree.If test x None) b) (sym is_x) ∙ sym is_made)

  pub sides_found : {x y made : Built} {more : Bool} {behind a new : Ahead} → x ≡ built p → more ≡ begins (is_word (codes "else")) start.kinds → behind ≡ eaten (is_word (codes "else")) start
      → more ≡ true → runs (as_built whole) behind ≡ Found y a.at a.kinds → came (is_word (codes "fi")) a ≡ got new
      → made ≡ both (λ x y. tree.If test x (Some y)) x y → runs (as_built (sides whole test p)) start ≡ Found made new.at new.kinds
  sides_found {x} {y} {made} {more} {behind} {a} {new} is_x e is_behind present f g is_made =
      let some = sym e ∙ present in
      let same : next start ≡ behind = sym (is_behind ∙ ap (λ b. if b then next start else start) some) in
      let second = seen built (runs whole behind) f in
      ap (mapped built) (goes ∙ ap step some ∙ ap (λ (r : Ahead). after (whole r.at r.kinds) last) same ∙ ap (λ (o : Outcome Proc). after o last) second.2
      ∙ expect_found (is_word (codes "fi")) (tree.If test p (Some second.0)) a g)
      ∙ ap (λ (b : Built). Found b new.at new.kinds) (built_either test p second.0 ∙ ap (λ b. both (λ x y. tree.If test x (Some y)) b (built second.0)) (sym is_x)
      ∙ ap (λ b. both (λ x y. tree.If test x (Some y)) x b) (sym second.1) ∙ sym is_made)
