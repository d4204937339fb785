-- The lines of the calculator in examples, computed from the definitions alone.
use Rattle.std.proofs.Common.{◌≡◌, List, [], ◌∷◌, codes, rules}
use Rattle.tb_terms.specs.declared.expr.Expr.{Expr, the_lemmas as expr_lemmas}
use Rattle.tb_terms.specs.declared.expr.Expr.TheVariants as expr
use Rattle.tb_terms.specs.declared.term.Term.{the_lemmas as term_lemmas}
use Rattle.tb_terms.specs.declared.term.Term.TheVariants as term
use Rattle.tb_terms.specs.declared.pattern.Pattern.{Pattern, the_lemmas as pattern_lemmas}
use Rattle.tb_terms.specs.declared.pattern.Pattern.TheVariants as pattern
use Rattle.tb_terms.specs.declared.sort.Sort.{Sort, the_lemmas as sort_lemmas}
use Rattle.tb_terms.specs.declared.sort.Sort.TheVariants as sort
use Rattle.tb_body.specs.declared.act.Act.TheVariants as act
use Rattle.tb_iface.specs.Interfaces.{hears, line, tells}
use Rattle.tb_iface.specs.PatternTexts.{pattern_text}

-- let T : calc, E : term, V : term
abbrev sorts : List Sort
sorts = sort.Tool (codes "calc") ∷ sort.Any ∷ sort.Any ∷ []

abbrev tool : Expr
tool = expr.Var 0

abbrev any : Pattern
any = pattern.Hole sort.Any

-- snd-eval(T, E)
eval-line : tells (codes "calc") sorts (act.SndEval tool (expr.Var 1)) ≡ line (codes "rec-eval") (any ∷ [])
eval-line = search (rules, expr_lemmas, pattern_lemmas, sort_lemmas)

-- snd-ack-event(T, button(E))
ack-line : tells (codes "calc") sorts (act.SndAckEvent tool (expr.Appl (codes "button") (expr.Var 1 ∷ []) ∷ [])) ≡ line (codes "rec-ack-event") (pattern.Appl (codes "button") (any ∷ []) ∷ [])
ack-line = search (rules, expr_lemmas, pattern_lemmas, sort_lemmas)

-- snd-terminate(T, "bye")
bye-line : tells (codes "calc") sorts (act.SndTerminate tool (expr.Str (codes "bye"))) ≡ line (codes "rec-terminate") (pattern.Fixed (term.Str (codes "bye")) ∷ [])
bye-line = search (rules, expr_lemmas, pattern_lemmas, sort_lemmas)

-- another tool doesn't receive it
no-line : tells (codes "ed") sorts (act.SndTerminate tool (expr.Str (codes "bye"))) ≡ []
no-line = search (rules, expr_lemmas, pattern_lemmas, sort_lemmas)

-- rec-event(T, button(E?))
button-line : hears [] (codes "calc") sorts (act.RecEvent tool (expr.Appl (codes "button") (expr.Result 1 ∷ []) ∷ [])) ≡ line (codes "snd-event") (pattern.Appl (codes "button") (any ∷ []) ∷ [])
button-line = search (rules, expr_lemmas, pattern_lemmas, sort_lemmas)

-- rec-value(T, V?)
value-line : hears [] (codes "calc") sorts (act.RecValue tool (expr.Result 2)) ≡ line (codes "snd-value") (any ∷ [])
value-line = search (rules, expr_lemmas, pattern_lemmas, sort_lemmas)

-- their texts

button-text : pattern_text (pattern.Appl (codes "snd-event") (pattern.Appl (codes "button") (any ∷ []) ∷ [])) ≡ codes "snd-event(button(<term>))"
button-text = search (rules, pattern_lemmas, sort_lemmas)

bye-text : pattern_text (pattern.Appl (codes "rec-terminate") (pattern.Fixed (term.Str (codes "bye")) ∷ [])) ≡ codes "rec-terminate(\"bye\")"
bye-text = search (rules, pattern_lemmas, term_lemmas)

list-text : pattern_text (pattern.Hole (sort.List (sort.List sort.Any))) ≡ codes "<list(list)>"
list-text = search (rules, pattern_lemmas, sort_lemmas)
