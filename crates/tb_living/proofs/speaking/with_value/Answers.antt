use Rattle.std.proofs.Common.{◌∙◌, ◌++◌, ◌∷◌, [], List, Option, ap, sym, slice_set}
use Rattle.std.specs.Prelude.{option_to_list, pos}
use Rattle.tb_terms.specs.declared.term.Term.{Term}
use Rattle.tb_terms.specs.declared.term.Term.TheVariants.{Int}
use Rattle.tb_living.proofs.SpokenLemmas.{set-last}
use Rattle.tb_living.proofs.speaking.with_value.Goals as goal

pub returns-clause-shown : goal.returns-clause-shown
returns-clause-shown c =
    let terms : List Term = c.args.terms in
    c.set.ensures
    ∙ ap (λ (ts : List Term). slice_set ts c.len-last.result c.value.result) c.in_ok-push.ensures.ok
    ∙ ap (λ n. slice_set (terms ++ Int (pos 0) ∷ []) n c.value.result) c.len-last.ensures
    ∙ set-last terms (Int (pos 0)) c.value.result
    ∙ ap (λ (o : Option Term). terms ++ option_to_list o) (sym c.value.ensures.value)
