use Rattle.std.proofs.Common.{◌≡◌, ◌∙◌, ◌+◌, ◌-◌, ℕ, ap, sym, take, drop, arith}
use Rattle.std.proofs.lemmas.List.{drop-map, take-map}
use Rattle.tb_terms.specs.declared.term.Term.TheVariants.{Int}
use Rattle.tb_log.specs.Seens.{number_terms, terms_seen}
use Rattle.tb_log.proofs.seen.SeenTerms.share.Goals as goal

pub returns-in-Numbers : goal.returns-in-Numbers
returns-in-Numbers c =
    let numbers = c.in-Numbers.numbers.now in
    let count : c.args.first + c.args.count - c.args.first ≡ c.args.count = omega arith in
    ap (λ (n : ℕ). number_terms (take n (drop c.args.first numbers))) count
    ∙ sym (take-map Int c.args.count (drop c.args.first numbers))
    ∙ ap (take c.args.count) (sym (drop-map Int c.args.first numbers))
    ∙ ap (λ s. take c.args.count (drop c.args.first (terms_seen s))) (sym c.in-Numbers.is)
