use Rattle.std.proofs.Common.{◌≡◌, drop}
use Rattle.std.specs.List.{list_all}
use Rattle.tb_terms.specs.Sorts.{term_test}
use Rattle.tb_terms.proofs.well_sorted.+sorts.Given as goal

-- the remaining terms decide
abbrev pub invariant-all_have_sort-loop-term : goal.invariant-all_have_sort-loop-term
invariant-all_have_sort-loop-term l =
    list_all (term_test l.sort) (drop l.term-index l.terms) ≡ list_all (term_test l.sort) l.terms
