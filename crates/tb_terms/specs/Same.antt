-- Whether two values are equal: one test for every type, which compares their codes.
use Rattle.std.specs.Prelude.{Bool, true, false, ◌&&◌, ◌==◌, List}
use Rattle.std.specs.Coded.{Coded, coded_list}
use base.Stored.{Gv, gnil, gnum, gcons}
use Rattle.tb_terms.specs.declared.term.Term.{Term}
use Rattle.tb_terms.specs.contracts.term.Term as term

abbrev pub is_same_code : Gv → Gv → Bool
is_same_code gnil gnil = true
is_same_code gnil (gnum n) = false
is_same_code gnil (gcons c d) = false
is_same_code (gnum m) gnil = false
is_same_code (gnum m) (gnum n) = m == n
is_same_code (gnum m) (gcons c d) = false
is_same_code (gcons a b) gnil = false
is_same_code (gcons a b) (gnum n) = false
is_same_code (gcons a b) (gcons c d) = is_same_code a c && is_same_code b d

abbrev pub is_same : {A : Type 0} → Coded A → A → A → Bool
is_same coded x y = is_same_code (coded.code x) (coded.code y)

abbrev pub is_same_term : Term → Term → Bool
is_same_term = is_same term.the_row.coded

abbrev pub is_same_terms : List Term → List Term → Bool
is_same_terms = is_same (coded_list term.the_row.coded)
