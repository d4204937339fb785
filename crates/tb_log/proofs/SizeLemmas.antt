-- The size of terms and of entries, and consequences of capacity for one more entry.
use Rattle.std.proofs.Common.{◌≡◌, ◌≤◌, ℕ, ◌+◌, List, [], ◌∷◌, ◌++◌, length, map, sum, min, true, nat_le, ap, sym, subst, ◌∙◌, arith}
use Rattle.std.proofs.lemmas.Bool.{and_parts, leb-true}
use Rattle.std.proofs.lemmas.List.{map_push}
use Rattle.std.proofs.lemmas.List.Sums.{sum_by-cons, sum_by_push}
use Rattle.std.proofs.Math.Nat.{min-eq_left}
use Rattle.tb_terms.specs.declared.term.Term.{Term, Term-F, map-Term, fold_out-Term, out-Term}
use Rattle.tb_terms.specs.declared.term.Term.TheOpen as layer
use Rattle.tb_terms.specs.Sizes.{size_step, term_size}
use Rattle.tb_log.specs.declared.entry.Entry.{Entry}
use Rattle.tb_log.specs.Limits.{entry_size, has_room, log_size, most_size, terms_size}

step_sized : (w : Term-F ℕ) → 1 ≤ size_step w
step_sized (layer.Int number) = omega arith
step_sized (layer.Str bytes) = omega arith
step_sized (layer.Appl name parts) = omega arith
step_sized (layer.List parts) = omega arith

term_sized : (term : Term) → 1 ≤ term_size term
term_sized term = subst (λ (n : ℕ). 1 ≤ n) (sym (fold_out-Term ℕ size_step term)) (step_sized (map-Term Term ℕ term_size (out-Term term)))

-- the number of terms is at most their total size
pub terms_sized : (terms : List Term) → length terms ≤ terms_size terms
terms_sized [] = omega arith
terms_sized (term ∷ terms) =
    let one = term_sized term in
    let rest = terms_sized terms in
    let both : terms_size (term ∷ terms) ≡ term_size term + terms_size terms = sum_by-cons (λ (n : ℕ). n) (term_size term) (map term_size terms) in
    omega (arith, one, rest, both)

-- one more entry adds its size to the size of the log
pub log_sized : (entries : List Entry) (entry : Entry) → log_size (entries ++ entry ∷ []) ≡ log_size entries + entry_size entry
log_sized entries entry = ap sum (map_push entry_size entries entry) ∙ sum_by_push (λ (n : ℕ). n) (map entry_size entries) (entry_size entry)

-- with capacity for an entry, the log has fewer entries than its limit, and its size with the entry is at most the greatest size
pub room_parts : (limit : ℕ) (entries : List Entry) (entry : Entry) → has_room limit entries entry ≡ true → (length entries + 1 ≤ limit) × (log_size entries + entry_size entry ≤ most_size)
room_parts limit entries entry room =
    let both = and_parts (nat_le (length entries + 1) limit) (nat_le (log_size entries + entry_size entry) most_size) room in
    (leb-true (length entries + 1) limit both.0, leb-true (log_size entries + entry_size entry) most_size both.1)

-- if the log has capacity for an entry, the measured size is the size of the entry: it isn't cut off at the greatest number of the
-- type
pub measured : (limit : ℕ) (entries : List Entry) (entry : Entry) (size : ℕ) → has_room limit entries entry ≡ true → size ≡ min (entry_size entry) 18446744073709551615 → size ≡ entry_size entry
measured limit entries entry size room is =
    let parts = room_parts limit entries entry room in
    is ∙ min-eq_left (omega (arith, parts.1))
