-- The term that a slot is bound to, and how the binds of two parts are joined.
use Rattle.std.specs.Prelude.{◌≡◌, ℕ, ◌==◌, List, [], ◌∷◌, ◌++◌, Option, Some, None, option_and_then, if◌then◌else◌}
use Rattle.tb_terms.specs.declared.term.Term.{Term}
use Rattle.tb_terms.specs.Same.{is_same_term}
use Rattle.tb_match.specs.declared.bind.Bind.{Bind}

abbrev pub bound : ℕ → List Bind → Option Term
bound slot [] = None
bound slot (bind ∷ binds) = if bind.slot == slot then Some bind.value else bound slot binds

-- the binds with one more, given the term that its slot is bound to: the bind of a new slot is added at the end; a slot that occurs again
-- needs an equal term
abbrev pub agreed : List Bind → Bind → Option Term → Option (List Bind)
agreed binds bind None = Some (binds ++ bind ∷ [])
agreed binds bind (Some value) = if is_same_term value bind.value then Some binds else None

abbrev pub with_bind : List Bind → Bind → Option (List Bind)
with_bind binds bind = agreed binds bind (bound bind.slot binds)

-- the binds with further binds, added in order
abbrev pub joined : List Bind → List Bind → Option (List Bind)
joined binds [] = Some binds
joined binds (bind ∷ more) = option_and_then (λ all. joined all more) (with_bind binds bind)

-- the binds before a part, with the binds of the part
abbrev pub with_prefix : List Bind → Option (List Bind) → Option (List Bind)
with_prefix prefix found = option_and_then (joined prefix) found

-- both parts match, and their binds are joined
abbrev pub both : Option (List Bind) → Option (List Bind) → Option (List Bind)
both first second = option_and_then (λ prefix. with_prefix prefix second) first

-- each slot is bound at most once
abbrev pub IsBoundOnce : List Bind → Type 0
IsBoundOnce [] = Unit {0}
IsBoundOnce (bind ∷ binds) = (bound bind.slot binds ≡ None) × IsBoundOnce binds
