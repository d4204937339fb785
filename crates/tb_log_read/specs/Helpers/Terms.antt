-- The terms that bytes parse as. The value comes from the proof that each text has a term or an error.
use Rattle.std.specs.Prelude.{ℕ, List, [], ◌∷◌, ◌++◌, Option, Some, None}
use Rattle.std.proofs.Common.{inl, inr}
use Rattle.tb_terms.specs.declared.term.Term.{Term}
use Rattle.tb_read.proofs.Ended.{OneOf, has_one}
use Rattle.tb_log_read.specs.Helpers.Parts.{parts}

-- the term that was found, if one was
abbrev pub found_term : (bytes : List ℕ) → OneOf bytes → Option Term
found_term bytes (inl found) = Some found.0
found_term bytes (inr fault) = None

-- the term that the bytes parse as, if there is one within the limits
unfoldable pub term_of : List ℕ → Option Term
term_of bytes = found_term bytes (has_one bytes)

-- these terms, before the others, if there are others
abbrev pub with_prefix : List Term → Option (List Term) → Option (List Term)
with_prefix prefix None = None
with_prefix prefix (Some terms) = Some (prefix ++ terms)

-- the first term and the others, if all of them exist
abbrev pub with_first : Option Term → Option (List Term) → Option (List Term)
with_first None terms = None
with_first (Some term) terms = with_prefix (term ∷ []) terms

-- the terms of all parts, if each part is a term
abbrev pub all_terms : List (List ℕ) → Option (List Term)
all_terms [] = Some []
all_terms (part ∷ parts) = with_first (term_of part) (all_terms parts)

-- the terms of bytes that are split on commas, if each part is a term
abbrev pub terms_of : List ℕ → Option (List Term)
terms_of bytes = all_terms (parts bytes)

-- the terms of a step: none if there are no bytes
abbrev pub label_terms : List ℕ → Option (List Term)
label_terms [] = Some []
label_terms (byte ∷ bytes) = terms_of (byte ∷ bytes)
