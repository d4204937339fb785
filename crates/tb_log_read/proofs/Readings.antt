-- Reading finds the only term of the bytes, if they have a term within the limits.
use Rattle.std.proofs.Common.{◌≡◌, ℕ, List, Some, None, refl, ap, inl, inr}
use Rattle.tb_terms.specs.Sizes.{IsWithinLimits}
use Rattle.tb_terms.specs.declared.term.Term.{Term}
use Rattle.tb_read.specs.declared.fault.TermFault.{TermFault}
use Rattle.tb_read.specs.declared.fault.TermFault.TheVariants as fault
use Rattle.tb_read.specs.Spelling.{Reads}
use Rattle.tb_read.specs.Reading.{HasFault}
use Rattle.tb_read.proofs.Complete.{reads_one}
use Rattle.tb_read.proofs.Outcomes.{no_fault}
use Rattle.tb_read.proofs.Ended.{OneOf, has_one}
use Rattle.tb_log_read.specs.Helpers.Terms.{found_term, term_of}

found_reads : (bytes : List ℕ) (one : OneOf bytes) (t : Term) → Reads bytes t → IsWithinLimits t → found_term bytes one ≡ Some t
found_reads bytes (inl found) t r w = ap (λ (u : Term). Some u) (reads_one bytes found.0 t found.1 r)
found_reads bytes (inr fault) t r w = absurd (fault.2 (no_fault 65536 64 bytes t fault.0 r (w.size, w.levels) fault.1))

-- the term that is read
pub term_of-reads : (bytes : List ℕ) (t : Term) → Reads bytes t → IsWithinLimits t → term_of bytes ≡ Some t
unfolding term_of
term_of-reads bytes t r w = found_reads bytes (has_one bytes) t r w

found_fault : (bytes : List ℕ) (one : OneOf bytes) (f : TermFault) → HasFault bytes f → (f ≡ fault.NoMemory → ⊥) → found_term bytes one ≡ None
found_fault bytes (inl found) f h n = absurd (n (no_fault 65536 64 bytes found.0 f found.1 (found.2.size, found.2.levels) h))
found_fault bytes (inr fault) f h n = refl

-- no term if the bytes have an error
pub term_of-fault : (bytes : List ℕ) (f : TermFault) → HasFault bytes f → (f ≡ fault.NoMemory → ⊥) → term_of bytes ≡ None
unfolding term_of
term_of-fault bytes f h n = found_fault bytes (has_one bytes) f h n

found_is : (bytes : List ℕ) (one : OneOf bytes) (t : Term) → found_term bytes one ≡ Some t → Reads bytes t × IsWithinLimits t
found_is bytes (inl found) t e =
    let is : found.0 ≡ t = cc in
    rw (← is) (found.1, found.2)
found_is bytes (inr fault) t e = cc

-- the bytes parse as the term that is found, and it is within the limits
pub term_of-is : (bytes : List ℕ) (t : Term) → term_of bytes ≡ Some t → Reads bytes t × IsWithinLimits t
unfolding term_of
term_of-is bytes t e = found_is bytes (has_one bytes) t e
