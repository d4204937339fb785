-- A source has one outcome.
use Rattle.std.proofs.Common.{◌≡◌, ℕ, ◌≤◌, ◌<◌, ◌⊎◌, List, length, Some, None, Result, Ok, Err, refl, ap, subst, inl, inr, ⊎_elim, arith}
use Rattle.std.specs.Prelude.{IfOk, IfErr}
use Rattle.tb_terms.specs.Sizes.{term_size, term_levels, IsWithinLimits}
use Rattle.tb_terms.specs.declared.term.Term.{Term}
use Rattle.tb_read.specs.declared.fault.TermFault.{TermFault}
use Rattle.tb_read.specs.declared.fault.TermFault.TheVariants as fault
use Rattle.tb_read.specs.Tokens.{tokens_of}
use Rattle.tb_read.specs.Spelling.{Reads}
use Rattle.tb_read.specs.Scanning.{start}
use Rattle.tb_read.specs.Reading.{StopsAt, IsWithin, HasFaultWithin}
use Rattle.tb_read.proofs.Lexed.{runs_same}
use Rattle.tb_read.proofs.Complete.{reads_scans, reads_one}

pub stops_no_term : (bytes : List ℕ) (f : TermFault) (t : Term) → StopsAt bytes f → Reads bytes t → ⊥
stops_no_term bytes f t s r =
    let same : None ≡ Some f = (runs_same (tokens_of t) s.0 start (length bytes) bytes None (Some f) (reads_scans bytes t r) s.1).1 in
    cc

stops_same : (bytes : List ℕ) (f g : TermFault) → StopsAt bytes f → StopsAt bytes g → f ≡ g
stops_same bytes f g s r =
    let same : Some f ≡ Some g = (runs_same s.0 r.0 start (length bytes) bytes (Some f) (Some g) s.1 r.1).1 in
    cc

-- the limit that a term exceeds
abbrev pub Passes : ℕ → ℕ → Term → TermFault → Type 0
Passes most deepest t fault.TooLarge = most < term_size t
Passes most deepest t fault.TooDeep = (term_size t ≤ most) × (deepest < term_levels t)
Passes most deepest t _ = ⊥

passes_same : (most deepest : ℕ) (t : Term) (f g : TermFault) → Passes most deepest t f → Passes most deepest t g → f ≡ g
passes_same most deepest t fault.TooLarge fault.TooLarge p q = refl
passes_same most deepest t fault.TooLarge fault.TooDeep p q = let over : most < term_size t = p in let under : term_size t ≤ most = q.0 in absurd (omega arith)
passes_same most deepest t fault.TooDeep fault.TooLarge p q = let over : most < term_size t = q in let under : term_size t ≤ most = p.0 in absurd (omega arith)
passes_same most deepest t fault.TooDeep fault.TooDeep p q = refl
passes_same most deepest t fault.TooLarge (fault.Syntax n) p q = absurd q
passes_same most deepest t fault.TooLarge (fault.Real n) p q = absurd q
passes_same most deepest t fault.TooLarge (fault.IntRange n) p q = absurd q
passes_same most deepest t fault.TooLarge fault.NoMemory p q = absurd q
passes_same most deepest t fault.TooDeep (fault.Syntax n) p q = absurd q
passes_same most deepest t fault.TooDeep (fault.Real n) p q = absurd q
passes_same most deepest t fault.TooDeep (fault.IntRange n) p q = absurd q
passes_same most deepest t fault.TooDeep fault.NoMemory p q = absurd q
passes_same most deepest t (fault.Syntax n) g p q = absurd p
passes_same most deepest t (fault.Real n) g p q = absurd p
passes_same most deepest t (fault.IntRange n) g p q = absurd p
passes_same most deepest t fault.NoMemory g p q = absurd p

-- the cause of an error
abbrev pub Cause : ℕ → ℕ → List ℕ → TermFault → Type 0
Cause most deepest bytes f = StopsAt bytes f ⊎ (((t : Term) × Reads bytes t × Passes most deepest t f) ⊎ (f ≡ fault.NoMemory))

pub cause : (most deepest : ℕ) (bytes : List ℕ) (f : TermFault) → HasFaultWithin most deepest bytes f → Cause most deepest bytes f
cause most deepest bytes (fault.Syntax n) h = inl h
cause most deepest bytes (fault.Real n) h = inl h
cause most deepest bytes (fault.IntRange n) h = inl h
cause most deepest bytes fault.TooLarge h = inr (inl (h.0, h.1, h.2))
cause most deepest bytes fault.TooDeep h = inr (inl (h.0, h.1, (h.2, h.3)))
cause most deepest bytes fault.NoMemory h = inr (inr refl)

same_by : (most deepest : ℕ) (bytes : List ℕ) (f g : TermFault) → Cause most deepest bytes f → Cause most deepest bytes g → (f ≡ fault.NoMemory → ⊥) → (g ≡ fault.NoMemory → ⊥) → f ≡ g
same_by most deepest bytes f g (inl s) (inl r) nf ng = stops_same bytes f g s r
same_by most deepest bytes f g (inl s) (inr (inl r)) nf ng = absurd (stops_no_term bytes f r.0 s r.1)
same_by most deepest bytes f g (inr (inl s)) (inl r) nf ng = absurd (stops_no_term bytes g s.0 r s.1)
same_by most deepest bytes f g (inr (inl s)) (inr (inl r)) nf ng =
    let is : s.0 ≡ r.0 = reads_one bytes s.0 r.0 s.1 r.1 in
    passes_same most deepest r.0 f g (subst (λ (t : Term). Passes most deepest t f) is s.2) r.2
same_by most deepest bytes f g (inr (inr e)) c nf ng = absurd (nf e)
same_by most deepest bytes f g (inl s) (inr (inr e)) nf ng = absurd (ng e)
same_by most deepest bytes f g (inr (inl s)) (inr (inr e)) nf ng = absurd (ng e)

pub fault_one : (most deepest : ℕ) (bytes : List ℕ) (f g : TermFault) → HasFaultWithin most deepest bytes f → HasFaultWithin most deepest bytes g → (f ≡ fault.NoMemory → ⊥) → (g ≡ fault.NoMemory → ⊥) → f ≡ g
fault_one most deepest bytes f g p q nf ng = same_by most deepest bytes f g (cause most deepest bytes f p) (cause most deepest bytes g q) nf ng

passes_not : (most deepest : ℕ) (t : Term) (f : TermFault) → Passes most deepest t f → IsWithin most deepest t → ⊥
passes_not most deepest t fault.TooLarge p w = let over : most < term_size t = p in let under : term_size t ≤ most = w.0 in omega arith
passes_not most deepest t fault.TooDeep p w = let over : deepest < term_levels t = p.1 in let under : term_levels t ≤ deepest = w.1 in omega arith
passes_not most deepest t (fault.Syntax n) p w = p
passes_not most deepest t (fault.Real n) p w = p
passes_not most deepest t (fault.IntRange n) p w = p
passes_not most deepest t fault.NoMemory p w = p

no_fault_by : (most deepest : ℕ) (bytes : List ℕ) (t : Term) (f : TermFault) → Reads bytes t → IsWithin most deepest t → Cause most deepest bytes f → f ≡ fault.NoMemory
no_fault_by most deepest bytes t f r w (inl s) = absurd (stops_no_term bytes f t s r)
no_fault_by most deepest bytes t f r w (inr (inl p)) =
    let is : p.0 ≡ t = reads_one bytes p.0 t p.1 r in
    absurd (passes_not most deepest t f (subst (λ (u : Term). Passes most deepest u f) is p.2) w)
no_fault_by most deepest bytes t f r w (inr (inr e)) = e

pub no_fault : (most deepest : ℕ) (bytes : List ℕ) (t : Term) (f : TermFault) → Reads bytes t → IsWithin most deepest t → HasFaultWithin most deepest bytes f → f ≡ fault.NoMemory
no_fault most deepest bytes t f r w h = no_fault_by most deepest bytes t f r w (cause most deepest bytes f h)

-- the result is the one term, or `NoMemory`
pub only_term : (most deepest : ℕ) (bytes : List ℕ) (result : Result Term TermFault) → IfOk result (λ t. Reads bytes t × IsWithin most deepest t) → IfErr result (HasFaultWithin most deepest bytes) → (t : Term) → Reads bytes t → IsWithin most deepest t → (result ≡ Ok t) ⊎ (result ≡ Err fault.NoMemory)
only_term most deepest bytes (Ok u) found fault t r w = inl (ap (λ (v : Term). Ok v) (reads_one bytes u t found.0 r))
only_term most deepest bytes (Err f) found fault t r w = inr (ap (λ (g : TermFault). Err g) (no_fault most deepest bytes t f r w fault))

fault_or_memory : (most deepest : ℕ) (bytes : List ℕ) (f g : TermFault) → HasFaultWithin most deepest bytes f → HasFaultWithin most deepest bytes g → (f ≡ fault.NoMemory → ⊥) → (g ≡ f) ⊎ (g ≡ fault.NoMemory)
fault_or_memory most deepest bytes f fault.NoMemory p q nf = inr refl
fault_or_memory most deepest bytes f (fault.Syntax n) p q nf = inl (fault_one most deepest bytes (fault.Syntax n) f q p (λ e. cc) nf)
fault_or_memory most deepest bytes f (fault.Real n) p q nf = inl (fault_one most deepest bytes (fault.Real n) f q p (λ e. cc) nf)
fault_or_memory most deepest bytes f (fault.IntRange n) p q nf = inl (fault_one most deepest bytes (fault.IntRange n) f q p (λ e. cc) nf)
fault_or_memory most deepest bytes f fault.TooLarge p q nf = inl (fault_one most deepest bytes fault.TooLarge f q p (λ e. cc) nf)
fault_or_memory most deepest bytes f fault.TooDeep p q nf = inl (fault_one most deepest bytes fault.TooDeep f q p (λ e. cc) nf)

abbrev refused : TermFault → Result Term TermFault
refused f = Err f

-- if the source has an error other than `NoMemory`, the result is this error or `NoMemory`
pub exact_fault : (most deepest : ℕ) (bytes : List ℕ) (result : Result Term TermFault) → IfOk result (λ t. Reads bytes t × IsWithin most deepest t) → IfErr result (HasFaultWithin most deepest bytes) → (f : TermFault) → HasFaultWithin most deepest bytes f → (f ≡ fault.NoMemory → ⊥) → (result ≡ Err f) ⊎ (result ≡ Err fault.NoMemory)
exact_fault most deepest bytes (Ok t) found fault f h nf = absurd (nf (no_fault most deepest bytes t f found.0 found.1 h))
exact_fault most deepest bytes (Err g) found fault f h nf = ⊎_elim (λ e. inl (ap refused e)) (λ e. inr (ap refused e)) (fault_or_memory most deepest bytes f g h fault nf)

-- a result within the default limits
pub within_limits : (bytes : List ℕ) (result : Result Term TermFault) → IfOk result (λ t. Reads bytes t × IsWithin 65536 64 t) → IfOk result (λ t. Reads bytes t × IsWithinLimits t)
within_limits bytes (Ok t) h = (h.0, record { size = h.1.0; levels = h.1.1 })
within_limits bytes (Err f) h = h
