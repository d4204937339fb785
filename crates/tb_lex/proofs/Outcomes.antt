-- The result of a scan is the one outcome of the source, or `NoMemory`.
use Rattle.std.proofs.Common.{◌≡◌, ℕ, ◌≤◌, ◌⊎◌, List, length, Result, Ok, Err, refl, ap, inl, inr, ⊎_elim}
use Rattle.std.specs.Prelude.{IfOk, IfErr}
use Rattle.tb_lex.specs.declared.token.Token.{Token}
use Rattle.tb_lex.specs.declared.fault.LexFault.{LexFault}
use Rattle.tb_lex.specs.declared.fault.LexFault.TheVariants as fault
use Rattle.tb_lex.specs.Tokens.{Lexes}
use Rattle.tb_lex.specs.Faults.{HasFault}
use Rattle.tb_lex.specs.Helpers.Answers.{HasScanned}
use Rattle.tb_lex.proofs.Runs.{lexes_one, scan_tokens, scan_fault, fault_one, no_fault}

abbrev Answer : Type 0
Answer = Result (List Token) LexFault

pub found_tokens : (bytes : List ℕ) (result : Answer) → HasScanned bytes result → IfOk result (λ tokens. Lexes bytes tokens × (length tokens ≤ 200000))
found_tokens bytes (Ok tokens) s = scan_tokens bytes tokens s
found_tokens bytes (Err f) s = tt

pub found_fault : (bytes : List ℕ) (result : Answer) → HasScanned bytes result → IfErr result (HasFault bytes)
found_fault bytes (Ok tokens) s = tt
found_fault bytes (Err fault.NoMemory) s = tt
found_fault bytes (Err fault.TooMany) s = (scan_fault bytes fault.TooMany s).0
found_fault bytes (Err (fault.BadByte at)) s = (scan_fault bytes (fault.BadByte at) s).0
found_fault bytes (Err (fault.OpenString at)) s = (scan_fault bytes (fault.OpenString at) s).0
found_fault bytes (Err (fault.Real at)) s = (scan_fault bytes (fault.Real at) s).0
found_fault bytes (Err (fault.IntRange at)) s = (scan_fault bytes (fault.IntRange at) s).0

pub only_tokens : (bytes : List ℕ) (result : Answer) → HasScanned bytes result → (tokens : List Token) → Lexes bytes tokens → length tokens ≤ 200000 → (result ≡ Ok tokens) ⊎ (result ≡ Err fault.NoMemory)
only_tokens bytes (Ok us) s tokens l c = inl (ap (λ (k : List Token). Ok k) (lexes_one bytes us tokens (scan_tokens bytes us s).0 l))
only_tokens bytes (Err f) s tokens l c = inr (ap (λ (g : LexFault). Err g) (no_fault bytes tokens f l c (found_fault bytes (Err f) s)))

fault_or_memory : (bytes : List ℕ) (f g : LexFault) → HasFault bytes f → HasFault bytes g → (f ≡ fault.NoMemory → ⊥) → (g ≡ f) ⊎ (g ≡ fault.NoMemory)
fault_or_memory bytes f fault.NoMemory p q n = inr refl
fault_or_memory bytes f fault.TooMany p q n = inl (fault_one bytes fault.TooMany f q p (λ e. cc) n)
fault_or_memory bytes f (fault.BadByte at) p q n = inl (fault_one bytes (fault.BadByte at) f q p (λ e. cc) n)
fault_or_memory bytes f (fault.OpenString at) p q n = inl (fault_one bytes (fault.OpenString at) f q p (λ e. cc) n)
fault_or_memory bytes f (fault.Real at) p q n = inl (fault_one bytes (fault.Real at) f q p (λ e. cc) n)
fault_or_memory bytes f (fault.IntRange at) p q n = inl (fault_one bytes (fault.IntRange at) f q p (λ e. cc) n)

abbrev refused : LexFault → Answer
refused f = Err f

pub exact_fault : (bytes : List ℕ) (result : Answer) → HasScanned bytes result → (f : LexFault) → HasFault bytes f → (f ≡ fault.NoMemory → ⊥) → (result ≡ Err f) ⊎ (result ≡ Err fault.NoMemory)
exact_fault bytes (Ok tokens) s f h n = let l = scan_tokens bytes tokens s in absurd (n (no_fault bytes tokens f l.0 l.1 h))
exact_fault bytes (Err g) s f h n = ⊎_elim (λ e. inl (ap refused e)) (λ e. inr (ap refused e)) (fault_or_memory bytes f g h (found_fault bytes (Err g) s) n)
