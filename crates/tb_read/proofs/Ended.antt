-- The scan of each source ends, so that the source is a term within the limits or has an error.
use Rattle.std.proofs.Common.{◌≡◌, ℕ, zero, suc, ◌+◌, ◌-◌, ◌≤◌, ◌<◌, ◌⊎◌, List, [], ◌∷◌, length, Option, Some, None, refl, ap, ◌∙◌, inl, inr, arith, length-append}
use Rattle.std.proofs.lemmas.Bool.{cases_lt}
use Rattle.tb_terms.specs.Sizes.{term_size, term_levels, IsWithinLimits}
use Rattle.tb_terms.specs.declared.term.Term.{Term}
use Rattle.tb_read.specs.declared.token.Token.{Token}
use Rattle.tb_read.specs.declared.fault.TermFault.{TermFault}
use Rattle.tb_read.specs.declared.fault.TermFault.TheVariants as fault
use Rattle.tb_read.specs.declared.shape.Shape.{Shape}
use Rattle.tb_read.specs.Spelling.{Reads}
use Rattle.tb_read.specs.Lexing.{skip_blanks, kind_of, token_of}
use Rattle.tb_read.specs.Scanning.{Next, Makes, Ends, allows, after, may_end, next_at, next_of, start, Runs, Scans}
use Rattle.tb_read.specs.Reading.{StopsAt, HasFault}
use Rattle.tb_read.proofs.Lexed.{token_sound, kind_begins, blanks, makes_by, not_makes}
use Rattle.tb_read.proofs.Complete.{begun}
use Rattle.tb_read.proofs.Wholes.{IsPositioned, runs_positioned, scanned}

taken : (s : Shape) (total : ℕ) (bytes : List ℕ) (k : Token) (rest : List ℕ) → next_at s total bytes ≡ Makes k rest → length rest < length bytes
taken s total [] k rest n = absurd (not_makes (may_end s.expect s.brackets) (fault.Syntax total) k rest n)
taken s total (b ∷ bytes) k rest n =
    let p = makes_by (allows s (kind_of b)) (token_of (kind_of b) total (b ∷ bytes)) (fault.Syntax (total - length (b ∷ bytes))) k rest n in
    let found = token_sound (kind_of b) total (b ∷ bytes) (k, rest) (kind_begins b bytes) p.1 in
    let first = begun k found.0 found.2 in
    let some : length found.0 ≡ suc (length first.1) = ap (λ (l : List ℕ). length l) first.2 in
    let all : length (b ∷ bytes) ≡ length found.0 + length rest = ap (λ (l : List ℕ). length l) found.1 ∙ length-append found.0 rest in
    omega arith

skipped : (bytes : List ℕ) → length (skip_blanks bytes) ≤ length bytes
skipped bytes =
    let p = blanks bytes in
    let all : length bytes ≡ length p.0 + length (skip_blanks bytes) = ap (λ (l : List ℕ). length l) p.1 ∙ length-append p.0 (skip_blanks bytes) in
    omega arith

-- from this shape, the scan of the bytes ends
abbrev Ran : Shape → ℕ → List ℕ → Type 0
Ran s total bytes = (tokens : List Token) × (end : Option TermFault) × Runs s total bytes tokens end

ran_next : (s : Shape) (total : ℕ) (bytes : List ℕ) (n : Next) → next_of s total bytes ≡ n → ((s : Shape) (rest : List ℕ) → length rest < length bytes → Ran s total rest) → Ran s total bytes
ran_next s total bytes (Ends end) e further = ([], end, e)
ran_next s total bytes (Makes k rest) e further =
    let less : length rest < length (skip_blanks bytes) = taken s total (skip_blanks bytes) k rest e in
    let within : length (skip_blanks bytes) ≤ length bytes = skipped bytes in
    let more = further (after s k) rest (omega arith) in
    (k ∷ more.0, more.1, (rest, e, more.2))

ran : (most : ℕ) (s : Shape) (total : ℕ) (bytes : List ℕ) → length bytes ≤ most → Ran s total bytes
ran zero s total bytes m = ran_next s total bytes (next_of s total bytes) refl (λ t rest l. absurd (omega arith))
ran (suc most) s total bytes m = ran_next s total bytes (next_of s total bytes) refl (λ t rest l. ran most t total rest (omega arith))

abbrev pub OneOf : List ℕ → Type 0
OneOf bytes = ((term : Term) × Reads bytes term × IsWithinLimits term) ⊎ ((f : TermFault) × HasFault bytes f × (f ≡ fault.NoMemory → ⊥))

stopped : (bytes : List ℕ) (f : TermFault) → StopsAt bytes f → IsPositioned f → HasFault bytes f × (f ≡ fault.NoMemory → ⊥)
stopped bytes (fault.Syntax position) s p = (s, λ e. cc)
stopped bytes (fault.Real position) s p = (s, λ e. cc)
stopped bytes (fault.IntRange position) s p = (s, λ e. cc)
stopped bytes fault.TooLarge s p = absurd p
stopped bytes fault.TooDeep s p = absurd p
stopped bytes fault.NoMemory s p = absurd p

term_by : (bytes : List ℕ) (t : Term) → Reads bytes t → (65536 < term_size t) ⊎ (term_size t ≤ 65536) → (64 < term_levels t) ⊎ (term_levels t ≤ 64) → OneOf bytes
term_by bytes t r (inl over) levels = inr (fault.TooLarge, (t, r, over), λ e. cc)
term_by bytes t r (inr size) (inl over) = inr (fault.TooDeep, (t, r, size, over), λ e. cc)
term_by bytes t r (inr size) (inr levels) = inl (t, r, record { size = size; levels = levels })

one_by : (bytes : List ℕ) (tokens : List Token) (end : Option TermFault) → Scans bytes tokens end → OneOf bytes
one_by bytes tokens None r =
    let w = scanned bytes tokens r in
    term_by bytes w.0 w.3 (cases_lt 65536 (term_size w.0)) (cases_lt 64 (term_levels w.0))
one_by bytes tokens (Some f) r =
    let h = stopped bytes f (tokens, r) (runs_positioned tokens start (length bytes) bytes f r) in
    inr (f, h.0, h.1)

pub has_one : (bytes : List ℕ) → OneOf bytes
has_one bytes = let r = ran (length bytes) start (length bytes) bytes (omega arith) in one_by bytes r.0 r.1 r.2
