-- The results of functions that can find an error or run out of memory, and the bytes with which a token can begin.
use Rattle.std.specs.Prelude.{◌≡◌, ℕ, Bool, true, false, ◌||◌, ◌==◌, List, [], ◌∷◌, Option, Some, None, Result, Ok, Err}
use Rattle.std.specs.Prelude.{Vec}
use Rattle.std.specs.Global.{Global}
use Rattle.std.specs.Borrow.{Bor}
use Rattle.tb_terms.specs.Names.{is_digit, is_lower}
use Rattle.tb_read.specs.declared.token.Token.{Token}
use Rattle.tb_read.specs.declared.fault.TermFault.{TermFault}
use Rattle.tb_read.specs.declared.fault.TermFault.TheVariants as fault
use Rattle.tb_read.specs.declared.kind.Kind.{Kind}
use Rattle.tb_read.specs.declared.kind.Kind.TheVariants as kind
use Rattle.tb_read.specs.declared.shape.Shape.{Shape}
use Rattle.tb_read.specs.Scanning.{Makes, Ends, next_of, after, Scans}

-- the claim holds of the error, or the error is `NoMemory`
abbrev pub Faulted : (TermFault → Type 0) → TermFault → Type 0
Faulted P fault.NoMemory = Unit {0}
Faulted P (fault.Syntax position) = P (fault.Syntax position)
Faulted P (fault.Real position) = P (fault.Real position)
Faulted P (fault.IntRange position) = P (fault.IntRange position)
Faulted P fault.TooLarge = P fault.TooLarge
Faulted P fault.TooDeep = P fault.TooDeep

-- the returned value, through `view`, is the found one, or the returned error is the found one or `NoMemory`
abbrev pub Gives : {X Y : Type 0} → (X → Y) → Result X TermFault → Result Y TermFault → Type 0
Gives view (Ok x) found = found ≡ Ok (view x)
Gives view (Err e) found = Faulted (λ f. found ≡ Err f) e

-- The next token was found with the bytes after it, and the shape took it; or the source ended; or this is the error; or the error is
-- `NoMemory`.
abbrev pub IsNext : Shape → Shape → ℕ → List ℕ → Result (Option (Token × Bor (List ℕ))) TermFault → Type 0
IsNext old new total bytes (Ok None) = next_of old total bytes ≡ Ends None
IsNext old new total bytes (Ok (Some found)) = (next_of old total bytes ≡ Makes found.0 found.1.now) × (new ≡ after old found.0)
IsNext old new total bytes (Err e) = Faulted (λ f. next_of old total bytes ≡ Ends (Some f)) e

-- the tokens are those of the whole source, or the scan ends with this error, or the error is `NoMemory`
abbrev pub HasScanned : List ℕ → Result (Vec Token Global) TermFault → Type 0
HasScanned bytes (Ok tokens) = Scans bytes tokens.items None
HasScanned bytes (Err e) = Faulted (λ f. (tokens : List Token) × Scans bytes tokens (Some f)) e

-- the first byte can begin a token of this kind
abbrev pub begins_with : Kind → List ℕ → Bool
begins_with next [] = false
begins_with kind.LeftParen (byte ∷ bytes) = byte == 40
begins_with kind.RightParen (byte ∷ bytes) = byte == 41
begins_with kind.LeftBracket (byte ∷ bytes) = byte == 91
begins_with kind.RightBracket (byte ∷ bytes) = byte == 93
begins_with kind.Comma (byte ∷ bytes) = byte == 44
begins_with kind.Str (byte ∷ bytes) = byte == 34
begins_with kind.Name (byte ∷ bytes) = is_lower byte
begins_with kind.Int (byte ∷ bytes) = is_digit byte || (byte == 45)
begins_with kind.Other (byte ∷ bytes) = true
