-- The results of functions that can find an error or run out of memory.
use Rattle.std.specs.Prelude.{◌≡◌, ℕ, List, Option, Some, None, Result, Ok, Err}
use Rattle.std.specs.Borrow.{Bor}
use Rattle.tb_lex.specs.declared.token.Token.{Token}
use Rattle.tb_lex.specs.declared.fault.LexFault.{LexFault}
use Rattle.tb_lex.specs.declared.fault.LexFault.TheVariants as fault
use Rattle.tb_lex.specs.Tokens.{most_tokens}
use Rattle.tb_lex.specs.Helpers.Scanning.{Makes, Ends, next_of, Scans}

-- `P` holds of this error, if it isn't `NoMemory`, about which nothing is claimed
abbrev pub Faulted : (LexFault → Type 0) → LexFault → Type 0
Faulted P fault.NoMemory = Unit {0}
Faulted P (fault.BadByte position) = P (fault.BadByte position)
Faulted P (fault.OpenString position) = P (fault.OpenString position)
Faulted P (fault.Real position) = P (fault.Real position)
Faulted P (fault.IntRange position) = P (fault.IntRange position)
Faulted P fault.TooMany = P fault.TooMany

-- the call returns what is found, seen through `view`, or its error, or `NoMemory`
abbrev pub Gives : {X Y : Type 0} → (X → Y) → Result X LexFault → Result Y LexFault → Type 0
Gives view (Ok x) found = found ≡ Ok (view x)
Gives view (Err e) found = Faulted (λ f. found ≡ Err f) e

-- The next token with the bytes after it is found, or the source has ended, or this is the error, or the error is `NoMemory`.
abbrev pub IsNext : ℕ → ℕ → List ℕ → Result (Option (Token × Bor (List ℕ))) LexFault → Type 0
IsNext count total bytes (Ok None) = next_of most_tokens count total bytes ≡ Ends None
IsNext count total bytes (Ok (Some found)) = next_of most_tokens count total bytes ≡ Makes found.0 found.1.now
IsNext count total bytes (Err e) = Faulted (λ f. next_of most_tokens count total bytes ≡ Ends (Some f)) e

-- the tokens are those of the whole source, or the scan ends with this error, or the error is `NoMemory`
abbrev pub HasScanned : List ℕ → Result (List Token) LexFault → Type 0
HasScanned bytes (Ok tokens) = Scans bytes tokens None
HasScanned bytes (Err e) = Faulted (λ f. (tokens : List Token) × Scans bytes tokens (Some f)) e
