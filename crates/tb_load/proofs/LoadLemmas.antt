-- The result of loading a file whose content is reported; and an accepted script isn't rejected.
use Rattle.std.proofs.Common.{◌≡◌, ◌≤◌, ℕ, Option, Some, List, length, subst, arith}
use Rattle.tb_body.specs.declared.program.Program.{Program}
use Rattle.tb_expand.specs.declared.fault.ExpandFault.TheVariants as expand
use Rattle.tb_script.specs.Findings.{IsFound, NoTokens, NoScript, Improper, Recursive, Large, ManyRoots, Program'}
use Rattle.tb_script.specs.declared.fault.ScriptFault.{ScriptFault}
use Rattle.tb_script.specs.declared.fault.ScriptFault.TheVariants as script
use Rattle.tb_load.specs.Loading.{HasProgram, IsBadScript, IsLoaded, IsLoadedWithin, IsRefused, IsTooLong, most_bytes}

-- bytes that have a program aren't rejected
pub not-refused : (bytes : List ℕ) (program : Program) (fault : ScriptFault) → IsFound bytes (Program' program) → IsRefused bytes fault → ⊥
not-refused bytes program (script.Lex fault) found h = let same : NoTokens fault ≡ Program' program = found.only (NoTokens fault) h.holds in cc
not-refused bytes program (script.Parse fault) found h = let same : NoScript fault ≡ Program' program = found.only (NoScript fault) h.holds in cc
not-refused bytes program (script.Check fault) found h = let same : Improper fault ≡ Program' program = found.only (Improper fault) h.holds in cc
not-refused bytes program (script.Expand (expand.Recursion names)) found h = let same : Recursive names ≡ Program' program = found.only (Recursive names) h.holds in cc
not-refused bytes program (script.Expand (expand.TooLarge name)) found h = let same : Large name ≡ Program' program = found.only (Large name) h.holds in cc
not-refused bytes program (script.Expand expand.NoMemory) found h = h
not-refused bytes program (script.Roots count) found h = let same : ManyRoots count ≡ Program' program = found.only (ManyRoots count) h.holds in cc
not-refused bytes program (script.NotBuilt token) found h = h
not-refused bytes program script.NoMemory found h = h
not-refused bytes program (script.TooLong len) found h = h

-- loaded bytes are the reported ones, and not more than so many
pub told-within : (most : ℕ) (file : Option (List ℕ)) (bytes all : List ℕ) → file ≡ Some bytes → IsLoadedWithin most file all → (all ≡ bytes) × (length bytes ≤ most)
told-within most file bytes all told loaded =
    let same : all ≡ bytes = (subst (λ (it : Option (List ℕ)). IsLoadedWithin most it all) told loaded).0 in
    (same, subst (λ (bs : List ℕ). length bs ≤ most) same loaded.1)

pub is-told : (file : Option (List ℕ)) (bytes all : List ℕ) → file ≡ Some bytes → IsLoaded file all → all ≡ bytes
is-told file bytes all told loaded = (told-within most_bytes file bytes all told loaded).0

-- a file whose reported content is short doesn't have too many bytes
pub not-long : (bytes : List ℕ) (len : ℕ) → length bytes ≤ most_bytes → IsTooLong (Some bytes) len → ⊥
not-long bytes len few h = let same : len ≡ length bytes = h.1 in omega (h.0, same, few, arith)

-- nor is the file
pub not-bad : (bytes : List ℕ) (program : Program) (fault : ScriptFault) → length bytes ≤ most_bytes → IsFound bytes (Program' program) → IsBadScript (Some bytes) fault → ⊥
not-bad bytes program (script.TooLong len) few found h = not-long bytes len few h
not-bad bytes program (script.Lex fault) few found (all, loaded, refused) = not-refused bytes program (script.Lex fault) found (subst (λ (bs : List ℕ). IsRefused bs (script.Lex fault)) loaded.0 refused)
not-bad bytes program (script.Parse fault) few found (all, loaded, refused) = not-refused bytes program (script.Parse fault) found (subst (λ (bs : List ℕ). IsRefused bs (script.Parse fault)) loaded.0 refused)
not-bad bytes program (script.Check fault) few found (all, loaded, refused) = not-refused bytes program (script.Check fault) found (subst (λ (bs : List ℕ). IsRefused bs (script.Check fault)) loaded.0 refused)
not-bad bytes program (script.Expand fault) few found (all, loaded, refused) = not-refused bytes program (script.Expand fault) found (subst (λ (bs : List ℕ). IsRefused bs (script.Expand fault)) loaded.0 refused)
not-bad bytes program (script.Roots count) few found (all, loaded, refused) = not-refused bytes program (script.Roots count) found (subst (λ (bs : List ℕ). IsRefused bs (script.Roots count)) loaded.0 refused)
not-bad bytes program (script.NotBuilt token) few found (all, loaded, refused) = refused
not-bad bytes program script.NoMemory few found (all, loaded, refused) = refused

-- a file that has a program has that one
pub one-program : (file : Option (List ℕ)) (bytes : List ℕ) (program other : Program) → file ≡ Some bytes → IsFound bytes (Program' program) → HasProgram file other → other ≡ program
one-program file bytes program other told found has =
    let there : IsFound bytes (Program' other) = subst (λ (bs : List ℕ). IsFound bs (Program' other)) (is-told file bytes has.bytes told has.loaded) has.found in
    let same : Program' other ≡ Program' program = found.only (Program' other) there.holds in cc
