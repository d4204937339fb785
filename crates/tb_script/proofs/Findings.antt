-- The finding of a source, and that there is no other finding: from the results of the loader's parts.
use Rattle.std.proofs.Common.{◌≡◌, ◌≢◌, ◌⊎◌, ⊎_elim, ℕ, ◌<◌, ◌≤◌, List, length, Some, None, Result, Ok, Err, sym, ap, subst, ◌∙◌, arith}
use Rattle.tb_body.specs.declared.program.Program.{Program}
use Rattle.tb_body.specs.Programs.{most_roots}
use Rattle.tb_lex.specs.declared.fault.LexFault.{LexFault}
use Rattle.tb_lex.specs.declared.fault.LexFault.TheVariants as lex
use Rattle.tb_lex.specs.declared.token.Token.{Token}
use Rattle.tb_lex.specs.Tokens.{Lexes}
use Rattle.tb_lex.specs.Faults.{HasFault as HasLexFault}
use Rattle.tb_syntax.specs.Spelling.{kinds_of}
use Rattle.tb_syntax.specs.declared.script.Script.{Script}
use Rattle.tb_parse.specs.declared.fault.ParseFault.{ParseFault}
use Rattle.tb_parse.specs.declared.fault.ParseFault.TheVariants as parse
use Rattle.tb_parse.specs.Faults.{HasFault as HasParseFault, IsScriptOf}
use Rattle.tb_types.specs.declared.fault.CheckFault.{CheckFault}
use Rattle.tb_types.specs.declared.fault.CheckFault.TheVariants as check
use Rattle.tb_types.specs.Conditions.{Proper, IsFault}
use Rattle.tb_expand.specs.Cycles.{IsCycle}
use Rattle.tb_expand.specs.Faults.{HasNoCycle}
use Rattle.tb_script.specs.Programs.{HasTokens, IsTextOf, IsProgramOf, IsChecked, IsEnding, IsSmall, IsAccepted, first_too_large}
use Rattle.tb_script.specs.Helpers.Making.{HasOnlyTokens, IsOnlyScript}
use Rattle.tb_script.specs.Findings.{HasNoTokens, Finding, NoTokens, NoScript, Improper, Recursive, Large, ManyRoots, Program', Holds, IsSame, IsFound}
use Rattle.tb_script.proofs.CheckFaults.{one_fault, no_fault}
use Rattle.tb_script.proofs.OneProgram.{one_program}

-- each later finding has a script

abbrev HasScript : Finding → Type 0
HasScript (NoTokens f) = ⊥
HasScript (NoScript f) = ⊥
HasScript _ = Unit {0}

record Spelt (text : List ℕ) : Type 0 where
  script : Script
  is_text : IsTextOf text script

spelt : (text : List ℕ) (other : Finding) → HasScript other → Holds text other → Spelt text
spelt text (NoTokens f) has h = absurd has
spelt text (NoScript f) has h = absurd has
spelt text (Improper f) has h = record { script = h.script; is_text = h.is_text }
spelt text (Recursive names) has h = record { script = h.script; is_text = h.is_checked.is_text }
spelt text (Large name) has h = record { script = h.script; is_text = h.is_ending.checked.is_text }
spelt text (ManyRoots count) has h = record { script = h.script; is_text = h.is_small.ending.checked.is_text }
spelt text (Program' program) has h = record { script = h.script; is_text = h.is_accepted.is_small.ending.checked.is_text }

ok-same : {T E : Type 0} (x y : T) → ◌≡◌ {A = Result T E} (Ok x) (Ok y) → y ≡ x
ok-same x y e = cc

err-same : {T E : Type 0} (f g : E) → ◌≡◌ {A = Result T E} (Err f) (Err g) → f ≡ g
err-same f g e = cc

ok-err : {T E : Type 0} (x : T) (f : E) → ◌≡◌ {A = Result T E} (Ok x) (Err f) → ⊥
ok-err x f e = absurd cc

-- Tokens.

module _ (text : List ℕ) (r : Result (List Token) LexFault)
    (only : (tokens : List Token) → Lexes text tokens → length tokens ≤ 200000 → (r ≡ Ok tokens) ⊎ (r ≡ Err lex.NoMemory))
    (exact : (f : LexFault) → HasLexFault text f → f ≢ lex.NoMemory → (r ≡ Err f) ⊎ (r ≡ Err lex.NoMemory)) where
  -- the lexer returned these tokens
  pub tokens_found : (tokens : List Token) → r ≡ Ok tokens → Lexes text tokens → length tokens ≤ 200000 → HasOnlyTokens text tokens
  tokens_found tokens came lexes few = record {
    has_tokens = record { lexes = lexes; few = few };
    one = λ others h.
        ⊎_elim
        (λ (e : r ≡ Ok others). ok-same tokens others (sym came ∙ e))
        (λ (e : r ≡ Err lex.NoMemory). absurd (ok-err tokens lex.NoMemory (sym came ∙ e)))
        (only others h.lexes h.few);
    sound = λ f h.
        ⊎_elim
        (λ (e : r ≡ Err f). ok-err tokens f (sym came ∙ e))
        (λ (e : r ≡ Err lex.NoMemory). ok-err tokens lex.NoMemory (sym came ∙ e))
        (exact f h.fault_is h.not_memory);
  }

  no-tokens : (f : LexFault) → r ≡ Err f → f ≢ lex.NoMemory → (tokens : List Token) → HasTokens text tokens → ⊥
  no-tokens f came told tokens h =
      ⊎_elim
      (λ (e : r ≡ Ok tokens). ok-err tokens f (sym e ∙ came))
      (λ (e : r ≡ Err lex.NoMemory). told (err-same f lex.NoMemory (sym came ∙ e)))
      (only tokens h.lexes h.few)

  no-text : (f : LexFault) → r ≡ Err f → f ≢ lex.NoMemory → Spelt text → ⊥
  no-text f came told h = no-tokens f came told h.is_text.tokens h.is_text.has_tokens

  one-fault : (f : LexFault) → r ≡ Err f → f ≢ lex.NoMemory → (g : LexFault) → HasNoTokens text g → g ≡ f
  one-fault f came told g h =
      ⊎_elim
      (λ (e : r ≡ Err g). sym (err-same f g (sym came ∙ e)))
      (λ (e : r ≡ Err lex.NoMemory). absurd (told (err-same f lex.NoMemory (sym came ∙ e))))
      (exact g h.fault_is h.not_memory)

  -- the lexer returned this error
  pub lexing_failed : (f : LexFault) → r ≡ Err f → f ≢ lex.NoMemory → HasLexFault text f → IsFound text (NoTokens f)
  lexing_failed f came told has = record { holds = record { not_memory = told; fault_is = has }; only = rest } where
    rest : (other : Finding) → Holds text other → IsSame (NoTokens f) other
    rest (NoTokens g) h = ap NoTokens (one-fault f came told g h)
    rest (NoScript g) h = absurd (no-tokens f came told h.tokens h.has_tokens)
    rest (Improper g) h = absurd (no-text f came told (spelt text (Improper g) tt h))
    rest (Recursive names) h = absurd (no-text f came told (spelt text (Recursive names) tt h))
    rest (Large name) h = absurd (no-text f came told (spelt text (Large name) tt h))
    rest (ManyRoots count) h = absurd (no-text f came told (spelt text (ManyRoots count) tt h))
    rest (Program' program) h = absurd (no-text f came told (spelt text (Program' program) tt h))

-- Scripts.

module _ (tokens : List Token) (r : Result Script ParseFault)
    (only : (script : Script) → IsScriptOf (kinds_of tokens) script → (r ≡ Ok script) ⊎ (r ≡ Err parse.NoMemory))
    (exact : (f : ParseFault) → HasParseFault (kinds_of tokens) f → f ≢ parse.NoMemory → (r ≡ Err f) ⊎ (r ≡ Err parse.NoMemory)) where
  no-fault : (script : Script) → r ≡ Ok script → IsScriptOf (kinds_of tokens) script → (f : ParseFault) → f ≢ parse.NoMemory → HasParseFault (kinds_of tokens) f → ⊥
  no-fault script came is f told h =
      ⊎_elim
      (λ (e : r ≡ Err f). ok-err script f (sym came ∙ e))
      (λ (e : r ≡ Err parse.NoMemory). ok-err script parse.NoMemory (sym came ∙ e))
      (exact f h told)

  -- the parser returned this script
  pub script_found : (script : Script) → r ≡ Ok script → IsScriptOf (kinds_of tokens) script → (text : List ℕ) → HasOnlyTokens text tokens → IsOnlyScript text script
  script_found script came is text lexed = record {
    is_text = record { tokens = tokens; has_tokens = lexed.has_tokens; is_script = is };
    one = λ other h.
        ⊎_elim
        (λ (e : r ≡ Ok other). ok-same script other (sym came ∙ e))
        (λ (e : r ≡ Err parse.NoMemory). absurd (ok-err script parse.NoMemory (sym came ∙ e)))
        (only other (subst (λ ts. IsScriptOf (kinds_of ts) other) (lexed.one h.tokens h.has_tokens) h.is_script));
    has_tokens = lexed.sound;
    has_script = λ f h. no-fault script came is f h.not_memory (subst (λ ts. HasParseFault (kinds_of ts) f) (lexed.one h.tokens h.has_tokens) h.fault_is);
  }

  no-script : (f : ParseFault) → r ≡ Err f → f ≢ parse.NoMemory → (text : List ℕ) → HasOnlyTokens text tokens → (script : Script) → IsTextOf text script → ⊥
  no-script f came told text lexed script h =
      ⊎_elim
      (λ (e : r ≡ Ok script). ok-err script f (sym e ∙ came))
      (λ (e : r ≡ Err parse.NoMemory). told (err-same f parse.NoMemory (sym came ∙ e)))
      (only script (subst (λ ts. IsScriptOf (kinds_of ts) script) (lexed.one h.tokens h.has_tokens) h.is_script))

  no-spelt : (f : ParseFault) → r ≡ Err f → f ≢ parse.NoMemory → (text : List ℕ) → HasOnlyTokens text tokens → Spelt text → ⊥
  no-spelt f came told text lexed h = no-script f came told text lexed h.script h.is_text

  same-fault : (f g : ParseFault) → r ≡ Err f → f ≢ parse.NoMemory → g ≢ parse.NoMemory → HasParseFault (kinds_of tokens) g → g ≡ f
  same-fault f g came told other h =
      ⊎_elim
      (λ (e : r ≡ Err g). sym (err-same f g (sym came ∙ e)))
      (λ (e : r ≡ Err parse.NoMemory). absurd (told (err-same f parse.NoMemory (sym came ∙ e))))
      (exact g h other)

  -- the parser returned this error
  pub parsing_failed : (f : ParseFault) → r ≡ Err f → f ≢ parse.NoMemory → HasParseFault (kinds_of tokens) f → (text : List ℕ) → HasOnlyTokens text tokens → IsFound text (NoScript f)
  parsing_failed f came told has text lexed = record { holds = record { not_memory = told; tokens = tokens; has_tokens = lexed.has_tokens; fault_is = has }; only = rest } where
    rest : (other : Finding) → Holds text other → IsSame (NoScript f) other
    rest (NoTokens g) h = absurd (lexed.sound g h)
    rest (NoScript g) h = ap NoScript (same-fault f g came told h.not_memory (subst (λ ts. HasParseFault (kinds_of ts) g) (lexed.one h.tokens h.has_tokens) h.fault_is))
    rest (Improper g) h = absurd (no-spelt f came told text lexed (spelt text (Improper g) tt h))
    rest (Recursive names) h = absurd (no-spelt f came told text lexed (spelt text (Recursive names) tt h))
    rest (Large name) h = absurd (no-spelt f came told text lexed (spelt text (Large name) tt h))
    rest (ManyRoots count) h = absurd (no-spelt f came told text lexed (spelt text (ManyRoots count) tt h))
    rest (Program' program) h = absurd (no-spelt f came told text lexed (spelt text (Program' program) tt h))

-- The script that a source parses as.

module _ (text : List ℕ) (script : Script) (read : IsOnlyScript text script) where
  -- a property of any script that the source parses as is a property of this script
  here : (P : Script → Type 0) (other : Script) → IsTextOf text other → P other → P script
  here P other is h = subst P (read.one other is) h

  pub improper_found : (f : CheckFault) → f ≢ check.NoMemory → IsFault script f → IsFound text (Improper f)
  improper_found f told has = record { holds = record { not_memory = told; script = script; is_text = read.is_text; fault_is = has }; only = rest } where
    rest : (other : Finding) → Holds text other → IsSame (Improper f) other
    rest (NoTokens g) h = absurd (read.has_tokens g h)
    rest (NoScript g) h = absurd (read.has_script g h)
    rest (Improper g) h = ap Improper (one_fault script g f h.not_memory told (here (λ s. IsFault s g) h.script h.is_text h.fault_is) has)
    rest (Recursive names) h = absurd (no_fault script f told (here Proper h.script h.is_checked.is_text h.is_checked.proper) has)
    rest (Large name) h = let c = h.is_ending.checked in absurd (no_fault script f told (here Proper h.script c.is_text c.proper) has)
    rest (ManyRoots count) h = let c = h.is_small.ending.checked in absurd (no_fault script f told (here Proper h.script c.is_text c.proper) has)
    rest (Program' program) h = let c = h.is_accepted.is_small.ending.checked in absurd (no_fault script f told (here Proper h.script c.is_text c.proper) has)

  module _ (proper : Proper script) where
    is_proper : (g : CheckFault) → Holds text (Improper g) → ⊥
    is_proper g h = no_fault script g h.not_memory proper (here (λ s. IsFault s g) h.script h.is_text h.fault_is)

    checked : IsChecked text script
    checked = record { is_text = read.is_text; proper = proper }

    pub recursive_found : (names : List (List ℕ)) → IsCycle script names → IsFound text (Recursive names)
    recursive_found names cycle = record { holds = record { script = script; is_checked = checked; cycle = cycle }; only = rest } where
      rest : (other : Finding) → Holds text other → IsSame (Recursive names) other
      rest (NoTokens g) h = absurd (read.has_tokens g h)
      rest (NoScript g) h = absurd (read.has_script g h)
      rest (Improper g) h = absurd (is_proper g h)
      rest (Recursive others) h = tt
      rest (Large name) h = let e = h.is_ending in absurd (here HasNoCycle h.script e.checked.is_text e.no_cycle names cycle)
      rest (ManyRoots count) h = let e = h.is_small.ending in absurd (here HasNoCycle h.script e.checked.is_text e.no_cycle names cycle)
      rest (Program' program) h = let e = h.is_accepted.is_small.ending in absurd (here HasNoCycle h.script e.checked.is_text e.no_cycle names cycle)

    module _ (no_cycle : HasNoCycle script) where
      ends : (names : List (List ℕ)) → Holds text (Recursive names) → ⊥
      ends names h = no_cycle names (here (λ s. IsCycle s names) h.script h.is_checked.is_text h.cycle)

      ending : IsEnding text script
      ending = record { checked = checked; no_cycle = no_cycle }

      some-none : (name : List ℕ) → first_too_large script ≡ Some name → first_too_large script ≡ None → ⊥
      some-none name e f = absurd cc

      small-here : (other : Script) → IsSmall text other → first_too_large script ≡ None
      small-here other s = here (λ t. first_too_large t ≡ None) other s.ending.checked.is_text s.small

      pub large_found : (name : List ℕ) → first_too_large script ≡ Some name → IsFound text (Large name)
      large_found name first = record { holds = record { script = script; is_ending = ending; first = first }; only = rest } where
        same-name : (other : List ℕ) → first_too_large script ≡ Some other → other ≡ name
        same-name other e = cc

        rest : (other : Finding) → Holds text other → IsSame (Large name) other
        rest (NoTokens g) h = absurd (read.has_tokens g h)
        rest (NoScript g) h = absurd (read.has_script g h)
        rest (Improper g) h = absurd (is_proper g h)
        rest (Recursive names) h = absurd (ends names h)
        rest (Large other) h = ap Large (same-name other (here (λ t. first_too_large t ≡ Some other) h.script h.is_ending.checked.is_text h.first))
        rest (ManyRoots count) h = absurd (some-none name first (small-here h.script h.is_small))
        rest (Program' program) h = absurd (some-none name first (small-here h.script h.is_accepted.is_small))

      module _ (small : first_too_large script ≡ None) where
        not-large : (name : List ℕ) → Holds text (Large name) → ⊥
        not-large name h = some-none name (here (λ t. first_too_large t ≡ Some name) h.script h.is_ending.checked.is_text h.first) small

        is_small : IsSmall text script
        is_small = record { ending = ending; small = small }

        text-of : (other : Script) → IsAccepted text other → IsTextOf text other
        text-of other a = a.is_small.ending.checked.is_text

        few-here : (other : Script) → IsAccepted text other → length script.roots ≤ most_roots
        few-here other a = here (λ t. length t.roots ≤ most_roots) other (text-of other a) a.few_roots

        too-many : most_roots < length script.roots → length script.roots ≤ most_roots → ⊥
        too-many many few = omega (arith, many, few)

        pub many_found : (count : ℕ) → count ≡ length script.roots → most_roots < count → IsFound text (ManyRoots count)
        many_found count are many = record { holds = record { script = script; is_small = is_small; are = are; many = many }; only = rest } where
          many-here : most_roots < length script.roots
          many-here = subst (λ (n : ℕ). most_roots < n) are many

          rest : (other : Finding) → Holds text other → IsSame (ManyRoots count) other
          rest (NoTokens g) h = absurd (read.has_tokens g h)
          rest (NoScript g) h = absurd (read.has_script g h)
          rest (Improper g) h = absurd (is_proper g h)
          rest (Recursive names) h = absurd (ends names h)
          rest (Large name) h = absurd (not-large name h)
          rest (ManyRoots other) h = ap ManyRoots (here (λ t. other ≡ length t.roots) h.script h.is_small.ending.checked.is_text h.are ∙ sym are)
          rest (Program' program) h = absurd (too-many many-here (few-here h.script h.is_accepted))

        module _ (few : length script.roots ≤ most_roots) where
          not-many : (count : ℕ) → Holds text (ManyRoots count) → ⊥
          not-many count h =
              too-many (subst (λ (n : ℕ). most_roots < n) (here (λ t. count ≡ length t.roots) h.script h.is_small.ending.checked.is_text h.are) h.many) few

          accepted : IsAccepted text script
          accepted = record { is_small = is_small; few_roots = few }

          pub program_found : (program : Program) → IsProgramOf script program → IsFound text (Program' program)
          program_found program meaning = record { holds = record { script = script; is_accepted = accepted; meaning = meaning }; only = rest } where
            rest : (other : Finding) → Holds text other → IsSame (Program' program) other
            rest (NoTokens g) h = absurd (read.has_tokens g h)
            rest (NoScript g) h = absurd (read.has_script g h)
            rest (Improper g) h = absurd (is_proper g h)
            rest (Recursive names) h = absurd (ends names h)
            rest (Large name) h = absurd (not-large name h)
            rest (ManyRoots count) h = absurd (not-many count h)
            rest (Program' other) h = ap Program' (one_program script other program (here (λ t. IsProgramOf t other) h.script (text-of h.script h.is_accepted) h.meaning) meaning)
