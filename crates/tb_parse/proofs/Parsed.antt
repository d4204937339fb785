-- The result for a sequence of tokens, from the outcome of reading it.
use Rattle.std.proofs.Common.{◌≡◌, ◌≢◌, ℕ, ◌≤◌, ◌⊎◌, List, [], length, Result, Ok, Err, refl, ap, ◌∙◌, inl, inr}
use Rattle.std.specs.Prelude.{IfOk, IfErr}
use Rattle.tb_lex.specs.declared.kind.TokenKind.{TokenKind}
use Rattle.tb_syntax.specs.declared.script.Script.{Script}
use Rattle.tb_parse.specs.declared.fault.ParseFault.{ParseFault}
use Rattle.tb_parse.specs.declared.fault.ParseFault.TheVariants as fault
use Rattle.tb_parse.specs.Helpers.Defining.{Judges}
use Rattle.tb_parse.specs.Faults.{NoneTooDeep, IsScriptOf, HasFault}
use Rattle.tb_parse.specs.Helpers.Parsing.{script}
use Rattle.tb_parse.proofs.Outcomes.{stopped, fault_one, script_has_none, deep_is_other, syntax_is_other}
use Rattle.tb_parse.proofs.ReadScripts.{unique}
use Rattle.tb_parse.proofs.SoundScripts.{sound}

module _ (kinds : List TokenKind) where
  -- what was judged, where no brackets are too deep

  pub judged_found : (room : ℕ) (r : Result Script ParseFault) → NoneTooDeep kinds → Judges (script room 0 kinds) r → IfOk r (IsScriptOf kinds)
  judged_found room (Ok s) shallow j = record { shallow = shallow; spells = sound room kinds s j.0.0 [] j.0.1; low = j.1 }
  judged_found room (Err f) shallow j = tt

  fault_of : (room : ℕ) (f : ParseFault) → length kinds ≤ room → NoneTooDeep kinds → Judges (script room 0 kinds) (Err f) → HasFault kinds f
  fault_of room (fault.Syntax p) enough shallow j = stopped kinds room p enough shallow j
  fault_of room (fault.TooDeep p) enough shallow j = inr (record { shallow = shallow; script = j.0; spells = sound room kinds j.0 j.1.0 [] j.1.1; first = j.2 })
  fault_of room fault.NoMemory enough shallow j = tt

  pub judged_fault : (room : ℕ) (r : Result Script ParseFault) → length kinds ≤ room → NoneTooDeep kinds → Judges (script room 0 kinds) r → IfErr r (HasFault kinds)
  judged_fault room (Ok s) enough shallow j = tt
  judged_fault room (Err f) enough shallow j = fault_of room f enough shallow j

  -- what follows of the one outcome

  no_memory : {r : Result Script ParseFault} (f : ParseFault) → r ≡ Err f → f ≡ fault.NoMemory → r ≡ Err fault.NoMemory
  no_memory f e n = e ∙ ap (λ (f : ParseFault). Err f) n

  pub only_script : (r : Result Script ParseFault) → IfOk r (IsScriptOf kinds) → IfErr r (HasFault kinds) → (s : Script) → IsScriptOf kinds s → (r ≡ Ok s) ⊎ (r ≡ Err fault.NoMemory)
  only_script (Ok t) found err s i = inl (ap (λ (s : Script). Ok s) (unique kinds t s found.spells i.spells))
  only_script (Err f) found err s i = inr (no_memory f refl (script_has_none kinds s f i err))

  pub exact_fault : (r : Result Script ParseFault) → IfOk r (IsScriptOf kinds) → IfErr r (HasFault kinds) → (f : ParseFault) → HasFault kinds f → f ≢ fault.NoMemory
      → (r ≡ Err f) ⊎ (r ≡ Err fault.NoMemory)
  exact_fault (Ok t) found err f has told = absurd (told (script_has_none kinds t f found has))
  exact_fault (Err fault.NoMemory) found err f has told = inr refl
  exact_fault (Err (fault.Syntax p)) found err f has told = inl (ap (λ (f : ParseFault). Err f) (fault_one kinds (fault.Syntax p) f err has (syntax_is_other p) told))
  exact_fault (Err (fault.TooDeep p)) found err f has told = inl (ap (λ (f : ParseFault). Err f) (fault_one kinds (fault.TooDeep p) f err has (deep_is_other p) told))
