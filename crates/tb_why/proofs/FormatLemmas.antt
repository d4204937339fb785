-- The first place of a format that has no text.
use Rattle.std.proofs.Common.{◌≡◌, ◌<◌, ◌-◌, ◌+◌, ℕ, Bool, true, false, List, [], ◌∷◌, length, drop, get_or, refl, ap, sym, ◌∙◌, arith, length-drop}
use Rattle.std.proofs.lemmas.List.{drop_more}
use Rattle.tb_terms.specs.declared.term.Term.{Term}
use Rattle.tb_why.specs.Formats.{fault_from}
use Rattle.tb_why.specs.Helpers.Scenes.{fault_at}
use Rattle.tb_why.specs.declared.formats.Reading.{Reading}
use Rattle.tb_why.specs.declared.reason.FormatFault.{FormatFault}
use Rattle.tb_why.specs.declared.reason.FormatFault.TheVariants.{TooMany}

one-left : (begun : Bool) (n : ℕ) (terms : List Term) → begun ≡ false → 0 < length terms → TooMany n ≡ fault_from begun n [] terms
one-left true n terms e l = absurd (let t : true ≡ false = e in cc)
one-left false n [] e l = absurd (omega arith)
one-left false n (term ∷ terms) e l = refl

-- an argument is left where the format ends
pub too-many : (reading : Reading) (terms : List Term) → reading.begun ≡ false → reading.taken < length terms → TooMany (reading.taken + 1) ≡ fault_at reading [] terms
too-many reading terms plain less =
    let left : length (drop reading.taken terms) ≡ length terms - reading.taken = length-drop reading.taken terms in
    one-left reading.begun (reading.taken + 1) (drop reading.taken terms) plain (omega arith)

-- the fault of a letter is that of the format
pub fault-found : (reading : Reading) (format : List ℕ) (terms : List Term) (k : ℕ) (fault : FormatFault) → k < length format → fault_at reading (get_or format k 0 ∷ drop (k + 1) format) terms ≡ fault →
    fault_at reading (drop k format) terms ≡ fault_from false 1 format terms → fault ≡ fault_from false 1 format terms
fault-found reading format terms k fault within found so_far = sym found ∙ ap (λ (rest : List ℕ). fault_at reading rest terms) (sym (drop_more format k 0 within)) ∙ so_far
