-- The written summary of a ring: so many steps, and the word of the last.
use Rattle.std.proofs.Common.{◌≡◌, ℕ, zero, suc, ◌+◌, ◌*◌, ◌≤◌, List, [], ◌∷◌, ◌++◌, map, fold, Some, refl, ap, ◌∙◌, arith, codes}
use Rattle.std.specs.Prelude.{sum_by}
use Rattle.std.specs.Fmt.{decimal}
use Rattle.std.proofs.lemmas.List.Sums.{sum_by-cons}
use Rattle.tb_log.specs.LogText.{kind_word}
use Rattle.tb_log.specs.declared.entry.Entry.{Entry}
use Rattle.tb_log.specs.declared.entry.Entry.TheVariants.{Did, Quiet, Fed, Gave}
use Rattle.tb_log.specs.declared.entry.LabelKind.{LabelKind}
use Rattle.tb_log.specs.declared.entry.LabelKind.TheVariants as kind
use Rattle.tb_ring_law.specs.Ends.{GoesDown, step_kind, messages_then_end}
use Rattle.tb_ring_law.proofs.GoesDown.{ring-goes-down}
use Rattle.tb_sim.specs.declared.ends.SimEnd.{SimEnd}
use Rattle.tb_sim.specs.declared.ends.SimEnd.TheVariants as sim
use Rattle.tb_top.specs.Ring.{IsRingOf, steps_in, word_after, summary}
use Rattle.tb_top.proofs.Completeness.{ring-ends}

-- an entry that is a step
one-step : (entry : Entry) (k : LabelKind) → step_kind entry ≡ Some k → (steps_in entry ≡ 1) × ((word : List ℕ) → word_after word entry ≡ kind_word k)
one-step (Did label) k is = let same : label.kind ≡ k = cc in (refl, λ word. ap kind_word same)
one-step Quiet k is = absurd cc
one-step (Fed input reply) k is = absurd cc
one-step (Gave lane out) k is = absurd cc

-- so many steps, and the word of the last, whatever the word before
steps-and-word : (log : List Entry) (count : ℕ) (word : List ℕ) → map step_kind log ≡ messages_then_end count → (sum_by steps_in log ≡ count + 1) × (fold word_after word log ≡ codes "shutdown")
steps-and-word [] zero word is = absurd cc
steps-and-word [] (suc count) word is = absurd cc
steps-and-word (entry ∷ []) zero word is =
    let last : step_kind entry ≡ Some kind.Shutdown = cc in
    let step = one-step entry kind.Shutdown last in
    let sum = sum_by-cons steps_in entry [] in
    let one = step.0 in
    (omega (arith, sum, one), step.1 word)
steps-and-word (entry ∷ other ∷ log) zero word is = absurd cc
steps-and-word (entry ∷ log) (suc count) word is =
    let first : step_kind entry ≡ Some kind.Msg = cc in
    let rest : map step_kind log ≡ messages_then_end count = cc in
    let step = one-step entry kind.Msg first in
    let sum = sum_by-cons steps_in entry log in
    let one = step.0 in
    let behind = steps-and-word log count (word_after word entry) rest in
    let more = behind.0 in
    (omega (arith, sum, one, more), behind.1)

pub ring-summary : (n k : ℕ) (log : List Entry) (last : SimEnd) → 2 ≤ n → n ≤ 10000 → 1 ≤ k → n * k ≤ 1000000 → IsRingOf n k log last
    → (last ≡ sim.Down) × (summary n log ≡ codes "processes " ++ decimal n ++ codes " steps " ++ decimal (n * k + 1) ++ codes " end " ++ codes "shutdown" ++ 10 ∷ [])
ring-summary n k log last least most positive few is =
    let down : GoesDown n k = ring-goes-down n k least most positive few in
    let same = ring-ends n k log last down is in
    let kinds : map step_kind log ≡ messages_then_end (n * k) = ap (λ (entries : List Entry). map step_kind entries) same.0 ∙ down.entries in
    let found = steps-and-word log (n * k) [] kinds in
    let steps = found.0 in
    let word = found.1 in
    (same.1, λ i. codes "processes " ++ decimal n ++ codes " steps " ++ decimal (steps i) ++ codes " end " ++ word i ++ 10 ∷ [])
