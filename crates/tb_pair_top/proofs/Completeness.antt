-- Where nothing of the outside fails, and no log is full, a pair of accepted scripts ends well, or memory ran out.
use Rattle.std.proofs.Common.{◌≡◌, ℕ, Option, List, Result, Ok, Err, refl, subst, inl, inr, ◌⊎◌}
use Rattle.tb_cli.specs.declared.fault.WordFault.{WordFault}
use Rattle.tb_cli.specs.declared.pair_command.PairCommand.{PairCommand}
use Rattle.tb_cli.specs.Words.{asked_pair}
use Rattle.tb_load.specs.Loading.{IsBadScript}
use Rattle.tb_load.proofs.LoadLemmas.{not-bad}
use Rattle.tb_script.specs.declared.fault.ScriptFault.{ScriptFault}
use Rattle.tb_pair_top.specs.Completeness.{HoldsScript, NothingFailed}
use Rattle.tb_pair_top.specs.Loading.{IsOfOne}
use Rattle.tb_pair_top.specs.Outcomes.{CommandOutcome, Comes, IsPair}
use Rattle.tb_pair_top.specs.Reporting.{Reported, Reports}
use Rattle.tb_pair_top.specs.Views.{Seen}
use Rattle.tb_pair_top.specs.declared.fault.PairFault.{PairFault}
use Rattle.tb_pair_top.specs.declared.fault.PairFault.TheVariants.{Script, Words, File, Out, Clock, Crew, Limit, NoMemory}
use Rattle.tb_pair_top.specs.declared.status.PairStatus.{PairStatus}
use Rattle.tb_pair_top.specs.declared.status.PairStatus.TheVariants as status
use Rattle.tb_pair_top.specs.declared.status.PairEdge.TheVariants as edge
use Rattle.tb_pair_top.proofs.Parts.{clock-rose, crew-rose, file-rose, out-rose}

-- neither of two accepted scripts is refused
not-one : (held : List ℕ → Option (List ℕ)) (first second : List ℕ) (old new : List (List ℕ)) (fault : ScriptFault) → HoldsScript (held first) → HoldsScript (held second) → IsOfOne (λ told. IsBadScript told fault) held first second old new → ⊥
not-one held first second old new fault one other (inl h) = not-bad one.bytes one.program fault one.few one.found (subst (λ (told : Option (List ℕ)). IsBadScript told fault) one.is h.0)
not-one held first second old new fault one other (inr h) = not-bad other.bytes other.program fault other.few other.found (subst (λ (told : Option (List ℕ)). IsBadScript told fault) other.is h.1)

-- the answers if no part of the environment fails
abbrev pub EndsWell : {A : Type 0} → PairCommand → Seen → Seen → Result A PairFault → Type 0
EndsWell command old new (Ok done) = Unit {0}
EndsWell command old new (Err NoMemory) = Unit {0}
EndsWell {A} command old new (Err Limit) = IsPair {A = A} command old new (Err Limit)
EndsWell command old new _ = ⊥

ends-well : {A : Type 0} (command : PairCommand) (old new : Seen) (answer : Result A PairFault) → HoldsScript (old.held command.first) → HoldsScript (old.held command.second) →
    (answer ≡ Err File → ⊥) → (answer ≡ Err Out → ⊥) → (answer ≡ Err Clock → ⊥) → (answer ≡ Err Crew → ⊥) → CommandOutcome command old new answer → EndsWell command old new answer
ends-well command old new (Ok done) one other file out clock crew h = tt
ends-well command old new (Err NoMemory) one other file out clock crew h = tt
ends-well command old new (Err Limit) one other file out clock crew h = h
ends-well command old new (Err File) one other file out clock crew h = file refl
ends-well command old new (Err Out) one other file out clock crew h = out refl
ends-well command old new (Err Clock) one other file out clock crew h = clock refl
ends-well command old new (Err Crew) one other file out clock crew h = crew refl
ends-well command old new (Err (Script fault)) one other file out clock crew h = not-one old.held command.first command.second old.asked new.asked fault one other h.0
ends-well command old new (Err (Words fault)) one other file out clock crew h = h.outcome

reported-well : {A : Type 0} (command : PairCommand) (before after : Seen) (answer : Result A PairFault) (old new : Option (List ℕ)) (it : PairStatus) →
    EndsWell command before after answer → (it ≡ status.Outside edge.Err → ⊥) → Reports answer old new it →
    (it ≡ status.Ended) ⊎ ((it ≡ status.NoMemory) ⊎ ((it ≡ status.Limit) × IsPair {A = A} command before after (Err Limit)))
reported-well command before after (Ok done) old new it well err h = inl h.0
reported-well command before after (Err NoMemory) old new it well err (inl h) = inr (inl h.0)
reported-well command before after (Err NoMemory) old new it well err (inr h) = absurd (err h.0)
reported-well command before after (Err Limit) old new it well err (inl h) = inr (inr (h.0, well))
reported-well command before after (Err Limit) old new it well err (inr h) = absurd (err h.0)
reported-well command before after (Err File) old new it well err h = absurd well
reported-well command before after (Err Out) old new it well err h = absurd well
reported-well command before after (Err Clock) old new it well err h = absurd well
reported-well command before after (Err Crew) old new it well err h = absurd well
reported-well command before after (Err (Script fault)) old new it well err h = absurd well
reported-well command before after (Err (Words fault)) old new it well err h = absurd well

pub pair-completes : (A : Type 0) (words : List (List ℕ)) (command : PairCommand) (old new : Seen) (told more : Option (List ℕ)) (it : PairStatus) →
    asked_pair words ≡ Ok command → HoldsScript (old.held command.first) → HoldsScript (old.held command.second) → NothingFailed old new → (it ≡ status.Outside edge.Err → ⊥) →
    Reported {A = A} (Comes (asked_pair words) old new) told more it →
    (it ≡ status.Ended) ⊎ ((it ≡ status.NoMemory) ⊎ ((it ≡ status.Limit) × IsPair {A = A} command old new (Err Limit)))
pair-completes A words command old new told more it is one other stays err (answer, comes, reports) =
    let known : Comes (Ok command) old new answer = subst (λ (asked : Result PairCommand WordFault). Comes asked old new answer) is comes in
    reported-well command old new answer told more it
    (ends-well command old new answer one other (λ e. stays.files (file-rose (Ok command) old new answer known e)) (λ e. stays.out (out-rose (Ok command) old new answer known e))
    (λ e. stays.clock (clock-rose (Ok command) old new answer known e)) (λ e. stays.crew (crew-rose (Ok command) old new answer known e)) known.outcome)
    err reports
