-- The state of a handle after each part of a turn.
use Rattle.std.proofs.Common.{◌≡◌, ◌≢◌, ◌%◌, ◌^◌, ℕ, List, [], ◌∷◌, ◌++◌, Bool, true, false, Option, Some, None, option_to_list, refl, sym, ap, ◌∙◌, subst}
use Rattle.atomic_table.specs.Table.{rest}
use Rattle.tb_log.specs.declared.entry.Entry.{Entry}
use Rattle.tb_core.specs.Cores.{CoreState}
use Rattle.tb_lock.specs.Seats.{SeatView, Stage, Idle, Waiting, Serving, joined}
use Rattle.tb_lock.specs.Calls.{Meets, Joins}
use Rattle.tb_lock.specs.Helpers.Plays.{HolderState, Draws, Reads, Notes, Stops, in_hand, noting, stopping, MayPass, HasTurn, joining, Looks}

-- the claims about the core that a handle finds don't depend on the handle's stage
meets_at : (seat : SeatView) (stage : Stage) (core : CoreState) → Meets (record seat { stage = stage }) core → Meets seat core
meets_at seat stage core m = record {
  origin = m.origin;
  grows = m.grows;
  trace = m.trace;
  sparse = m.sparse;
  owned = m.owned;
  called = m.called;
  told = m.told;
  alone = m.alone;
}

-- A ticket is drawn.

pub drawn : (me after : HolderState) (found : ℕ) → me.1 ≡ [] → Draws me found after → (ticket : ℕ) × (found ≡ ticket % 2 ^ 64) × (after ≡ (record me.0 { stage = Waiting ticket }, []))
drawn me after found empty d = (d.0, d.1, d.2 ∙ ap (λ (slots : List (ℕ × Option CoreState)). (record me.0 { stage = Waiting d.0 }, slots)) empty)

-- If it is the handle's turn, the handle takes the slot with the core.
abbrev pub Took : SeatView → ℕ → HolderState → Type 0
Took seat ticket after = (core : CoreState) × (after ≡ (record seat { seen = core.log; stage = Serving ticket core.stopped }, (0, Some core) ∷ [])) × Meets seat core

pub took : (me after : HolderState) (found ticket : ℕ) (seat : SeatView) → me ≡ (record seat { stage = Waiting ticket }, []) → found ≡ ticket % 2 ^ 64 → Reads me found after → Took seat ticket after
took me after found ticket seat is is_it reads =
    let t = (subst (λ (m : HolderState). Reads m found after) is reads) ticket refl in
    let own = t.0 is_it in
    (own.0, own.1, meets_at seat (Waiting ticket) own.0 own.2)

-- If it isn't, nothing has changed.
pub missed : (me after : HolderState) (found ticket : ℕ) (seat : SeatView) → me ≡ (record seat { stage = Waiting ticket }, []) → found ≢ ticket % 2 ^ 64 → Reads me found after → after ≡ (record seat { stage = Waiting ticket }, [])
missed me after found ticket seat is miss reads =
    let t = (subst (λ (m : HolderState). Reads m found after) is reads) ticket refl in
    t.1 miss

-- The core is taken out of the slot that the handle holds.
pub taken_out : (seat : SeatView) (me after : HolderState) (ticket : ℕ) (core : CoreState) (found : Option CoreState) → me ≡ (record seat { seen = core.log; stage = Serving ticket core.stopped }, (0, Some core) ∷ []) →
    me.1 ≡ (0, found) ∷ rest me.1 → after ≡ (me.0, (0, None) ∷ rest me.1) → (found ≡ Some core) × (after ≡ (record seat { seen = core.log; stage = Serving ticket core.stopped }, (0, None) ∷ []))
taken_out seat me after ticket core found is holds then_is = (
  sym (ap in_hand (sym (ap (λ (m : HolderState). m.1) is) ∙ holds)),
  then_is ∙ ap (λ (m : HolderState). (m.0, (0, None) ∷ rest m.1)) is,
)

-- The core is put back into the slot.
pub put_back : (me after : HolderState) (core : CoreState) → me.1 ≡ (0, None) ∷ [] → after ≡ (me.0, (0, Some core) ∷ rest me.1) → after ≡ (me.0, (0, Some core) ∷ [])
put_back me after core empty then_is = then_is ∙ ap (λ (slots : List (ℕ × Option CoreState)). (me.0, (0, Some core) ∷ rest slots)) empty

same_core : (found : Option CoreState) (core other : CoreState) → found ≡ Some core → found ≡ Some other → core ≡ other
same_core found core other one more = cc

-- A call is noted, with one entry at most.
abbrev pub Noted : SeatView → CoreState → HolderState → Type 0
Noted seat core after = (logged : Option Entry) × (core.log ≡ seat.seen ++ option_to_list logged) × (after ≡ (noting seat logged core.stopped, (0, Some core) ∷ []))

pub noted : (me after : HolderState) (found : ℕ) (seat : SeatView) (core : CoreState) → me ≡ (seat, (0, Some core) ∷ []) → Notes me found after → Noted seat core after
noted me after found seat core is notes =
    let t = subst (λ (m : HolderState). Notes m found after) is notes in
    let same : t.0 ≡ core = same_core (Some core) t.0 core t.2 refl in
    (t.1, ap (λ (k : CoreState). k.log) (sym same) ∙ t.3, t.4 ∙ ap (λ (k : CoreState). (noting seat t.1 k.stopped, (0, Some core) ∷ [])) same)

-- Then the turn may be passed on.
pub may_pass_noted : (after : HolderState) (seat : SeatView) (core : CoreState) (ticket : ℕ) → seat.stage ≡ Serving ticket core.stopped → core.origin ≡ seat.origin → Noted seat core after → MayPass after
may_pass_noted after seat core ticket open_is origin_is n = subst MayPass (sym n.2) (record { ticket = ticket; core = core; stage = open_is; slot = refl; origin = origin_is; log = n.1 })

-- That the core was stopped is noted, and the turn may be passed on.
pub noted_stop : (me after : HolderState) (found ticket : ℕ) (mark : Bool) (seat : SeatView) (core : CoreState) → me ≡ (seat, (0, Some core) ∷ []) → seat.stage ≡ Serving ticket mark → Stops me found after → after ≡ (stopping ticket seat, (0, Some core) ∷ [])
noted_stop me after found ticket mark seat core is open_is stops = (subst (λ (m : HolderState). Stops m found after) is stops) ticket mark open_is

pub may_pass_stopped : (after : HolderState) (seat : SeatView) (core : CoreState) (ticket : ℕ) → core.origin ≡ seat.origin → core.log ≡ seat.seen → core.stopped ≡ true → after ≡ (stopping ticket seat, (0, Some core) ∷ []) → MayPass after
may_pass_stopped after seat core ticket origin_is log_is stopped_is is =
    subst MayPass (sym is) (record { ticket = ticket; core = core; stage = ap (Serving ticket) (sym stopped_is); slot = refl; origin = origin_is; log = log_is })

-- A core that is as it was taken out goes back, and the turn may be passed on.
pub may_pass_returned : (after : HolderState) (seat : SeatView) (core : CoreState) (ticket : ℕ) → seat.stage ≡ Serving ticket core.stopped → core.origin ≡ seat.origin → core.log ≡ seat.seen → after ≡ (seat, (0, Some core) ∷ []) → MayPass after
may_pass_returned after seat core ticket open_is origin_is log_is is = subst MayPass (sym is) (record { ticket = ticket; core = core; stage = open_is; slot = refl; origin = origin_is; log = log_is })

-- The first turn may be passed on once the core is there.
pub may_pass_first : (after : HolderState) (seat : SeatView) (core : CoreState) → core.origin ≡ seat.origin → core.log ≡ seat.seen → core.stopped ≡ false → after ≡ (record seat { stage = Serving 0 false }, (0, Some core) ∷ []) → MayPass after
may_pass_first after seat core origin_is log_is stopped_is is =
    subst MayPass (sym is) (record { ticket = 0; core = core; stage = ap (Serving 0) (sym stopped_is); slot = refl; origin = origin_is; log = log_is })

-- What was found in the slot is the core that the handle has met.
pub acquired : (seat : SeatView) (after : HolderState) (found : Option CoreState) (core result : CoreState) (ticket : ℕ) → found ≡ Some core → found ≡ Some result →
    after ≡ (record seat { seen = core.log; stage = Serving ticket core.stopped }, (0, None) ∷ []) → Meets seat core → HasTurn seat result after × Meets seat result
acquired seat after found core result ticket one more is meets =
    subst (λ (k : CoreState). HasTurn seat k after × Meets seat k) (same_core found core result one more) ((ticket, is), meets)

-- Two handles were joined, and the look has shown what each had seen.
pub united_by : (me after : HolderState) (found : ℕ) (seat other : SeatView) → me ≡ (joining seat other, []) → seat.stage ≡ Idle → Looks me found after → (after ≡ (joined seat other, [])) × Joins seat other after.0
united_by me after found seat other is idle looks =
    let t = (subst (λ (m : HolderState). Looks m found after) is looks) seat.seen seat.rights other.seen other.rights refl in
    let then_is = t.0 ∙ (λ i. (record (joined seat other) { stage = sym idle i }, [])) in (
      then_is,
      subst (λ (m : HolderState). Joins seat other m.0) (sym then_is) (record { seat = refl; grows = t.1; other_grows = t.2 }),
    )
