-- The lines, the ends, and the sent items of a lane, and the ticks, depend only on the entries of the log that need the right for them.
use Rattle.std.proofs.Common.{◌≡◌, ◌==◌, ℕ, List, Bool, true, false, true≢false, Some, None, if◌then◌else◌, refl, sym, ap, ◌∙◌, arith}
use Rattle.std.proofs.lemmas.Bool.Decides.{nat_tests}
use Rattle.tb_log.specs.declared.entry.Input.{Input}
use Rattle.tb_log.specs.declared.entry.Input.TheVariants as input
use Rattle.tb_log.specs.declared.entry.Entry.{Entry}
use Rattle.tb_log.specs.declared.entry.Entry.TheVariants.{Did, Quiet, Fed, Gave}
use Rattle.tb_log.specs.Lanes.{handed, handed_by, inputs, input_by, sent, cuts, is_cut_off, ticks, is_tick}
use Rattle.tb_log.proofs.LaneLemmas.{handed_kept, inputs_kept, ticks_kept, cut_off_kept, sent_kept}
use Rattle.tb_lock.specs.declared.rights.Rights.{Rights}
use Rattle.tb_lock.specs.Rights.{Ticks, In, Out as Outs, has, own, right_of, right_for}

same_lane : (at lane : ℕ) → (at == lane) ≡ true → at ≡ lane
same_lane at lane e = grind (arith, nat_tests)

not_true : (b : Bool) → (b ≡ true → ⊥) → b ≡ false
not_true true never = absurd (never refl)
not_true false never = refl

module _ (rights : Rights) where
  module _ (lane : ℕ) where
    -- a lane without a right isn't a lane with one
    other_in : has rights (In lane) ≡ true → (at : ℕ) → has rights (In at) ≡ false → (at == lane) ≡ false
    other_in there at none = not_true (at == lane) (λ e. true≢false (sym there ∙ (ap (λ (l : ℕ). has rights (In l)) (sym (same_lane at lane e)) ∙ none)))

    other_out : has rights (Outs lane) ≡ true → (at : ℕ) → has rights (Outs at) ≡ false → (at == lane) ≡ false
    other_out there at none = not_true (at == lane) (λ e. true≢false (sym there ∙ (ap (λ (l : ℕ). has rights (Outs l)) (sym (same_lane at lane e)) ∙ none)))

    no_input : has rights (In lane) ≡ true → (entry : Entry) → has rights (right_of entry) ≡ false → input_by lane entry ≡ None
    no_input there (Did label) none = refl
    no_input there Quiet none = refl
    no_input there (Gave at out) none = refl
    no_input there (Fed input.Tick reply) none = refl
    no_input there (Fed input.NoTicks reply) none = refl
    no_input there (Fed (input.Line at line) reply) none = ap (λ (b : Bool). if b then Some (input.Line at line) else None) (other_in there at none)
    no_input there (Fed (input.Gone at) reply) none = ap (λ (b : Bool). if b then Some (input.Gone at) else None) (other_in there at none)
    no_input there (Fed (input.Cut at) reply) none = refl

    -- all lines and ends of a lane's tool
    pub inputs_own : has rights (In lane) ≡ true → (log : List Entry) → inputs (own rights log) lane ≡ inputs log lane
    inputs_own there log = inputs_kept (λ entry. has rights (right_of entry)) lane (no_input there) log

    not_handed : has rights (Outs lane) ≡ true → (entry : Entry) → has rights (right_of entry) ≡ false → handed_by lane entry ≡ None
    not_handed there (Did label) none = refl
    not_handed there Quiet none = refl
    not_handed there (Fed it reply) none = refl
    not_handed there (Gave at out) none = ap (λ (b : Bool). if b then Some out else None) (other_out there at none)

    -- all items that were sent on a lane
    pub handed_own : has rights (Outs lane) ≡ true → (log : List Entry) → handed (own rights log) lane ≡ handed log lane
    handed_own there log = handed_kept (λ entry. has rights (right_of entry)) lane (not_handed there) log

    pub no_cut : has rights (Outs lane) ≡ true → (it : Input) → has rights (right_for it) ≡ false → cuts lane it ≡ false
    no_cut there input.Tick none = refl
    no_cut there input.NoTicks none = refl
    no_cut there (input.Line at line) none = refl
    no_cut there (input.Gone at) none = refl
    no_cut there (input.Cut at) none = other_out there at none

    pub cut_off_own : has rights (Outs lane) ≡ true → (log : List Entry) → is_cut_off (own rights log) lane ≡ is_cut_off log lane
    cut_off_own there log = cut_off_kept (λ entry. has rights (right_of entry)) lane (λ it reply none. no_cut there it none) (λ at out none. other_out there at none) log

    -- the items that were sent and written
    pub sent_own : has rights (Outs lane) ≡ true → (log : List Entry) → sent (own rights log) lane ≡ sent log lane
    sent_own there log = sent_kept (λ entry. has rights (right_of entry)) lane (λ it reply none. no_cut there it none) (λ at out none. other_out there at none) log

  no_tick : has rights Ticks ≡ true → (entry : Entry) → has rights (right_of entry) ≡ false → is_tick entry ≡ false
  no_tick there (Did label) none = refl
  no_tick there Quiet none = refl
  no_tick there (Gave at out) none = refl
  no_tick there (Fed input.Tick reply) none = absurd (true≢false (sym there ∙ none))
  no_tick there (Fed input.NoTicks reply) none = refl
  no_tick there (Fed (input.Line at line) reply) none = refl
  no_tick there (Fed (input.Gone at) reply) none = refl
  no_tick there (Fed (input.Cut at) reply) none = refl

  -- how many ticks were delivered
  pub ticks_own : has rights Ticks ≡ true → (log : List Entry) → ticks (own rights log) ≡ ticks log
  ticks_own there log = ticks_kept (λ entry. has rights (right_of entry)) (no_tick there) log
