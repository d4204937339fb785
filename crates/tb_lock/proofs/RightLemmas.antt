-- Rights that are split and united, and tests for rights.
use Rattle.std.proofs.Common.{◌≡◌, ◌⊎◌, ◌<◌, ◌+◌, ◌%◌, ◌^◌, ◌==◌, ℕ, zero, suc, min, max, Bool, true, false, not, ◌&&◌, ◌||◌, true≢false, refl, sym, ap, ◌∙◌, subst, inl, inr, arith, eqb-true, eq-eqb}
use Rattle.std.proofs.lemmas.Bool.{eqb-false}
use Rattle.std.specs.Int.{bit_at}
use Rattle.std.specs.Prelude.{bit_and, bit_or, ◌-◌, ◌↔◌, nat_eq}
use Rattle.std.proofs.lemmas.Nat.Bits.{bit_at-lt, bit_at_and, bit_at_or, bit_at_xor, bit_at_ones, bit_at-zero, bit_at_above, bit_at-pow_same, bit_at-pow_other, same_from_bits}
use mathlib.Core.Logic.{dite}
use native.Mathlib.Decide.{dec_lt}
use Rattle.tb_log.specs.Shapes.{IsLane}
use Rattle.tb_lock.specs.declared.rights.Rights.{Rights}
use Rattle.tb_lock.specs.Rights.{Right, Steps, Ticks, In, Out, has, has_lane, lanes_without, without, united, AreAmong, no_rights, all_rights, lane_alone, reader_rights, writer_rights, stepper_rights, ticker_rights}

without_bit : (x y : ℕ) → x < 2 → y < 2 → ((x + min x y) % 2 == 1) ≡ ((x == 1) && not (y == 1))
without_bit zero zero one other = refl
without_bit zero (suc zero) one other = refl
without_bit zero (suc (suc y)) one other = absurd (omega arith)
without_bit (suc zero) zero one other = refl
without_bit (suc zero) (suc zero) one other = refl
without_bit (suc zero) (suc (suc y)) one other = absurd (omega arith)
without_bit (suc (suc x)) y one other = absurd (omega arith)

united_bit : (x y : ℕ) → x < 2 → y < 2 → (max x y == 1) ≡ ((x == 1) || (y == 1))
united_bit zero zero one other = refl
united_bit zero (suc zero) one other = refl
united_bit zero (suc (suc y)) one other = absurd (omega arith)
united_bit (suc zero) zero one other = refl
united_bit (suc zero) (suc zero) one other = refl
united_bit (suc zero) (suc (suc y)) one other = absurd (omega arith)
united_bit (suc (suc x)) y one other = absurd (omega arith)

lane_without : (lanes gone lane : ℕ) → has_lane (lanes_without lanes gone) lane ≡ (has_lane lanes lane && not (has_lane gone lane))
lane_without lanes gone lane =
    let i = lane - 1 in
    ap (λ (n : ℕ). n == 1) (bit_at_xor lanes (bit_and lanes gone) i ∙ ap (λ (n : ℕ). (bit_at lanes i + n) % 2) (bit_at_and lanes gone i))
    ∙ without_bit (bit_at lanes i) (bit_at gone i) (bit_at-lt lanes i) (bit_at-lt gone i)

lane_united : (lanes more lane : ℕ) → has_lane (bit_or lanes more) lane ≡ (has_lane lanes lane || has_lane more lane)
lane_united lanes more lane =
    let i = lane - 1 in
    ap (λ (n : ℕ). n == 1) (bit_at_or lanes more i) ∙ united_bit (bit_at lanes i) (bit_at more i) (bit_at-lt lanes i) (bit_at-lt more i)

pub has-without : (rights gone : Rights) (right : Right) → has (without rights gone) right ≡ (has rights right && not (has gone right))
has-without rights gone Steps = refl
has-without rights gone Ticks = refl
has-without rights gone (In lane) = lane_without rights.ins gone.ins lane
has-without rights gone (Out lane) = lane_without rights.outs gone.outs lane

pub has-united : (rights more : Rights) (right : Right) → has (united rights more) right ≡ (has rights right || has more right)
has-united rights more Steps = refl
has-united rights more Ticks = refl
has-united rights more (In lane) = lane_united rights.ins more.ins lane
has-united rights more (Out lane) = lane_united rights.outs more.outs lane

pub and_true : (a b : Bool) → (a && not b) ≡ true → (a ≡ true) × (b ≡ false)
and_true true true e = absurd (true≢false (sym e))
and_true true false e = (refl, refl)
and_true false b e = absurd (true≢false (sym e))

pub or_true : (a b : Bool) → (a || b) ≡ true → (a ≡ true) ⊎ (b ≡ true)
or_true true b e = inl refl
or_true false b e = inr e

-- all rights have the bit of each lane
pub all_lanes : (lane : ℕ) → IsLane lane → has_lane 65535 lane ≡ true
all_lanes lane is =
    let low = is.0 in
    let high = is.1 in
    ap (λ (n : ℕ). n == 1) (bit_at_ones 16 (lane - 1) (omega arith))

-- the rights that are left after a split are among the old ones, and none of them was given away
pub left_among : (rights gone : Rights) → AreAmong (without rights gone) rights
left_among rights gone right e = (and_true (has rights right) (has gone right) (sym (has-without rights gone right) ∙ e)).0

pub left_apart : (rights gone : Rights) (right : Right) → has (without rights gone) right ≡ true → has gone right ≡ true → ⊥
left_apart rights gone right e gone_is = true≢false (sym gone_is ∙ (and_true (has rights right) (has gone right) (sym (has-without rights gone right) ∙ e)).1)

pub of_united : (rights more : Rights) (right : Right) → has (united rights more) right ≡ true → (has rights right ≡ true) ⊎ (has more right ≡ true)
of_united rights more right e = or_true (has rights right) (has more right) (sym (has-united rights more right) ∙ e)

-- Lanes are among others if and only if their bits are.

abbrev pub AreLanesAmong : ℕ → ℕ → Type 0
AreLanesAmong some lanes = (lane : ℕ) → has_lane some lane ≡ true → has_lane lanes lane ≡ true

lanes_bit : (x y : ℕ) → x < 2 → y < 2 → min x y ≡ x → (x == 1) ≡ true → (y == 1) ≡ true
lanes_bit zero y one other e is = absurd (true≢false (sym is))
lanes_bit (suc zero) zero one other e is = absurd (omega arith)
lanes_bit (suc zero) (suc zero) one other e is = refl
lanes_bit (suc zero) (suc (suc y)) one other e is = absurd (omega arith)
lanes_bit (suc (suc x)) y one other e is = absurd (omega arith)

pub lanes_among : (some lanes : ℕ) → bit_and some lanes ≡ some → AreLanesAmong some lanes
lanes_among some lanes e lane is =
    let i = lane - 1 in
    lanes_bit (bit_at some i) (bit_at lanes i) (bit_at-lt some i) (bit_at-lt lanes i) (sym (bit_at_and some lanes i) ∙ ap (λ (n : ℕ). bit_at n i) e) is

bit_less : (x y : ℕ) → x < 2 → y < 2 → ((x == 1) ≡ true → (y == 1) ≡ true) → min x y ≡ x
bit_less zero y one other h = omega arith
bit_less (suc zero) zero one other h = absurd (true≢false (sym (h refl)))
bit_less (suc zero) (suc zero) one other h = refl
bit_less (suc zero) (suc (suc y)) one other h = absurd (omega arith)
bit_less (suc (suc x)) y one other h = absurd (omega arith)

pub lanes_by : (some lanes : ℕ) → AreLanesAmong some lanes → bit_and some lanes ≡ some
lanes_by some lanes h = same_from_bits (bit_and some lanes) some (λ i. bit_at_and some lanes i ∙ bit_less (bit_at some i) (bit_at lanes i) (bit_at-lt some i) (bit_at-lt lanes i) (at i))
  where
    at : (i : ℕ) → (bit_at some i == 1) ≡ true → (bit_at lanes i == 1) ≡ true
    at i = subst (λ (k : ℕ). (bit_at some k == 1) ≡ true → (bit_at lanes k == 1) ≡ true) (omega arith) (h (suc i))

-- Rights are among others if this holds for each of the four parts.
pub among_by : (some rights : Rights) → (some.steps ≡ true → rights.steps ≡ true) → (some.ticks ≡ true → rights.ticks ≡ true) → AreLanesAmong some.ins rights.ins → AreLanesAmong some.outs rights.outs → AreAmong some rights
among_by some rights steps ticks ins outs Steps e = steps e
among_by some rights steps ticks ins outs Ticks e = ticks e
among_by some rights steps ticks ins outs (In lane) e = ins lane e
among_by some rights steps ticks ins outs (Out lane) e = outs lane e

-- the test is true if and only if the claim holds
abbrev Says : Bool → Type 0 → Type 0
Says test P = (test ≡ true → P) × (P → test ≡ true)

says_both : (one other : Bool) (P Q : Type 0) → Says one P → Says other Q → Says (one && other) (P × Q)
says_both true other P Q s t = (λ e. (s.0 refl, t.0 e), λ h. t.1 h.1)
says_both false other P Q s t = (λ e. absurd (true≢false (sym e)), λ h. absurd (true≢false (sym (s.1 h.0))))

says_kept : (has_it wants : Bool) → Says (has_it || not wants) (wants ≡ true → has_it ≡ true)
says_kept true wants = (λ e wanted. refl, λ h. refl)
says_kept false true = (λ e. absurd (true≢false (sym e)), λ h. absurd (true≢false (sym (h refl))))
says_kept false false = (λ e wanted. absurd (true≢false (sym wanted)), λ h. refl)

says_lanes : (some lanes : ℕ) → Says (nat_eq (bit_and some lanes) some) (AreLanesAmong some lanes)
says_lanes some lanes = (λ e. lanes_among some lanes (eqb-true (bit_and some lanes) some e), λ h. eq-eqb (bit_and some lanes) some (lanes_by some lanes h))

-- The four tests of `cover` are all true if and only if the rights are among the others.
pub covers : (some rights : Rights) → (((rights.steps || not some.steps) && (rights.ticks || not some.ticks) && nat_eq (bit_and some.ins rights.ins) some.ins && nat_eq (bit_and some.outs rights.outs) some.outs) ≡ true) ↔ AreAmong some rights
covers some rights =
    let first = says_both (rights.steps || not some.steps) (rights.ticks || not some.ticks) (some.steps ≡ true → rights.steps ≡ true) (some.ticks ≡ true → rights.ticks ≡ true) (says_kept rights.steps some.steps) (says_kept rights.ticks some.ticks) in
    let third = says_both ((rights.steps || not some.steps) && (rights.ticks || not some.ticks)) (nat_eq (bit_and some.ins rights.ins) some.ins) _ (AreLanesAmong some.ins rights.ins) first (says_lanes some.ins rights.ins) in
    let all = says_both ((rights.steps || not some.steps) && (rights.ticks || not some.ticks) && nat_eq (bit_and some.ins rights.ins) some.ins) (nat_eq (bit_and some.outs rights.outs) some.outs) _ (AreLanesAmong some.outs rights.outs) third (says_lanes some.outs rights.outs) in (
      λ e. let h = all.0 e in among_by some rights h.0.0.0 h.0.0.1 h.0.1 h.1,
      λ h. all.1 (((h Steps, h Ticks), λ lane. h (In lane)), λ lane. h (Out lane)),
    )

-- The empty rights are among any rights, and any rights are among all rights.

no_lane : (lane : ℕ) → has_lane 0 lane ≡ false
no_lane lane = ap (λ (n : ℕ). n == 1) (bit_at-zero (lane - 1))

pub none_among : (rights : Rights) → AreAmong no_rights rights
none_among rights Steps e = absurd (true≢false (sym e))
none_among rights Ticks e = absurd (true≢false (sym e))
none_among rights (In lane) e = absurd (true≢false (sym e ∙ no_lane lane))
none_among rights (Out lane) e = absurd (true≢false (sym e ∙ no_lane lane))

lanes_all : (lanes : ℕ) → lanes < 2 ^ 16 → AreLanesAmong lanes 65535
lanes_all lanes fits lane e =
    dite (dec_lt (lane - 1) 16)
    (λ low. ap (λ (n : ℕ). n == 1) (bit_at_ones 16 (lane - 1) low))
    (λ high. absurd (true≢false (sym e ∙ ap (λ (n : ℕ). n == 1) (bit_at_above lanes 16 (lane - 1) fits (omega arith)))))

pub all_among : (some : Rights) → some.ins < 2 ^ 16 → some.outs < 2 ^ 16 → AreAmong some all_rights
all_among some ins outs = among_by some all_rights (λ _. refl) (λ _. refl) (lanes_all some.ins ins) (lanes_all some.outs outs)

-- The rights for one lane, for steps or for ticks are among any that have this one.

pub own_lane : (lane : ℕ) → has_lane (lane_alone lane) lane ≡ true
own_lane lane = ap (λ (n : ℕ). n == 1) (bit_at-pow_same (lane - 1))

alone_among : (lanes lane : ℕ) → has_lane lanes lane ≡ true → AreLanesAmong (lane_alone lane) lanes
alone_among lanes lane there at e =
    go (nat_eq (at - 1) (lane - 1)) refl
  where
    go : (b : Bool) → nat_eq (at - 1) (lane - 1) ≡ b → has_lane lanes at ≡ true
    go true same = ap (λ (i : ℕ). bit_at lanes i == 1) (eqb-true (at - 1) (lane - 1) same) ∙ there
    go false other = absurd (true≢false (sym e ∙ ap (λ (n : ℕ). n == 1) (bit_at-pow_other (lane - 1) (at - 1) (eqb-false (at - 1) (lane - 1) other))))

no_lanes_among : (lanes : ℕ) → AreLanesAmong 0 lanes
no_lanes_among lanes lane e = absurd (true≢false (sym e ∙ no_lane lane))

pub reads_lane : (lane : ℕ) → has (reader_rights lane) (In lane) ≡ true
reads_lane lane = own_lane lane

pub writes_lane : (lane : ℕ) → has (writer_rights lane) (Out lane) ≡ true
writes_lane lane = own_lane lane

pub reader_among : (rights : Rights) (lane : ℕ) → has rights (In lane) ≡ true → AreAmong (reader_rights lane) rights
reader_among rights lane there = among_by (reader_rights lane) rights (λ e. absurd (true≢false (sym e))) (λ e. absurd (true≢false (sym e))) (alone_among rights.ins lane there) (no_lanes_among rights.outs)

pub writer_among : (rights : Rights) (lane : ℕ) → has rights (Out lane) ≡ true → AreAmong (writer_rights lane) rights
writer_among rights lane there = among_by (writer_rights lane) rights (λ e. absurd (true≢false (sym e))) (λ e. absurd (true≢false (sym e))) (no_lanes_among rights.ins) (alone_among rights.outs lane there)

pub stepper_among : (rights : Rights) → rights.steps ≡ true → AreAmong stepper_rights rights
stepper_among rights there = among_by stepper_rights rights (λ _. there) (λ e. absurd (true≢false (sym e))) (no_lanes_among rights.ins) (no_lanes_among rights.outs)

pub ticker_among : (rights : Rights) → rights.ticks ≡ true → AreAmong ticker_rights rights
ticker_among rights there = among_by ticker_rights rights (λ e. absurd (true≢false (sym e))) (λ _. there) (no_lanes_among rights.ins) (no_lanes_among rights.outs)
