-- How the first seat of a bus is split: each worker has its right, and all rights together are the rights of the first seat.
use Rattle.std.proofs.Common.{◌≡◌, ◌-◌, ◌+◌, ℕ, suc, nat_eq, nat_le, List, [], ◌∷◌, ◌++◌, map, length, Bool, true, false, not, ◌&&◌, ◌||◌, refl, ap, ◌∙◌, arith}
use Rattle.std.specs.Prelude.{bit_and}
use Rattle.std.specs.List.{AllZip, fold}
use Rattle.std.proofs.lemmas.Bool.{leb-true}
use Rattle.tb_lock.specs.declared.rights.Rights.{Rights}
use Rattle.tb_lock.specs.Rights.{In, Out as Outs, AreAmong, has, all_rights, no_rights, without, united, stepper_rights, ticker_rights}
use Rattle.tb_lock.specs.Seats.{SeatView, kept_of}
use Rattle.tb_lock.proofs.RightLemmas.{covers}
use Rattle.atomic_table.specs.Seated.{TableId}
use Rattle.tb_run.specs.declared.worker.Work.{Work}
use Rattle.tb_run.specs.declared.worker.Work.TheVariants.{Steps}
use Rattle.tb_run.specs.Jobs.{HasRight}
use Rattle.tb_run.specs.Moving.{readers, writers}
use Rattle.tb_run.specs.Parting.{CanPart, parted, left_after}
use Rattle.tb_run.specs.Parts as parts
use Rattle.tb_run.specs.Parts.{bits, in_of, out_of, job_rights, rights_left}
use Rattle.tb_run.specs.Running.{Fits}
use Rattle.tb_run.proofs.WorkedLemmas.{EachNew}

-- these are among those, as a test
abbrev pub are_among : Rights → Rights → Bool
are_among some rights =
    (rights.steps || not some.steps) && (rights.ticks || not some.ticks)
    && nat_eq (bit_and some.ins rights.ins) some.ins && nat_eq (bit_and some.outs rights.outs) some.outs

abbrev pub can_part : Rights → List Rights → Bool
can_part rights [] = true
can_part rights (part ∷ parts) = are_among part rights && can_part (without rights part) parts

left_true : (a b : Bool) → (a && b) ≡ true → a ≡ true
left_true true b e = refl
left_true false b e = e

right_true : (a b : Bool) → (a && b) ≡ true → b ≡ true
right_true true b e = e
right_true false b e = absurd cc

pub can_by : (rights : Rights) (parts : List Rights) → can_part rights parts ≡ true → CanPart rights parts
can_by rights [] e = tt
can_by rights (part ∷ parts) e =
    ((covers part rights).0 (left_true (are_among part rights) (can_part (without rights part) parts) e), can_by (without rights part) parts (right_true (are_among part rights) (can_part (without rights part) parts) e))

pub jobs_can : CanPart all_rights job_rights
unfolding parts.job_rights
jobs_can = can_by all_rights job_rights refl

pub ticks_can : AreAmong ticker_rights rights_left
unfolding parts.job_rights
ticks_can = (covers ticker_rights rights_left).0 refl

-- what is left of the seat
pub left_rights : (seat : SeatView) (parts : List Rights) → (left_after seat parts).rights ≡ fold without seat.rights parts
left_rights seat [] = refl
left_rights seat (part ∷ parts) = left_rights (kept_of part seat) parts

pub left_room : (seat : SeatView) (parts : List Rights) → (left_after seat parts).room ≡ seat.room - length parts
left_room seat [] = let e : seat.room ≡ seat.room - 0 = omega arith in e
left_room seat (part ∷ parts) = left_room (kept_of part seat) parts ∙ (let e : seat.room - 1 - length parts ≡ seat.room - suc (length parts) = omega arith in e)

pub left_bus : (seat : SeatView) (parts : List Rights) → (left_after seat parts).bus ≡ seat.bus
left_bus seat [] = refl
left_bus seat (part ∷ parts) = left_bus (kept_of part seat) parts

pub left_origin : (seat : SeatView) (parts : List Rights) → (left_after seat parts).origin ≡ seat.origin
left_origin seat [] = refl
left_origin seat (part ∷ parts) = left_origin (kept_of part seat) parts

pub left_seen : (seat : SeatView) (parts : List Rights) → (left_after seat parts).seen ≡ seat.seen
left_seen seat [] = refl
left_seen seat (part ∷ parts) = left_seen (kept_of part seat) parts

pub left_called : (seat : SeatView) (parts : List Rights) → (left_after seat parts).called ≡ seat.called
left_called seat [] = refl
left_called seat (part ∷ parts) = left_called (kept_of part seat) parts

-- the new seats
pub parted_new : (first seat : SeatView) (parts : List Rights) → seat.bus ≡ first.bus → seat.origin ≡ first.origin → seat.seen ≡ [] → EachNew first (parted seat parts)
parted_new first seat [] b o s = tt
parted_new first seat (part ∷ parts) b o s = (record { bus = b; origin = o; seen = s; called = refl; room = refl }, parted_new first (kept_of part seat) parts b o s)

pub parted_rights : (seat : SeatView) (parts : List Rights) → map (λ (s : SeatView). s.rights) (parted seat parts) ≡ parts
parted_rights seat [] = refl
parted_rights seat (part ∷ parts) = ap (λ (ps : List Rights). part ∷ ps) (parted_rights (kept_of part seat) parts)

pub parted_count_of : (seat : SeatView) (parts : List Rights) → length (parted seat parts) ≡ length parts
parted_count_of seat [] = refl
parted_count_of seat (part ∷ parts) = ap suc (parted_count_of (kept_of part seat) parts)

-- all rights come together
pub rights_unite : fold united (without (without rights_left ticker_rights) no_rights) (no_rights ∷ ticker_rights ∷ job_rights) ≡ all_rights
unfolding parts.job_rights
rights_unite = refl

pub job_count : length job_rights ≡ 33
unfolding parts.job_rights
job_count = refl

-- each right is that for the work at its place
abbrev pub ins_fit : ℕ → List ℕ → Bool
ins_fit lane [] = true
ins_fit lane (bit ∷ more) = nat_le 1 lane && nat_le lane 16 && has (in_of bit) (In lane) && ins_fit (lane + 1) more

abbrev pub outs_fit : ℕ → List ℕ → Bool
outs_fit lane [] = true
outs_fit lane (bit ∷ more) = nat_le 1 lane && nat_le lane 16 && has (out_of bit) (Outs lane) && outs_fit (lane + 1) more

module _ (I O : Type 0) (bus : TableId) where
  abbrev pub Fit : SeatView → Work I O → Type 0
  Fit seat work = (seat.bus ≡ bus) × HasRight seat work

  fits_steps : (seat : SeatView) → seat.bus ≡ bus → let ws : List (Work I O) = Steps ∷ [] in AllZip Fit (parted seat (stepper_rights ∷ [])) ws
  fits_steps seat e = ((e, refl), tt)

  fits_writers : (seat : SeatView) (lane : ℕ) (more : List ℕ) (outlets : List O) → seat.bus ≡ bus → length outlets ≡ length more → outs_fit lane more ≡ true
      → let ws : List (Work I O) = writers lane outlets ++ Steps ∷ [] in AllZip Fit (parted seat (map out_of more ++ stepper_rights ∷ [])) ws
  fits_writers seat lane [] [] e n f = fits_steps seat e
  fits_writers seat lane [] (outlet ∷ outlets) e n f = absurd (omega arith)
  fits_writers seat lane (bit ∷ more) [] e n f = absurd (omega arith)
  fits_writers seat lane (bit ∷ more) (outlet ∷ outlets) e n f =
      let rest = right_true (nat_le 1 lane && nat_le lane 16 && has (out_of bit) (Outs lane)) (outs_fit (lane + 1) more) f in
      let three = left_true (nat_le 1 lane && nat_le lane 16 && has (out_of bit) (Outs lane)) (outs_fit (lane + 1) more) f in
      let right = right_true (nat_le 1 lane && nat_le lane 16) (has (out_of bit) (Outs lane)) three in
      let two = left_true (nat_le 1 lane && nat_le lane 16) (has (out_of bit) (Outs lane)) three in (
        (e, ((leb-true 1 lane (left_true (nat_le 1 lane) (nat_le lane 16) two), leb-true lane 16 (right_true (nat_le 1 lane) (nat_le lane 16) two)), right)),
        fits_writers (kept_of (out_of bit) seat) (lane + 1) more outlets e (omega arith) rest,
      )

  fits_readers : (seat : SeatView) (lane from : ℕ) (ins outs : List ℕ) (inlets : List I) (outlets : List O) → seat.bus ≡ bus → length inlets ≡ length ins → ins_fit lane ins ≡ true → length outlets ≡ length outs → outs_fit from outs ≡ true
      → let ws : List (Work I O) = readers lane inlets ++ (writers from outlets ++ Steps ∷ []) in AllZip Fit (parted seat (map in_of ins ++ (map out_of outs ++ stepper_rights ∷ []))) ws
  fits_readers seat lane from [] outs [] outlets e n f m g = fits_writers seat from outs outlets e m g
  fits_readers seat lane from [] outs (inlet ∷ inlets) outlets e n f m g = absurd (omega arith)
  fits_readers seat lane from (bit ∷ ins) outs [] outlets e n f m g = absurd (omega arith)
  fits_readers seat lane from (bit ∷ ins) outs (inlet ∷ inlets) outlets e n f m g =
      let rest = right_true (nat_le 1 lane && nat_le lane 16 && has (in_of bit) (In lane)) (ins_fit (lane + 1) ins) f in
      let three = left_true (nat_le 1 lane && nat_le lane 16 && has (in_of bit) (In lane)) (ins_fit (lane + 1) ins) f in
      let right = right_true (nat_le 1 lane && nat_le lane 16) (has (in_of bit) (In lane)) three in
      let two = left_true (nat_le 1 lane && nat_le lane 16) (has (in_of bit) (In lane)) three in (
        (e, ((leb-true 1 lane (left_true (nat_le 1 lane) (nat_le lane 16) two), leb-true lane 16 (right_true (nat_le 1 lane) (nat_le lane 16) two)), right)),
        fits_readers (kept_of (in_of bit) seat) (lane + 1) from ins outs inlets outlets e (omega arith) rest m g,
      )

  -- the workers of lanes from a number on, whose bits these are, and the stepper
  pub lanes_fit : (seat : SeatView) (from : ℕ) (some : List ℕ) (inlets : List I) (outlets : List O) → seat.bus ≡ bus → length inlets ≡ length some → length outlets ≡ length some → ins_fit from some ≡ true → outs_fit from some ≡ true
      → let ws : List (Work I O) = readers from inlets ++ (writers from outlets ++ Steps ∷ []) in Fits bus (parted seat (map in_of some ++ (map out_of some ++ stepper_rights ∷ []))) ws
  lanes_fit seat from some inlets outlets e n m f g = fits_readers seat from from some some inlets outlets e n f m g

  pub works_fit : (seat : SeatView) (inlets : List I) (outlets : List O) → seat.bus ≡ bus → length inlets ≡ 16 → length outlets ≡ 16
      → let ws : List (Work I O) = readers 1 inlets ++ (writers 1 outlets ++ Steps ∷ []) in Fits bus (parted seat job_rights) ws
  unfolding parts.job_rights
  works_fit seat inlets outlets e n m = lanes_fit seat 1 bits inlets outlets e n m refl refl

readers_count : {I O : Type 0} (lane : ℕ) (is : List I) (rest : List (Work I O)) → length (readers lane is ++ rest) ≡ length is + length rest
readers_count lane [] rest = let e : length rest ≡ 0 + length rest = omega arith in e
readers_count lane (i ∷ is) rest = let e = readers_count (lane + 1) is rest in omega (arith, e)

writers_count : {I O : Type 0} (lane : ℕ) (os : List O) (rest : List (Work I O)) → length (writers lane os ++ rest) ≡ length os + length rest
writers_count lane [] rest = let e : length rest ≡ 0 + length rest = omega arith in e
writers_count lane (o ∷ os) rest = let e = writers_count (lane + 1) os rest in omega (arith, e)

pub lanes_count : {I O : Type 0} (from : ℕ) (is : List I) (os : List O) → let ws : List (Work I O) = readers from is ++ (writers from os ++ Steps ∷ []) in length ws ≡ length is + length os + 1
lanes_count {I} {O} from is os =
    let last : List (Work I O) = Steps ∷ [] in
    let a = readers_count from is (writers from os ++ last) in
    let b = writers_count from os last in
    let c : length last ≡ 1 = refl in
    omega (arith, a, b, c)

pub works_count : {I O : Type 0} (is : List I) (os : List O) → length is ≡ 16 → length os ≡ 16 → let ws : List (Work I O) = readers 1 is ++ (writers 1 os ++ Steps ∷ []) in length ws ≡ 33
works_count is os n m = let count = lanes_count 1 is os in omega (arith, count, n, m)

pub parted_count : (seat : SeatView) → length (parted seat job_rights) ≡ 33
unfolding parts.job_rights
parted_count seat = refl
