-- The workers after the call of the crew, whether the crew did the jobs or not.
use Rattle.std.proofs.Common.{◌≡◌, ◌+◌, ℕ, zero, suc, List, [], ◌∷◌, ◌++◌, map, length, Option, refl, sym, ap, ◌∙◌, subst, append-nil, arith}
use Rattle.std.proofs.lemmas.List.{length-map}
use Rattle.std.specs.List.{All, AllZip, cons_option}
use Rattle.tb_edge.specs.Ends.{InletView}
use Rattle.tb_edge.specs.Jobs.{AllDone}
use Rattle.tb_edge.specs.declared.given.Taken.{Taken}
use Rattle.atomic_table.specs.Seated.{TableId}
use Rattle.tb_lock.specs.declared.rights.Rights.{Rights}
use Rattle.tb_lock.specs.Rights.{no_rights, ticker_rights}
use Rattle.tb_lock.specs.Seats.{SeatView, first_seat, kept_of, handed_on}
use Rattle.tb_run.specs.declared.ends.WorkEnd.{WorkEnd}
use Rattle.tb_run.specs.declared.worker.Work.{Work}
use Rattle.tb_run.specs.declared.worker.Work.TheVariants.{Reads, Writes, Steps}
use Rattle.tb_run.specs.Moving.{readers, writers, inlets_of, outlets_of, inlet_of, outlet_of}
use Rattle.tb_run.specs.Parting.{parted, left_after}
use Rattle.tb_run.specs.Parts.{job_rights}
use Rattle.tb_run.proofs.BusLemmas.{first_new}
use Rattle.tb_run.proofs.NothingLemmas.{works_inlets, works_outlets, readers_outlets, writers_inlets}
use Rattle.tb_run.proofs.PartLemmas.{lanes_count, left_bus}
use Rattle.tb_run.proofs.RunLemmas.{Does, Done, adds_of}
use Rattle.tb_run.proofs.WorkedLemmas.{EachNew}
use Rattle.tb_run.proofs.WentLemmas.{zip_done}

pub inlets_works : {I O : Type 0} (from : ℕ) (is : List I) (os : List O) → let ws : List (Work I O) = readers from is ++ (writers from os ++ Steps ∷ []) in inlets_of ws ≡ is
inlets_works {I} {O} from is os =
    let last : List (Work I O) = Steps ∷ [] in
    works_inlets from is (writers from os ++ last) ∙ (ap (λ (s : List I). is ++ s) (writers_inlets from os last) ∙ append-nil is)

pub outlets_works : {I O : Type 0} (from : ℕ) (is : List I) (os : List O) → let ws : List (Work I O) = readers from is ++ (writers from os ++ Steps ∷ []) in outlets_of ws ≡ os
outlets_works {I} {O} from is os =
    let last : List (Work I O) = Steps ∷ [] in
    readers_outlets from is (writers from os ++ last) ∙ (works_outlets from os last ∙ append-nil os)

all_cons : {X : Type 0} (P : X → Type 0) (x : X) (xs : List X) → P x → All P xs → All P (x ∷ xs)
all_cons P x xs p a zero d h = p
all_cons P x xs p a (suc k) d h = a k d (omega (arith, h))

all_none : {X : Type 0} (P : X → Type 0) → All P []
all_none P k d h = absurd (omega (arith, h))

all_map : {X Y : Type 0} (f : X → Y) (P : Y → Type 0) (xs : List X) → All (λ (x : X). P (f x)) xs → All P (map f xs)
all_map f P [] a = all_none P
all_map f P (x ∷ xs) a = all_cons P (f x) (map f xs) (a zero x (omega arith)) (all_map f P xs (λ k d h. a (suc k) d (omega (arith, h))))

-- two seats and those of the workers are of one bus
pub all_joined : {X : Type 0} (seat : X → SeatView) (bus : TableId) (one two : SeatView) (xs : List X) → one.bus ≡ bus → two.bus ≡ bus → All (λ (x : X). (seat x).bus ≡ bus) xs → All (λ (s : SeatView). s.bus ≡ bus) (one ∷ two ∷ map seat xs)
all_joined seat bus one two xs a b c =
    all_cons (λ (s : SeatView). s.bus ≡ bus) one (two ∷ map seat xs) a (all_cons (λ (s : SeatView). s.bus ≡ bus) two (map seat xs) b (all_map seat (λ (s : SeatView). s.bus ≡ bus) xs c))

module _ {X I O : Type 0} (seat : X → SeatView) (ended : X → WorkEnd) (work : X → Work I O) (gave : I → Option InletView) (fails : I → ℕ) (took : O → Option (List Taken)) (faults : O → ℕ) where
  -- the bus of each seat is that of the first
  pub buses_new : (first : SeatView) (xs : List X) → EachNew first (map seat xs) → All (λ (x : X). (seat x).bus ≡ first.bus) xs
  buses_new first [] n = all_none (λ (x : X). (seat x).bus ≡ first.bus)
  buses_new first (x ∷ xs) n = all_cons (λ (x : X). (seat x).bus ≡ first.bus) x xs n.0.bus (buses_new first xs n.1)

  pub buses_done : (first : SeatView) (xs ys : List X) → AllZip (Done seat ended work gave fails took faults) xs ys → EachNew first (map seat xs) → All (λ (x : X). (seat x).bus ≡ first.bus) ys
  buses_done first [] [] z n = all_none (λ (x : X). (seat x).bus ≡ first.bus)
  buses_done first [] (y ∷ ys) z n = absurd z
  buses_done first (x ∷ xs) [] z n = absurd z
  buses_done first (x ∷ xs) (y ∷ ys) z n =
      all_cons (λ (x : X). (seat x).bus ≡ first.bus) y ys
      ((adds_of seat ended work gave fails took faults (seat x) (seat y) (ended y) (work x) (work y) z.0).1.bus ∙ n.0.bus) (buses_done first xs ys z.1 n.1)

  -- as many inlets and outlets come back
  inlets_stay : (xs ys : List X) → AllZip (Done seat ended work gave fails took faults) xs ys → length (inlets_of (map work ys)) ≡ length (inlets_of (map work xs))
  inlets_stay [] [] z = refl
  inlets_stay [] (y ∷ ys) z = absurd z
  inlets_stay (x ∷ xs) [] z = absurd z
  inlets_stay (x ∷ xs) (y ∷ ys) z = go (work x) (work y) z.0 (inlets_stay xs ys z.1)
    where
      go : (w w' : Work I O) → Does seat ended work gave fails took faults (seat x) (seat y) (ended y) w w' → length (inlets_of (map work ys)) ≡ length (inlets_of (map work xs))
          → length (cons_option (inlet_of w') (inlets_of (map work ys))) ≡ length (cons_option (inlet_of w) (inlets_of (map work xs)))
      go (Reads lane i) (Reads lane' i') d e = ap suc e
      go (Writes lane o) (Writes lane' o') d e = e
      go Steps Steps d e = e
      go (Reads lane i) (Writes lane' o') d e = absurd d
      go (Reads lane i) Steps d e = absurd d
      go (Writes lane o) (Reads lane' i') d e = absurd d
      go (Writes lane o) Steps d e = absurd d
      go Steps (Reads lane' i') d e = absurd d
      go Steps (Writes lane' o') d e = absurd d

  outlets_stay : (xs ys : List X) → AllZip (Done seat ended work gave fails took faults) xs ys → length (outlets_of (map work ys)) ≡ length (outlets_of (map work xs))
  outlets_stay [] [] z = refl
  outlets_stay [] (y ∷ ys) z = absurd z
  outlets_stay (x ∷ xs) [] z = absurd z
  outlets_stay (x ∷ xs) (y ∷ ys) z = go (work x) (work y) z.0 (outlets_stay xs ys z.1)
    where
      go : (w w' : Work I O) → Does seat ended work gave fails took faults (seat x) (seat y) (ended y) w w' → length (outlets_of (map work ys)) ≡ length (outlets_of (map work xs))
          → length (cons_option (outlet_of w') (outlets_of (map work ys))) ≡ length (cons_option (outlet_of w) (outlets_of (map work xs)))
      go (Reads lane i) (Reads lane' i') d e = e
      go (Writes lane o) (Writes lane' o') d e = ap suc e
      go Steps Steps d e = e
      go (Reads lane i) (Writes lane' o') d e = absurd d
      go (Reads lane i) Steps d e = absurd d
      go (Writes lane o) (Reads lane' i') d e = absurd d
      go (Writes lane o) Steps d e = absurd d
      go Steps (Reads lane' i') d e = absurd d
      go Steps (Writes lane' o') d e = absurd d

  -- what gathering the workers of so many lanes needs, and the stepper
  pub record CanGatherLanes (bus : TableId) (lanes : ℕ) (ys : List X) : Type 0 where
    pub buses : All (λ (x : X). (seat x).bus ≡ bus) ys
    pub count : length ys ≡ lanes + lanes + 1
    pub inlets : length (inlets_of (map work ys)) ≡ lanes
    pub outlets : length (outlets_of (map work ys)) ≡ lanes

  module _ (begun : SeatView) (rights : List Rights) (from lanes : ℕ) (is : List I) (os : List O) (xs ys : List X)
      (first : begun ≡ first_seat begun.bus begun.origin) (seats : map seat xs ≡ parted begun rights) (works : map work xs ≡ readers from is ++ (writers from os ++ Steps ∷ []))
      (so_many_in : length is ≡ lanes) (so_many_out : length os ≡ lanes) where
    new_seats : EachNew begun (map seat xs)
    new_seats = subst (EachNew begun) (sym seats) (first_new begun rights first)

    so_many : length xs ≡ lanes + lanes + 1
    so_many =
        let all : length (map work xs) ≡ length is + length os + 1 = ap length works ∙ lanes_count from is os in
        let same : length (map work xs) ≡ length xs = length-map xs work in
        omega (arith, all, same, so_many_in, so_many_out)

    inlets_there : length (inlets_of (map work xs)) ≡ lanes
    inlets_there = ap (λ (ws : List (Work I O)). length (inlets_of ws)) works ∙ (ap length (inlets_works from is os) ∙ so_many_in)

    outlets_there : length (outlets_of (map work xs)) ≡ lanes
    outlets_there = ap (λ (ws : List (Work I O)). length (outlets_of ws)) works ∙ (ap length (outlets_works from is os) ∙ so_many_out)

    pub lanes_done : AllDone (Done seat ended work gave fails took faults) xs ys → CanGatherLanes begun.bus lanes ys
    lanes_done d =
        let z = zip_done (Done seat ended work gave fails took faults) xs ys d in
        record { buses = buses_done begun xs ys z new_seats; count = d.0 ∙ so_many; inlets = inlets_stay xs ys z ∙ inlets_there; outlets = outlets_stay xs ys z ∙ outlets_there }

    pub lanes_same : ys ≡ xs → CanGatherLanes begun.bus lanes ys
    lanes_same e = subst (CanGatherLanes begun.bus lanes) (sym e) (record { buses = buses_new begun xs new_seats; count = so_many; inlets = inlets_there; outlets = outlets_there })

  -- likewise, of a run, with the seats of the tick worker and of the job that writes the log
  pub record CanGather (bus : TableId) (ys : List X) (tick log : SeatView) : Type 0 where
    pub buses : All (λ (x : X). (seat x).bus ≡ bus) ys
    pub tick_bus : tick.bus ≡ bus
    pub log_bus : log.bus ≡ bus
    pub count : length ys ≡ 33
    pub inlets : length (inlets_of (map work ys)) ≡ 16
    pub outlets : length (outlets_of (map work ys)) ≡ 16

  module _ (begun : SeatView) (is : List I) (os : List O) (xs ys : List X) (tick_begun tick_done log_begun log_done : SeatView)
      (first : begun ≡ first_seat begun.bus begun.origin) (seats : map seat xs ≡ parted begun job_rights) (works : map work xs ≡ readers 1 is ++ (writers 1 os ++ Steps ∷ []))
      (tick_is : tick_begun ≡ handed_on ticker_rights (left_after begun job_rights)) (log_is : log_begun ≡ handed_on no_rights (kept_of ticker_rights (left_after begun job_rights)))
      (sixteen_in : length is ≡ 16) (sixteen_out : length os ≡ 16) where
    tick_bus : tick_begun.bus ≡ begun.bus
    tick_bus = ap (λ (s : SeatView). s.bus) tick_is ∙ left_bus begun job_rights

    log_bus : log_begun.bus ≡ begun.bus
    log_bus = ap (λ (s : SeatView). s.bus) log_is ∙ left_bus begun job_rights

    gather_so : CanGatherLanes begun.bus 16 ys → tick_done.bus ≡ begun.bus → log_done.bus ≡ begun.bus → CanGather begun.bus ys tick_done log_done
    gather_so lanes tick log = record { buses = lanes.buses; tick_bus = tick; log_bus = log; count = lanes.count; inlets = lanes.inlets; outlets = lanes.outlets }

    pub gather_done : AllDone (Done seat ended work gave fails took faults) xs ys → tick_done.bus ≡ tick_begun.bus → log_done.bus ≡ log_begun.bus → CanGather begun.bus ys tick_done log_done
    gather_done d tick log = gather_so (lanes_done begun job_rights 1 16 is os xs ys first seats works sixteen_in sixteen_out d) (tick ∙ tick_bus) (log ∙ log_bus)

    pub gather_same : ys ≡ xs → tick_done ≡ tick_begun → log_done ≡ log_begun → CanGather begun.bus ys tick_done log_done
    gather_same e tick log =
        gather_so (lanes_same begun job_rights 1 16 is os xs ys first seats works sixteen_in sixteen_out e) (ap (λ (s : SeatView). s.bus) tick ∙ tick_bus) (ap (λ (s : SeatView). s.bus) log ∙ log_bus)
