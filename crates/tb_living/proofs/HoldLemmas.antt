-- The inboxes of the running processes when one inbox changes.
use Rattle.std.proofs.Common.{◌≡◌, ◌≢◌, ℕ, zero, suc, List, [], ◌∷◌, length, refl, ap, sym, ◌∙◌, arith, Some, slice_get, slice_set, get_or, option_map}
use Rattle.std.proofs.lemmas.Option.{slice_get-map, slice_get_within, get_or_from_slice_get}
use Rattle.std.proofs.lemmas.List.{length-map, map-set, get_or-set_other, get_or-set_same}
use Rattle.std.proofs.Math.Seq.{map-set_same}
use Rattle.tb_notes.specs.Inboxes.{Contents, Held, nothing}
use Rattle.tb_search.specs.Candidates.{row_at, rows_of}
use Rattle.tb_search.specs.declared.living.Living.{Living}
use Rattle.tb_living.specs.Holdings.{helds_of, held_at, spares_of, spare_at, bare, bares_of, IsHeldAt, HoldTheSame}

-- what the row at an index shows is held there
pub row-held : {W : Type 0} (all : List (Living W)) (at : ℕ) → (row_at (rows_of all) at).inbox ≡ held_at all at
row-held [] at = refl
row-held (living ∷ all) zero = refl
row-held (living ∷ all) (suc at) = row-held all at

pub held-there : {W : Type 0} (all : List (Living W)) (at : ℕ) (living : Living W) → slice_get all at ≡ Some living → held_at all at ≡ living.inbox.held
held-there all at living here = get_or_from_slice_get (helds_of all) at living.inbox.held nothing (slice_get-map (λ (l : Living _). l.inbox.held) all at ∙ ap (option_map (λ (l : Living _). l.inbox.held)) here)

pub spare-there : {W : Type 0} (all : List (Living W)) (at : ℕ) (living : Living W) → slice_get all at ≡ Some living → spare_at all at ≡ living.inbox.spare
spare-there all at living here = get_or_from_slice_get (spares_of all) at living.inbox.spare 0 (slice_get-map (λ (l : Living _). l.inbox.spare) all at ∙ ap (option_map (λ (l : Living _). l.inbox.spare)) here)

-- one inbox is changed

module _ {W : Type 0} (all : List (Living W)) (at : ℕ) (living : Living W) (inbox : Contents) (here : slice_get all at ≡ Some living) where
  bares-set : bares_of (slice_set all at (record living { inbox = inbox })) ≡ bares_of all
  bares-set =
      let changed : Living W = record living { inbox = inbox } in
      map-set_same bare all at changed living (ap bare (sym (get_or_from_slice_get all at living living here)))

  pub held-set : (held : Held) → inbox.held ≡ held → IsHeldAt all at held (slice_set all at (record living { inbox = inbox }))
  held-set held e = record {
    bares = bares-set;
    helds = map-set (λ (l : Living W). l.inbox.held) all at (record living { inbox = inbox }) ∙ ap (slice_set (helds_of all) at) e;
  }

  pub same-set : inbox.held ≡ living.inbox.held → HoldTheSame all (slice_set all at (record living { inbox = inbox }))
  same-set e =
      let changed : Living W = record living { inbox = inbox } in
      record {
        bares = bares-set;
        helds = map-set_same (λ (l : Living W). l.inbox.held) all at changed living (e ∙ ap (λ (l : Living W). l.inbox.held) (sym (get_or_from_slice_get all at living living here)));
      }

  -- the others have as much memory as before
  pub spare-set : (other : ℕ) → other ≢ at → spare_at (slice_set all at (record living { inbox = inbox })) other ≡ spare_at all other
  spare-set other ne =
      ap (λ (ns : List ℕ). get_or ns other 0) (map-set (λ (l : Living W). l.inbox.spare) all at (record living { inbox = inbox })) ∙ get_or-set_other (spares_of all) at other inbox.spare 0 ne

  pub spare-here : spare_at (slice_set all at (record living { inbox = inbox })) at ≡ inbox.spare
  spare-here =
      let many = length-map all (λ (l : Living W). l.inbox.spare) in
      let within = slice_get_within all at living here in
      ap (λ (ns : List ℕ). get_or ns at 0) (map-set (λ (l : Living W). l.inbox.spare) all at (record living { inbox = inbox })) ∙ get_or-set_same (spares_of all) at inbox.spare 0 (omega arith)

pub same-long : {W : Type 0} (old new : List (Living W)) → bares_of new ≡ bares_of old → length new ≡ length old
same-long {W = W} old new e = sym (length-map new bare) ∙ ap (λ (xs : List (Living W)). length xs) e ∙ length-map old bare

pub hold-then : {W : Type 0} (old middle new : List (Living W)) → HoldTheSame old middle → HoldTheSame middle new → HoldTheSame old new
hold-then old middle new one other = record { bares = other.bares ∙ one.bares; helds = other.helds ∙ one.helds }
