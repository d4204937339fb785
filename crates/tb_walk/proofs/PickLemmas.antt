-- What was found in a row are the offers of its branches.
use Rattle.std.proofs.Common.{◌≡◌, ℕ, suc, ◌+◌, ◌-◌, ◌≤◌, List, [], ◌∷◌, map, take, length, slice_get, Option, Some, None, refl, subst, ◌∙◌, arith, ◌⊎◌, inl, inr}
use Rattle.tb_func.specs.declared.slot.Slot.{Slot}
use Rattle.tb_body.specs.declared.atom.Atom.{Atom}
use Rattle.tb_process_steps.specs.Helpers.Selections.{selected}
use Rattle.tb_process_steps.specs.Offers.{offers}
use Rattle.tb_process_steps.specs.Processes.{Process}
use Rattle.tb_process_steps.specs.Reached.{IsNew}
use Rattle.tb_process_steps.specs.Helpers.OfferViews.{offer_views}
use Rattle.tb_code.specs.Positions.{part}
use Rattle.tb_code.specs.Entries.{followed}
use Rattle.tb_code.specs.declared.behind.Behind.{Behind}
use Rattle.tb_code.specs.declared.behind.Behind.TheVariants as behind
use Rattle.tb_code.proofs.EntryLemmas.{followed-ended}
use Rattle.tb_walk.specs.Helpers.Goings.{term_at, counted, row_sights}
use Rattle.tb_walk.specs.Helpers.Partings.{GoesOn, branch_by}
use Rattle.tb_walk.specs.Helpers.Places.{outset_at, root_at}
use Rattle.tb_walk.specs.Helpers.Sights.{Looking, Sighting, branch_sightings, row_sightings}
use Rattle.tb_walk.specs.Helpers.Takings.{AreThere, LeavesRow, Picks}
use Rattle.tb_walk.specs.declared.branch.Branch.{Branch}
use Rattle.tb_walk.proofs.SightLemmas.{leads, leaving, seen_of, seen-sightings, length-sightings, is_of, new-part, split_get, seen-two}

module _ (whole : Process) (new : IsNew whole) (atoms : List Atom) (now ticks : ℕ) (store : List Slot) where
  abbrev so_far : Branch → Behind
  so_far b = followed (outset_at whole b.position) behind.Ended

  abbrev one_branch : ℕ → Branch → List Sighting
  one_branch at b = branch_sightings whole atoms now ticks store at b

  abbrev rows : ℕ → List Branch → List Sighting
  rows at row = row_sightings whole atoms now ticks store at row

  seen-branch : (at : ℕ) (b : Branch) → map seen_of (one_branch at b) ≡ offer_views atoms now (term_at whole ticks b) store
  unfolding term_at
  seen-branch at b = seen-sightings (record { atoms = atoms; branch = at; age = ticks - b.entered; now = now }) (so_far b) (root_at whole b.position) (part whole b.position) store (new-part whole b.position new)

  length-branch : (at : ℕ) (b : Branch) → length (one_branch at b) ≡ length (offers (term_at whole ticks b) store)
  unfolding term_at
  length-branch at b = length-sightings (record { atoms = atoms; branch = at; age = ticks - b.entered; now = now }) (so_far b) (root_at whole b.position) (part whole b.position) store (new-part whole b.position new)

  pub seen-row : (at : ℕ) (row : List Branch) → map seen_of (rows at row) ≡ row_sights whole atoms now ticks store row
  seen-row at [] = refl
  seen-row at (b ∷ row) =
      seen-two (record { atoms = atoms; branch = at; age = ticks - b.entered; now = now }) (one_branch at b) (rows (suc at) row) _ _ (seen-branch at b) (seen-row (suc at) row)

  leaves_row : (at j : ℕ) (b : Branch) (s : Sighting) → b.entered ≤ ticks → slice_get (one_branch at b) j ≡ Some s → LeavesRow whole ticks b.position b.entered store j (branch_by whole ticks b s.position) s.seen.store
  unfolding term_at selected
  leaves_row at j b s le e =
      let l = leaving atoms now at ticks b.entered le (so_far b) (root_at whole b.position) (part whole b.position) store j s (new-part whole b.position new) e in
      record { left = l.left; selects = l.selects; reads = l.reads }

  -- the branch of what was found, and how many offers stand before it
  record Placed (at : ℕ) (row : List Branch) (k : ℕ) (s : Sighting) : Type 0 where
    pub index : ℕ
    pub one : Branch
    pub here : slice_get row index ≡ Some one
    pub branch : s.branch ≡ at + index
    pub rest : ℕ
    pub counts : k ≡ counted whole ticks store (take index row) + rest
    pub found : slice_get (one_branch (at + index) one) rest ≡ Some s

  placed : (at : ℕ) (row : List Branch) (k : ℕ) (s : Sighting) → slice_get (rows at row) k ≡ Some s → Placed at row k s
  placed at [] k s e = (let t : ◌≡◌ {A = Option Sighting} None (Some s) = e in cc)
  placed at (b ∷ row) k s e = by_side (split_get (one_branch at b) (rows (suc at) row) k s e) (λ i h. placed (suc at) row i s h)
    where
      by_side : (slice_get (one_branch at b) k ≡ Some s) ⊎ ((i : ℕ) × ((k ≡ length (one_branch at b) + i) × (slice_get (rows (suc at) row) i ≡ Some s))) → ((i : ℕ) → slice_get (rows (suc at) row) i ≡ Some s → Placed (suc at) row i s) → Placed at (b ∷ row) k s
      by_side (inl h) f =
          let z : at ≡ at + 0 = omega arith in
          record {
            index = 0;
            one = b;
            here = refl;
            branch = (is_of (record { atoms = atoms; branch = at; age = ticks - b.entered; now = now }) (so_far b) (root_at whole b.position) (part whole b.position) store k s h).1 ∙ z;
            rest = k;
            counts = omega arith;
            found = subst (λ (n : ℕ). slice_get (one_branch n b) k ≡ Some s) z h;
          }
      by_side (inr h) f =
          let p = f h.0 h.1.1 in
          let z : suc at + p.index ≡ at + suc p.index = omega arith in
          record {
            index = suc p.index;
            one = p.one;
            here = p.here;
            branch = p.branch ∙ z;
            rest = p.rest;
            counts = (let a = h.1.0 in let c = p.counts in let n = length-branch at b in omega arith);
            found = subst (λ (n : ℕ). slice_get (one_branch n p.one) p.rest ≡ Some s) z p.found;
          }

  -- its part goes on as it says
  pub goes : (row : List Branch) (k : ℕ) (s : Sighting) → slice_get (rows 0 row) k ≡ Some s → (b : Branch) × ((slice_get row s.branch ≡ Some b) × GoesOn (root_at whole b.position) (part whole b.position) s.position (outset_at whole b.position) s.behind)
  goes row k s e =
      let p = placed 0 row k s e in
      let z : p.index ≡ s.branch = (let h = p.branch in omega arith) in
      let by : Looking = record { atoms = atoms; branch = 0 + p.index; age = ticks - p.one.entered; now = now } in
      let goes_on = leads by (so_far p.one) (root_at whole p.one.position) (part whole p.one.position) store p.rest s p.found in
      let ended = followed-ended (outset_at whole p.one.position) in (
        p.one,
        (
          subst (λ (n : ℕ). slice_get row n ≡ Some p.one) z p.here,
          subst (λ (b : Behind). GoesOn (root_at whole p.one.position) (part whole p.one.position) s.position b s.behind) ended goes_on,
        ),
      )

  pub picks : (row : List Branch) (k : ℕ) (s : Sighting) → AreThere whole ticks row → slice_get (rows 0 row) k ≡ Some s → (b : Branch) × ((slice_get row s.branch ≡ Some b) × Picks whole ticks row store k s.branch (branch_by whole ticks b s.position) s.seen.store)
  picks row k s there e =
      let p = placed 0 row k s e in
      let z : p.index ≡ s.branch = (let h = p.branch in omega arith) in
      let here : slice_get row s.branch ≡ Some p.one = subst (λ (n : ℕ). slice_get row n ≡ Some p.one) z p.here in (
        p.one,
        (
          here,
          record {
            one = p.one;
            here = here;
            rest = p.rest;
            counts = subst (λ (n : ℕ). k ≡ counted whole ticks store (take n row) + p.rest) z p.counts;
            takes = leaves_row (0 + p.index) p.rest p.one s (there p.index p.one p.here).1 p.found;
          },
        ),
      )
