-- What becomes of a row where an offer of one of its branches is taken.
use Rattle.std.proofs.Common.{◌≡◌, ℕ, suc, ◌+◌, ◌-◌, List, [], ◌∷◌, ◌++◌, map, length, slice_get, Option, Some, None, refl, ap, sym, subst, ◌∙◌, arith, inl, inr}
use Rattle.std.proofs.lemmas.List.{append-nil}
use Rattle.tb_func.specs.declared.slot.Slot.{Slot}
use Rattle.tb_process_steps.specs.Helpers.Selections.{Selected, On, selected, selected_at, selected_with, or_past}
use Rattle.tb_process_steps.specs.Offers.{Offered, offers}
use Rattle.tb_process_steps.specs.Processes.{Process}
use Rattle.tb_process_steps.specs.Helpers.Runnings.{waited}
use Rattle.tb_process_steps.specs.Walks.{offers_of_term}
use Rattle.tb_process_steps.proofs.SelectedLemmas.{at-append, at-map, with_left}
use Rattle.tb_code.specs.Positions.{size, part, positions, root}
use Rattle.tb_code.specs.declared.node.Node.{Node}
use Rattle.tb_code.proofs.Parts.{stands_whole}
use Rattle.tb_walk.specs.Helpers.Goings.{term_at, counted}
use Rattle.tb_walk.specs.Helpers.Reads.{Reads, ended}
use Rattle.tb_walk.specs.Helpers.Rests.{kept_by, or_rest, rest_behind}
use Rattle.tb_walk.specs.declared.branch.Branch.{Branch}
use Rattle.tb_walk.proofs.Ranges.{outside-nil}
use Rattle.tb_walk.proofs.ReadLemmas.{ends_together, EndsTogether}
use Rattle.tb_walk.proofs.Contexts.{Context, Ends, together, continues, context}
use Rattle.tb_walk.proofs.EndingLemmas.{rest-none}

pub at-skip : (k : ℕ) (xs ys : List Offered) → selected_at (length xs + k) (xs ++ ys) ≡ selected_at k ys
at-skip k [] ys = let e : 0 + k ≡ k = omega arith in ap (λ (n : ℕ). selected_at n ys) e
at-skip k (x ∷ xs) ys =
    let e : suc (length xs) + k ≡ suc (length xs + k) = omega arith in
    ap (λ (n : ℕ). selected_at n (x ∷ (xs ++ ys))) e ∙ at-skip k xs ys

-- the offer of a branch, among those of the whole
at-branch : (plug : Option Process → Option Process) (first xs last : List Offered) (k j : ℕ) (r : Option Process) (own : List Slot) → k ≡ length first + j → selected_at j xs ≡ On r own → selected_at k (first ++ (map (with_left plug) xs ++ last)) ≡ On (plug r) own
at-branch plug first xs last k j r own e h =
    ap (λ (n : ℕ). selected_at n (first ++ (map (with_left plug) xs ++ last))) e
    ∙ at-skip j first (map (with_left plug) xs ++ last)
    ∙ at-append j (map (with_left plug) xs) last
    ∙ ap (λ (g : Selected). or_past g (λ rest. selected_at rest last)) (at-map plug j xs ∙ ap (selected_with plug) h)

-- what is left then, and the row that stands for it
pub record Went (whole : Process) (ticks : ℕ) (t : Option Process) (store : List Slot) (k : ℕ) (own : List Slot) (row : List Branch) : Type 0 where
  pub left : Option Process
  pub selects : selected_at k (offers_of_term t store) ≡ On left own
  pub reads : Reads ticks 0 whole row left

module _ (whole : Process) (ticks : ℕ) (t : Option Process) (pre : List Branch) (b : Branch) (post : List Branch) (ctx : Context whole ticks 0 whole None t b pre post) where
  ended_row : Ends whole ticks 0 whole None ctx.place.frame ctx.stays post (ctx.plug None) → Reads ticks 0 whole (ctx.stays ++ rest_behind whole ticks ctx.place.frame ctx.stays post) (ctx.plug None)
  ended_row (together e f g) =
      let all : rest_behind whole ticks ctx.place.frame [] post ≡ [] = ap (rest_behind whole ticks ctx.place.frame []) (sym (append-nil post)) ∙ g [] [] (outside-nil 0 (0 + size whole)) (outside-nil 0 (0 + size whole)) ∙ rest-none whole ticks [] [] in
      let row : ctx.stays ++ rest_behind whole ticks ctx.place.frame ctx.stays post ≡ [] = ap (λ (m : List Branch). m ++ rest_behind whole ticks ctx.place.frame m post) e ∙ all in
      rw (row, f) ended
  ended_row (continues rest term f k e) =
      let same : rest_behind whole ticks ctx.place.frame ctx.stays post ≡ rest = ap (rest_behind whole ticks ctx.place.frame ctx.stays) (sym (append-nil post)) ∙ f [] [] (outside-nil 0 (0 + size whole)) (outside-nil 0 (0 + size whole)) ∙ append-nil rest in
      rw (same, e) k

  left_row : (seg : List Branch) (r : Option Process) → Reads ticks (root ctx.place.op b.position) ctx.term seg r → EndsTogether ticks seg r → Reads ticks 0 whole (ctx.stays ++ or_rest seg post (rest_behind whole ticks ctx.place.frame ctx.stays post)) (ctx.plug r)
  left_row seg r h (inl k) = rw (k.0, k.1) (ended_row ctx.ends)
  left_row seg r h (inr k) =
      let reads = subst (λ (o : Option Process). Reads ticks (root ctx.place.op b.position) ctx.term seg o) k.1.1.1.1 h in
      let g = ctx.grows seg k.1.1.1.0 reads in
      let row : or_rest seg post (rest_behind whole ticks ctx.place.frame ctx.stays post) ≡ seg ++ post = rw k.1.1.0 refl in
      rw (row, k.1.1.1.1, g.is) g.reads

-- The offer of a branch is one of the whole, and where it is taken the row goes on: what the position keeps of the branches before, what is left
-- of the part with the branches behind, or what stands behind where the part has ended.
pub went : (whole : Process) (ticks : ℕ) (row pre : List Branch) (b : Branch) (post : List Branch) (t : Option Process) (n : Node) (seg : List Branch) (r : Option Process) (store own : List Slot) (k j : ℕ) →
    Reads ticks 0 whole row t → row ≡ pre ++ (b ∷ post) → slice_get (positions whole) b.position ≡ Some n →
    Reads ticks (root n.op b.position) (part whole b.position) seg r → selected (term_at whole ticks b) store j ≡ On r own → k ≡ counted whole ticks store pre + j →
    Went whole ticks t store k own (kept_by n.op b.position pre ++ or_rest seg post (rest_behind whole ticks n.frame (kept_by n.op b.position pre) post))
unfolding term_at selected
went whole ticks row pre b post t n seg r store own k j reads is node part-reads selects place =
    let ctx = context whole ticks None reads (stands_whole whole) tt pre b post is in
    let same : ctx.place ≡ n = (let u : ◌≡◌ {A = Option Node} (Some ctx.place) (Some n) = sym ctx.here ∙ node in cc) in
    let now = waited (ticks - b.entered) ctx.term in
    let o = ctx.offering store in
    let first = o.counted_first in
    let at : selected_at j (offers now store) ≡ On r own = ap (λ (p : Process). selected_at j (offers (waited (ticks - b.entered) p) store)) (sym ctx.is) ∙ selects in
    let inner : Reads ticks (root ctx.place.op b.position) ctx.term seg r = subst (λ (m : Node). Reads ticks (root m.op b.position) ctx.term seg r) (sym same) (subst (λ (p : Process). Reads ticks (root n.op b.position) p seg r) ctx.is part-reads) in
    let keeps : kept_by ctx.place.op b.position pre ≡ ctx.stays = ctx.keeps [] (outside-nil 0 (0 + size whole)) in
    let new = left_row whole ticks t pre b post ctx seg r inner (ends_together ticks inner) in
    record {
      left = ctx.plug r;
      selects = ap (λ (q : Option Process). selected_at k (offers_of_term q store)) o.is ∙ ap (selected_at k) o.are ∙ at-branch ctx.plug o.first (offers now store) o.last k j r own (omega arith) at;
      reads =
          subst (λ (m : Node). Reads ticks 0 whole (kept_by m.op b.position pre ++ or_rest seg post (rest_behind whole ticks m.frame (kept_by m.op b.position pre) post)) (ctx.plug r)) same
          (subst (λ (l : List Branch). Reads ticks 0 whole (l ++ or_rest seg post (rest_behind whole ticks ctx.place.frame l post)) (ctx.plug r)) (sym keeps) new);
    }
