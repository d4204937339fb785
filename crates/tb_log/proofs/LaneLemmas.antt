-- The statements of a log about a lane and about time: for a log in two parts, and for a log without some entries that don't matter.
use Rattle.std.proofs.Common.{◌≡◌, ◌==◌, ◌+◌, ℕ, List, [], ◌∷◌, ◌++◌, Bool, true, false, cond, not, ◌&&◌, Option, None, if◌then◌else◌, refl, sym, ap, ◌∙◌, arith}
use Rattle.std.specs.List.{filter_map, cons_option, fold}
use Rattle.std.specs.Prelude.{filter, count_by}
use Rattle.std.proofs.lemmas.List.Elements.{filter_map-append}
use Rattle.tb_log.specs.declared.entry.Input.{Input}
use Rattle.tb_log.specs.declared.entry.Reply.{Reply}
use Rattle.tb_log.specs.declared.entry.Out.{Out}
use Rattle.tb_log.specs.declared.entry.Entry.{Entry}
use Rattle.tb_log.specs.declared.entry.Entry.TheVariants.{Did, Quiet, Fed, Gave}
use Rattle.tb_log.specs.Lanes.{handed, handed_by, sent, cuts, is_cut_off, inputs, input_by, ticks, is_tick}

-- A log in two parts.

pub handed_append : (log more : List Entry) (lane : ℕ) → handed (log ++ more) lane ≡ handed log lane ++ handed more lane
handed_append log more lane = filter_map-append (handed_by lane) log more

pub inputs_append : (log more : List Entry) (lane : ℕ) → inputs (log ++ more) lane ≡ inputs log lane ++ inputs more lane
inputs_append log more lane = filter_map-append (input_by lane) log more

fold_on : {X : Type 0} (q : X → Bool) (xs : List X) (n : ℕ) → fold (λ a x. a + cond (q x) 1 0) n xs ≡ n + count_by q xs
fold_on q [] n = omega arith
fold_on q (x ∷ xs) n =
    let one = fold_on q xs (n + cond (q x) 1 0) in
    let other = fold_on q xs (0 + cond (q x) 1 0) in
    omega (arith, one, other)

fold_append : {X : Type 0} (q : X → Bool) (xs ys : List X) (n : ℕ) → fold (λ a x. a + cond (q x) 1 0) n (xs ++ ys) ≡ fold (λ a x. a + cond (q x) 1 0) (fold (λ a x. a + cond (q x) 1 0) n xs) ys
fold_append q [] ys n = refl
fold_append q (x ∷ xs) ys n = fold_append q xs ys (n + cond (q x) 1 0)

pub count_append : {X : Type 0} (q : X → Bool) (xs ys : List X) → count_by q (xs ++ ys) ≡ count_by q xs + count_by q ys
count_append q xs ys = fold_append q xs ys 0 ∙ fold_on q ys (count_by q xs)

pub ticks_append : (log more : List Entry) → ticks (log ++ more) ≡ ticks log + ticks more
ticks_append log more = count_append is_tick log more

-- If the second part has no cut of the lane before its first output on the lane, it cuts off no output of the first part.
pub cut_off_append : (log more : List Entry) (lane : ℕ) → is_cut_off more lane ≡ false → is_cut_off (log ++ more) lane ≡ is_cut_off log lane
cut_off_append [] more lane starts = starts
cut_off_append (Did label ∷ log) more lane starts = cut_off_append log more lane starts
cut_off_append (Quiet ∷ log) more lane starts = cut_off_append log more lane starts
cut_off_append (Fed it reply ∷ log) more lane starts = ap (λ (b : Bool). if cuts lane it then true else b) (cut_off_append log more lane starts)
cut_off_append (Gave at out ∷ log) more lane starts = ap (λ (b : Bool). if at == lane then false else b) (cut_off_append log more lane starts)

put_before : (b : Bool) (out : Out) (xs ys : List Out) → (if b then out ∷ (xs ++ ys) else (xs ++ ys)) ≡ (if b then out ∷ xs else xs) ++ ys
put_before true out xs ys = refl
put_before false out xs ys = refl

pub sent_append : (log more : List Entry) (lane : ℕ) → is_cut_off more lane ≡ false → sent (log ++ more) lane ≡ sent log lane ++ sent more lane
sent_append [] more lane starts = refl
sent_append (Did label ∷ log) more lane starts = sent_append log more lane starts
sent_append (Quiet ∷ log) more lane starts = sent_append log more lane starts
sent_append (Fed it reply ∷ log) more lane starts = sent_append log more lane starts
sent_append (Gave at out ∷ log) more lane starts =
    ap (λ (b : Bool). if (at == lane) && not b then out ∷ sent (log ++ more) lane else sent (log ++ more) lane) (cut_off_append log more lane starts)
    ∙ (ap (λ (s : List Out). if (at == lane) && not (is_cut_off log lane) then out ∷ s else s) (sent_append log more lane starts)
    ∙ put_before ((at == lane) && not (is_cut_off log lane)) out (sent log lane) (sent more lane))

-- A log without some entries.

keep : {X Y : Type 0} (f : X → Option Y) (p : X → Bool) → ((x : X) → p x ≡ false → f x ≡ None) → (xs : List X) → filter_map f (filter p xs) ≡ filter_map f xs
keep f p none [] = refl
keep f p none (x ∷ xs) = go (keep f p none xs) (p x) refl
  where
    go : filter_map f (filter p xs) ≡ filter_map f xs → (b : Bool) → p x ≡ b → filter_map f (cond b (x ∷ filter p xs) (filter p xs)) ≡ cons_option (f x) (filter_map f xs)
    go hyp true e = ap (cons_option (f x)) hyp
    go hyp false e = hyp ∙ sym (ap (λ o. cons_option o (filter_map f xs)) (none x e))

keep_fold : {X : Type 0} (q p : X → Bool) → ((x : X) → p x ≡ false → q x ≡ false) → (xs : List X) (n : ℕ) → fold (λ a x. a + cond (q x) 1 0) n (filter p xs) ≡ fold (λ a x. a + cond (q x) 1 0) n xs
keep_fold q p none [] n = refl
keep_fold q p none (x ∷ xs) n = go (λ m. keep_fold q p none xs m) (p x) refl
  where
    go : ((m : ℕ) → fold (λ a x. a + cond (q x) 1 0) m (filter p xs) ≡ fold (λ a x. a + cond (q x) 1 0) m xs) → (b : Bool) → p x ≡ b
        → fold (λ a x. a + cond (q x) 1 0) n (cond b (x ∷ filter p xs) (filter p xs)) ≡ fold (λ a x. a + cond (q x) 1 0) (n + cond (q x) 1 0) xs
    go hyp true e = hyp (n + cond (q x) 1 0)
    go hyp false e =
        let same : n ≡ n + 0 = omega arith in
        hyp n ∙ ap (λ (m : ℕ). fold (λ a x. a + cond (q x) 1 0) m xs) (same ∙ ap (λ (b : Bool). n + cond b 1 0) (sym (none x e)))

pub count_kept : {X : Type 0} (q p : X → Bool) → ((x : X) → p x ≡ false → q x ≡ false) → (xs : List X) → count_by q (filter p xs) ≡ count_by q xs
count_kept q p none xs = keep_fold q p none xs 0

pub handed_kept : (p : Entry → Bool) (lane : ℕ) → ((entry : Entry) → p entry ≡ false → handed_by lane entry ≡ None) → (log : List Entry) → handed (filter p log) lane ≡ handed log lane
handed_kept p lane none log = keep (handed_by lane) p none log

pub inputs_kept : (p : Entry → Bool) (lane : ℕ) → ((entry : Entry) → p entry ≡ false → input_by lane entry ≡ None) → (log : List Entry) → inputs (filter p log) lane ≡ inputs log lane
inputs_kept p lane none log = keep (input_by lane) p none log

pub ticks_kept : (p : Entry → Bool) → ((entry : Entry) → p entry ≡ false → is_tick entry ≡ false) → (log : List Entry) → ticks (filter p log) ≡ ticks log
ticks_kept p none log = count_kept is_tick p none log

-- if each cut of the lane and each output on the lane is kept
module _ (p : Entry → Bool) (lane : ℕ) (no_cut : (it : Input) (reply : Reply) → p (Fed it reply) ≡ false → cuts lane it ≡ false) (no_out : (at : ℕ) (out : Out) → p (Gave at out) ≡ false → (at == lane) ≡ false) where
  same_cut_off : (entry : Entry) (log : List Entry) → is_cut_off (entry ∷ filter p log) lane ≡ is_cut_off (entry ∷ log) lane → (p entry ≡ false → is_cut_off (filter p log) lane ≡ is_cut_off (entry ∷ log) lane) → (b : Bool) → p entry ≡ b
      → is_cut_off (cond b (entry ∷ filter p log) (filter p log)) lane ≡ is_cut_off (entry ∷ log) lane
  same_cut_off entry log one other true e = one
  same_cut_off entry log one other false e = other e

  pub cut_off_kept : (log : List Entry) → is_cut_off (filter p log) lane ≡ is_cut_off log lane
  cut_off_kept [] = refl
  cut_off_kept (Did label ∷ log) = same_cut_off (Did label) log (cut_off_kept log) (λ e. cut_off_kept log) (p (Did label)) refl
  cut_off_kept (Quiet ∷ log) = same_cut_off Quiet log (cut_off_kept log) (λ e. cut_off_kept log) (p Quiet) refl
  cut_off_kept (Fed it reply ∷ log) =
      same_cut_off (Fed it reply) log (ap (λ (x : Bool). if cuts lane it then true else x) (cut_off_kept log))
      (λ e. cut_off_kept log ∙ sym (ap (λ (x : Bool). if x then true else is_cut_off log lane) (no_cut it reply e))) (p (Fed it reply)) refl
  cut_off_kept (Gave at out ∷ log) =
      same_cut_off (Gave at out) log (ap (λ (x : Bool). if at == lane then false else x) (cut_off_kept log))
      (λ e. cut_off_kept log ∙ sym (ap (λ (x : Bool). if x then false else is_cut_off log lane) (no_out at out e))) (p (Gave at out)) refl

  same_sent : (entry : Entry) (log : List Entry) → sent (entry ∷ filter p log) lane ≡ sent (entry ∷ log) lane → (p entry ≡ false → sent (filter p log) lane ≡ sent (entry ∷ log) lane) → (b : Bool) → p entry ≡ b
      → sent (cond b (entry ∷ filter p log) (filter p log)) lane ≡ sent (entry ∷ log) lane
  same_sent entry log one other true e = one
  same_sent entry log one other false e = other e

  pub sent_kept : (log : List Entry) → sent (filter p log) lane ≡ sent log lane
  sent_kept [] = refl
  sent_kept (Did label ∷ log) = same_sent (Did label) log (sent_kept log) (λ e. sent_kept log) (p (Did label)) refl
  sent_kept (Quiet ∷ log) = same_sent Quiet log (sent_kept log) (λ e. sent_kept log) (p Quiet) refl
  sent_kept (Fed it reply ∷ log) = same_sent (Fed it reply) log (sent_kept log) (λ e. sent_kept log) (p (Fed it reply)) refl
  sent_kept (Gave at out ∷ log) =
      same_sent (Gave at out) log
      (
      ap (λ (x : Bool). if (at == lane) && not x then out ∷ sent (filter p log) lane else sent (filter p log) lane) (cut_off_kept log)
      ∙ ap (λ (s : List Out). if (at == lane) && not (is_cut_off log lane) then out ∷ s else s) (sent_kept log)
      )
      (λ e. sent_kept log ∙ sym (ap (λ (x : Bool). if x && not (is_cut_off log lane) then out ∷ sent log lane else sent log lane) (no_out at out e)))
      (p (Gave at out)) refl
