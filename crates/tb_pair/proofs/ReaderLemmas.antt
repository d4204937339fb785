-- The result of the reader of a pipe, piece by piece.
use Rattle.std.proofs.Common.{◌≡◌, List, [], ◌∷◌, ◌++◌, Bool, true, false, not, ◌&&◌, true≢false, Option, Some, None, Ok, Err, refl, sym, ap, ◌∙◌, subst, append_assoc, append-nil, inl, inr, ◌⊎◌, ⊎_elim}
use Rattle.std.specs.List.{filter_map}
use Rattle.tb_terms.specs.declared.term.Term.{Term}
use Rattle.tb_log.specs.declared.entry.ToolLine.TheVariants as tool
use Rattle.tb_log.specs.declared.entry.Input.{Input}
use Rattle.tb_log.specs.declared.entry.Input.TheVariants as input
use Rattle.tb_log.specs.declared.entry.Reply.{Reply}
use Rattle.tb_log.specs.declared.entry.Reply.TheVariants.{Dropped}
use Rattle.tb_log.specs.declared.entry.Why.TheVariants as why
use Rattle.tb_log.specs.declared.entry.Entry.{Entry}
use Rattle.tb_log.specs.declared.entry.Entry.TheVariants.{Fed}
use Rattle.tb_core.specs.Cores.{HandIn, HandOut}
use Rattle.tb_lock.specs.Seats.{SeatView}
use Rattle.tb_run.specs.declared.ends.WorkEnd.{WorkEnd}
use Rattle.tb_run.specs.declared.ends.WorkEnd.TheVariants as end
use Rattle.tb_run.specs.Dropping.{HasDropped, is_down}
use Rattle.tb_run.specs.Outcomes.{is_of}
use Rattle.tb_run.specs.Seats.{Adds, FoundFull, SameMarks}
use Rattle.tb_run.proofs.SeatLemmas.{found_on, marks_both, marks_none, marks_on}
use Rattle.tb_pair.specs.declared.piece.Piece.{Piece}
use Rattle.tb_pair.specs.declared.piece.Piece.TheVariants.{Told, Last}
use Rattle.tb_pair.specs.Pieces.{pieces}
use Rattle.tb_pair.proofs.PieceLemmas.{pieces-append}
use Rattle.tb_pair.specs.Piping.{event_in, event_of, connect, disconnect, lines_of}
use Rattle.tb_pair.specs.Helpers.Reading.{line_of, says_last, ReadsOn, EndsReading, ReadTo, MayLose, PieceFull, Feeds}
use Rattle.tb_pair.specs.Workers.{IsEarly, Goes, ReaderFull, ReadsPipe, MayLack, WhyDown}
use Rattle.tb_pair.specs.Helpers.Settling.{EndsAs, Settles}
use Rattle.tb_pair.proofs.OnceLemmas.{once_none, once_one, once_behind, once_before, once_named}
use Rattle.tb_pair.proofs.PipeLemmas.{full_after, goes_none, goes_on, goes_end, goes_after, goes_in, ends_by, ends_after, dropped_before, dropped_after, dropped_in, dropped_none, dropped_not}

lines-append : (ts us : List Term) (leaves : Bool) → lines_of ts false ++ lines_of us leaves ≡ lines_of (ts ++ us) leaves
lines-append [] us leaves = refl
lines-append (t ∷ ts) us leaves = ap (λ (l : List Input). input.Line 1 (tool.Event (t ∷ [])) ∷ l) (lines-append ts us leaves)

events_of_lines : (ts : List Term) (leaves : Bool) → filter_map event_in (lines_of ts leaves) ≡ ts
events_of_lines [] false = refl
events_of_lines [] true = refl
events_of_lines (t ∷ ts) leaves = ap (λ (l : List Term). t ∷ l) (events_of_lines ts leaves)

-- nothing was received or delivered
pub idle_on : (old new : SeatView) (got : List Piece) (reads : Bool) (more : List Entry) → Goes old new more [] → SameMarks old new → (HasDropped (is_of 1) more → ⊥) → ReadsOn old new got got reads reads
idle_on old new got reads more goes marks none =
    record { more = more; told = []; leaves = false; goes = goes; got = sym (append-nil got); still = λ h. refl; stays = λ h. h; over = λ h. (refl, refl); why = λ h. inl h; let_in = λ h. none; once = once_none more none; marks = marks }

pub reads_none : (seat : SeatView) (got : List Piece) (reads : Bool) → ReadsOn seat seat got got reads reads
reads_none seat got reads = idle_on seat seat got reads [] (goes_none seat) (marks_none seat) (dropped_none (is_of 1))

pub reads_both : (r1 : Bool) (a b c : SeatView) (g0 g1 g2 : List Piece) (r0 r2 : Bool) → ReadsOn a b g0 g1 r0 r1 → ReadsOn b c g1 g2 r1 r2 → ReadsOn a c g0 g2 r0 r2
reads_both true a b c g0 g1 g2 r0 r2 one two =
    let stays : one.leaves ≡ false = one.still refl in
    let lines : lines_of one.told one.leaves ++ lines_of two.told two.leaves ≡ lines_of (one.told ++ two.told) two.leaves = ap (λ (l : Bool). lines_of one.told l ++ lines_of two.told two.leaves) stays ∙ lines-append one.told two.told two.leaves in
    let got : pieces one.told one.leaves ++ pieces two.told two.leaves ≡ pieces (one.told ++ two.told) two.leaves = ap (λ (l : Bool). pieces one.told l ++ pieces two.told two.leaves) stays ∙ pieces-append one.told two.told two.leaves in
    record {
      more = one.more ++ two.more;
      told = one.told ++ two.told;
      leaves = two.leaves;
      goes = subst (Goes a c (one.more ++ two.more)) lines (goes_on a b c one.more two.more (lines_of one.told one.leaves) (lines_of two.told two.leaves) one.goes two.goes);
      got = two.got ∙ (ap (λ (s : List Piece). s ++ pieces two.told two.leaves) one.got ∙ (append_assoc g0 (pieces one.told one.leaves) (pieces two.told two.leaves) ∙ ap (λ (s : List Piece). g0 ++ s) got));
      still = two.still;
      stays = λ h. one.stays (two.stays h);
      over = λ h. absurd (true≢false (sym (one.stays refl) ∙ h));
      why = λ h. inr (⊎_elim (λ e. absurd (true≢false e)) (λ w. ⊎_elim (λ l. inl l) (λ d. inr (dropped_after (is_of 1) one.more two.more d)) w) (two.why h));
      let_in = λ h d. ⊎_elim (λ x. one.let_in refl x) (λ x. two.let_in h x) (dropped_in (is_of 1) one.more two.more d);
      once = once_behind one.more two.more (one.let_in refl) two.once;
      marks = marks_both a b c one.marks two.marks;
    }
reads_both false a b c g0 g1 g2 r0 r2 one two =
    let none : lines_of two.told two.leaves ≡ [] = ap (λ (l : Bool). lines_of two.told l) (two.over refl).1 ∙ ap (λ (t : List Term). lines_of t false) (two.over refl).0 in
    let nothing : pieces two.told two.leaves ≡ [] = ap (λ (l : Bool). pieces two.told l) (two.over refl).1 ∙ ap (λ (t : List Term). pieces t false) (two.over refl).0 in
    record {
      more = one.more ++ two.more;
      told = one.told;
      leaves = one.leaves;
      goes = subst (Goes a c (one.more ++ two.more)) (ap (λ (s : List Input). lines_of one.told one.leaves ++ s) none ∙ append-nil (lines_of one.told one.leaves))
          (goes_on a b c one.more two.more (lines_of one.told one.leaves) (lines_of two.told two.leaves) one.goes two.goes);
      got = two.got ∙ (ap (λ (s : List Piece). g1 ++ s) nothing ∙ (append-nil g1 ∙ one.got));
      still = λ h. absurd (true≢false (sym (two.stays h)));
      stays = λ h. absurd (true≢false (sym (two.stays h)));
      over = one.over;
      why = λ h. ⊎_elim (λ e. inl e) (λ w. inr (⊎_elim (λ l. inl l) (λ d. inr (dropped_before (is_of 1) one.more two.more d)) w)) (one.why refl);
      let_in = λ h. absurd (true≢false (sym (two.stays h)));
      once = once_before one.more two.more one.once (two.goes.given_are ∙ none);
      marks = marks_both a b c one.marks two.marks;
    }

-- if the log had no capacity for a call after these, so it had after what the seat had seen before
full_on : (lost : List Piece) (a b c : SeatView) (xs : List Entry) → Adds a b xs → PieceFull b c lost → PieceFull a c lost
full_on [] a b c xs adds f = found_on (HandOut 1) a b c xs adds f
full_on (piece ∷ pieces) a b c xs adds f = found_on (HandIn (line_of piece)) a b c xs adds f

-- after nothing of its own
pub feeds_after : (a b c : SeatView) (g0 g1 : List Piece) (r0 r1 : Bool) (answer : Option WorkEnd) → Adds a b [] → SameMarks a b → Feeds b c g0 g1 r0 r1 answer → Feeds a c g0 g1 r0 r1 answer
feeds_after a b c g0 g1 r0 r1 None adds same f =
    record { more = f.more; told = f.told; leaves = f.leaves; goes = goes_after a b c f.more (lines_of f.told f.leaves) adds f.goes; got = f.got; still = f.still; stays = f.stays; over = f.over; why = f.why; let_in = f.let_in; once = f.once; marks = marks_both a b c same f.marks }
feeds_after a b c g0 g1 r0 r1 (Some it) adds same f =
    record { lost = f.lost; got = f.got; may = f.may; ends = ends_after (PieceFull b c f.lost) (PieceFull a c f.lost) a b c it (full_on f.lost a b c [] adds) adds same f.ends }

-- the bus has shut down, and nothing more is read
pub stops_reading : (old new : SeatView) (got : List Piece) (reads : Bool) → reads ≡ false → EndsAs (FoundFull (HandOut 1) old new) old new end.Down → EndsReading old new got got reads end.Down
stops_reading old new got reads over e = record { lost = []; got = sym (append-nil got); may = (refl, over); ends = e }

lose_none : (it : WorkEnd) (reads : Bool) → IsEarly it → MayLose it reads []
lose_none end.Over reads e = absurd e
lose_none end.Down reads e = absurd e
lose_none end.Stopped reads e = inl refl
lose_none end.Full reads e = inl refl
lose_none end.Failed reads e = absurd e
lose_none end.NoMemory reads e = inl refl

lose_one : (it : WorkEnd) (piece : Piece) → IsEarly it → MayLose it true (piece ∷ [])
lose_one end.Over piece e = absurd e
lose_one end.Down piece e = absurd e
lose_one end.Stopped piece e = inr (piece, refl, refl)
lose_one end.Full piece e = inr (piece, refl, refl)
lose_one end.Failed piece e = absurd e
lose_one end.NoMemory piece e = inr (piece, refl, refl)

pub refused_reading : (old new : SeatView) (got : List Piece) (reads : Bool) (it : WorkEnd) → EndsAs (FoundFull (HandOut 1) old new) old new it × IsEarly it → EndsReading old new got got reads it
refused_reading old new got reads it e = record { lost = []; got = sym (append-nil got); may = lose_none it reads e.1; ends = e.0 }

-- a piece was delivered
pub fed_on : (old new : SeatView) (got : List Piece) (piece : Piece) (up : Bool) → Settles (line_of piece) old new (Ok up) → ReadsOn old new got (got ++ piece ∷ []) true (up && not (says_last piece))
fed_on old new got (Told t) true h =
    record { more = Fed (line_of (Told t)) h.0 ∷ []; told = t ∷ []; leaves = false; goes = goes_in old new (line_of (Told t)) h.0 refl h.1 refl; got = refl; still = λ e. refl; stays = λ e. refl; over = λ e. absurd (true≢false e); why = λ e. absurd (true≢false e); let_in = λ e. dropped_not (is_of 1) (line_of (Told t)) h.0 (h.4 refl); once = once_one (Fed (line_of (Told t)) h.0); marks = h.2 }
fed_on old new got (Told t) false h =
    record {
      more = Fed (line_of (Told t)) h.0 ∷ [];
      told = t ∷ [];
      leaves = false;
      goes = goes_in old new (line_of (Told t)) h.0 refl h.1 refl;
      got = refl;
      still = λ e. refl;
      stays = λ e. absurd (true≢false (sym e));
      over = λ e. absurd (true≢false e);
      why = λ e. inr (inr ([], line_of (Told t), [], refl, ap (λ (r : Reply). Fed (line_of (Told t)) r ∷ []) (h.3 refl)));
      let_in = λ e. absurd (true≢false (sym e));
      once = once_one (Fed (line_of (Told t)) h.0);
      marks = h.2;
    }
fed_on old new got Last true h =
    record { more = Fed (line_of Last) h.0 ∷ []; told = []; leaves = true; goes = goes_in old new (line_of Last) h.0 refl h.1 refl; got = refl; still = λ e. absurd (true≢false (sym e)); stays = λ e. refl; over = λ e. absurd (true≢false e); why = λ e. inr (inl refl); let_in = λ e. absurd (true≢false (sym e)); once = once_one (Fed (line_of Last) h.0); marks = h.2 }
fed_on old new got Last false h =
    record { more = Fed (line_of Last) h.0 ∷ []; told = []; leaves = true; goes = goes_in old new (line_of Last) h.0 refl h.1 refl; got = refl; still = λ e. absurd (true≢false (sym e)); stays = λ e. refl; over = λ e. absurd (true≢false e); why = λ e. inr (inl refl); let_in = λ e. absurd (true≢false (sym e)); once = once_one (Fed (line_of Last) h.0); marks = h.2 }

-- it was refused
pub fed_refused : (old new : SeatView) (got : List Piece) (piece : Piece) (it : WorkEnd) → Settles (line_of piece) old new (Err it) → EndsReading old new got (got ++ piece ∷ []) true it
fed_refused old new got piece it e = record { lost = piece ∷ []; got = refl; may = lose_one it piece e.1; ends = e.0 }

-- no term was lost at an early end
lack_none : (it : WorkEnd) (last leaves : Bool) → IsEarly it → MayLack it [] last leaves
lack_none end.Over last leaves e = absurd e
lack_none end.Down last leaves e = absurd e
lack_none end.Stopped last leaves e = inl refl
lack_none end.Full last leaves e = inl refl
lack_none end.Failed last leaves e = absurd e
lack_none end.NoMemory last leaves e = inl refl

-- one was, and no piece came after it
lack_one : (it : WorkEnd) (t : Term) (leaves : Bool) → IsEarly it → MayLack it (t ∷ []) false leaves
lack_one end.Over t leaves e = absurd e
lack_one end.Down t leaves e = absurd e
lack_one end.Stopped t leaves e = inr (t, refl, refl)
lack_one end.Full t leaves e = inr (t, refl, refl)
lack_one end.Failed t leaves e = absurd e
lack_one end.NoMemory t leaves e = inr (t, refl, refl)

-- what was lost: nothing, or one piece at an early end
record Loses (it : WorkEnd) (reads : Bool) (lost : List Piece) : Type 0 where
  pub why : ((lost ≡ []) × ((said : Bool) → MayLack it [] said said)) ⊎ ((piece : Piece) × (lost ≡ piece ∷ []) × (reads ≡ true) × IsEarly it)

loses : (it : WorkEnd) (reads : Bool) (lost : List Piece) → MayLose it reads lost → Loses it reads lost
loses end.Over reads lost m = absurd m
loses end.Down reads lost m = record { why = inl (m.0, λ leaves. (refl, refl)) }
loses end.Stopped reads lost m = record { why = ⊎_elim (λ e. inl (e, λ leaves. inl refl)) (λ p. inr (p.0, p.1, p.2, tt)) m }
loses end.Full reads lost m = record { why = ⊎_elim (λ e. inl (e, λ leaves. inl refl)) (λ p. inr (p.0, p.1, p.2, tt)) m }
loses end.Failed reads lost m = absurd m
loses end.NoMemory reads lost m = record { why = ⊎_elim (λ e. inl (e, λ leaves. inl refl)) (λ p. inr (p.0, p.1, p.2, tt)) m }

-- which piece was lost
abbrev WhichLost : List Piece → List Term → Bool → Bool → Bool → Type 0
WhichLost pieces lost last leaves reads =
    ((pieces ≡ []) × (lost ≡ []) × (leaves ≡ last))
    ⊎ (((t : Term) × (pieces ≡ Told t ∷ []) × (lost ≡ t ∷ []) × (last ≡ false) × (reads ≡ true))
    ⊎ ((pieces ≡ Last ∷ []) × (last ≡ true) × (lost ≡ []) × (reads ≡ true)))

-- what was received in all
record Received (told : List Term) (leaves reads : Bool) (it : WorkEnd) (got_old got_new gone : List Piece) : Type 0 where
  pub lost : List Term
  pub last : Bool
  pub which : WhichLost gone lost last leaves reads
  pub got : got_new ≡ got_old ++ pieces (told ++ lost) last
  pub said : leaves ≡ true → (last ≡ true) × (lost ≡ [])
  pub lacks : MayLack it lost last leaves

received_so : (told : List Term) (leaves reads : Bool) (it : WorkEnd) (g0 g1 g2 lost : List Piece) → (reads ≡ true → leaves ≡ false) → g1 ≡ g0 ++ pieces told leaves → g2 ≡ g1 ++ lost → Loses it reads lost → Received told leaves reads it g0 g2 lost
received_so told leaves reads it g0 g1 g2 lost still one two l = go l.why
  where
    one_more : (piece : Piece) → leaves ≡ false → lost ≡ piece ∷ [] → g2 ≡ g0 ++ (pieces told false ++ piece ∷ [])
    one_more piece stays e = two ∙ (ap (λ (s : List Piece). g1 ++ s) e ∙ (ap (λ (s : List Piece). s ++ piece ∷ []) (one ∙ ap (λ (b : Bool). g0 ++ pieces told b) stays) ∙ append_assoc g0 (pieces told false) (piece ∷ [])))

    by : (piece : Piece) → reads ≡ true → leaves ≡ false → lost ≡ piece ∷ [] → IsEarly it → Received told leaves reads it g0 g2 lost
    by (Told t) on stays e early = record { lost = t ∷ []; last = false; which = inr (inl (t, e, refl, refl, on)); got = one_more (Told t) stays e ∙ ap (λ (s : List Piece). g0 ++ s) (pieces-append told (t ∷ []) false); said = λ h. absurd (true≢false (sym h ∙ stays)); lacks = lack_one it t leaves early }
    by Last on stays e early = record { lost = []; last = true; which = inr (inr (e, refl, refl, on)); got = one_more Last stays e ∙ ap (λ (s : List Piece). g0 ++ s) (pieces-append told [] true); said = λ h. (refl, refl); lacks = lack_none it true leaves early }

    go : ((lost ≡ []) × ((said : Bool) → MayLack it [] said said)) ⊎ ((piece : Piece) × (lost ≡ piece ∷ []) × (reads ≡ true) × IsEarly it) → Received told leaves reads it g0 g2 lost
    go (inl e) = record { lost = []; last = leaves; which = inl (e.0, refl, refl); got = two ∙ (ap (λ (s : List Piece). g1 ++ s) e.0 ∙ (append-nil g1 ∙ (one ∙ ap (λ (s : List Term). g0 ++ pieces s leaves) (sym (append-nil told))))); said = λ h. (h, refl); lacks = e.1 leaves }
    go (inr p) = by p.0 p.2 (still p.2) p.1 p.3

why_down : (it : WorkEnd) (reads : Bool) (lost : List Piece) (leaves : Bool) (more : List Entry) → MayLose it reads lost → (reads ≡ false → (leaves ≡ true) ⊎ HasDropped (is_of 1) more) → WhyDown it leaves more
why_down end.Over reads lost leaves more m w = absurd m
why_down end.Down reads lost leaves more m w = w m.1
why_down end.Stopped reads lost leaves more m w = tt
why_down end.Full reads lost leaves more m w = tt
why_down end.Failed reads lost leaves more m w = absurd m
why_down end.NoMemory reads lost leaves more m w = tt

-- and which call was refused
lines_so : (told : List Term) (leaves last : Bool) → leaves ≡ last → ◌≡◌ {A = List Input} (connect ∷ lines_of told leaves) (connect ∷ lines_of told last)
lines_so told leaves last e = ap (λ (l : Bool). connect ∷ lines_of told l) e

refused_so : (old mid new : SeatView) (xs : List Entry) (told : List Term) (gone : List Piece) (lost : List Term) (last leaves reads : Bool) → Adds old mid xs → (reads ≡ true → leaves ≡ false) → (reads ≡ true → HasDropped (is_of 1) xs → ⊥)
    → WhichLost gone lost last leaves reads → PieceFull mid new gone → ReaderFull old new xs (connect ∷ lines_of told leaves) told lost last
refused_so old mid new xs told gone lost last leaves reads adds still let_in (inl (e, n, l)) f = inl (n, lines_so told leaves last l, full_after (HandOut 1) old mid new xs adds (subst (PieceFull mid new) e f))
refused_so old mid new xs told gone lost last leaves reads adds still let_in (inr (inl (t, e, l, n, s))) f = inr (inr (inl (t, l, n, lines_so told leaves false (still s), let_in s, full_after (HandIn (event_of t)) old mid new xs adds (subst (PieceFull mid new) e f))))
refused_so old mid new xs told gone lost last leaves reads adds still let_in (inr (inr (e, l, n, s))) f = inr (inr (inr (l, n, lines_so told leaves false (still s), let_in s, full_after (HandIn disconnect) old mid new xs adds (subst (PieceFull mid new) e f))))

pub dropped_here : (reply : Reply) → reply ≡ Dropped why.Down → HasDropped (is_of 1) (Fed connect reply ∷ [])
dropped_here reply e = ([], connect, [], refl, ap (λ (r : Reply). Fed connect r ∷ []) e)

-- after the connect request
pub read_behind : (old b new : SeatView) (reply : Reply) (g0 g1 : List Piece) (reads : Bool) (it : WorkEnd) → Adds old b (Fed connect reply ∷ []) → SameMarks old b → (reads ≡ false → HasDropped (is_of 1) (Fed connect reply ∷ [])) → (reads ≡ true → is_down reply ≡ false)
    → ReadTo b new g0 g1 reads it → ReadsPipe old new g0 g1 it
read_behind old b new reply g0 g1 reads it adds same dropped let_in r =
    let named : Goes old b (Fed connect reply ∷ []) (connect ∷ []) = goes_in old b connect reply refl adds refl in
    let on : Goes old r.mid (Fed connect reply ∷ r.on.more) (connect ∷ lines_of r.on.told r.on.leaves) = goes_on old b r.mid (Fed connect reply ∷ []) r.on.more (connect ∷ []) (lines_of r.on.told r.on.leaves) named r.on.goes in
    let all : Goes old new (Fed connect reply ∷ r.on.more) (connect ∷ lines_of r.on.told r.on.leaves) = goes_end old r.mid new (Fed connect reply ∷ r.on.more) (connect ∷ lines_of r.on.told r.on.leaves) on r.ends.ends.adds in
    let none : r.reads' ≡ true → HasDropped (is_of 1) (Fed connect reply ∷ r.on.more) → ⊥ =
    (λ h d. ⊎_elim (λ x. dropped_not (is_of 1) connect reply (let_in (r.on.stays h)) x) (λ x. r.on.let_in h x) (dropped_in (is_of 1) (Fed connect reply ∷ []) r.on.more d)) in
    let so : Received r.on.told r.on.leaves r.reads' it g0 g1 r.ends.lost = received_so r.on.told r.on.leaves r.reads' it g0 r.got_mid g1 r.ends.lost r.on.still r.on.got r.ends.got (loses it r.reads' r.ends.lost r.ends.may) in
    record {
      more = Fed connect reply ∷ r.on.more;
      given = connect ∷ lines_of r.on.told r.on.leaves;
      goes = all;
      told = r.on.told;
      lost = so.lost;
      last = so.last;
      leaves = r.on.leaves;
      names = inl refl;
      first = inr (reply, r.on.more, refl);
      once = once_named reads reply r.on.more r.on.once let_in (λ h. r.on.goes.given_are ∙ (ap (λ (l : Bool). lines_of r.on.told l) (r.on.over h).1 ∙ ap (λ (t : List Term). lines_of t false) (r.on.over h).0));
      events_are = ap (filter_map event_in) all.given_are ∙ events_of_lines r.on.told r.on.leaves;
      got = so.got;
      said = so.said;
      lacks = so.lacks;
      why = why_down it r.reads' r.ends.lost r.on.leaves (Fed connect reply ∷ r.on.more) r.ends.may
          (λ h. ⊎_elim (λ e. inr (dropped_before (is_of 1) (Fed connect reply ∷ []) r.on.more (dropped e))) (λ w. ⊎_elim (λ l. inl l) (λ d. inr (dropped_after (is_of 1) (Fed connect reply ∷ []) r.on.more d)) w) (r.on.why h));
      marks = marks_on old r.mid new it (marks_both old b r.mid same r.on.marks) r.ends.ends.marks;
      ends = ends_by (PieceFull r.mid new r.ends.lost) (ReaderFull old new (Fed connect reply ∷ r.on.more) (connect ∷ lines_of r.on.told r.on.leaves) r.on.told so.lost so.last) new it
          (refused_so old r.mid new (Fed connect reply ∷ r.on.more) r.on.told r.ends.lost so.lost so.last r.on.leaves r.reads' on.adds r.on.still none so.which) r.ends.ends.ends;
    }

why_early : (it : WorkEnd) (leaves : Bool) (more : List Entry) → IsEarly it → WhyDown it leaves more
why_early end.Over leaves more e = absurd e
why_early end.Down leaves more e = absurd e
why_early end.Stopped leaves more e = tt
why_early end.Full leaves more e = tt
why_early end.Failed leaves more e = absurd e
why_early end.NoMemory leaves more e = tt

-- the line was refused
pub read_refused : (old new : SeatView) (got : List Piece) (it : WorkEnd) → EndsAs (FoundFull (HandIn connect) old new) old new it × IsEarly it → ReadsPipe old new got got it
read_refused old new got it e =
    record {
      more = [];
      given = [];
      goes = record { adds = e.0.adds; given_are = refl; cuts = refl };
      told = [];
      lost = [];
      last = false;
      leaves = false;
      names = inr (refl, refl, refl, refl, e.1);
      first = inl refl;
      once = once_none [] (dropped_none (is_of 1));
      events_are = refl;
      got = sym (append-nil got);
      said = λ h. absurd (true≢false (sym h));
      lacks = lack_none it false false e.1;
      why = why_early it false [] e.1;
      marks = e.0.marks;
      ends = ends_by (FoundFull (HandIn connect) old new) (ReaderFull old new [] [] [] [] false) new it (λ f. inr (inl (refl, f))) e.0.ends;
    }

pub read_to : (a b c : SeatView) (g0 g1 g2 : List Piece) (r0 r1 : Bool) (it : WorkEnd) → ReadsOn a b g0 g1 r0 r1 → EndsReading b c g1 g2 r1 it → ReadTo a c g0 g2 r0 it
read_to a b c g0 g1 g2 r0 r1 it one e = record { mid = b; got_mid = g1; reads' = r1; on = one; ends = e }
