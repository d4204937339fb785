-- The result of the writer of a pipe, item by item.
use Rattle.std.proofs.Common.{◌≡◌, List, [], ◌∷◌, ◌++◌, Bool, true, false, true≢false, Option, Some, None, MatchOption, refl, sym, ap, ◌∙◌, subst, append_assoc, append-nil, inl, inr}
use Rattle.std.specs.Prelude.{MatchBool}
use Rattle.std.specs.List.{cons_option}
use Rattle.tb_terms.specs.declared.term.Term.{Term}
use Rattle.tb_log.specs.declared.entry.Reply.{Reply}
use Rattle.tb_log.specs.declared.entry.Out.{Out}
use Rattle.tb_log.specs.declared.entry.Entry.TheVariants.{Fed, Gave}
use Rattle.tb_core.specs.Cores.{HandIn, HandOut}
use Rattle.tb_lock.specs.Seats.{SeatView}
use Rattle.tb_run.specs.declared.ends.WorkEnd.{WorkEnd}
use Rattle.tb_run.specs.Seats.{Adds, FoundFull, SameMarks}
use Rattle.tb_run.proofs.SeatLemmas.{adds_none, marks_both, marks_none, marks_on}
use Rattle.tb_pair.specs.declared.piece.Piece.{Piece}
use Rattle.tb_pair.specs.declared.piece.Piece.TheVariants.{Told, Last}
use Rattle.tb_pair.specs.Pieces.{pieces}
use Rattle.tb_pair.proofs.PieceLemmas.{pieces-append}
use Rattle.tb_pair.specs.Helpers.Pipes.{GoesIn}
use Rattle.tb_pair.specs.Piping.{told_by, does, connect}
use Rattle.tb_pair.specs.Workers.{IsEarly, Goes, WriterFull, WritesPipe}
use Rattle.tb_pair.specs.Helpers.Settling.{EndsAs}
use Rattle.tb_pair.specs.Helpers.Writing.{WritesOn, EndsWriting, Wrote, Written, PassesOn}
use Rattle.tb_pair.proofs.PipeLemmas.{does_append, full_after, goes_on, goes_end, goes_in, goes_out, ends_by}

pub nothing_on : (old new : SeatView) (sent : List Piece) (flows : Bool) → Adds old new [] → SameMarks old new → WritesOn old new sent sent flows flows
nothing_on old new sent flows adds marks = record {
  more = [];
  goes = record { adds = adds; given_are = refl; cuts = refl };
  front = [];
  rest = [];
  told = refl;
  sent = sym (append-nil sent);
  whole = λ h. refl;
  shut = λ h. refl;
  stays = λ h. h;
  marks = marks;
}

-- an item was taken, and its term passed on
pub taken_on : (old new : SeatView) (out : Out) (flows flows' : Bool) (s0 s1 : List Piece) → Adds old new (Gave 1 out ∷ []) → SameMarks old new → PassesOn out flows flows' s0 s1 → WritesOn old new s0 s1 flows flows'
taken_on old new out flows flows' s0 s1 adds marks passed = go (told_by out) refl passed
  where
    it : (o : Option Term) → told_by out ≡ o → does (Gave 1 out ∷ []) ≡ cons_option o []
    it o e = ap (λ (t : Option Term). cons_option t []) e

    in_it : (b : Bool) (t : Term) → told_by out ≡ Some t → MatchBool b ((flows ≡ true) × (s1 ≡ s0 ++ Told t ∷ [])) (s1 ≡ s0) → WritesOn old new s0 s1 flows b
    in_it true t e p = record { more = Gave 1 out ∷ []; goes = goes_out old new out adds; front = t ∷ []; rest = []; told = it (Some t) e; sent = p.1; whole = λ h. refl; shut = λ h. absurd (true≢false (sym p.0 ∙ h)); stays = λ h. p.0; marks = marks }
    in_it false t e p = record { more = Gave 1 out ∷ []; goes = goes_out old new out adds; front = []; rest = t ∷ []; told = it (Some t) e; sent = p ∙ sym (append-nil s0); whole = λ h. absurd cc; shut = λ h. refl; stays = λ h. absurd cc; marks = marks }

    go : (o : Option Term) → told_by out ≡ o → MatchOption o ((flows' ≡ flows) × (s1 ≡ s0)) (λ t. MatchBool flows' ((flows ≡ true) × (s1 ≡ s0 ++ Told t ∷ [])) (s1 ≡ s0)) → WritesOn old new s0 s1 flows flows'
    go None e p = record { more = Gave 1 out ∷ []; goes = goes_out old new out adds; front = []; rest = []; told = it None e; sent = p.1 ∙ sym (append-nil s0); whole = λ h. refl; shut = λ h. refl; stays = λ h. sym p.0 ∙ h; marks = marks }
    go (Some t) e p = in_it flows' t e p

pub writes_both : (f1 : Bool) (a b c : SeatView) (s0 s1 s2 : List Piece) (f0 f2 : Bool) → WritesOn a b s0 s1 f0 f1 → WritesOn b c s1 s2 f1 f2 → WritesOn a c s0 s2 f0 f2
writes_both true a b c s0 s1 s2 f0 f2 one two =
    record {
      more = one.more ++ two.more;
      goes = goes_on a b c one.more two.more [] [] one.goes two.goes;
      front = one.front ++ two.front;
      rest = two.rest;
      told = does_append one.more two.more ∙ (ap (λ (s : List Term). s ++ does two.more) (one.told ∙ (ap (λ (s : List Term). one.front ++ s) (one.whole refl) ∙ append-nil one.front)) ∙ (ap (λ (s : List Term). one.front ++ s) two.told ∙ sym (append_assoc one.front two.front two.rest)));
      sent = two.sent ∙ (ap (λ (s : List Piece). s ++ pieces two.front false) one.sent ∙ (append_assoc s0 (pieces one.front false) (pieces two.front false) ∙ ap (λ (s : List Piece). s0 ++ s) (pieces-append one.front two.front false)));
      whole = two.whole;
      shut = λ h. absurd (true≢false (sym (one.stays refl) ∙ h));
      stays = λ h. one.stays (two.stays h);
      marks = marks_both a b c one.marks two.marks;
    }
writes_both false a b c s0 s1 s2 f0 f2 one two =
    record {
      more = one.more ++ two.more;
      goes = goes_on a b c one.more two.more [] [] one.goes two.goes;
      front = one.front;
      rest = one.rest ++ two.rest;
      told = does_append one.more two.more ∙ (ap (λ (s : List Term). s ++ does two.more) one.told ∙ (ap (λ (s : List Term). (one.front ++ one.rest) ++ s) (two.told ∙ ap (λ (s : List Term). s ++ two.rest) (two.shut refl)) ∙ append_assoc one.front one.rest two.rest));
      sent = two.sent ∙ (ap (λ (s : List Term). s1 ++ pieces s false) (two.shut refl) ∙ (append-nil s1 ∙ one.sent));
      whole = λ h. absurd (true≢false (sym (two.stays h)));
      shut = one.shut;
      stays = λ h. absurd (true≢false (sym (two.stays h)));
      marks = marks_both a b c one.marks two.marks;
    }

-- after the connect request
pub written_on : (old mid new : SeatView) (reply : Reply) (s0 s1 : List Piece) (flows flows' : Bool) (it : WorkEnd) → Adds old mid (Fed connect reply ∷ []) → SameMarks old mid → Wrote mid new s0 s1 flows flows' it → Written old new s0 s1 flows' it
written_on old mid new reply s0 s1 flows flows' it adds same w =
    let named : Goes old mid (Fed connect reply ∷ []) (connect ∷ []) = goes_in old mid connect reply refl adds refl in
    let on : Goes old w.mid (Fed connect reply ∷ w.on.more) (connect ∷ []) = goes_on old mid w.mid (Fed connect reply ∷ []) w.on.more (connect ∷ []) [] named w.on.goes in
    record {
      more = Fed connect reply ∷ w.on.more;
      given = connect ∷ [];
      goes = goes_end old w.mid new (Fed connect reply ∷ w.on.more) (connect ∷ []) on w.ends.adds;
      names = inl refl;
      first = inr (reply, w.on.more, refl);
      front = w.on.front;
      rest = w.on.rest;
      told = w.on.told;
      sent = w.on.sent;
      whole = w.on.whole;
      marks = marks_on old w.mid new it (marks_both old mid w.mid same w.on.marks) w.ends.marks;
      ends = ends_by (FoundFull (HandOut 1) w.mid new) (WriterFull old new (Fed connect reply ∷ w.on.more) (connect ∷ [])) new it (λ f. inl (refl, full_after (HandOut 1) old w.mid new (Fed connect reply ∷ w.on.more) on.adds f)) w.ends.ends;
    }

-- the line was refused
pub written_none : (old new : SeatView) (sent : List Piece) (flows : Bool) (it : WorkEnd) → EndsAs (FoundFull (HandIn connect) old new) old new it × IsEarly it → Written old new sent sent flows it
written_none old new sent flows it e =
    record {
      more = [];
      given = [];
      goes = record { adds = e.0.adds; given_are = refl; cuts = refl };
      names = inr (refl, e.1);
      first = inl refl;
      front = [];
      rest = [];
      told = refl;
      sent = sym (append-nil sent);
      whole = λ h. refl;
      marks = e.0.marks;
      ends = ends_by (FoundFull (HandIn connect) old new) (WriterFull old new [] []) new it (λ f. inr (refl, f)) e.0.ends;
    }

pub wrote_none : (seat : SeatView) (sent : List Piece) (flows : Bool) → WritesOn seat seat sent sent flows flows
wrote_none seat sent flows = nothing_on seat seat sent flows (adds_none seat) (marks_none seat)

pub wrote_end : (a b c : SeatView) (s0 s1 s2 : List Piece) (f0 f1 f2 : Bool) (it : WorkEnd) → WritesOn a b s0 s1 f0 f1 → EndsWriting b c s1 s2 f1 f2 it → Wrote a c s0 s2 f0 f2 it
wrote_end a b c s0 s1 s2 f0 f1 f2 it one e =
    record { mid = b; on = subst (λ (f : Bool). WritesOn a b s0 s2 f0 f) (sym e.same) (subst (λ (s : List Piece). WritesOn a b s0 s f0 f1) (sym e.sent) one); ends = e.ends }

-- and then it sends that nothing more comes
pub written_all : (flows' : Bool) (old new : SeatView) (s0 s1 s2 : List Piece) (flows : Bool) (it : WorkEnd) → Written old new s0 s1 flows it → GoesIn flows flows' s1 s2 Last → WritesPipe old new s0 s2 it
written_all true old new s0 s1 s2 flows it w p =
    record {
      more = w.more;
      given = w.given;
      goes = w.goes;
      names = w.names;
      first = w.first;
      front = w.front;
      rest = w.rest;
      last = true;
      told = w.told;
      sent = p.1 ∙ (ap (λ (x : List Piece). x ++ Last ∷ []) w.sent ∙ (append_assoc s0 (pieces w.front false) (Last ∷ []) ∙ ap (λ (x : List Piece). s0 ++ x) (pieces-append w.front [] true ∙ ap (λ (x : List Term). pieces x true) (append-nil w.front))));
      whole = λ h. w.whole p.0;
      marks = w.marks;
      ends = w.ends;
    }
written_all false old new s0 s1 s2 flows it w p =
    record { more = w.more; given = w.given; goes = w.goes; names = w.names; first = w.first; front = w.front; rest = w.rest; last = false; told = w.told; sent = p ∙ w.sent; whole = λ h. absurd cc; marks = w.marks; ends = w.ends }
