-- The result of the job that writes the log, piece by piece.
use Rattle.std.proofs.Common.{MatchOption, ◌≡◌, ◌+◌, ℕ, suc, List, [], ◌∷◌, ◌++◌, length, drop, take, Option, Some, None, refl, sym, ap, ◌∙◌, subst, append_assoc, append-nil, length-append, take-append-drop, inl, inr, arith}
use Rattle.std.specs.Prelude.{Result, Err, IsErrOf, IfSome}
use Rattle.tb_edge.specs.Faults.{Rose}
use Rattle.tb_edge.specs.Sinks.{WritesPrefix, and_more}
use Rattle.tb_log.specs.declared.entry.Entry.{Entry}
use Rattle.tb_log.specs.LogText.{log_text, log_text_from, entry_text}
use Rattle.tb_bus.specs.Buses.{start}
use Rattle.tb_bus.specs.Traces.{IsTrace}
use Rattle.tb_core.specs.Cores.{CoreState}
use Rattle.tb_lock.specs.Seats.{SeatView}
use Rattle.tb_lock.specs.Histories.{IsSparse}
use Rattle.tb_lock.specs.Rights.{own}
use Rattle.tb_lock.specs.Calls.{Meets}
use Rattle.tb_run.specs.declared.ends.LogEnd.{LogEnd}
use Rattle.tb_run.specs.declared.ends.LogEnd.TheVariants as end
use Rattle.tb_write.specs.Writers.{WriterView}
use Rattle.tb_run.specs.Seats.{Adds, Stops}
use Rattle.tb_write.specs.declared.log_writer.LogFault.{LogFault}
use Rattle.tb_write.specs.declared.log_writer.LogFault.TheVariants as fault
use Rattle.tb_run.specs.Logging.{LogsOn, PutsPart, EndsLogging, Logged, LogDone, PutsSome, PutsLast, end_by}
use Rattle.tb_run.proofs.SeatLemmas.{SeenLaw, adds_none, adds_on, stops_on}

pub more_none : (put : Option (List ℕ)) → and_more put [] ≡ put
more_none None = refl
more_none (Some taken) = ap Some (append-nil taken)

pub more_on : (put : Option (List ℕ)) (xs ys : List ℕ) → and_more (and_more put xs) ys ≡ and_more put (xs ++ ys)
more_on None xs ys = refl
more_on (Some taken) xs ys = ap Some (append_assoc taken xs ys)

-- nothing was written
pub prefix_none : (put : Option (List ℕ)) (all : List ℕ) → WritesPrefix put put all
prefix_none put all = record { rest = all; owes = record { put = []; takes = sym (more_none put); is_all = refl } }

pub text_append : (number : ℕ) (log more : List Entry) → log_text_from number (log ++ more) ≡ log_text_from number log ++ log_text_from (number + length log) more
text_append number [] more = ap (λ (n : ℕ). log_text_from n more) (let e : number ≡ number + 0 = omega arith in e)
text_append number (entry ∷ log) more =
    ap (λ (t : List ℕ). entry_text number entry ++ t) (text_append (number + 1) log more)
    ∙ (sym (append_assoc (entry_text number entry) (log_text_from (number + 1) log) (log_text_from (number + 1 + length log) more))
    ∙ ap (λ (n : ℕ). (entry_text number entry ++ log_text_from (number + 1) log) ++ log_text_from n more) (let e : number + 1 + length log ≡ number + suc (length log) = omega arith in e))

-- a call that changes nothing adds nothing
pub adds_observe : SeenLaw → (old new : SeatView) (core : CoreState) → Meets old core → new ≡ record old { seen = core.log } → Adds old new []
adds_observe seen_law old new core meets is =
    let origin : new.origin ≡ old.origin = ap (λ (s : SeatView). s.origin) is in
    let seen : new.seen ≡ core.log = ap (λ (s : SeatView). s.seen) is in
    record {
      bus = ap (λ (s : SeatView). s.bus) is;
      origin = origin;
      rights = ap (λ (s : SeatView). s.rights) is;
      room = ap (λ (s : SeatView). s.room) is;
      rest = meets.grows.rest;
      seen = seen ∙ meets.grows.is;
      adds = ap (own old.rights) (seen ∙ sym (append-nil core.log)) ∙ seen_law old core [] old.rights meets (λ r h. h);
      trace = λ _. record {
        trace = subst (λ o. IsTrace (start o) new.seen) (sym origin) (subst (IsTrace (start old.origin)) (sym seen) meets.trace);
        sparse = subst (λ (s : List Entry). IsSparse s) (sym seen) meets.sparse;
      };
      told = λ t. ap (λ (s : SeatView). s.told) is ∙ t;
    }

pub drop_after : (log more : List Entry) → drop (length log) (log ++ more) ≡ more
drop_after [] more = refl
drop_after (entry ∷ log) more = drop_after log more

pub logged_none : (seat : SeatView) (put : Option (List ℕ)) (faults : ℕ) → Logged seat seat (record { written = 0; held = [] }) put put faults faults
logged_none seat put faults = record { adds = adds_none seat; written = []; rest = seat.seen; seen = refl; so_many = refl; held = refl; put = sym (more_none put); calm = refl; called = refl }

module _ (a b c : SeatView) (from to : WriterView) (put_a put_b put_c : Option (List ℕ)) (faults_a faults_b faults_c : ℕ) (one : Logged a b from put_a put_b faults_a faults_b) where
  -- the entries from the index on in a longer log
  at_index : (mid : List Entry) (more : List Entry) → mid ≡ b.seen ++ more → drop from.written mid ≡ one.rest ++ more
  at_index mid more e =
      ap (drop from.written) (e ∙ (ap (λ (s : List Entry). s ++ more) one.seen ∙ append_assoc one.written one.rest more))
      ∙ (ap (λ (n : ℕ). drop n (one.written ++ (one.rest ++ more))) (sym one.so_many) ∙ drop_after one.written (one.rest ++ more))

  whole : (mid more : List Entry) → mid ≡ b.seen ++ more → mid ≡ one.written ++ drop from.written mid
  whole mid more e = e ∙ (ap (λ (s : List Entry). s ++ more) one.seen ∙ (append_assoc one.written one.rest more ∙ ap (λ (s : List Entry). one.written ++ s) (sym (at_index mid more e))))

  text_of : (piece : List Entry) → log_text (one.written ++ piece) ≡ log_text one.written ++ log_text_from (from.written + 1) piece
  text_of piece = text_append 1 one.written piece ∙ ap (λ (n : ℕ). log_text one.written ++ log_text_from n piece) (let s = one.so_many in let e : 1 + length one.written ≡ from.written + 1 = omega arith in e)

  pub logged_on : LogsOn b c from to put_b put_c faults_b faults_c → Logged a c to put_a put_c faults_a faults_c
  logged_on two = record {
    adds = adds_on a b c [] [] one.adds two.adds;
    written = one.written ++ two.piece;
    rest = drop two.most (drop from.written c.seen);
    seen = whole c.seen two.adds.rest two.adds.seen
        ∙ (ap (λ (s : List Entry). one.written ++ s) (sym (take-append-drop two.most (drop from.written c.seen)) ∙ ap (λ (s : List Entry). s ++ drop two.most (drop from.written c.seen)) (sym two.is))
        ∙ sym (append_assoc one.written two.piece (drop two.most (drop from.written c.seen))));
    so_many = length-append one.written two.piece ∙ (ap (λ (n : ℕ). n + length two.piece) one.so_many ∙ sym (ap (λ (w : WriterView). w.written) two.so_many));
    held = ap (λ (w : WriterView). w.held) two.so_many;
    put = two.put ∙ (ap (λ (p : Option (List ℕ)). and_more p (log_text_from (from.written + 1) two.piece)) one.put ∙ (more_on put_a (log_text one.written) (log_text_from (from.written + 1) two.piece) ∙ ap (and_more put_a) (sym (text_of two.piece))));
    calm = two.calm ∙ one.calm;
    called = two.called ∙ one.called;
  }

  prefix_on : (piece : List Entry) (mid more tail : List Entry) (most : ℕ) → mid ≡ b.seen ++ more → piece ≡ take most (drop from.written mid) → c.seen ≡ mid ++ tail → WritesPrefix put_b put_c (log_text_from (from.written + 1) piece) → WritesPrefix put_a put_c (log_text c.seen)
  prefix_on piece mid more tail most e is seen p =
      let all : c.seen ≡ (one.written ++ piece) ++ (drop most (drop from.written mid) ++ tail) =
      seen ∙ (ap (λ (s : List Entry). s ++ tail)
      (whole mid more e ∙ (ap (λ (s : List Entry). one.written ++ s) (sym (take-append-drop most (drop from.written mid)) ∙ ap (λ (s : List Entry). s ++ drop most (drop from.written mid)) (sym is)) ∙ sym (append_assoc one.written piece (drop most (drop from.written mid)))))
      ∙ append_assoc (one.written ++ piece) (drop most (drop from.written mid)) tail) in
      let after : List ℕ = log_text_from (1 + length (one.written ++ piece)) (drop most (drop from.written mid) ++ tail) in
      let text : log_text c.seen ≡ (log_text one.written ++ log_text_from (from.written + 1) piece) ++ after =
      ap log_text all ∙ (text_append 1 (one.written ++ piece) (drop most (drop from.written mid) ++ tail) ∙ ap (λ (t : List ℕ). t ++ after) (text_of piece)) in
      record {
        rest = p.rest ++ after;
        owes = record {
          put = log_text one.written ++ p.owes.put;
          takes = p.owes.takes ∙ (ap (λ (x : Option (List ℕ)). and_more x p.owes.put) one.put ∙ more_on put_a (log_text one.written) p.owes.put);
          is_all = append_assoc (log_text one.written) p.owes.put (p.rest ++ after)
              ∙ (ap (λ (t : List ℕ). log_text one.written ++ t) (sym (append_assoc p.owes.put p.rest after) ∙ ap (λ (t : List ℕ). t ++ after) p.owes.is_all)
              ∙ (sym (append_assoc (log_text one.written) (log_text_from (from.written + 1) piece) after) ∙ sym text));
        };
      }

  rose_after : Rose faults_b faults_c → Rose faults_a faults_c
  rose_after (inl up) = inl (let same = one.calm in omega arith)
  rose_after (inr top) = inr top

  part_on : PutsPart b c from put_b put_c → WritesPrefix put_a put_c (log_text c.seen)
  part_on p = prefix_on p.piece p.mid p.more p.tail p.most p.grows p.is p.seen p.prefix

  pub log_end : (it : LogEnd) → EndsLogging b c from to put_b put_c faults_b faults_c it → LogDone a c to put_a put_c faults_a faults_c it
  log_end end.Over e = record {
    adds = adds_on a b c [] [] one.adds e.0;
    written = one.written;
    rest = one.rest ++ e.0.rest;
    seen = e.0.seen ∙ (ap (λ (s : List Entry). s ++ e.0.rest) one.seen ∙ append_assoc one.written one.rest e.0.rest);
    so_many = one.so_many ∙ sym (ap (λ (w : WriterView). w.written) e.1);
    held = ap (λ (w : WriterView). w.held) e.1 ∙ one.held;
    put = e.2 ∙ one.put;
    calm = e.3 ∙ one.calm;
    called = e.4 ∙ one.called;
  }
  log_end end.Out e = (stops_on a b c one.adds e.0, part_on e.1, rose_after e.2)
  log_end end.NoMemory e = (stops_on a b c one.adds e.0, part_on e.1)

-- a piece that was read
module _ (seen_law : SeenLaw) (old mid new : SeatView) (core : CoreState) (from to : WriterView) (most : ℕ) (piece : List Entry) (put_old put_new : Option (List ℕ)) (faults_old faults_new : ℕ)
    (adds : Adds old mid []) (seen : mid.seen ≡ core.log) (called : mid.called ≡ old.called) (is : piece ≡ take most (drop from.written core.log)) where
  pub puts_some : PutsSome mid new piece from to put_old put_new faults_old faults_new → LogsOn old new from to put_old put_new faults_old faults_new
  puts_some p = record {
    adds = subst (λ (s : SeatView). Adds old s []) (sym p.same) adds;
    most = most;
    piece = piece;
    is = is ∙ ap (λ (s : List Entry). take most (drop from.written s)) (sym (ap (λ (s : SeatView). s.seen) p.same ∙ seen));
    so_many = p.so_many;
    put = p.put;
    calm = p.calm;
    called = ap (λ (s : SeatView). s.called) p.same ∙ called;
  }

  part : (after : Adds mid new []) → WritesPrefix put_old put_new (log_text_from (from.written + 1) piece) → PutsPart old new from put_old put_new
  part after p = record { mid = core.log; more = adds.rest; grows = sym seen ∙ adds.seen; tail = after.rest; seen = after.seen ∙ ap (λ (s : List Entry). s ++ after.rest) seen; most = most; piece = piece; is = is; prefix = p }

  pub puts_last : (it : LogEnd) → PutsLast mid new piece from to put_old put_new faults_old faults_new it → EndsLogging old new from to put_old put_new faults_old faults_new it
  puts_last end.Over e = (subst (λ (s : SeatView). Adds old s []) (sym e.0) adds, e.1, e.2, e.3, ap (λ (s : SeatView). s.called) e.0 ∙ called)
  puts_last end.Out e = (stops_on old mid new adds e.0, part e.0.adds e.1, e.2)
  puts_last end.NoMemory e = (stops_on old mid new adds e.0, part e.0.adds e.1)

  pub puts_any : (answer : Option LogEnd) → MatchOption answer (PutsSome mid new piece from to put_old put_new faults_old faults_new) (PutsLast mid new piece from to put_old put_new faults_old faults_new)
      → MatchOption answer (LogsOn old new from to put_old put_new faults_old faults_new) (EndsLogging old new from to put_old put_new faults_old faults_new)
  puts_any None p = puts_some p
  puts_any (Some it) p = puts_last it p

-- nothing was read
pub part_none : (old mid new : SeatView) (core : CoreState) (from : WriterView) (put : Option (List ℕ)) → Adds old mid [] → mid.seen ≡ core.log → Adds mid new [] → PutsPart old new from put put
part_none old mid new core from put adds seen after = record { mid = core.log; more = adds.rest; grows = sym seen ∙ adds.seen; tail = after.rest; seen = after.seen ∙ ap (λ (s : List Entry). s ++ after.rest) seen; most = 0; piece = []; is = refl; prefix = prefix_none put (log_text_from (from.written + 1) []) }

-- a piece that wasn't written whole
pub puts_fault : (old new : SeatView) (piece : List Entry) (from to : WriterView) (put_old put_new : Option (List ℕ)) (faults_old faults_new : ℕ) (it : LogFault) → Stops old new → WritesPrefix put_old put_new (log_text_from (from.written + 1) piece)
    → ((let r : Result (Unit {0}) LogFault = Err it in IsErrOf r fault.Out) → Rose faults_old faults_new) → PutsLast old new piece from to put_old put_new faults_old faults_new (end_by it)
puts_fault old new piece from to put_old put_new faults_old faults_new fault.Out stops prefix rose = (stops, prefix, rose refl)
puts_fault old new piece from to put_old put_new faults_old faults_new fault.NoMemory stops prefix rose = (stops, prefix)

-- an empty piece is written by doing nothing, and the job ends over it as over alone
pub puts_nothing : (old : SeatView) (piece : List Entry) (writer : WriterView) (put : Option (List ℕ)) (faults : ℕ) → length piece ≡ 0 → writer.held ≡ [] → (answer : Option LogEnd) → IfSome answer (λ (it : LogEnd). it ≡ end.Over)
    → MatchOption answer (PutsSome old old piece writer writer put put faults faults) (PutsLast old old piece writer writer put put faults faults)
puts_nothing old (entry ∷ piece) writer put faults none held answer over = absurd (omega (arith, none))
puts_nothing old [] writer put faults none held None over = record {
  same = refl;
  so_many = let n : writer.written ≡ writer.written + 0 = omega arith in ap (λ (k : ℕ). let w : WriterView = record { written = k; held = writer.held } in w) n ∙ ap (λ (h : List ℕ). let w : WriterView = record { written = writer.written + 0; held = h } in w) held;
  put = sym (more_none put);
  calm = refl;
}
puts_nothing old [] writer put faults none held (Some it) over = subst (PutsLast old old [] writer writer put put faults faults) (sym over) (refl, refl, refl, refl)
