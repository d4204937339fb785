-- How the parts of the call come to the outcome of a pair.
use Rattle.std.proofs.Common.{◌≡◌, ℕ, Option, List, [], ◌∷◌, ◌++◌, Result, Ok, Err, refl, ap, sym, ◌∙◌, subst, append_assoc, append-nil, inl, inr, IfOk, IfErr, OnOk, IsOk, Bool, false, true}
use Rattle.tb_body.specs.declared.program.Program.{Program}
use Rattle.tb_bus.specs.declared.origin.Origin.{Origin}
use Rattle.tb_cli.specs.declared.fault.WordFault.{WordFault}
use Rattle.tb_cli.specs.declared.fault.WordFault.TheVariants as word
use Rattle.tb_cli.specs.declared.pair_command.PairCommand.{PairCommand}
use Rattle.tb_core.specs.Cores.{CoreState, Stays, started}
use Rattle.tb_edge.specs.Faults.{Rose}
use Rattle.tb_edge.specs.Sinks.{Writes}
use Rattle.tb_load.specs.Loading.{HasProgram, IsBadScript, IsUnloaded}
use Rattle.tb_load.specs.Helpers.Parts.{AsksFor}
use Rattle.tb_load.specs.declared.fault.LoadFault.{LoadFault}
use Rattle.tb_load.specs.declared.fault.LoadFault.TheVariants as load
use Rattle.tb_log.specs.declared.entry.Entry.{Entry}
use Rattle.tb_pair_run.specs.Outcomes.{PairRuns}
use Rattle.tb_pair_run.specs.Outcomes.{TellsFirst as RunTells}
use Rattle.tb_pair_run.specs.declared.ends.PairWhy.{PairWhy}
use Rattle.tb_pair_run.specs.declared.ends.PairWhy.TheVariants as why
use Rattle.tb_edge.specs.FilesHeld.{AsksSome}
use Rattle.tb_pair_top.specs.Loading.{AsksBoth, IsOfOne}
use Rattle.tb_pair_top.specs.Outcomes.{ArePut, CommandOutcome, Comes, FileCaused, HaveRun, IsPair, RunOutcome, TellsFirst, files_of, pair_origin, pair_text}
use Rattle.tb_pair_top.specs.Views.{Outside, Seen}
use Rattle.tb_pair_top.specs.Helpers.Parts.{AreStarted, AreUnloaded, EndsAs, HavePrograms, IsRunFault, PutsLogs, of_load}
use Rattle.tb_pair_top.specs.declared.fault.PairFault.{PairFault}
use Rattle.tb_pair_top.specs.declared.fault.PairFault.TheVariants.{Script, Words, File, Out, Clock, Crew, Limit, NoMemory}
use Rattle.tb_pair_top.specs.declared.loading.Programs.{Programs}
use Rattle.tb_pair_top.specs.declared.running.Cores.{Cores}
use Rattle.tb_terms.specs.declared.memory.NoMemory.{NoMemory as NoRoom}

-- Two files.

asked-both : (first second : List ℕ) (old mid new : List (List ℕ)) → mid ≡ old ++ first ∷ [] → new ≡ mid ++ second ∷ [] → AsksBoth first second old new
asked-both first second old mid new e h = h ∙ ap (λ (names : List (List ℕ)). names ++ second ∷ []) e ∙ append_assoc old (first ∷ []) (second ∷ [])

pub both-loaded : (held mid : List ℕ → Option (List ℕ)) (first second : List ℕ) (program : Program) (result : Result Programs LoadFault) → mid ≡ held → HasProgram (held first) program →
    IfOk result (λ both. (both.first ≡ program) × HasProgram (mid second) both.second) → IfOk result (HavePrograms held first second)
both-loaded held mid first second program (Ok both) stays has h = record {
  has = subst (λ (p : Program). HasProgram (held first) p) (sym h.0) has;
  others_has = subst (λ (f : List ℕ → Option (List ℕ)). HasProgram (f second) both.second) stays h.1;
}
both-loaded held mid first second program (Err fault) stays has h = tt

pub both-asked : (first second : List ℕ) (old mid new : List (List ℕ)) (result : Result Programs LoadFault) → mid ≡ old ++ first ∷ [] → AsksFor (second ∷ []) mid new result → OnOk result (AsksBoth first second old new)
both-asked first second old mid new (Ok both) e h = asked-both first second old mid new e h
both-asked first second old mid new (Err fault) e h = tt

pub unloaded-first : (held : List ℕ → Option (List ℕ)) (first second : List ℕ) (old new : List (List ℕ)) (fault : LoadFault) → IsUnloaded (held first) fault → AsksFor {A = Program} (first ∷ []) old new (Err fault) → AreUnloaded held first second old new fault
unloaded-first held first second old new (load.Script fault) h e = inl (h, e)
unloaded-first held first second old new load.File h e = inl (tt, e)
unloaded-first held first second old new load.NoMemory h (inl e) = inl e
unloaded-first held first second old new load.NoMemory h (inr e) = inr (inl (tt, e))

pub unloaded-second : (held mid : List ℕ → Option (List ℕ)) (first second : List ℕ) (program : Program) (old between new : List (List ℕ)) (result : Result Programs LoadFault) → mid ≡ held → HasProgram (held first) program → between ≡ old ++ first ∷ [] →
    IfErr result (IsUnloaded (mid second)) → AsksFor (second ∷ []) between new result → IfErr result (AreUnloaded held first second old new)
unloaded-second held mid first second program old between new (Ok both) stays has e h asks = tt
unloaded-second held mid first second program old between new (Err (load.Script fault)) stays has e h asks =
    inr ((program, has), subst (λ (f : List ℕ → Option (List ℕ)). IsBadScript (f second) fault) stays h, asked-both first second old between new e asks)
unloaded-second held mid first second program old between new (Err load.File) stays has e h asks = inr ((program, has), tt, asked-both first second old between new e asks)
unloaded-second held mid first second program old between new (Err load.NoMemory) stays has e h (inl asks) = inr (inl (tt, asks ∙ e))
unloaded-second held mid first second program old between new (Err load.NoMemory) stays has e h (inr asks) = inr (inr ((program, has), tt, asked-both first second old between new e asks))

-- Two logs.

pub put-whole : {A : Type 0} (it : PairWhy) (text : List ℕ) (old new : Option (List ℕ)) (faults_old faults_new : ℕ) (answer : Result A PairFault) → EndsAs it answer → Writes old new text → faults_new ≡ faults_old →
    PutsLogs it text old new faults_old faults_new answer
put-whole it text old new faults_old faults_new (Ok done) e put calm = (e, put, calm)
put-whole it text old new faults_old faults_new (Err Clock) e put calm = (e, put, calm)
put-whole it text old new faults_old faults_new (Err Limit) e put calm = (e, put, calm)
put-whole it text old new faults_old faults_new (Err Out) e put calm = absurd e
put-whole it text old new faults_old faults_new (Err Crew) e put calm = absurd e
put-whole it text old new faults_old faults_new (Err NoMemory) e put calm = absurd e
put-whole it text old new faults_old faults_new (Err (Script fault)) e put calm = absurd e
put-whole it text old new faults_old faults_new (Err (Words fault)) e put calm = absurd e
put-whole it text old new faults_old faults_new (Err File) e put calm = absurd e

pub run-fault : {A : Type 0} (it : PairWhy) (text : List ℕ) (old new : Option (List ℕ)) (faults_old faults_new : ℕ) (answer : Result A PairFault) → PutsLogs it text old new faults_old faults_new answer → IfErr answer IsRunFault
run-fault it text old new faults_old faults_new (Ok done) h = tt
run-fault it text old new faults_old faults_new (Err Clock) h = tt
run-fault it text old new faults_old faults_new (Err Limit) h = tt
run-fault it text old new faults_old faults_new (Err Out) h = tt
run-fault it text old new faults_old faults_new (Err Crew) h = tt
run-fault it text old new faults_old faults_new (Err NoMemory) h = tt
run-fault it text old new faults_old faults_new (Err (Script fault)) h = absurd h
run-fault it text old new faults_old faults_new (Err (Words fault)) h = absurd h
run-fault it text old new faults_old faults_new (Err File) h = absurd h

-- Two buses.

abbrev have-run : (most : ℕ) (origin others_origin : Origin) (old new : Outside) (back others_back : CoreState) (it other : PairWhy) → PairRuns most old.run new.run origin others_origin back others_back it → it ≡ other →
    HaveRun most origin others_origin old.run new.run other
have-run most origin others_origin old new back others_back it other runs e =
    record { back = back; others_back = others_back; runs = subst (λ (w : PairWhy). PairRuns most old.run new.run origin others_origin back others_back w) e runs }

pub pair-ended : {A : Type 0} (most : ℕ) (origin others_origin : Origin) (old new : Outside) (back others_back : CoreState) (it : PairWhy) (answer : Result A PairFault) → PairRuns most old.run new.run origin others_origin back others_back it →
    PutsLogs it (pair_text back.log others_back.log) old.put new.put old.out_faults new.out_faults answer → RunOutcome most origin others_origin old new answer
pair-ended most origin others_origin old new back others_back it (Ok done) runs (e, put, calm) = (have-run most origin others_origin old new back others_back it why.Ended runs e, put)
pair-ended most origin others_origin old new back others_back it (Err Clock) runs (e, put, calm) = (have-run most origin others_origin old new back others_back it why.Clock runs e, put)
pair-ended most origin others_origin old new back others_back it (Err Limit) runs (e, put, calm) = (have-run most origin others_origin old new back others_back it why.Events runs e, put)
pair-ended most origin others_origin old new back others_back it (Err Out) runs (are, put, rose) = (it, are, have-run most origin others_origin old new back others_back it it runs refl, put)
pair-ended most origin others_origin old new back others_back it (Err Crew) runs (e, same, calm) = (have-run most origin others_origin old new back others_back it why.Crew runs e, same)
pair-ended most origin others_origin old new back others_back it (Err NoMemory) runs (inl (e, same)) = inr (inl (have-run most origin others_origin old new back others_back it why.NoMemory runs e, same))
pair-ended most origin others_origin old new back others_back it (Err NoMemory) runs (inr (are, put)) = inr (inr (it, are, have-run most origin others_origin old new back others_back it it runs refl, put))
pair-ended most origin others_origin old new back others_back it (Err (Script fault)) runs h = absurd h
pair-ended most origin others_origin old new back others_back it (Err (Words fault)) runs h = absurd h
pair-ended most origin others_origin old new back others_back it (Err File) runs h = absurd h

crew-calm : (old new : Outside) (it : PairWhy) → ArePut it → RunTells old.run new.run it → new.run.crew_faults ≡ old.run.crew_faults
crew-calm old new why.Ended are h = h.0
crew-calm old new why.Clock are h = h.0
crew-calm old new why.Events are h = h
crew-calm old new why.Crew are h = absurd are
crew-calm old new why.NoMemory are h = absurd are

tells-by : {A : Type 0} (old new : Outside) (text : List ℕ) (it : PairWhy) (answer : Result A PairFault) → RunTells old.run new.run it → PutsLogs it text old.put new.put old.out_faults new.out_faults answer → TellsFirst old new answer
tells-by old new text it (Ok done) tells (e, put, calm) = let h : RunTells old.run new.run why.Ended = subst (λ (w : PairWhy). RunTells old.run new.run w) e tells in (h.0, calm, h.1)
tells-by old new text it (Err Clock) tells (e, put, calm) = let h : RunTells old.run new.run why.Clock = subst (λ (w : PairWhy). RunTells old.run new.run w) e tells in (h.0, calm, h.1)
tells-by old new text it (Err Limit) tells (e, put, calm) = let h : RunTells old.run new.run why.Events = subst (λ (w : PairWhy). RunTells old.run new.run w) e tells in (h, calm)
tells-by old new text it (Err Out) tells (are, put, rose) = (crew-calm old new it are tells, rose)
tells-by old new text it (Err Crew) tells (e, same, calm) = let h : RunTells old.run new.run why.Crew = subst (λ (w : PairWhy). RunTells old.run new.run w) e tells in (h.0, calm, h.1)
tells-by old new text it (Err NoMemory) tells h = tt
tells-by old new text it (Err (Script fault)) tells h = tt
tells-by old new text it (Err (Words fault)) tells h = tt
tells-by old new text it (Err File) tells h = tt

pub pair-tells : {A : Type 0} (most : ℕ) (origin others_origin : Origin) (old new : Outside) (back others_back : CoreState) (text : List ℕ) (it : PairWhy) (answer : Result A PairFault) → PairRuns most old.run new.run origin others_origin back others_back it →
    PutsLogs it text old.put new.put old.out_faults new.out_faults answer → TellsFirst old new answer
pair-tells most origin others_origin old new back others_back text it answer runs put = tells-by old new text it answer runs.tells put

-- two buses that began
pub both-started : (programs : Programs) (events : ℕ) (core : CoreState) (result : Result Cores NoRoom) → Stays (started (pair_origin programs.first events)) core →
    IfOk result (λ cores. (cores.first ≡ core) × Stays (started (pair_origin programs.second events)) cores.second) → IfOk result (AreStarted programs events)
both-started programs events core (Ok cores) stays h = record { first = subst (λ (c : CoreState). Stays (started (pair_origin programs.first events)) c) (sym h.0) stays; second = h.1 }
both-started programs events core (Err none) stays h = tt

-- the text of two logs is that of their entries
pub logs-by : {A : Type 0} (it : PairWhy) (one other log others_log : List Entry) (old new : Option (List ℕ)) (faults_old faults_new : ℕ) (answer : Result A PairFault) → one ≡ log → other ≡ others_log →
    PutsLogs it (pair_text one other) old new faults_old faults_new answer → PutsLogs it (pair_text log others_log) old new faults_old faults_new answer
logs-by it one other log others_log old new faults_old faults_new answer e f h =
    subst (λ (l : List Entry). PutsLogs it (pair_text log l) old new faults_old faults_new answer) f
    (subst (λ (l : List Entry). PutsLogs it (pair_text l other) old new faults_old faults_new answer) e h)

pub outcome-by : {A : Type 0} (most : ℕ) (one other origin others_origin : Origin) (old new : Outside) (answer : Result A PairFault) → one ≡ origin → other ≡ others_origin → RunOutcome most one other old new answer → RunOutcome most origin others_origin old new answer
outcome-by most one other origin others_origin old new answer e f h =
    subst (λ (o : Origin). RunOutcome most origin o old new answer) f (subst (λ (o : Origin). RunOutcome most o other old new answer) e h)

-- The whole.

have-by : (held : List ℕ → Option (List ℕ)) (a b c d : List ℕ) (programs : Programs) → a ≡ c → b ≡ d → HavePrograms held a b programs → HavePrograms held c d programs
have-by held a b c d programs e f h = record {
  has = subst (λ (n : List ℕ). HasProgram (held n) programs.first) e h.has;
  others_has = subst (λ (n : List ℕ). HasProgram (held n) programs.second) f h.others_has;
}

asks-by : (a b c d : List ℕ) (old new : List (List ℕ)) → a ≡ c → b ≡ d → AsksBoth a b old new → AsksBoth c d old new
asks-by a b c d old new e f h = subst (λ (n : List ℕ). AsksBoth c n old new) f (subst (λ (n : List ℕ). AsksBoth n b old new) e h)

names-by : (held : List ℕ → Option (List ℕ)) (a b c d : List ℕ) (old new : List (List ℕ)) (fault : LoadFault) → a ≡ c → b ≡ d → AreUnloaded held a b old new fault → AreUnloaded held c d old new fault
names-by held a b c d old new fault e f h = subst (λ (n : List ℕ). AreUnloaded held c n old new fault) f (subst (λ (n : List ℕ). AreUnloaded held n b old new fault) e h)

pub pair-comes : {A : Type 0} (command : PairCommand) (old new : Seen) (programs : Programs) (first second : List ℕ) (answer : Result A PairFault) → first ≡ command.first → second ≡ command.second → HavePrograms old.held first second programs →
    AsksBoth first second old.asked new.asked →
    RunOutcome command.ticks (pair_origin programs.first command.events) (pair_origin programs.second command.events) old.outside new.outside answer → TellsFirst old.outside new.outside answer → IfErr answer IsRunFault → Comes (Ok command) old new answer
pair-comes {A} command old new programs first second answer one other have asks outcome tells behind = record { outcome = by answer behind (is outcome); tells = tells; file = caused answer behind } where
  named : HavePrograms old.held command.first command.second programs
  named = have-by old.held first second command.first command.second programs one other have

  is : {answer : Result A PairFault} → RunOutcome command.ticks (pair_origin programs.first command.events) (pair_origin programs.second command.events) old.outside new.outside answer → IsPair command old new answer
  is h = record { one = programs.first; other = programs.second; has = named.has; others_has = named.others_has; asks = asks-by first second command.first command.second old.asked new.asked one other asks; outcome = h }

  by : (answer : Result A PairFault) → IfErr answer IsRunFault → IsPair command old new answer → CommandOutcome command old new answer
  by (Ok done) b h = h
  by (Err Clock) b h = h
  by (Err Limit) b h = h
  by (Err Out) b h = h
  by (Err Crew) b h = h
  by (Err NoMemory) b h = inr (inr h)
  by (Err (Script fault)) b h = absurd b
  by (Err (Words fault)) b h = absurd b
  by (Err File) b h = absurd b

  caused : (answer : Result A PairFault) → IfErr answer IsRunFault → FileCaused old new answer
  caused (Ok done) b = tt
  caused (Err Clock) b = tt
  caused (Err Limit) b = tt
  caused (Err Out) b = tt
  caused (Err Crew) b = tt
  caused (Err NoMemory) b = tt
  caused (Err (Script fault)) b = tt
  caused (Err (Words fault)) b = tt
  caused (Err File) b = absurd b

unloaded-by : (A : Type 0) (command : PairCommand) (old new : Seen) (fault : LoadFault) → AreUnloaded old.held command.first command.second old.asked new.asked fault → new.outside ≡ old.outside →
    (◌≡◌ {A = Result Programs LoadFault} (Err fault) (Err load.File) → Rose old.file_faults new.file_faults) → Comes {A = A} (Ok command) old new (Err (of_load fault))
unloaded-by A command old new (load.Script fault) h same rose = record { outcome = (h, same); tells = tt; file = tt }
unloaded-by A command old new load.File h same rose = record { outcome = (h, same); tells = tt; file = rose refl }
unloaded-by A command old new load.NoMemory (inl h) same rose = record { outcome = inl (h, same); tells = tt; file = tt }
unloaded-by A command old new load.NoMemory (inr h) same rose = record { outcome = inr (inl (h, same)); tells = tt; file = tt }

pub unloaded-comes : (A : Type 0) (command : PairCommand) (old new : Seen) (first second : List ℕ) (fault : LoadFault) (it : PairFault) → first ≡ command.first → second ≡ command.second → it ≡ of_load fault → AreUnloaded old.held first second old.asked new.asked fault → new.outside ≡ old.outside →
    (◌≡◌ {A = Result Programs LoadFault} (Err fault) (Err load.File) → Rose old.file_faults new.file_faults) → Comes {A = A} (Ok command) old new (Err it)
unloaded-comes A command old new first second fault it one other is h same rose =
    subst (λ (f : PairFault). Comes {A = A} (Ok command) old new (Err f)) (sym is)
    (unloaded-by A command old new fault (names-by old.held first second command.first command.second old.asked new.asked fault one other h) same rose)

-- memory ran out before anything was done
pub not-begun : (A : Type 0) (asked : Result PairCommand WordFault) (old : Seen) → IsOk asked → Comes {A = A} asked old old (Err NoMemory)
not-begun A (Err fault) old ok = let h : ◌≡◌ {A = Bool} false true = ok in let no : ⊥ = cc in absurd no
not-begun A (Ok command) old ok = record { outcome = inl (refl, refl); tells = tt; file = tt }

-- words that have a fault
pub words-refused : (A : Type 0) (asked : Result PairCommand WordFault) (old : Seen) (fault : WordFault) → asked ≡ Err fault → (fault ≡ word.NoMemory → ⊥) → Comes {A = A} asked old old (Err (Words fault))
words-refused A asked old fault e other = subst (λ (a : Result PairCommand WordFault). Comes {A = A} a old old (Err (Words fault))) (sym e) (record { outcome = (refl, other, refl, refl); tells = tt; file = tt })

pub comes-by : {A : Type 0} (asked : Result PairCommand WordFault) (command : PairCommand) (old new : Seen) (answer : Result A PairFault) → asked ≡ Ok command → Comes (Ok command) old new answer → Comes asked old new answer
comes-by asked command old new answer e h = subst (λ (a : Result PairCommand WordFault). Comes a old new answer) (sym e) h

-- whatever the answer, some of the names were asked for, in order

some-none : (names old new : List (List ℕ)) → new ≡ old → AsksSome names old new
some-none names old new e = record { asked = []; others = names; first = refl; is = e ∙ sym (append-nil old) }

some-of : (Is : Option (List ℕ) → Type 0) (held : List ℕ → Option (List ℕ)) (first second : List ℕ) (old new : List (List ℕ)) → IsOfOne Is held first second old new → AsksSome (first ∷ second ∷ []) old new
some-of Is held first second old new (inl h) = record { asked = first ∷ []; others = second ∷ []; first = refl; is = h.1 }
some-of Is held first second old new (inr h) = record { asked = first ∷ second ∷ []; others = []; first = refl; is = h.2 }

some-all : {A : Type 0} (command : PairCommand) (old new : Seen) (answer : Result A PairFault) → IsPair command old new answer → AsksSome (command.first ∷ command.second ∷ []) old.asked new.asked
some-all command old new answer h = record { asked = command.first ∷ command.second ∷ []; others = []; first = refl; is = h.asks }

some-asked : {A : Type 0} (command : PairCommand) (old new : Seen) (answer : Result A PairFault) → CommandOutcome command old new answer → AsksSome (command.first ∷ command.second ∷ []) old.asked new.asked
some-asked command old new (Ok done) h = some-all command old new (Ok done) h
some-asked command old new (Err Clock) h = some-all command old new (Err Clock) h
some-asked command old new (Err Limit) h = some-all command old new (Err Limit) h
some-asked command old new (Err Out) h = some-all command old new (Err Out) h
some-asked command old new (Err Crew) h = some-all command old new (Err Crew) h
some-asked command old new (Err (Words fault)) h = some-all command old new (Err (Words fault)) h
some-asked command old new (Err (Script fault)) h = some-of (λ told. IsBadScript told fault) old.held command.first command.second old.asked new.asked h.0
some-asked command old new (Err File) h = some-of (λ told. Unit {0}) old.held command.first command.second old.asked new.asked h.0
some-asked command old new (Err NoMemory) (inl h) = some-none (command.first ∷ command.second ∷ []) old.asked new.asked h.0
some-asked command old new (Err NoMemory) (inr (inl h)) = some-of (λ told. Unit {0}) old.held command.first command.second old.asked new.asked h.0
some-asked {A} command old new (Err NoMemory) (inr (inr h)) = some-all {A = A} command old new (Err NoMemory) h

pub asks-some : {A : Type 0} (asked : Result PairCommand WordFault) (old new : Seen) (answer : Result A PairFault) → Comes asked old new answer → AsksSome (files_of asked) old.asked new.asked
asks-some (Err fault) old new answer comes = some-none [] old.asked new.asked comes.outcome.2
asks-some (Ok command) old new answer comes = some-asked command old new answer comes.outcome

-- a thing of the outside that an answer names has failed

pub file-rose : {A : Type 0} (asked : Result PairCommand WordFault) (old new : Seen) (answer : Result A PairFault) → Comes asked old new answer → answer ≡ Err File → Rose old.file_faults new.file_faults
file-rose {A} asked old new answer comes e = subst (λ (a : Result A PairFault). FileCaused old new a) e comes.file

pub out-rose : {A : Type 0} (asked : Result PairCommand WordFault) (old new : Seen) (answer : Result A PairFault) → Comes asked old new answer → answer ≡ Err Out → Rose old.outside.out_faults new.outside.out_faults
out-rose {A} asked old new answer comes e = (subst (λ (a : Result A PairFault). TellsFirst old.outside new.outside a) e comes.tells).1

pub clock-rose : {A : Type 0} (asked : Result PairCommand WordFault) (old new : Seen) (answer : Result A PairFault) → Comes asked old new answer → answer ≡ Err Clock → Rose old.outside.run.clock_faults new.outside.run.clock_faults
clock-rose {A} asked old new answer comes e = (subst (λ (a : Result A PairFault). TellsFirst old.outside new.outside a) e comes.tells).2

pub crew-rose : {A : Type 0} (asked : Result PairCommand WordFault) (old new : Seen) (answer : Result A PairFault) → Comes asked old new answer → answer ≡ Err Crew → Rose old.outside.run.crew_faults new.outside.run.crew_faults
crew-rose {A} asked old new answer comes e = (subst (λ (a : Result A PairFault). TellsFirst old.outside new.outside a) e comes.tells).0
