-- The pairs that some arguments request, and the errors of others, computed by hand: each rule at least once.
use Rattle.std.proofs.Common.{◌≡◌, ℕ, [], ◌∷◌, Ok, Err, codes, refl}
use Rattle.tb_cli.specs.declared.pair_command.PairCommand.{PairCommand}
use Rattle.tb_cli.specs.declared.fault.WordFault.TheVariants.{NoCommand, Unknown, Missing, Extra, Number, Range}
use Rattle.tb_cli.specs.Words.{asked_pair}

abbrev both : ℕ → ℕ → PairCommand
both ticks events = record { first = codes "a.tb"; second = codes "b.tb"; ticks = ticks; events = events }

-- no arguments
nothing_asked : asked_pair [] ≡ Err NoCommand
nothing_asked = refl

-- two scripts, in their order, with the limits of `run` where none is given
two_asked : asked_pair (codes "a.tb" ∷ codes "b.tb" ∷ []) ≡ Ok (both 36000 1000000)
two_asked = refl

-- options before them, between them, and after them
options_anywhere : asked_pair (codes "--events" ∷ codes "7" ∷ codes "a.tb" ∷ codes "--ticks" ∷ codes "0" ∷ codes "b.tb" ∷ []) ≡ Ok (both 0 7)
options_anywhere = refl

options_behind : asked_pair (codes "a.tb" ∷ codes "b.tb" ∷ codes "--ticks" ∷ codes "010" ∷ []) ≡ Ok (both 10 1000000)
options_behind = refl

-- one script is missing, or both
one_word : asked_pair (codes "a.tb" ∷ []) ≡ Err Missing
one_word = refl

option_alone : asked_pair (codes "--ticks" ∷ codes "5" ∷ []) ≡ Err Missing
option_alone = refl

-- the value of an option is missing
no_value : asked_pair (codes "a.tb" ∷ codes "b.tb" ∷ codes "--ticks" ∷ []) ≡ Err Missing
no_value = refl

-- there is no command: the first argument is a script, whatever command it would be
command_is_a_script : asked_pair (codes "run" ∷ codes "a.tb" ∷ codes "b.tb" ∷ []) ≡ Err (Extra 3)
command_is_a_script = refl

empty_names : asked_pair ([] ∷ [] ∷ []) ≡ Ok (record { first = []; second = []; ticks = 36000; events = 1000000 })
empty_names = refl

-- one argument more, after an option too
three_scripts : asked_pair (codes "a.tb" ∷ codes "b.tb" ∷ codes "--ticks" ∷ codes "5" ∷ codes "c.tb" ∷ []) ≡ Err (Extra 5)
three_scripts = refl

-- an option that was given before, and options that a pair doesn't have
ticks_twice : asked_pair (codes "--ticks" ∷ codes "5" ∷ codes "--ticks" ∷ codes "6" ∷ []) ≡ Err (Extra 3)
ticks_twice = refl

no_connect : asked_pair (codes "--connect" ∷ codes "k" ∷ codes "a.tb" ∷ []) ≡ Err (Unknown 1)
no_connect = refl

no_steps : asked_pair (codes "a.tb" ∷ codes "b.tb" ∷ codes "--steps" ∷ codes "5" ∷ []) ≡ Err (Unknown 3)
no_steps = refl

-- a script with a byte that a string may not have
first_odd : asked_pair ((11 ∷ []) ∷ codes "b.tb" ∷ []) ≡ Err (Unknown 1)
first_odd = refl

second_odd : asked_pair (codes "a.tb" ∷ (11 ∷ []) ∷ []) ≡ Err (Unknown 2)
second_odd = refl

-- a value is the next argument, whatever it is
option_as_value : asked_pair (codes "--ticks" ∷ codes "--events" ∷ codes "5" ∷ []) ≡ Err (Number 2)
option_as_value = refl

-- the ends of both ranges
most_ticks : asked_pair (codes "--ticks" ∷ codes "10000000" ∷ codes "a.tb" ∷ codes "b.tb" ∷ []) ≡ Ok (both 10000000 1000000)
most_ticks = refl

past_ticks : asked_pair (codes "--ticks" ∷ codes "10000001" ∷ codes "a.tb" ∷ codes "b.tb" ∷ []) ≡ Err (Range 2)
past_ticks = refl

no_events : asked_pair (codes "a.tb" ∷ codes "b.tb" ∷ codes "--events" ∷ codes "0" ∷ []) ≡ Err (Range 4)
no_events = refl

least_events : asked_pair (codes "a.tb" ∷ codes "b.tb" ∷ codes "--events" ∷ codes "1" ∷ []) ≡ Ok (both 36000 1)
least_events = refl

most_events : asked_pair (codes "a.tb" ∷ codes "b.tb" ∷ codes "--events" ∷ codes "4000000" ∷ []) ≡ Ok (both 36000 4000000)
most_events = refl

past_events : asked_pair (codes "a.tb" ∷ codes "--events" ∷ codes "4000001" ∷ codes "b.tb" ∷ []) ≡ Err (Range 3)
past_events = refl

-- the first of two errors
number_then_extra : asked_pair (codes "a.tb" ∷ codes "b.tb" ∷ codes "--ticks" ∷ codes "x" ∷ codes "c.tb" ∷ []) ≡ Err (Number 4)
number_then_extra = refl

range_then_missing : asked_pair (codes "--events" ∷ codes "0" ∷ codes "a.tb" ∷ []) ≡ Err (Range 2)
range_then_missing = refl
