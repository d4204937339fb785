-- The commands that some arguments request, and the errors of others, computed by hand: each rule at least once.
use Rattle.std.proofs.Common.{◌≡◌, ℕ, zero, suc, List, [], ◌∷◌, replicate, Some, None, Ok, Err, codes, refl}
use Rattle.tb_cli.specs.declared.command.Command.TheVariants.{Check, Sim, Run, Verify, Iface, Ring}
use Rattle.tb_cli.specs.declared.fault.WordFault.TheVariants.{NoCommand, Unknown, Missing, Extra, Number, Range}
use Rattle.tb_cli.specs.Words.{asked}

-- no arguments
nothing_asked : asked [] ≡ Err NoCommand
nothing_asked = refl

-- check a.tb
check_asked : asked (codes "check" ∷ codes "a.tb" ∷ []) ≡ Ok (Check (codes "a.tb"))
check_asked = refl

-- sim a.tb
sim_asked : asked (codes "sim" ∷ codes "a.tb" ∷ []) ≡ Ok (Sim (codes "a.tb") None [] 1000000 1000000)
sim_asked = refl

-- sim --steps 5 a.tb
steps_first : asked (codes "sim" ∷ codes "--steps" ∷ codes "5" ∷ codes "a.tb" ∷ []) ≡ Ok (Sim (codes "a.tb") None [] 5 1000000)
steps_first = refl

-- sim a.tb --steps 007
steps_last : asked (codes "sim" ∷ codes "a.tb" ∷ codes "--steps" ∷ codes "007" ∷ []) ≡ Ok (Sim (codes "a.tb") None [] 7 1000000)
steps_last = refl

-- an empty argument is a script's name
empty_name : asked (codes "check" ∷ [] ∷ []) ≡ Ok (Check [])
empty_name = refl

-- an argument that is no command
other_asked : asked (codes "simulate" ∷ codes "a.tb" ∷ []) ≡ Err (Unknown 1)
other_asked = refl

option_first : asked (codes "--steps" ∷ codes "5" ∷ codes "sim" ∷ []) ≡ Err (Unknown 1)
option_first = refl

-- the script is missing
check_bare : asked (codes "check" ∷ []) ≡ Err Missing
check_bare = refl

steps_alone : asked (codes "sim" ∷ codes "--steps" ∷ codes "5" ∷ []) ≡ Err Missing
steps_alone = refl

-- one script more
two_scripts : asked (codes "sim" ∷ codes "a.tb" ∷ codes "--steps" ∷ codes "5" ∷ codes "b.tb" ∷ []) ≡ Err (Extra 5)
two_scripts = refl

-- a script with a byte that a string may not have
no_string : asked (codes "check" ∷ (97 ∷ 0 ∷ []) ∷ []) ≡ Err (Unknown 2)
no_string = refl

-- `check` has no options
check_steps : asked (codes "check" ∷ codes "--steps" ∷ codes "5" ∷ codes "a.tb" ∷ []) ≡ Err (Unknown 2)
check_steps = refl

-- an option of another command
sim_ticks : asked (codes "sim" ∷ codes "a.tb" ∷ codes "--ticks" ∷ codes "5" ∷ []) ≡ Err (Unknown 3)
sim_ticks = refl

sim_events : asked (codes "sim" ∷ codes "--events" ∷ codes "c" ∷ []) ≡ Err (Number 3)
sim_events = refl

both_limits : asked (codes "sim" ∷ codes "--events" ∷ codes "6" ∷ codes "a.tb" ∷ codes "--steps" ∷ codes "5" ∷ []) ≡ Ok (Sim (codes "a.tb") None [] 5 6)
both_limits = refl

check_events : asked (codes "check" ∷ codes "a.tb" ∷ codes "--events" ∷ codes "6" ∷ []) ≡ Err (Unknown 3)
check_events = refl

-- the feed's name, once, and whatever argument comes next, unless it is no string
fed_asked : asked (codes "sim" ∷ codes "--feed" ∷ codes "--steps" ∷ codes "a.tb" ∷ []) ≡ Ok (Sim (codes "a.tb") (Some (codes "--steps")) [] 1000000 1000000)
fed_asked = refl

feed_bare : asked (codes "sim" ∷ codes "a.tb" ∷ codes "--feed" ∷ []) ≡ Err Missing
feed_bare = refl

feed_twice : asked (codes "sim" ∷ codes "--feed" ∷ codes "f" ∷ codes "--feed" ∷ []) ≡ Err (Extra 4)
feed_twice = refl

feed_odd : asked (codes "sim" ∷ codes "a.tb" ∷ codes "--feed" ∷ (11 ∷ []) ∷ []) ≡ Err (Unknown 4)
feed_odd = refl

check_feed : asked (codes "check" ∷ codes "a.tb" ∷ codes "--feed" ∷ codes "f" ∷ []) ≡ Err (Unknown 3)
check_feed = refl

-- commands to connect, in order, each whatever argument comes next, unless it is no string
two_connected : asked (codes "sim" ∷ codes "--connect" ∷ codes "k" ∷ codes "a.tb" ∷ codes "--connect" ∷ codes "--feed" ∷ []) ≡ Ok (Sim (codes "a.tb") None (codes "k" ∷ codes "--feed" ∷ []) 1000000 1000000)
two_connected = refl

connect_as_value : asked (codes "sim" ∷ codes "--feed" ∷ codes "--connect" ∷ codes "k" ∷ []) ≡ Ok (Sim (codes "k") (Some (codes "--connect")) [] 1000000 1000000)
connect_as_value = refl

connect_bare : asked (codes "sim" ∷ codes "a.tb" ∷ codes "--connect" ∷ []) ≡ Err Missing
connect_bare = refl

connect_odd : asked (codes "sim" ∷ codes "--connect" ∷ (11 ∷ []) ∷ []) ≡ Err (Unknown 3)
connect_odd = refl

check_connect : asked (codes "check" ∷ codes "--connect" ∷ codes "k" ∷ []) ≡ Err (Unknown 2)
check_connect = refl

-- the arguments that give this option with a value that many times
abbrev connecting : ℕ → List (List ℕ) → List (List ℕ)
connecting zero words = words
connecting (suc n) words = codes "--connect" ∷ codes "k" ∷ connecting n words

-- one past the most, reported at the option before its value
most_connected : asked (codes "sim" ∷ codes "a.tb" ∷ connecting 16 []) ≡ Ok (Sim (codes "a.tb") None (replicate 16 (codes "k")) 1000000 1000000)
most_connected = refl

one_more_connected : asked (codes "sim" ∷ codes "a.tb" ∷ connecting 16 (codes "--connect" ∷ (11 ∷ []) ∷ [])) ≡ Err (Range 35)
one_more_connected = refl

-- an option that was given before, whether or not it has a value
steps_twice : asked (codes "sim" ∷ codes "--steps" ∷ codes "5" ∷ codes "--steps" ∷ []) ≡ Err (Extra 4)
steps_twice = refl

-- a missing value, and one that is the next argument, whatever it is
no_value : asked (codes "sim" ∷ codes "a.tb" ∷ codes "--steps" ∷ []) ≡ Err Missing
no_value = refl

option_as_value : asked (codes "sim" ∷ codes "--steps" ∷ codes "--steps" ∷ codes "5" ∷ []) ≡ Err (Number 3)
option_as_value = refl

-- values that aren't numbers
signed_steps : asked (codes "sim" ∷ codes "a.tb" ∷ codes "--steps" ∷ codes "+5" ∷ []) ≡ Err (Number 4)
signed_steps = refl

empty_steps : asked (codes "sim" ∷ codes "a.tb" ∷ codes "--steps" ∷ [] ∷ []) ≡ Err (Number 4)
empty_steps = refl

late_letter : asked (codes "sim" ∷ codes "--steps" ∷ codes "99999999999999999999x" ∷ []) ≡ Err (Number 3)
late_letter = refl

-- the ends of the range
no_steps : asked (codes "sim" ∷ codes "a.tb" ∷ codes "--steps" ∷ codes "0" ∷ []) ≡ Err (Range 4)
no_steps = refl

most_asked : asked (codes "sim" ∷ codes "a.tb" ∷ codes "--steps" ∷ codes "4000000" ∷ []) ≡ Ok (Sim (codes "a.tb") None [] 4000000 1000000)
most_asked = refl

past_most : asked (codes "sim" ∷ codes "a.tb" ∷ codes "--steps" ∷ codes "4000001" ∷ []) ≡ Err (Range 4)
past_most = refl

far_past : asked (codes "sim" ∷ codes "--steps" ∷ codes "18446744073709551617" ∷ codes "a.tb" ∷ []) ≡ Err (Range 3)
far_past = refl

-- the first of two errors
extra_then_range : asked (codes "sim" ∷ codes "a.tb" ∷ codes "b.tb" ∷ codes "--steps" ∷ codes "0" ∷ []) ≡ Err (Extra 3)
extra_then_range = refl

range_then_unknown : asked (codes "sim" ∷ codes "--steps" ∷ codes "0" ∷ codes "--ticks" ∷ []) ≡ Err (Range 3)
range_then_unknown = refl

unknown_then_range : asked (codes "sim" ∷ codes "--tick" ∷ codes "--steps" ∷ codes "0" ∷ []) ≡ Err (Unknown 2)
unknown_then_range = refl

-- an option's name is its whole argument, and its first two bytes distinguish an option from an operand
near_option : asked (codes "sim" ∷ codes "--Steps" ∷ codes "5" ∷ codes "a.tb" ∷ []) ≡ Err (Unknown 2)
near_option = refl

joined_option : asked (codes "sim" ∷ codes "a.tb" ∷ codes "--feed=x" ∷ []) ≡ Err (Unknown 3)
joined_option = refl

two_hyphens : asked (codes "check" ∷ codes "--" ∷ codes "a.tb" ∷ []) ≡ Err (Unknown 2)
two_hyphens = refl

one_hyphen : asked (codes "check" ∷ codes "-x" ∷ []) ≡ Ok (Check (codes "-x"))
one_hyphen = refl

-- an unknown option after the operand is reported as such, but if an argument too many comes before it, that one is reported
unknown_behind : asked (codes "check" ∷ codes "a.tb" ∷ codes "--foo" ∷ codes "b.tb" ∷ []) ≡ Err (Unknown 3)
unknown_behind = refl

extra_before : asked (codes "check" ∷ codes "a.tb" ∷ codes "b.tb" ∷ codes "--foo" ∷ []) ≡ Err (Extra 3)
extra_before = refl

-- digits are those of ASCII; U+0661 is none
other_digit : asked (codes "sim" ∷ codes "--steps" ∷ (217 ∷ 161 ∷ []) ∷ []) ≡ Err (Number 3)
other_digit = refl

-- a missing operand or value is reported last
missing_last : asked (codes "sim" ∷ codes "--steps" ∷ codes "0" ∷ []) ≡ Err (Range 3)
missing_last = refl

-- `run` has a script and three options: the commands to connect, and the limits of ticks and of events
run_asked : asked (codes "run" ∷ codes "a.tb" ∷ codes "--connect" ∷ codes "k" ∷ codes "--ticks" ∷ codes "0" ∷ codes "--events" ∷ codes "7" ∷ []) ≡ Ok (Run (codes "a.tb") (codes "k" ∷ []) 0 7)
run_asked = refl

run_bare : asked (codes "run" ∷ []) ≡ Err Missing
run_bare = refl

run_steps : asked (codes "run" ∷ codes "a.tb" ∷ codes "--steps" ∷ codes "5" ∷ []) ≡ Err (Unknown 3)
run_steps = refl

run_feed : asked (codes "run" ∷ codes "--feed" ∷ codes "f" ∷ codes "a.tb" ∷ []) ≡ Err (Unknown 2)
run_feed = refl

most_ticks : asked (codes "run" ∷ codes "--ticks" ∷ codes "10000000" ∷ codes "a.tb" ∷ []) ≡ Ok (Run (codes "a.tb") [] 10000000 1000000)
most_ticks = refl

past_ticks : asked (codes "run" ∷ codes "--ticks" ∷ codes "10000001" ∷ codes "a.tb" ∷ []) ≡ Err (Range 3)
past_ticks = refl

ticks_twice : asked (codes "run" ∷ codes "--ticks" ∷ codes "1" ∷ codes "--ticks" ∷ codes "1" ∷ []) ≡ Err (Extra 4)
ticks_twice = refl

run_extra : asked (codes "run" ∷ codes "a.tb" ∷ codes "b.tb" ∷ []) ≡ Err (Extra 3)
run_extra = refl

-- each limit that isn't given is the default
run_usual_events : asked (codes "run" ∷ codes "--ticks" ∷ codes "0" ∷ codes "a.tb" ∷ codes "--connect" ∷ codes "k" ∷ []) ≡ Ok (Run (codes "a.tb") (codes "k" ∷ []) 0 1000000)
run_usual_events = refl

run_usual_ticks : asked (codes "run" ∷ codes "a.tb" ∷ codes "--events" ∷ codes "7" ∷ []) ≡ Ok (Run (codes "a.tb") [] 36000 7)
run_usual_ticks = refl

-- `ring` has two numbers, and no options
ring_asked : asked (codes "ring" ∷ codes "2" ∷ codes "1" ∷ []) ≡ Ok (Ring 2 1)
ring_asked = refl

ring_zeros : asked (codes "ring" ∷ codes "02" ∷ codes "010" ∷ []) ≡ Ok (Ring 2 10)
ring_zeros = refl

ring_most : asked (codes "ring" ∷ codes "10000" ∷ codes "100" ∷ []) ≡ Ok (Ring 10000 100)
ring_most = refl

ring_least : asked (codes "ring" ∷ codes "2" ∷ codes "500000" ∷ []) ≡ Ok (Ring 2 500000)
ring_least = refl

ring_bare : asked (codes "ring" ∷ []) ≡ Err Missing
ring_bare = refl

ring_half : asked (codes "ring" ∷ codes "3" ∷ []) ≡ Err Missing
ring_half = refl

ring_more : asked (codes "ring" ∷ codes "2" ∷ codes "3" ∷ codes "4" ∷ []) ≡ Err (Extra 4)
ring_more = refl

ring_option : asked (codes "ring" ∷ codes "2" ∷ codes "--steps" ∷ codes "3" ∷ []) ≡ Err (Unknown 3)
ring_option = refl

one_process : asked (codes "ring" ∷ codes "1" ∷ codes "0" ∷ []) ≡ Err (Range 2)
one_process = refl

many_processes : asked (codes "ring" ∷ codes "10001" ∷ codes "1" ∷ []) ≡ Err (Range 2)
many_processes = refl

-- 0 rounds, and a product past the most, are reported at the second number
no_rounds : asked (codes "ring" ∷ codes "2" ∷ codes "0" ∷ []) ≡ Err (Range 3)
no_rounds = refl

past_product : asked (codes "ring" ∷ codes "10000" ∷ codes "101" ∷ []) ≡ Err (Range 3)
past_product = refl

far_product : asked (codes "ring" ∷ codes "2" ∷ codes "18446744073709551616" ∷ []) ≡ Err (Range 3)
far_product = refl

signed_process : asked (codes "ring" ∷ codes "-2" ∷ codes "x" ∷ []) ≡ Err (Number 2)
signed_process = refl

ring_word : asked (codes "ring" ∷ codes "10" ∷ codes "x" ∷ codes "y" ∷ []) ≡ Err (Number 3)
ring_word = refl

ring_empty : asked (codes "ring" ∷ codes "10" ∷ [] ∷ []) ≡ Err (Number 3)
ring_empty = refl

-- `verify` has a script, a log, and commands to connect
verify_asked : asked (codes "verify" ∷ codes "a.tb" ∷ codes "--connect" ∷ codes "k" ∷ codes "a.log" ∷ codes "--connect" ∷ codes "m" ∷ []) ≡ Ok (Verify (codes "a.tb") (codes "a.log") (codes "k" ∷ codes "m" ∷ []))
verify_asked = refl

verify_bare : asked (codes "verify" ∷ []) ≡ Err Missing
verify_bare = refl

verify_half : asked (codes "verify" ∷ codes "a.tb" ∷ []) ≡ Err Missing
verify_half = refl

verify_extra : asked (codes "verify" ∷ codes "a.tb" ∷ codes "a.log" ∷ codes "b.log" ∷ []) ≡ Err (Extra 4)
verify_extra = refl

verify_events : asked (codes "verify" ∷ codes "a.tb" ∷ codes "a.log" ∷ codes "--events" ∷ codes "7" ∷ []) ≡ Err (Unknown 4)
verify_events = refl

verify_odd : asked (codes "verify" ∷ codes "a.tb" ∷ (11 ∷ []) ∷ []) ≡ Err (Unknown 3)
verify_odd = refl

-- `iface` has a script and a tool, and no options
iface_asked : asked (codes "iface" ∷ codes "a.tb" ∷ codes "t" ∷ []) ≡ Ok (Iface (codes "a.tb") (codes "t"))
iface_asked = refl

iface_empty : asked (codes "iface" ∷ codes "a.tb" ∷ [] ∷ []) ≡ Ok (Iface (codes "a.tb") [])
iface_empty = refl

iface_half : asked (codes "iface" ∷ codes "a.tb" ∷ []) ≡ Err Missing
iface_half = refl

iface_extra : asked (codes "iface" ∷ codes "a.tb" ∷ codes "t" ∷ codes "u" ∷ []) ≡ Err (Extra 4)
iface_extra = refl

iface_connect : asked (codes "iface" ∷ codes "a.tb" ∷ codes "t" ∷ codes "--connect" ∷ codes "k" ∷ []) ≡ Err (Unknown 4)
iface_connect = refl

iface_odd : asked (codes "iface" ∷ codes "a.tb" ∷ (11 ∷ []) ∷ []) ≡ Err (Unknown 3)
iface_odd = refl
