-- The script of a ring: each process sends the message on to the next, round and round.
use Rattle.std.specs.Prelude.{ℕ, ◌+◌, ◌-◌, ◌*◌, List, ◌++◌, codes}
use Rattle.std.specs.Fmt.{decimal}
use Rattle.std.specs.List.{flat_map, range_with_len}

-- each process except the first adds 1 to the number that it receives, and sends the sum on
abbrev pub node_line : List ℕ
node_line = codes "process Node(I : int, J : int) is let T : int in (rec-msg(I, T?) . snd-msg(J, add(T, 1))) * delta endlet\n"

-- The first process sends the number 1. If the number that it receives is less than `messages`, it adds 1 and sends the sum on. Otherwise,
-- it shuts down the bus.
abbrev pub first_line : ℕ → List ℕ
first_line messages =
    codes "process First is let T : int in snd-msg(2, 1) . (rec-msg(1, T?) . if less(T, "
    ++ decimal messages
    ++ codes ") then snd-msg(2, add(T, 1)) else shutdown(done) fi) * delta endlet\n"

-- the process with this number, which sends to the process `next`
abbrev pub node : ℕ → ℕ → List ℕ
node process next = codes "Node(" ++ decimal process ++ codes ", " ++ decimal next ++ codes ")"

-- a process after another one
abbrev pub later : List ℕ → List ℕ
later process = codes ", " ++ process

-- this many processes from this number on, each of which sends to the next
abbrev pub nodes_text : ℕ → ℕ → List ℕ
nodes_text process count = flat_map (λ i. later (node i (i + 1))) (range_with_len process count)

-- the first process, those from the second to the last but one, and the last, which sends to the first
abbrev pub toolbus_line : ℕ → List ℕ
toolbus_line n = codes "toolbus(First" ++ nodes_text 2 (n - 2) ++ later (node n 1) ++ codes ")\n"

-- the script of n processes, round which a message goes k times
abbrev pub ring_text : ℕ → ℕ → List ℕ
ring_text n k = node_line ++ first_line (n * k) ++ toolbus_line n
