-- A ring's script is short enough for a file.
use Rattle.std.proofs.Common.{◌≡◌, ◌≤◌, ◌<◌, ◌+◌, ◌*◌, ◌-◌, ◌^◌, ◌++◌, ℕ, zero, suc, List, length, ap, sym, subst, ◌∙◌, codes, arith}
use Rattle.std.specs.Fmt.{decimal}
use Rattle.std.proofs.lemmas.Fmt.{length-decimal-le}
use Rattle.std.proofs.lemmas.List.{length-append}
use Rattle.tb_gen.specs.Ring.{node_line, first_line, node, later, nodes_text, toolbus_line, ring_text}

number-short : (n : ℕ) → n ≤ 10000 → length (decimal n) ≤ 5
number-short n most = length-decimal-le 5 n (omega arith) (omega (arith, most)) (omega (arith, most))

node-short : (process next : ℕ) → process ≤ 10000 → next ≤ 10000 → length (later (node process next)) ≤ 20
node-short process next first second =
    let here = number-short process first in
    let there = number-short next second in
    simp length-append (omega (arith, here, there))

nodes-short : (process count : ℕ) → process + count ≤ 10000 → length (nodes_text process count) ≤ 20 * count
nodes-short process zero most = omega arith
nodes-short process (suc count) most =
    let first = node-short process (process + 1) (omega (arith, most)) (omega (arith, most)) in
    let rest = nodes-short (process + 1) count (omega (arith, most)) in
    let size = length-append (later (node process (process + 1))) (nodes_text (process + 1) count) in
    omega (arith, size, first, rest)

first-short : (messages : ℕ) → messages ≤ 1000000 → length (first_line messages) ≤ 200
first-short messages most =
    let number = length-decimal-le 7 messages (omega arith) (omega (arith, most)) (omega (arith, most)) in
    simp length-append (omega (arith, number))

abbrev start : List ℕ
start = codes "toolbus(First"

abbrev end : List ℕ
end = codes ")\n"

toolbus-short : (n : ℕ) → 2 ≤ n → n ≤ 10000 → length (toolbus_line n) ≤ 200100
toolbus-short n least most =
    let nodes = nodes-short 2 (n - 2) (omega (arith, least, most)) in
    let last = node-short n 1 most (omega arith) in
    let whole : length (toolbus_line n) ≡ 13 + length (nodes_text 2 (n - 2)) + length (later (node n 1)) + 2 =
    length-append (start ++ nodes_text 2 (n - 2) ++ later (node n 1)) end
    ∙ ap (λ (m : ℕ). m + 2) (length-append (start ++ nodes_text 2 (n - 2)) (later (node n 1)) ∙ ap (λ (m : ℕ). m + length (later (node n 1))) (length-append start (nodes_text 2 (n - 2)))) in
    omega (arith, whole, nodes, last, most)

pub ring_short : (n k : ℕ) (text : List ℕ) → text ≡ ring_text n k → (2 ≤ n) × (n ≤ 10000) → (1 ≤ k) × (n * k ≤ 1000000) → length text ≤ 1048576
ring_short n k text is processes messages =
    let first = first-short (n * k) messages.1 in
    let last = toolbus-short n processes.0 processes.1 in
    let two = length-append node_line (first_line (n * k)) in
    let three = length-append (node_line ++ first_line (n * k)) (toolbus_line n) in
    let sizes : length text ≡ length (ring_text n k) = ap (λ (t : List ℕ). length t) is in
    omega (arith, sizes, two, three, first, last)
