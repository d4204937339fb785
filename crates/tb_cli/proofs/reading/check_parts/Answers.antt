use Rattle.std.proofs.Common.{◌≡◌, ◌+◌, ◌<◌, ◌++◌, ◌∷◌, [], ◌∙◌, rules, sym, ap, subst, length, map, take, drop, List, ℕ, Ok, Err, slice_get, get_or, string_bytes, option_map, option_copied, arith}
use Rattle.std.proofs.lemmas.List.{length-map, length-take-le}
use Rattle.tb_cli.specs.Parts.{Part, parts_of, given, name_of}
use Rattle.tb_cli.specs.Words.{Answer, part_answer, parts_answer, and_then}
use Rattle.tb_cli.specs.Helpers.Tables.{form_of}
use Rattle.tb_cli.specs.Helpers.Scanning.{part_of, part_len}
use Rattle.tb_cli.proofs.Scanning.{bytes-looked-up, bytes-read, bytes-taken, IsWhole, parts-answered, part-behind}
use Rattle.tb_cli.proofs.reading.check_parts.Goals as goal

pub returns-in_err-check_part-clause-is : goal.returns-in_err-check_part-clause-is
returns-in_err-check_part-clause-is c =
    let words = map string_bytes c.args.words.now in
    let index = c.loop-index.index in
    let form = form_of c.args.form.now in
    let first = c.args.first in
    let word = c.as_str-word.result.now in
    let next = option_map string_bytes (option_copied c.get.result) in
    let part = part_of word next in
    let fault = c.in_err-check_part.field-0.0 in
    let before = take index words in
    let whole = parts_answer form [] first (parts_of words) in
    let within : index < length words = simp length-map (omega arith) in
    let is : word ≡ get_or words index [] = bytes-read c.args.words.now index c.index-words-index.result word c.loop-index-test.true c.index-words-index.is c.as_str-word.ensures.value in
    let comes : next ≡ slice_get words (index + 1) = bytes-looked-up c.get.result c.args.words.now (index + 1) c.get.ensures.lookup.1 c.get.ensures.lookup.3 in
    let size : length (take index c.args.words.now) ≡ index = length-take-le index c.args.words.now (omega (arith, c.loop-index-test.true)) in
    let gives : Err fault ≡ part_answer form (given (name_of part) (parts_of before)) (index + first) part =
    c.in_err-check_part.ensures.is
    ∙ ap (λ (n : ℕ). part_answer form (given (name_of part) (parts_of (map string_bytes (take index c.args.words.now)))) (n + first) part) size
    ∙ ap (λ (ws : List (List ℕ)). part_answer form (given (name_of part) (parts_of ws)) (index + first) part) (bytes-taken c.args.words.now index) in
    let rest : Answer = parts_answer form (parts_of before ++ part ∷ []) (index + first + part_len word) (parts_of (drop (index + part_len word) words)) in
    let all : Err fault ≡ whole =
    ap (λ (answer : Answer). and_then answer rest) gives ∙ parts-answered form words first index word next whole within is comes c.loop-index.invariant.answer in
    let told : c.from_residual.result ≡ Err fault = search rules in
    told ∙ all

pub loop-index-preserved : goal.loop-index-preserved
loop-index-preserved c =
    let words = map string_bytes c.args.words.now in
    let index = c.loop-index.index in
    let len = c.part_len-index.result in
    let form = form_of c.args.form.now in
    let first = c.args.first in
    let word = c.as_str-word.result.now in
    let next = option_map string_bytes (option_copied c.get.result) in
    let part = part_of word next in
    let before = take index words in
    let whole = parts_answer form [] first (parts_of words) in
    let within : index < length words = simp length-map (omega arith) in
    let is : word ≡ get_or words index [] = bytes-read c.args.words.now index c.index-words-index.result word c.loop-index-test.true c.index-words-index.is c.as_str-word.ensures.value in
    let comes : next ≡ slice_get words (index + 1) = bytes-looked-up c.get.result c.args.words.now (index + 1) c.get.ensures.lookup.1 c.get.ensures.lookup.3 in
    let size : length (take index c.args.words.now) ≡ index = length-take-le index c.args.words.now (omega (arith, c.loop-index-test.true)) in
    let gives : Ok tt ≡ part_answer form (given (name_of part) (parts_of before)) (index + first) part =
    c.in_ok-check_part.ensures.is
    ∙ ap (λ (n : ℕ). part_answer form (given (name_of part) (parts_of (map string_bytes (take index c.args.words.now)))) (n + first) part) size
    ∙ ap (λ (ws : List (List ℕ)). part_answer form (given (name_of part) (parts_of ws)) (index + first) part) (bytes-taken c.args.words.now index) in
    let rest : Answer = parts_answer form (parts_of before ++ part ∷ []) (index + first + part_len word) (parts_of (drop (index + part_len word) words)) in
    let all : rest ≡ whole =
    ap (λ (answer : Answer). and_then answer rest) gives ∙ parts-answered form words first index word next whole within is comes c.loop-index.invariant.answer in
    let behind = part-behind form (given (name_of part) (parts_of before)) words index (index + first) word next within is comes c.loop-index.invariant.whole (sym gives) in
    let place : index + first + part_len word ≡ index + part_len word + first = omega arith in
    let size-is = c.part_len-index.ensures in
    let answer : parts_answer form (parts_of (take (index + part_len word) words)) (index + part_len word + first) (parts_of (drop (index + part_len word) words)) ≡ whole =
    ap (λ (ps : List Part). parts_answer form ps (index + part_len word + first) (parts_of (drop (index + part_len word) words))) behind.parts
    ∙ ap (λ (n : ℕ). parts_answer form (parts_of before ++ part ∷ []) n (parts_of (drop (index + part_len word) words))) (sym place)
    ∙ all in
    record {
      answer = ap (λ (n : ℕ). parts_answer form (parts_of (take (index + n) words)) (index + n + first) (parts_of (drop (index + n) words))) size-is ∙ answer;
      whole = subst (λ (n : ℕ). IsWhole (take (index + n) words)) (sym size-is) behind.whole;
    }
