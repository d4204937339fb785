use Rattle.std.proofs.Common.{◌≡◌, ℕ, List, [], ◌∷◌, ◌++◌, ◌∙◌, ap, sym, append_assoc, append-nil}
use Rattle.std.specs.List.{flat_map, join_with_byte}
use Rattle.std.proofs.lemmas.Result.{on_ok_weaker, on_err_weaker}
use Rattle.tb_terms.proofs.Joined.{kept_through}
use Rattle.tb_script.proofs.writing.push_names.Goals as goal

joined : (first : List ℕ) (others : List (List ℕ)) → first ++ flat_map (λ (name : List ℕ). 44 ∷ name) others ≡ join_with_byte 44 (first ∷ others)
joined first [] = append-nil first
joined first (next ∷ others) = ap (λ (rest : List ℕ). first ++ 44 ∷ rest) (joined next others)

-- the first name and the other names were written
whole : (names : List (List ℕ)) (first put : List ℕ) (others : List (List ℕ)) (old mid new : List ℕ) → names ≡ first ∷ others → put ≡ first → mid ≡ old ++ put → new ≡ mid ++ flat_map (λ (name : List ℕ). 44 ∷ name) others →
    new ≡ old ++ join_with_byte 44 names
whole names first put others old mid new is same begun h =
    let rest = flat_map (λ (name : List ℕ). 44 ∷ name) others in
    h
    ∙ ap (λ (bytes : List ℕ). bytes ++ rest) begun
    ∙ append_assoc old put rest
    ∙ ap (λ (bytes : List ℕ). old ++ (bytes ++ rest)) same
    ∙ ap (λ (bytes : List ℕ). old ++ bytes) (joined first others ∙ ap (join_with_byte 44) (sym is))

pub returns-clause-ok : goal.returns-clause-ok
returns-clause-ok c =
    on_ok_weaker c.push_more_names.result
    (whole c.args.names.now c.in-Some.first.now c.as_bytes.result.now c.in-Some.others.now c.args.into.now.items c.push_text.new.into.items c.push_more_names.new.into.items c.in-Some.ensures.cases.0 c.as_bytes.ensures.value c.in_ok-push_text.ensures.ok)
    c.push_more_names.ensures.ok

pub returns-clause-err : goal.returns-clause-err
returns-clause-err c =
    on_err_weaker c.push_more_names.result (kept_through c.args.into.now.items c.as_bytes.result.now c.push_text.new.into.items c.push_more_names.new.into.items c.in_ok-push_text.ensures.ok) c.push_more_names.ensures.err
