-- What puts into a sink, one after another, come to.
use Rattle.std.proofs.Common.{◌≡◌, ℕ, Option, Some, None, List, [], ◌++◌, ap, sym, ◌∙◌, refl, append_assoc, append-nil, arith, ◌+◌, ◌<◌, suc, length, get_or, take, drop, drop-cons, add-one, subst}
use Rattle.std.proofs.lemmas.Grind.{common_steps}
use Rattle.std.proofs.lemmas.List.{take-append-drop}
use Rattle.std.specs.List.{flat_map}
use Rattle.tb_edge.specs.Sinks.{and_more, Writes, WritesPrefix, Owes}

pub and_more-nil : (told : Option (List ℕ)) → and_more told [] ≡ told
and_more-nil None = refl
and_more-nil (Some taken) = ap Some (append-nil taken)

pub and_more-append : (told : Option (List ℕ)) (xs ys : List ℕ) → and_more (and_more told xs) ys ≡ and_more told (xs ++ ys)
and_more-append None xs ys = refl
and_more-append (Some taken) xs ys = ap Some (append_assoc taken xs ys)

-- nothing was put
pub Writes-none : (told : Option (List ℕ)) → Writes told told []
Writes-none told = sym (and_more-nil told)

-- one put after another
pub Writes-append : (a b c : Option (List ℕ)) (xs ys : List ℕ) → Writes a b xs → Writes b c ys → Writes a c (xs ++ ys)
Writes-append a b c xs ys first second = second ∙ (ap (λ told. and_more told ys) first ∙ and_more-append a xs ys)

-- all is owed at the start
pub Owes-start : (told : Option (List ℕ)) (all : List ℕ) → Owes told told all all
Owes-start told all = record { put = []; takes = Writes-none told; is_all = refl }

-- a first part was put
pub Owes-from_takes : (a b : Option (List ℕ)) (prefix rest : List ℕ) → Writes a b prefix → Owes a b (prefix ++ rest) rest
Owes-from_takes a b prefix rest takes = record { put = prefix; takes = takes; is_all = refl }

-- what comes next was put
pub Owes-takes : (a b c : Option (List ℕ)) (all piece rest : List ℕ) → Owes a b all (piece ++ rest) → Writes b c piece → Owes a c all rest
Owes-takes a b c all piece rest owes takes = record {
  put = owes.put ++ piece;
  takes = Writes-append a b c owes.put piece owes.takes takes;
  is_all = append_assoc owes.put piece rest ∙ owes.is_all;
}

-- nothing is owed any more
pub Writes-owes : (a b : Option (List ℕ)) (all : List ℕ) → Owes a b all [] → Writes a b all
Writes-owes a b all owes = owes.takes ∙ ap (and_more a) (sym (append-nil owes.put) ∙ owes.is_all)

-- what was put so far is a front
pub WritesPrefix-owes : (a b : Option (List ℕ)) (all rest : List ℕ) → Owes a b all rest → WritesPrefix a b all
WritesPrefix-owes a b all rest owes = record { rest = rest; owes = owes }

-- of what comes next, a front was put
pub WritesPrefix-owes_more : (a b c : Option (List ℕ)) (all piece rest : List ℕ) → Owes a b all (piece ++ rest) → WritesPrefix b c piece → WritesPrefix a c all
WritesPrefix-owes_more a b c all piece rest owes prefix =
    let owed = prefix.owes in
    let is_all : owes.put ++ owed.put ++ (prefix.rest ++ rest) ≡ all = grind (arith, common_steps) in
    record {
      rest = prefix.rest ++ rest;
      owes = record { put = owes.put ++ owed.put; takes = Writes-append a b c owes.put owed.put owes.takes owed.takes; is_all = is_all };
    }

pub WritesPrefix-none : (told : Option (List ℕ)) (piece : List ℕ) → WritesPrefix told told piece
WritesPrefix-none told piece = WritesPrefix-owes told told piece piece (Owes-start told piece)

-- a front of a piece is a front of what begins with it
pub WritesPrefix-more : (a b : Option (List ℕ)) (piece rest : List ℕ) → WritesPrefix a b piece → WritesPrefix a b (piece ++ rest)
WritesPrefix-more a b piece rest prefix = WritesPrefix-owes_more a a b (piece ++ rest) piece rest (Owes-start a (piece ++ rest)) prefix

-- a piece was put, and a front of the next
pub WritesPrefix-append : (a b c : Option (List ℕ)) (xs ys : List ℕ) → Writes a b xs → WritesPrefix b c ys → WritesPrefix a c (xs ++ ys)
WritesPrefix-append a b c xs ys takes prefix =
    WritesPrefix-owes_more a b c (xs ++ ys) ys [] (record { put = xs; takes = takes; is_all = ap (λ zs. xs ++ zs) (append-nil ys) }) prefix

-- the first n bytes are a front
pub WritesPrefix-take : (taken piece new : List ℕ) (n : ℕ) → new ≡ taken ++ take n piece → WritesPrefix (Some taken) (Some new) piece
WritesPrefix-take taken piece new n takes = record {
  rest = drop n piece;
  owes = record { put = take n piece; takes = ap Some takes; is_all = take-append-drop n piece };
}

-- in a loop over pieces, f gives the bytes of one
pieces-next : {X : Type 0} (f : X → List ℕ) (xs : List X) (i : ℕ) (d : X) (put : List ℕ) → i < length xs → put ≡ f (get_or xs i d) → flat_map f (drop i xs) ≡ put ++ flat_map f (drop (i + 1) xs)
pieces-next f xs i d put within is_next = rw (drop-cons xs i d, add-one) (ap (λ l. l ++ flat_map f (drop (suc i) xs)) (sym is_next))

-- the piece at i was put
pub Owes-piece : {X : Type 0} (f : X → List ℕ) (a b c : Option (List ℕ)) (all : List ℕ) (xs : List X) (i : ℕ) (d : X) (put : List ℕ) → i < length xs → put ≡ f (get_or xs i d)
    → Owes a b all (flat_map f (drop i xs)) → Writes b c put → Owes a c all (flat_map f (drop (i + 1) xs))
Owes-piece f a b c all xs i d put within is_next owes takes =
    Owes-takes a b c all put (flat_map f (drop (i + 1) xs)) (subst (Owes a b all) (pieces-next f xs i d put within is_next) owes) takes

-- of the piece at i, a front was put
pub WritesPrefix-piece : {X : Type 0} (f : X → List ℕ) (a b c : Option (List ℕ)) (all : List ℕ) (xs : List X) (i : ℕ) (d : X) (put : List ℕ) → i < length xs → put ≡ f (get_or xs i d)
    → Owes a b all (flat_map f (drop i xs)) → WritesPrefix b c put → WritesPrefix a c all
WritesPrefix-piece f a b c all xs i d put within is_next owes prefix =
    WritesPrefix-owes_more a b c all put (flat_map f (drop (i + 1) xs)) (subst (Owes a b all) (pieces-next f xs i d put within is_next) owes) prefix

pub ruleset puts = (Writes-none, Writes-append, Owes-start, Owes-from_takes, Owes-takes, Writes-owes, WritesPrefix-owes, WritesPrefix-owes_more, WritesPrefix-none, WritesPrefix-more, WritesPrefix-append)
