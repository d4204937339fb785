-- What lines say, one after another, and where the first bad one is.
use Rattle.std.proofs.Common.{◌≡◌, ◌⊎◌, ◌==◌, ℕ, suc, ◌+◌, ◌<◌, Bool, false, List, [], ◌∷◌, ◌++◌, length, map, take, drop, get_or, refl, ap, sym, ◌∙◌, subst, true, Bor, Result, Ok, Err, inl, inr}
use Rattle.std.specs.Prelude.{IfOk, IfErr}
use Rattle.std.specs.List.{AllZip}
use Rattle.std.proofs.lemmas.List.{drop_more, length-map, take-append-drop, map_push}
use Rattle.tb_log.specs.declared.entry.Input.{Input}
use Rattle.tb_feed.specs.declared.fault.FeedFault.{FeedFault}
use Rattle.tb_feed.specs.declared.fault.FeedFault.TheVariants as fault
use Rattle.tb_feed.specs.Feeds.{Says, SayAll, lines_of, is_full, IsFeedOf, IsFirstBad, IsFaultOf}
use Rattle.tb_feed.proofs.LineLemmas.{says-one}

-- so lines say one list of inputs at most
zip-once : (lines : List (List ℕ)) (inputs others : List Input) → AllZip Says lines inputs → AllZip Says lines others → inputs ≡ others
zip-once [] [] [] h g = refl
zip-once [] [] (y ∷ others) h g = absurd g
zip-once [] (x ∷ inputs) others h g = absurd h
zip-once (line ∷ lines) [] others h g = absurd h
zip-once (line ∷ lines) (x ∷ inputs) [] h g = absurd g
zip-once (line ∷ lines) (x ∷ inputs) (y ∷ others) h g =
    let one = says-one line x y h.0 g.0 in
    let rest = zip-once lines inputs others h.1 g.1 in
    λ i. one i ∷ rest i

pub one-feed : (text : List ℕ) (inputs others : List Input) → IsFeedOf text inputs → IsFeedOf text others → inputs ≡ others
one-feed text inputs others h g = zip-once _ inputs others h g

-- no lines say nothing
pub said-none : SayAll [] []
said-none = tt

-- an empty line more says nothing
pub said-empty : (lines : List (List ℕ)) (line : List ℕ) (inputs : List Input) → SayAll lines inputs → line ≡ [] → SayAll (lines ++ line ∷ []) inputs
said-empty lines line inputs h e = subst (λ (l : List ℕ). SayAll (lines ++ l ∷ []) inputs) (sym e) (by lines inputs h) where
  by : (lines : List (List ℕ)) (inputs : List Input) → SayAll lines inputs → SayAll (lines ++ [] ∷ []) inputs
  by [] inputs h = h
  by ([] ∷ lines) inputs h = by lines inputs h
  by ((b ∷ l) ∷ lines) [] h = absurd h
  by ((b ∷ l) ∷ lines) (x ∷ inputs) h = (h.0, by lines inputs h.1)

-- another line says its input
full-said : (line : List ℕ) (input : Input) → is_full line ≡ true → Says line input → SayAll (line ∷ []) (input ∷ [])
full-said [] input full s = absurd cc
full-said (b ∷ l) input full s = (s, tt)

pub said-more : (lines : List (List ℕ)) (line : List ℕ) (inputs : List Input) (input : Input) → SayAll lines inputs → is_full line ≡ true → Says line input → SayAll (lines ++ line ∷ []) (inputs ++ input ∷ [])
said-more [] line [] input h full s = full-said line input full s
said-more [] line (x ∷ inputs) input h full s = absurd h
said-more ([] ∷ lines) line inputs input h full s = said-more lines line inputs input h full s
said-more ((b ∷ l) ∷ lines) line [] input h full s = absurd h
said-more ((b ∷ l) ∷ lines) line (x ∷ inputs) input h full s = (h.0, said-more lines line inputs input h.1 full s)

-- each full one of the lines says an input
first-said : (line : List ℕ) (after : List (List ℕ)) (inputs : List Input) → SayAll (line ∷ after) inputs → is_full line ≡ true → (input : Input) × Says line input
first-said [] after inputs h full = absurd cc
first-said (b ∷ l) after [] h full = absurd h
first-said (b ∷ l) after (x ∷ inputs) h full = (x, h.0)

rest-said : (line : List ℕ) (after : List (List ℕ)) (inputs : List Input) → SayAll (line ∷ after) inputs → (rest : List Input) × SayAll after rest
rest-said [] after inputs h = (inputs, h)
rest-said (b ∷ l) after [] h = absurd h
rest-said (b ∷ l) after (x ∷ inputs) h = (inputs, h.1)

said-at : (before : List (List ℕ)) (line : List ℕ) (after : List (List ℕ)) (inputs : List Input) → SayAll (before ++ line ∷ after) inputs → is_full line ≡ true → (input : Input) × Says line input
said-at [] line after inputs h full = first-said line after inputs h full
said-at (x ∷ before) line after inputs h full =
    let rest = rest-said x (before ++ line ∷ after) inputs h in
    said-at before line after rest.0 rest.1 full

-- so a feed has no bad line
pub feed-fine : (text : List ℕ) (inputs : List Input) (number : ℕ) → IsFeedOf text inputs → IsFirstBad text number → ⊥
feed-fine text inputs number h g =
    let said = said-at g.before g.line g.after inputs (subst (λ (lines : List (List ℕ)). SayAll lines inputs) g.are_lines h) g.full in
    g.bad said.0 said.1

-- and no two lines are the first bad one
abbrev IsBad : List ℕ → Type 0
IsBad line = (is_full line ≡ true) × ((input : Input) → Says line input → ⊥)

bad-first : (line other : List ℕ) (after : List (List ℕ)) (inputs : List Input) → IsBad line → line ≡ other → SayAll (other ∷ after) inputs → ⊥
bad-first line other after inputs bad e h =
    let said = first-said line after inputs (subst (λ (l : List ℕ). SayAll (l ∷ after) inputs) (sym e) h) bad.0 in
    bad.1 said.0 said.1

as-many : (before others : List (List ℕ)) (line other : List ℕ) (after more : List (List ℕ)) (inputs their : List Input) → before ++ line ∷ after ≡ others ++ other ∷ more →
    SayAll before inputs → SayAll others their → IsBad line → IsBad other → length before ≡ length others
as-many [] [] line other after more inputs their e h g bad worse = refl
as-many [] (x ∷ others) line other after more inputs their e h g bad worse = let same : line ≡ x = cc in absurd (bad-first line x others their bad same g)
as-many (x ∷ before) [] line other after more inputs their e h g bad worse = let same : other ≡ x = cc in absurd (bad-first other x before inputs worse same h)
as-many (x ∷ before) (y ∷ others) line other after more inputs their e h g bad worse =
    let same : before ++ line ∷ after ≡ others ++ other ∷ more = cc in
    let mine = rest-said x before inputs h in
    let its = rest-said y others their g in
    ap suc (as-many before others line other after more mine.0 its.0 same mine.1 its.1 bad worse)

pub one-bad : (text : List ℕ) (number other : ℕ) → IsFirstBad text number → IsFirstBad text other → number ≡ other
one-bad text number other h g =
    let many = as-many h.before g.before h.line g.line h.after g.after h.inputs g.inputs (sym h.are_lines ∙ g.are_lines) h.fine g.fine (h.full, h.bad) (g.full, g.bad) in
    h.number_is ∙ ap (λ (n : ℕ). n + 1) many ∙ sym g.number_is

-- the lines that were read
abbrev pub read_lines : List (Bor (List ℕ)) → List (List ℕ)
read_lines lines = map (λ (line : Bor (List ℕ)). line.now) lines

-- one more was read
pub read-empty : (lines : List (Bor (List ℕ))) (line : Bor (List ℕ)) (inputs : List Input) → SayAll (read_lines lines) inputs → line.now ≡ [] → SayAll (read_lines (lines ++ line ∷ [])) inputs
read-empty lines line inputs h e =
    subst (λ (ls : List (List ℕ)). SayAll ls inputs) (sym (map_push (λ (l : Bor (List ℕ)). l.now) lines line)) (said-empty (read_lines lines) line.now inputs h e)

pub read-more : (lines : List (Bor (List ℕ))) (line : Bor (List ℕ)) (inputs : List Input) (input : Input) → SayAll (read_lines lines) inputs → is_full line.now ≡ true → Says line.now input → SayAll (read_lines (lines ++ line ∷ [])) (inputs ++ input ∷ [])
read-more lines line inputs input h full s =
    subst (λ (ls : List (List ℕ)). SayAll ls (inputs ++ input ∷ [])) (sym (map_push (λ (l : Bor (List ℕ)). l.now) lines line)) (said-more (read_lines lines) line.now inputs input h full s)

-- a line that isn't empty is full
pub full-by : (line : List ℕ) {empty : Bool} → empty ≡ (length line == 0) → empty ≡ false → is_full line ≡ true
full-by [] e f = let both : true ≡ false = sym e ∙ f in cc
full-by (b ∷ l) e f = refl

-- the next line is the first bad one
pub next-bad : (text : List ℕ) (lines : List (Bor (List ℕ))) (line : Bor (List ℕ)) (count : ℕ) (inputs : List Input) → read_lines lines ≡ take (length lines) (lines_of text) →
    (length lines < length (lines_of text)) × (line.now ≡ get_or (lines_of text) (length lines) line.now) → count ≡ length lines →
    SayAll (read_lines lines) inputs → is_full line.now ≡ true → ((input : Input) → Says line.now input → ⊥) → IsFirstBad text (count + 1)
next-bad text lines line count inputs so_far at counted fine full bad =
    let all = lines_of text in
    let n = length lines in
    let before = read_lines lines in
    let rest : drop n all ≡ line.now ∷ drop (n + 1) all = drop_more all n line.now at.0 ∙ ap (λ (l : List ℕ). l ∷ drop (n + 1) all) (sym at.1) in
    record {
      before = before;
      line = line.now;
      after = drop (n + 1) all;
      are_lines = sym (take-append-drop n all) ∙ ap (λ (prefix : List (List ℕ)). prefix ++ drop n all) (sym so_far) ∙ ap (λ (ls : List (List ℕ)). before ++ ls) rest;
      number_is = ap (λ (k : ℕ). k + 1) (counted ∙ sym (length-map {A = Bor (List ℕ)} lines (λ l. l.now)));
      inputs = inputs;
      fine = fine;
      full = full;
      bad = bad;
    }

-- what is answered of a text

pub only-feed : (text : List ℕ) (result : Result (List Input) FeedFault) → IfOk result (IsFeedOf text) → IfErr result (IsFaultOf text) → (inputs : List Input) → IsFeedOf text inputs → (result ≡ Ok inputs) ⊎ (result ≡ Err fault.NoMemory)
only-feed text (Ok others) is told inputs h = inl (ap Ok (one-feed text others inputs is h))
only-feed text (Err (fault.Line number)) is told inputs h = absurd (feed-fine text inputs number h told)
only-feed text (Err (fault.TooLong len)) is told inputs h = absurd told
only-feed text (Err fault.NoMemory) is told inputs h = inr refl

pub exact-line : (text : List ℕ) (result : Result (List Input) FeedFault) → IfOk result (IsFeedOf text) → IfErr result (IsFaultOf text) → (number : ℕ) → IsFirstBad text number → (result ≡ Err (fault.Line number)) ⊎ (result ≡ Err fault.NoMemory)
exact-line text (Ok inputs) is told number bad = absurd (feed-fine text inputs number is bad)
exact-line text (Err (fault.Line other)) is told number bad = inl (ap (λ (n : ℕ). Err (fault.Line n)) (one-bad text other number told bad))
exact-line text (Err (fault.TooLong len)) is told number bad = absurd told
exact-line text (Err fault.NoMemory) is told number bad = inr refl
