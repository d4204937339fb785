-- What holds of each thing that was found.
use Rattle.std.proofs.Common.{◌≡◌, Bool, true, false, Option, Some, None, IfSome, option_map, option_and_then, if◌then◌else◌, refl}

-- of each that is made of what was found
pub map-each : {A B : Type 0} (P : B → Type 0) (f : A → B) (o : Option A) → ((x : A) → o ≡ Some x → P (f x)) → IfSome (option_map f o) P
map-each P f None h = tt
map-each P f (Some x) h = h x refl

-- of each that is found by it
pub then-each : {A B : Type 0} (P : B → Type 0) (f : A → Option B) (o : Option A) → ((x : A) → o ≡ Some x → IfSome (f x) P) → IfSome (option_and_then f o) P
then-each P f None h = tt
then-each P f (Some x) h = h x refl

-- of what is there where a test holds, or where it doesn't
pub test-each : {A : Type 0} (P : A → Type 0) (b : Bool) (x : A) → (b ≡ true → P x) → IfSome (if b then Some x else None) P
test-each P true x h = h refl
test-each P false x h = tt

pub unless-each : {A : Type 0} (P : A → Type 0) (b : Bool) (x : A) → P x → IfSome (if b then None else Some x) P
unless-each P true x h = tt
unless-each P false x h = h

-- and what was there
pub test-some : {A : Type 0} (b : Bool) (x y : A) → (if b then Some x else None) ≡ Some y → x ≡ y
test-some true x y e = cc
test-some false x y e = cc
