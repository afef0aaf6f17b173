-- Small facts on tests, options and lists.
use Rattle.std.proofs.Common.{◌≡◌, ◌≢◌, ℕ, zero, suc, ◌≤◌, Bool, true, false, not, ◌&&◌, ◌||◌, List, [], ◌∷◌, ◌++◌, length, replicate, Option, Some, None, refl, ap, sym, ◌∙◌, get_or, arith}
use Rattle.std.specs.Prelude.{if◌then◌else◌, is_none, is_some, nat_le, ◌==◌, slice_get, IfSome}
use Rattle.std.proofs.lemmas.Bool.Decides.{nat_tests}

pub both : {A B C : Type 0} (f : A → B → C) {a a' : A} {b b' : B} → a ≡ a' → b ≡ b' → f a b ≡ f a' b'
both f {a} {a'} {b} {b'} p q = ap (λ x. f x b) p ∙ ap (f a') q

-- ---- tests

pub no_case : {A : Type 0} (b : Bool) → b ≡ false → b ≡ true → A
no_case true p q = cc
no_case false p q = cc

pub and_first : (a b : Bool) → (a && b) ≡ true → a ≡ true
and_first true b h = refl
and_first false b h = h

pub and_second : (a b : Bool) → (a && b) ≡ true → b ≡ true
and_second true b h = h
and_second false b h = cc

pub no_of : (a : Bool) → not a ≡ true → a ≡ false
no_of true h = sym h
no_of false h = refl

pub or_nothing : (b : Bool) → (b || false) ≡ b
or_nothing true = refl
or_nothing false = refl

pub or_front : (a c b : Bool) → (a || b) ≡ true → ((a || c) || b) ≡ true
or_front true c b h = refl
or_front false true b h = refl
or_front false false b h = h

pub or_second : (a b : Bool) → b ≡ true → (a || b) ≡ true
or_second true b h = refl
or_second false b h = h

pub or_first : (a b : Bool) → a ≡ true → (a || b) ≡ true
or_first true b h = refl
or_first false b h = cc

pub le_of : (a b : ℕ) → nat_le a b ≡ true → a ≤ b
le_of a b h = grind (arith, nat_tests)

pub same_number : (a b : ℕ) → (a == b) ≡ true → a ≡ b
same_number a b h = grind (arith, nat_tests)

pub other_number : (a b : ℕ) → (a == b) ≡ false → a ≢ b
other_number a b h = grind (arith, nat_tests)

-- ---- options

pub some_if : {A : Type 0} (P : A → Type 0) (c : Bool) (a : A) → (c ≡ true → P a) → IfSome (if c then Some a else None) P
some_if P true a h = h refl
some_if P false a h = tt

pub not_some : (o : Option ℕ) → is_none o ≡ true → is_some o ≡ false
not_some None h = refl
not_some (Some n) h = cc

pub none_of : {A : Type 0} (o : Option A) → is_none o ≡ true → o ≡ None
none_of None h = refl
none_of (Some a) h = cc

-- ---- lists

pub get_more : {A : Type 0} (xs ys : List A) (i : ℕ) (a : A) → slice_get xs i ≡ Some a → slice_get (xs ++ ys) i ≡ Some a
get_more [] ys i a h = cc
get_more (x ∷ xs) ys zero a h = h
get_more (x ∷ xs) ys (suc i) a h = get_more xs ys i a h

pub get_last : {A : Type 0} (xs : List A) (a : A) → slice_get (xs ++ a ∷ []) (length xs) ≡ Some a
get_last [] a = refl
get_last (x ∷ xs) a = get_last xs a

pub get_replicated : {A : Type 0} (n i : ℕ) (a : A) → get_or (replicate n a) i a ≡ a
get_replicated zero i a = refl
get_replicated (suc n) zero a = refl
get_replicated (suc n) (suc i) a = get_replicated n i a
