-- Lists whose elements all have something, or are apart from each other, and what sorting and leaving out keep of that.
use Rattle.std.proofs.Common.{◌≡◌, ℕ, Bool, true, false, cond, not, List, [], ◌∷◌, ◌++◌, map, filter, refl}
use Rattle.std.proofs.lemmas.Slice.Eq.{bytes_eq-Decides}
use Rattle.std.specs.List.{AllByRecursion}
use Rattle.std.specs.Ordering.{is_lt}
use Rattle.std.specs.Prelude.{bytes_eq, if◌then◌else◌}
use Rattle.std.specs.declared.cmp.Ordering.{Ordering}
use Rattle.discovery_merge.specs.Groups.{once}
use Rattle.discovery_merge.specs.Order.{put, sorted}

-- each is in that relation to all behind it
abbrev pub Apart : {X : Type 0} → (X → X → Type 0) → List X → Type 0
Apart R [] = Unit {0}
Apart R (x ∷ xs) = AllByRecursion (R x) xs × Apart R xs

abbrev pub Differ : List ℕ → List ℕ → Type 0
Differ a b = a ≡ b → ⊥

pub all_weaker : {X : Type 0} (P Q : X → Type 0) → ((x : X) → P x → Q x) → (xs : List X) → AllByRecursion P xs → AllByRecursion Q xs
all_weaker P Q f [] h = tt
all_weaker P Q f (x ∷ xs) h = (f x h.0, all_weaker P Q f xs h.1)

pub all_both : {X : Type 0} (P Q : X → Type 0) (xs : List X) → AllByRecursion P xs → AllByRecursion Q xs → AllByRecursion (λ x. P x × Q x) xs
all_both P Q [] h k = tt
all_both P Q (x ∷ xs) h k = ((h.0, k.0), all_both P Q xs h.1 k.1)

pub all_append : {X : Type 0} (P : X → Type 0) (xs ys : List X) → AllByRecursion P xs → AllByRecursion P ys → AllByRecursion P (xs ++ ys)
all_append P [] ys h k = k
all_append P (x ∷ xs) ys h k = (h.0, all_append P xs ys h.1 k)

pub all_map : {X Y : Type 0} (f : X → Y) (P : Y → Type 0) (xs : List X) → AllByRecursion (λ x. P (f x)) xs → AllByRecursion P (map f xs)
all_map f P [] h = tt
all_map f P (x ∷ xs) h = (h.0, all_map f P xs h.1)

-- of what passes a test, that it passes
pub all_passing : {X : Type 0} (test : X → Bool) (P : X → Type 0) (xs : List X) → AllByRecursion P xs
    → AllByRecursion (λ x. P x × (test x ≡ true)) (filter test xs)
all_passing test P [] h = tt
all_passing test P (x ∷ xs) h = by_test (test x) (λ e. e) (all_passing test P xs h.1)
  where
    by_test : (b : Bool) → (b ≡ true → test x ≡ true) → AllByRecursion (λ x. P x × (test x ≡ true)) (filter test xs)
        → AllByRecursion (λ x. P x × (test x ≡ true)) (cond b (x ∷ filter test xs) (filter test xs))
    by_test true passes others = ((h.0, passes refl), others)
    by_test false passes others = others

pub all_filter : {X : Type 0} (test : X → Bool) (P : X → Type 0) (xs : List X) → AllByRecursion P xs → AllByRecursion P (filter test xs)
all_filter test P xs h = all_weaker (λ x. P x × (test x ≡ true)) P (λ x k. k.0) (filter test xs) (all_passing test P xs h)

pub apart_weaker : {X : Type 0} (P : X → Type 0) (R S : X → X → Type 0) → ((x y : X) → P x → P y → R x y → S x y) → (xs : List X)
    → AllByRecursion P xs → Apart R xs → Apart S xs
apart_weaker P R S f [] h a = tt
apart_weaker P R S f (x ∷ xs) h a = (
  all_weaker (λ y. P y × R x y) (S x) (λ y k. f x y h.0 k.0 k.1) xs (all_both P (R x) xs h.1 a.0),
  apart_weaker P R S f xs h.1 a.1,
)

pub apart_map : {X Y : Type 0} (f : X → Y) (R : Y → Y → Type 0) (xs : List X) → Apart (λ a b. R (f a) (f b)) xs → Apart R (map f xs)
apart_map f R [] a = tt
apart_map f R (x ∷ xs) a = (all_map f (R (f x)) xs a.0, apart_map f R xs a.1)

pub apart_filter : {X : Type 0} (test : X → Bool) (R : X → X → Type 0) (xs : List X) → Apart R xs → Apart R (filter test xs)
apart_filter test R [] a = tt
apart_filter test R (x ∷ xs) a = by_test (test x) (apart_filter test R xs a.1)
  where
    by_test : (b : Bool) → Apart R (filter test xs) → Apart R (cond b (x ∷ filter test xs) (filter test xs))
    by_test true others = (all_filter test (R x) xs a.0, others)
    by_test false others = others

pub apart_append : {X : Type 0} (R : X → X → Type 0) (xs ys : List X) → Apart R xs → Apart R ys
    → AllByRecursion (λ x. AllByRecursion (R x) ys) xs → Apart R (xs ++ ys)
apart_append R [] ys a b h = b
apart_append R (x ∷ xs) ys a b h = (all_append (R x) xs ys a.0 h.0, apart_append R xs ys a.1 b h.1)

-- ---- sorting

module _ {X : Type 0} (order : X → X → Ordering) (P : X → Type 0) where
  all_put : (x : X) (ys : List X) → P x → AllByRecursion P ys → AllByRecursion P (put order x ys)
  unfolding put
  all_put x [] p h = (p, tt)
  all_put x (y ∷ ys) p h = by_test (is_lt (order y x)) (all_put x ys p h.1)
    where
      by_test : (b : Bool) → AllByRecursion P (put order x ys) → AllByRecursion P (if b then y ∷ put order x ys else x ∷ y ∷ ys)
      by_test true others = (h.0, others)
      by_test false others = (p, h)

  pub all_sorted : (xs : List X) → AllByRecursion P xs → AllByRecursion P (sorted order xs)
  unfolding sorted
  all_sorted [] h = tt
  all_sorted (x ∷ xs) h = all_put x (sorted order xs) h.0 (all_sorted xs h.1)

module _ {X : Type 0} (order : X → X → Ordering) (R : X → X → Type 0) (swap : (x y : X) → R x y → R y x) where
  apart_put : (x : X) (ys : List X) → AllByRecursion (R x) ys → Apart R ys → Apart R (put order x ys)
  unfolding put
  apart_put x [] h a = (tt, tt)
  apart_put x (y ∷ ys) h a = by_test (is_lt (order y x)) (apart_put x ys h.1 a.1)
    where
      by_test : (b : Bool) → Apart R (put order x ys) → Apart R (if b then y ∷ put order x ys else x ∷ y ∷ ys)
      by_test true others = (all_put order (R y) x ys (swap x y h.0) a.0, others)
      by_test false others = (h, a)

  pub apart_sorted : (xs : List X) → Apart R xs → Apart R (sorted order xs)
  unfolding sorted
  apart_sorted [] a = tt
  apart_sorted (x ∷ xs) a = apart_put x (sorted order xs) (all_sorted order (R x) xs a.0) (apart_sorted xs a.1)

-- ---- each name once

pub equal_texts : (a b : List ℕ) → bytes_eq a b ≡ true → a ≡ b
equal_texts a b e = (bytes_eq-Decides a b).0 e

pub differ : (a b : List ℕ) → bytes_eq a b ≡ false → Differ a b
differ a b e = λ same. let t : bytes_eq a b ≡ true = (bytes_eq-Decides a b).1 same in absurd (cc (e, t))

pub differ_by : (a b : List ℕ) → not (bytes_eq a b) ≡ true → Differ a b
differ_by a b e = differ a b (from_not (bytes_eq a b) e)
  where
    from_not : (b : Bool) → not b ≡ true → b ≡ false
    from_not true e = absurd (cc e)
    from_not false e = refl

pub all_once : (P : List ℕ → Type 0) (names : List (List ℕ)) → AllByRecursion P names → AllByRecursion P (once names)
unfolding once
all_once P [] h = tt
all_once P (name ∷ names) h = (h.0, all_filter (λ other. not (bytes_eq name other)) P (once names) (all_once P names h.1))

nothing_of : (names : List (List ℕ)) → AllByRecursion (λ name. Unit {0}) names
nothing_of [] = tt
nothing_of (name ∷ names) = (tt, nothing_of names)

pub apart_once : (names : List (List ℕ)) → Apart Differ (once names)
unfolding once
apart_once [] = tt
apart_once (name ∷ names) = (
  all_weaker (λ other. Unit {0} × (not (bytes_eq name other) ≡ true)) (Differ name) (λ other k. differ_by name other k.1)
      (filter (λ other. not (bytes_eq name other)) (once names))
      (all_passing (λ other. not (bytes_eq name other)) (λ other. Unit {0}) (once names) (nothing_of (once names))),
  apart_filter (λ other. not (bytes_eq name other)) Differ (once names) (apart_once names),
)
