-- Roles in a list, by their kind.
use Rattle.std.specs.Prelude.{List, [], ◌∷◌, Option, Some, None, ⊤}
use Rattle.role_threads.specs.declared.role.AnyRole.{AnyRole}
use Rattle.role_threads.specs.declared.role.AnyRole.TheVariants.{Bay, Log, Hook}

abbrev pub one_or_none : {A : Type 0} → Option A → List A
one_or_none None = []
one_or_none (Some x) = x ∷ []

-- the last of them, or this one where there are none
abbrev pub last_of : {A : Type 0} → Option A → List A → Option A
last_of first [] = first
last_of first (x ∷ xs) = last_of (Some x) xs

-- each stands so to the one at its place
abbrev pub AllPairs : {A B : Type 0} → (A → B → Type 0) → List A → List B → Type 0
AllPairs P [] [] = ⊤
AllPairs P [] (y ∷ ys) = ⊥
AllPairs P (x ∷ xs) [] = ⊥
AllPairs P (x ∷ xs) (y ∷ ys) = P x y × AllPairs P xs ys

-- the same where there is one
abbrev pub IfBoth : {A B : Type 0} → (A → B → Type 0) → Option A → Option B → Type 0
IfBoth P None None = ⊤
IfBoth P None (Some y) = ⊥
IfBoth P (Some x) None = ⊥
IfBoth P (Some x) (Some y) = P x y

module _ {B G H : Type 0} where
  abbrev pub bays_in : List (AnyRole B G H) → List B
  bays_in [] = []
  bays_in (Bay b ∷ roles) = b ∷ bays_in roles
  bays_in (Log d ∷ roles) = bays_in roles
  bays_in (Hook d ∷ roles) = bays_in roles

  abbrev pub logs_in : List (AnyRole B G H) → List G
  logs_in [] = []
  logs_in (Bay b ∷ roles) = logs_in roles
  logs_in (Log d ∷ roles) = d ∷ logs_in roles
  logs_in (Hook d ∷ roles) = logs_in roles

  abbrev pub hooks_in : List (AnyRole B G H) → List H
  hooks_in [] = []
  hooks_in (Bay b ∷ roles) = hooks_in roles
  hooks_in (Log d ∷ roles) = hooks_in roles
  hooks_in (Hook d ∷ roles) = d ∷ hooks_in roles
