-- What values meet by their types. Contracts see texts and numbers without these bounds.
use Rattle.std.specs.Prelude.{◌≡◌, ℕ, ◌<◌, true, List, [], ◌∷◌}
use Rattle.std.specs.List.{AllByRecursion}
use Rattle.std.specs.Str.{is_utf8}
use Rattle.front_base.specs.declared.user.User.{User}
use Rattle.stage_event.specs.declared.event.ObjectRef.{ObjectRef}

abbrev pub IsUtf8 : List ℕ → Type 0
IsUtf8 text = is_utf8 text ≡ true

pub record IsUser (u : User) : Type 0 where
  pub name : IsUtf8 u.name
  pub uid : IsUtf8 u.uid
  pub groups : AllByRecursion IsUtf8 u.groups

pub record IsReference (o : ObjectRef) : Type 0 where
  pub resource : IsUtf8 o.resource
  pub namespace : IsUtf8 o.namespace
  pub name : IsUtf8 o.name
  pub group : IsUtf8 o.group
  pub version : IsUtf8 o.version
  pub subresource : IsUtf8 o.subresource

-- the address has four bytes
abbrev pub IsPeer : List ℕ → Type 0
IsPeer (a ∷ b ∷ c ∷ d ∷ []) = (a < 256) × (b < 256) × (c < 256) × (d < 256)
IsPeer [] = ⊥
IsPeer (a ∷ []) = ⊥
IsPeer (a ∷ b ∷ []) = ⊥
IsPeer (a ∷ b ∷ c ∷ []) = ⊥
IsPeer (a ∷ b ∷ c ∷ d ∷ e ∷ more) = ⊥
