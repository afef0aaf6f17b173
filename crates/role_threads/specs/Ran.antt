-- What roles are before and after they ran.
use Rattle.role_threads.specs.Lists.{AllPairs, IfBoth}
use Rattle.role_threads.specs.declared.role.AnyRole.{AnyRole}
use Rattle.role_threads.specs.declared.role.AnyRole.TheVariants.{Bay, Log, Hook}
use Rattle.role_threads.specs.declared.role.Roles.{Roles}

module _ {B G H : Type 0} (P : B → B → Type 0) (Q : G → G → Type 0) (S : H → H → Type 0) where
  abbrev pub RanOne : AnyRole B G H → AnyRole B G H → Type 0
  RanOne (Bay a) (Bay b) = P a b
  RanOne (Log d) (Log e) = Q d e
  RanOne (Hook d) (Hook e) = S d e
  RanOne (Bay a) (Log e) = ⊥
  RanOne (Bay a) (Hook e) = ⊥
  RanOne (Log d) (Bay b) = ⊥
  RanOne (Log d) (Hook e) = ⊥
  RanOne (Hook d) (Bay b) = ⊥
  RanOne (Hook d) (Log e) = ⊥

  -- each bay and each drainer ran, and is where it was
  pub record RanAll (m n : Roles B G H) : Type 0 where
    pub bays : AllPairs P m.bays.items n.bays.items
    pub log : IfBoth Q m.log n.log
    pub hook : IfBoth S m.hook n.hook
