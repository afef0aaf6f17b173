-- An object that is read and written has two sides, and a call on the one leaves the other.
use Rattle.std.specs.Prelude.{ℕ, Bool, List, Option}

-- one side: its bytes where they are told (those that are left to read, or those that were written), how often its
-- calls failed, and what neither reads nor writes change: a mark, as the address of a connection's peer, and what a
-- connection will wish
pub record Side : Type 0 where
  pub told : Option (List ℕ)
  pub faults : ℕ
  pub mark : List ℕ
  pub wishes : Option (List Bool)
