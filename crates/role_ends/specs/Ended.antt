-- What comes of bays and of the log's drainer once they have come to their end.
use Rattle.std.specs.Prelude.{List, Option, Vec}
use Rattle.role_threads.specs.Lists.{AllPairs, IfBoth}

module _ {B G X : Type 0} (P : B → B → Type 0) (Q : G → G → Type 0) where
  -- whatever they did, they can be given to their end
  abbrev pub CanEnd : (Vec B X → Option G → Type 0) → List B → Option G → Type 0
  CanEnd can bays log = (ran : Vec B X) (drain : Option G) → AllPairs P bays ran.items → IfBoth Q log drain → can ran drain

  -- each of them ran, and this is what their end makes of them
  pub record EndedBy {A : Type 0} (ends : Vec B X → Option G → A → Type 0) (bays : List B) (log : Option G) (left : A) : Type 0 where
    pub ran : Vec B X
    pub drain : Option G
    pub bays_ran : AllPairs P bays ran.items
    pub log_ran : IfBoth Q log drain
    pub left_is : ends ran drain left
