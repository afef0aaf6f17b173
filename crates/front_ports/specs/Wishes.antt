-- Whether a connection wishes to end after a reply (RFC 9112, section 9.6), each time that it is asked.
use Rattle.std.specs.Prelude.{◌≡◌, Bool, false, List, [], ◌∷◌, Option, None, Some}

-- an answer is the first of the wishes to come where they are told; after the last one it wishes nothing
abbrev pub GivesWish : Option (List Bool) → Option (List Bool) → Bool → Type 0
GivesWish None new wish = new ≡ None
GivesWish (Some []) new wish = (wish ≡ false) × (new ≡ Some [])
GivesWish (Some (first ∷ rest)) new wish = (wish ≡ first) × (new ≡ Some rest)

-- these are the answers that it gave, one after another
abbrev pub GaveWishes : Option (List Bool) → List Bool → Option (List Bool) → Type 0
GaveWishes old [] new = new ≡ old
GaveWishes old (wish ∷ more) new = (next : Option (List Bool)) × GivesWish old next wish × GaveWishes next more new
