-- Where connections come from.
use Rattle.std.specs.Prelude.{◌≡◌, ℕ, List, [], ◌∷◌, ◌++◌, Option, None, Some}
use Rattle.front_ports.specs.Cause.{Rose}
use Rattle.front_ports.specs.declared.door.Visit.{Visit}

-- an answer of a door is the first of the connections to come, and none where none are to come
abbrev pub GivesFirst : {C : Type 0} → Option (List C) → Option (List C) → Option C → Type 0
GivesFirst None new answer = new ≡ None
GivesFirst (Some conns) new None = (conns ≡ []) × (new ≡ Some [])
GivesFirst {C = C} (Some conns) new (Some conn) = (rest : List C) × (conns ≡ conn ∷ rest) × (new ≡ Some rest)

-- a door's count of its ends rises where it answers that no connection comes any more, and stays otherwise
abbrev pub CountsEnd : {C : Type 0} → ℕ → ℕ → Option C → Type 0
CountsEnd before after None = Rose before after
CountsEnd before after (Some conn) = after ≡ before

-- a connection that is given is noted with its peer, with the bytes that it has to give, and those written to it
abbrev pub NotesVisit : Option (List Visit) → Option (List Visit) → List ℕ → Option (List ℕ) → Option (List ℕ) → Type 0
NotesVisit None new from left written = new ≡ None
NotesVisit (Some visits) new from left written =
    (input output : List ℕ) × (left ≡ Some input) × (written ≡ Some output)
    × (new ≡ Some (visits ++ record { peer = from; input = input; output = output } ∷ []))

-- what was written to the connection given last is noted, once it is handed back
abbrev pub NotesOutput : Option (List Visit) → Option (List Visit) → Option (List ℕ) → Type 0
NotesOutput None new written = new ≡ None
NotesOutput (Some visits) new written =
    (output : List ℕ) × (written ≡ Some output) × (visits ≡ [] → new ≡ Some [])
    × ((before : List Visit) (visit : Visit) → visits ≡ before ++ visit ∷ []
    → new ≡ Some (before ++ record visit { output = output } ∷ []))
