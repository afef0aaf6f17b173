-- Links to backends.
use Rattle.std.specs.Prelude.{◌≡◌, ℕ, ◌≤◌, List, [], ◌∷◌, ◌++◌, length, Option, None, Some}
use Rattle.front_base.specs.declared.address.Address.{Address}
use Rattle.front_ports.specs.declared.dial.Call.{Call}

-- a dial that succeeded: its call is noted with all bytes that the link holds, none of ours being sent yet
abbrev pub NotesCall : Option (List Call) → Option (List Call) → Address → ℕ → Option (List ℕ) → Option (List ℕ) → Type 0
NotesCall None new to number left written = new ≡ None
NotesCall (Some calls) new to number left written =
    (held : List ℕ) × (left ≡ Some held) × (written ≡ Some []) × (number ≡ length calls)
    × (new ≡ Some (calls ++ record { to = to; sent = []; held = held } ∷ []))

-- a call of a dial that failed
abbrev pub failed_call : Address → Call
failed_call to = record { to = to; sent = []; held = [] }

-- the bytes sent are noted at the call of this number, once its link is handed back
abbrev pub NotesSent : Option (List Call) → Option (List Call) → ℕ → Option (List ℕ) → Type 0
NotesSent None new number written = new ≡ None
NotesSent (Some calls) new number written =
    (sent : List ℕ) × (written ≡ Some sent) × (length calls ≤ number → new ≡ Some calls)
    × ((before after : List Call) (call : Call) → calls ≡ before ++ call ∷ after → length before ≡ number
    → new ≡ Some (before ++ record call { sent = sent } ∷ after))
