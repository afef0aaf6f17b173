-- The token in a file.
use Rattle.std.specs.Prelude.{◌≡◌, ℕ, ◌⊎◌, ◌+◌, ◌==◌, Bool, true, if◌then◌else◌, List, [], ◌∷◌, codes, length, drop, take, Option, Some, None}
use Rattle.std.specs.Str.{bytes_eq, is_utf8}
use Rattle.front_ports.specs.Cause.{Rose}
use Rattle.front_ports.specs.FileMap.{HasFile, HasLongFile, Notes}
use Rattle.front_ports.specs.declared.files.FileFail.{FileFail}
use Rattle.front_ports.specs.declared.files.FileFail.TheVariants as fail
use Rattle.command_ends.specs.Ports.{Told}
use Rattle.command_ends.specs.declared.status.Status.{Status}
use Rattle.command_ends.specs.declared.status.Status.TheVariants.{Configuration, ReadFault, NoMemory}
use Rattle.refusal_text.specs.declared.refusal.Refusal.{Refusal}
use Rattle.refusal_text.specs.declared.refusal.Refusal.TheVariants as refusal
use Rattle.probe_command.specs.declared.token.TokenStop.{TokenStop}
use Rattle.probe_command.specs.declared.token.TokenStop.TheVariants as stop
use Rattle.probe_command.specs.Probe.{is_token_byte}

-- how many bytes come before the first one that can't stand in a token
abbrev pub token_size : List ℕ → ℕ
token_size [] = 0
token_size (b ∷ bytes) = if is_token_byte b then token_size bytes + 1 else 0

-- nothing, or one end of a line
abbrev pub is_line_end : List ℕ → Bool
is_line_end rest = if length rest == 0 then true else if bytes_eq rest (codes "\n") then true else bytes_eq rest (codes "\r\n")

abbrev pub text_in : List ℕ → Option (List ℕ)
text_in bytes = if is_utf8 bytes then Some bytes else None

-- the bytes before that one, where nothing but one end of a line follows
abbrev pub token_in : List ℕ → Option (List ℕ)
token_in bytes = if is_line_end (drop (token_size bytes) bytes) then text_in (take (token_size bytes) bytes) else None

-- the token that a file of these bytes holds
abbrev pub IsToken : List ℕ → Option (List ℕ) → Type 0
IsToken bytes token = (own : List ℕ) × (token_in bytes ≡ Some own) × (token ≡ Some own)

-- the token of the file of that name, the files being told; none where none is named
abbrev pub HasToken : Told → Option (List ℕ) → Option (List ℕ) → Type 0
HasToken told None token = token ≡ None
HasToken told (Some name) token = (bytes : List ℕ) × HasFile told name bytes × IsToken bytes token

-- the file of that name holds none, or is too long
abbrev pub HoldsNone : Told → List ℕ → Type 0
HoldsNone told name = ((bytes : List ℕ) × HasFile told name bytes × (token_in bytes ≡ None)) ⊎ HasLongFile told name

-- a run ends so before anything is dialed, since the file of that name could not be read, or holds no token
pub record Unread (tokens_failed tokens_now : Option (Option (List ℕ))) (before after : ℕ) (name : Option (List ℕ)) (why : Option Refusal) : Type 0 where
  pub own : List ℕ
  pub named : name ≡ Some own
  pub rose : Rose before after
  pub noted : Notes tokens_failed tokens_now (Some own)
  pub why_is : why ≡ Some (refusal.UnreadToken own)

pub record Bad (told : Told) (name : Option (List ℕ)) (why : Option Refusal) : Type 0 where
  pub own : List ℕ
  pub named : name ≡ Some own
  pub holds : HoldsNone told own
  pub why_is : why ≡ Some (refusal.BadToken own)

-- ---- for private clauses

abbrev pub stop_of : FileFail → TokenStop
stop_of fail.Fault = stop.NotRead
stop_of fail.TooLong = stop.NotAToken
stop_of fail.NoMemory = stop.NoMemory

-- why these bytes hold no token, unless memory ran out
abbrev pub IsNoToken : List ℕ → TokenStop → Type 0
IsNoToken bytes stop.NotRead = ⊥
IsNoToken bytes stop.NotAToken = token_in bytes ≡ None
IsNoToken bytes stop.NoMemory = Unit {0}

-- why the file of that name holds no token
abbrev pub IsRefusedSo : Told → ℕ → ℕ → Option (Option (List ℕ)) → Option (Option (List ℕ)) → Option (List ℕ) → TokenStop → Type 0
IsRefusedSo told before after failed now None own = ⊥
IsRefusedSo told before after failed now (Some name) stop.NotRead = Rose before after × Notes failed now (Some name)
IsRefusedSo told before after failed now (Some name) stop.NotAToken = HoldsNone told name
IsRefusedSo told before after failed now (Some name) stop.NoMemory = Unit {0}

-- what is told of it
abbrev pub unread : Option (List ℕ) → Option Refusal
unread None = None
unread (Some name) = Some (refusal.UnreadToken name)

abbrev pub bad : Option (List ℕ) → Option Refusal
bad None = None
bad (Some name) = Some (refusal.BadToken name)

abbrev pub EndsSo : Option (List ℕ) → TokenStop → Status → Option Refusal → Type 0
EndsSo name stop.NotRead status why = (status ≡ ReadFault) × (why ≡ unread name)
EndsSo name stop.NotAToken status why = (status ≡ Configuration) × (why ≡ bad name)
EndsSo name stop.NoMemory status why = status ≡ NoMemory
