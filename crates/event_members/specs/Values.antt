-- Reading the values of members that are no texts.
use Rattle.std.specs.Prelude.{ℕ, nat_lt, not, take, drop, codes, List, [], ◌∷◌, Option, Some, None, if◌then◌else◌}
use Rattle.std.specs.Char.{is_ascii_digit}
use Rattle.std.specs.List.{position_or_len}
use Rattle.front_base.specs.Level.{level_of}
use Rattle.front_base.specs.Number.{number_of}
use Rattle.front_base.specs.Stage.{stage_of}
use Rattle.front_base.specs.declared.level.Level.{Level}
use Rattle.front_base.specs.declared.stage.Stage.{Stage}
use Rattle.event_members.specs.TextMembers.{◌>>=◌, after_word, text_member_at, skip_comma, object_end}

-- ---- numbers

abbrev pub digits_len : List ℕ → ℕ
digits_len bytes = position_or_len (λ b. not (is_ascii_digit b)) bytes

-- the number that the digits at the front spell, where it is below the limit
unfoldable pub below_at : ℕ → List ℕ → Option (ℕ × List ℕ)
below_at limit bytes = do
  n ← number_of (take (digits_len bytes) bytes)
  if nat_lt n limit then Some (n, drop (digits_len bytes) bytes) else None

-- a number of an address, and the dot after it
unfoldable pub dotted_at : List ℕ → Option (ℕ × List ℕ)
dotted_at bytes = do
  n ← below_at 256 bytes
  rest ← after_word (codes ".") n.1
  Some (n.0, rest)

unfoldable pub peer_at : List ℕ → Option (List ℕ × List ℕ)
peer_at bytes = do
  value ← after_word (codes "\"sourceIPs\":[\"") bytes
  a ← dotted_at value
  b ← dotted_at a.1
  c ← dotted_at b.1
  d ← below_at 256 c.1
  rest ← after_word (codes "\"]") d.1
  Some (a.0 ∷ b.0 ∷ c.0 ∷ d.0 ∷ [], skip_comma rest)

-- the status code, after its member's name
unfoldable pub status_at : List ℕ → Option (ℕ × List ℕ)
status_at bytes = do
  value ← after_word (codes "{\"metadata\":{},\"code\":") bytes
  code ← below_at 65536 value
  rest ← object_end code.1
  Some (code.0, rest)

abbrev pub code_if : Option (List ℕ) → List ℕ → Option (Option ℕ × List ℕ)
code_if None bytes = Some (None, bytes)
code_if (Some value) bytes = status_at value >>= λ code. Some (Some code.0, code.1)

unfoldable pub code_if_at : List ℕ → Option (Option ℕ × List ℕ)
code_if_at bytes = code_if (after_word (codes "\"responseStatus\":") bytes) bytes

-- ---- names

unfoldable pub level_at : List ℕ → Option (Level × List ℕ)
level_at bytes = do
  name ← text_member_at (codes "\"level\":") bytes
  level ← level_of name.0
  Some (level, name.1)

unfoldable pub stage_at : List ℕ → Option (Stage × List ℕ)
stage_at bytes = do
  name ← text_member_at (codes "\"stage\":") bytes
  stage ← stage_of name.0
  Some (stage, name.1)
