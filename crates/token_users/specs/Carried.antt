-- Texts that a header line carries as they are (RFC 9110, section 5.5).
use Rattle.std.specs.Prelude.{◌≢◌, ◌≤◌, ℕ, ◌-◌, ◌==◌, ◌&&◌, ◌||◌, List, length, Bool, false, not, Option, Some, None, nat_le, slice_get, All}
use Rattle.std.specs.List.{list_all}
use Rattle.front_base.specs.declared.user.User.{User}
use Rattle.http_head.specs.Connection.{is_blank}
use Rattle.http_head.specs.Legal.{IsLegalHeader}
use Rattle.http_head.specs.declared.header.Header.{Header}

-- no byte is a control character of ASCII
abbrev pub is_plain : List ℕ → Bool
is_plain = list_all (λ b. nat_le 32 b && not (b == 127))

abbrev pub is_blank_byte : Option ℕ → Bool
is_blank_byte None = false
is_blank_byte (Some b) = is_blank b

-- the byte at that place is a space or a tab
abbrev pub has_blank_at : List ℕ → ℕ → Bool
has_blank_at text i = is_blank_byte (slice_get text i)

-- the first or the last byte is a space or a tab
abbrev pub has_blank_ends : List ℕ → Bool
has_blank_ends text = has_blank_at text 0 || has_blank_at text (length text - 1)

-- ---- the same as facts

-- no byte is 0x00 to 0x1f or 0x7f
abbrev pub IsPlain : List ℕ → Type 0
IsPlain text = All (λ b. (32 ≤ b) × (b ≢ 127)) text

pub record IsPlainUser (user : User) : Type 0 where
  pub name : IsPlain user.name
  pub groups : All IsPlain user.groups

-- a legal header stays legal with that value
abbrev pub IsCarried : List ℕ → Type 0
IsCarried text = (header : Header) → IsLegalHeader header → IsLegalHeader (record { name = header.name; value = text })

pub record IsCarriedUser (user : User) : Type 0 where
  pub name : IsCarried user.name
  pub groups : All IsCarried user.groups
