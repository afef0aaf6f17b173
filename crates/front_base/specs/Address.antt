-- The texts of addresses.
use Rattle.std.specs.Prelude.{ℕ, ◌==◌, if◌then◌else◌, List, [], ◌∷◌, Option, Some, None, codes}
use Rattle.std.specs.Str.{bytes_eq}
use Rattle.front_base.specs.Cut.{cut_at}
use Rattle.front_base.specs.Number.{plain_number_of}
use Rattle.front_base.specs.declared.address.Address.{Address}

infixl 10 ◌>>=◌
abbrev pub ◌>>=◌ : {A B : Type 0} → Option A → (A → Option B) → Option B
None >>= f = None
(Some x) >>= f = f x

-- four numbers up to 255 between dots
unfoldable pub dotted_of : List ℕ → Option (List ℕ)
dotted_of text = do
  first ← cut_at 46 text
  second ← cut_at 46 first.1
  third ← cut_at 46 second.1
  a ← plain_number_of 255 first.0
  b ← plain_number_of 255 second.0
  c ← plain_number_of 255 third.0
  d ← plain_number_of 255 third.1
  Some (a ∷ b ∷ c ∷ d ∷ [])

-- the four bytes of a host
unfoldable pub host_of : List ℕ → Option (List ℕ)
host_of text =
    if bytes_eq text (codes "localhost") then Some (127 ∷ 0 ∷ 0 ∷ 1 ∷ []) else dotted_of text

abbrev pub not_zero : ℕ → Option ℕ
not_zero n = if n == 0 then None else Some n

-- a number from 1 to 65535
unfoldable pub port_of : List ℕ → Option ℕ
port_of text = plain_number_of 65535 text >>= not_zero

-- a host, a colon and a port other than 0
unfoldable pub address_of : List ℕ → Option Address
address_of text = do
  parts ← cut_at 58 text
  ip ← host_of parts.0
  port ← port_of parts.1
  Some (record { ip = ip; port = port })
