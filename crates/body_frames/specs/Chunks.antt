-- The grammar of a chunked body (RFC 9112, section 7.1), without trailers.
use Rattle.std.specs.Prelude.{◌≡◌, ℕ, ◌+◌, ◌*◌, ◌<◌, ◌≤◌, ◌^◌, ◌-◌, min, ◌==◌, not, nat_lt, nat_le, ◌&&◌, ◌||◌, Bool, true, false}
use Rattle.std.specs.Prelude.{if◌then◌else◌}
use Rattle.std.specs.Prelude.{List, [], ◌∷◌, ◌++◌, length}
use Rattle.std.specs.List.{list_all, flat_map}
use Rattle.std.specs.Fmt.{digits}

-- a space or a tab
abbrev pub is_blank : ℕ → Bool
is_blank b = b == 32 || b == 9

-- a digit's value, or 16
unfoldable pub digit_value : ℕ → ℕ
digit_value b =
    if nat_le 48 b && nat_le b 57 then b - 48
    else if nat_le 97 b && nat_le b 102 then b - 87
    else if nat_le 65 b && nat_le b 70 then b - 55
    else 16

-- a hexadecimal digit
abbrev pub is_hex : ℕ → Bool
is_hex b = nat_lt (digit_value b) 16

-- the number that digits write after one that stands before them
abbrev pub value_of : ℕ → List ℕ → ℕ
value_of n [] = n
value_of n (d ∷ ds) = value_of (n * 16 + digit_value d) ds

-- neither CR nor LF
abbrev pub is_extension_byte : ℕ → Bool
is_extension_byte b = not (b == 13) && not (b == 10)

-- nothing, or a semicolon and what follows it
abbrev pub IsExtension : List ℕ → Type 0
IsExtension [] = Unit {0}
IsExtension (b ∷ bytes) = (b ≡ 59) × (list_all is_extension_byte bytes ≡ true)

-- a size line in its parts, without its CR LF
pub record Line : Type 0 where
  pub digits : List ℕ
  pub blanks : List ℕ
  pub extension : List ℕ

-- the bytes of a size line
abbrev pub print_line : Line → List ℕ
print_line l = l.digits ++ (l.blanks ++ (l.extension ++ 13 ∷ 10 ∷ []))

-- a size line of at most 256 bytes, its end included
pub record IsLine (l : Line) (size : ℕ) : Type 0 where
  pub some : 0 < length l.digits
  pub few : length l.digits ≤ 16
  pub hex : list_all is_hex l.digits ≡ true
  pub gap : list_all is_blank l.blanks ≡ true
  pub extension : IsExtension l.extension
  pub short : length l.digits + length l.blanks + length l.extension ≤ 254
  pub value : value_of 0 l.digits ≡ size

-- a chunk that isn't the last one
pub record Chunk : Type 0 where
  pub line : Line
  pub bytes : List ℕ

-- the bytes of a chunk
abbrev pub print_chunk : Chunk → List ℕ
print_chunk c = print_line c.line ++ (c.bytes ++ 13 ∷ 10 ∷ [])

-- each size line says how many bytes follow it, one at least
abbrev pub AreChunks : List Chunk → Type 0
AreChunks [] = Unit {0}
AreChunks (c ∷ cs) = IsLine c.line (length c.bytes) × (0 < length c.bytes) × AreChunks cs

-- the text is a chunked body, and this is the body
pub record IsChunked (text body : List ℕ) : Type 0 where
  pub chunks : List Chunk
  pub last : Line
  pub each : AreChunks chunks
  pub end : IsLine last 0
  pub text_is : text ≡ flat_map print_chunk chunks ++ (print_line last ++ 13 ∷ 10 ∷ [])
  pub body_is : body ≡ flat_map (λ c. c.bytes) chunks

-- the text is the first part of a chunked body: some more makes it one, and it is none yet
pub record Begins (text : List ℕ) : Type 0 where
  pub rest : List ℕ
  pub body : List ℕ
  pub whole : IsChunked (text ++ rest) body
  pub none : (own : List ℕ) → IsChunked text own → ⊥

-- the text breaks at a byte: what stands before it is the first part of a chunked body, and nothing that begins with
-- both is one. So many bytes stand before it, as far as 64 bits count
pub record BreaksAt (text : List ℕ) (at : ℕ) : Type 0 where
  pub prefix : List ℕ
  pub byte : ℕ
  pub rest : List ℕ
  pub split : text ≡ prefix ++ byte ∷ rest
  pub count : at ≡ min (length prefix) (2 ^ 64 - 1)
  pub begins : Begins prefix
  pub breaks : (more body : List ℕ) → IsChunked (prefix ++ byte ∷ more) body → ⊥

-- what a chunk may carry
abbrev pub IsPiece : List ℕ → Type 0
IsPiece piece = (0 < length piece) × (length piece < 2 ^ 64)

-- a chunk as it is written: the size in lower-case hexadecimal digits
abbrev pub chunk_text : List ℕ → List ℕ
chunk_text piece = digits 16 false (length piece) ++ (13 ∷ 10 ∷ (piece ++ 13 ∷ 10 ∷ []))

-- a chunk of size 0, and CR LF
abbrev pub last_text : List ℕ
last_text = 48 ∷ 13 ∷ 10 ∷ 13 ∷ 10 ∷ []
