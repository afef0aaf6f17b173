-- What the Connection headers of a head ask for (RFC 9112, section 9.6; RFC 9110, sections 5.6.1 and 7.6.1).
use Rattle.std.specs.Prelude.{ℕ, ◌==◌, not, ◌&&◌, ◌||◌, Bool, List, length, take, drop, codes}
use Rattle.std.specs.List.{list_all, list_any, position_or_len, slice_split}
use Rattle.std.specs.Str.{str_eq_ignore_ascii_case}
use Rattle.http_head.specs.Name.{is_named}
use Rattle.http_head.specs.declared.header.Header.{Header}

-- a space or a tab
abbrev pub is_blank : ℕ → Bool
is_blank b = b == 32 || b == 9

abbrev pub is_text : ℕ → Bool
is_text b = not (is_blank b)

-- how many blanks the bytes begin with
abbrev pub blank_len : List ℕ → ℕ
blank_len bytes = position_or_len is_text bytes

-- the bytes begin with the name, in whatever case
abbrev pub begins : List ℕ → List ℕ → Bool
begins name bytes = str_eq_ignore_ascii_case (take (length name) bytes) name

-- the name, and blanks round it
abbrev pub is_name_and_blanks : List ℕ → List ℕ → Bool
is_name_and_blanks name rest = begins name rest && list_all is_blank (drop (length name) rest)

abbrev pub is_element : List ℕ → List ℕ → Bool
is_element name part = is_name_and_blanks name (drop (blank_len part) part)

-- one of the elements that stand between commas has the name
abbrev pub has_element : List ℕ → List ℕ → Bool
has_element name value = list_any (is_element name) (slice_split (λ b. b == 44) value)

-- each of them has it
abbrev pub has_only : List ℕ → List ℕ → Bool
has_only name value = list_all (is_element name) (slice_split (λ b. b == 44) value)

-- a Connection header names that option
abbrev pub has_option : List ℕ → List Header → Bool
has_option name headers =
    list_any (λ header. is_named (codes "connection") header.name && has_element name header.value) headers

-- a Connection header names the option `close`
abbrev pub asks_to_close : List Header → Bool
asks_to_close headers = has_option (codes "close") headers
