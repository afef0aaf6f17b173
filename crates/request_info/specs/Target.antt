-- The path and the query of a request's target (RFC 3986, sections 2.1, 3.3 and 3.4).
use Rattle.std.specs.Prelude.{ℕ, ◌-◌, ◌==◌, ◌&&◌, Bool, if◌then◌else◌, List, [], ◌∷◌, Option, Some, None}
use Rattle.std.specs.Char.{is_ascii_hexdigit}
use Rattle.std.specs.List.{before_first, after_first, slice_index}
use Rattle.std.specs.Str.{is_utf8}
use Rattle.percent_encoding.specs.Percent.{percent_decode}

abbrev pub is_question_mark : ℕ → Bool
is_question_mark b = b == 63

-- the path as it is spelled: what stands before the first question mark
abbrev pub spelled_path : List ℕ → List ℕ
spelled_path target = before_first is_question_mark target

-- the query: what stands after it
abbrev pub query_of : List ℕ → List ℕ
query_of target = after_first is_question_mark target

-- the digits that a byte owes after it, where none are owed: two after a percent sign
abbrev pub owed_after : ℕ → ℕ
owed_after b = if b == 37 then 2 else 0

-- each percent sign is followed by two hexadecimal digits, where so many digits are owed already
unfoldable pub are_escapes_whole : ℕ → List ℕ → Bool
are_escapes_whole owed [] = owed == 0
are_escapes_whole owed (b ∷ rest) =
    if owed == 0 then are_escapes_whole (owed_after b) rest
    else is_ascii_hexdigit b && are_escapes_whole (owed - 1) rest

-- the text that a path spells, where its escapes are whole and what they spell is text
abbrev pub decoded : List ℕ → Option (List ℕ)
decoded spelled =
    if are_escapes_whole 0 spelled && is_utf8 (percent_decode spelled) then Some (percent_decode spelled) else None

abbrev pub begins_with_slash : List ℕ → Bool
begins_with_slash target = slice_index target 0 == 47

-- the path of a target that begins with a slash
abbrev pub path_of : List ℕ → Option (List ℕ)
path_of target = if begins_with_slash target then decoded (spelled_path target) else None
