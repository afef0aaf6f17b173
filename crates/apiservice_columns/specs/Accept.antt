-- Whether an Accept header asks for a Table (RFC 9110, section 12.5.1; Kubernetes, "Kubernetes API concepts": receiving resources
-- as Tables). The first media range that can be given decides, and no quality value is looked at.
use Rattle.std.specs.Prelude.{ℕ, ◌==◌, nat_eq, Bool, false, not, ◌&&◌, ◌||◌, List, drop, length, codes, Option, unwrap_or, option_map}
use Rattle.std.specs.List.{list_all, list_any, find, position_or_len, slice_split, starts_with, before_first, after_first}
use Rattle.http_head.specs.Connection.{has_only}

abbrev pub is_comma : ℕ → Bool
is_comma b = b == 44

abbrev pub is_semicolon : ℕ → Bool
is_semicolon b = b == 59

-- a space or a tab
abbrev pub is_blank : ℕ → Bool
is_blank b = b == 32 || b == 9

abbrev pub is_text : ℕ → Bool
is_text b = not (is_blank b)

-- how many blanks a text begins with, and what comes after them
abbrev pub blank_len : List ℕ → ℕ
blank_len text = position_or_len is_text text

abbrev pub unindented : List ℕ → List ℕ
unindented text = drop (blank_len text) text

abbrev pub begins : List ℕ → List ℕ → Bool
begins word text = starts_with nat_eq text word

abbrev pub is_word_and_blanks : List ℕ → List ℕ → Bool
is_word_and_blanks word text = begins word text && list_all is_blank (drop (length word) text)

-- that word, with blanks round it
abbrev pub is_word : List ℕ → List ℕ → Bool
is_word word text = is_word_and_blanks word (unindented text)

abbrev pub is_equals : ℕ → Bool
is_equals b = b == 61

-- what stands before the first equals sign of a part, and what after it
abbrev pub name_of : List ℕ → List ℕ
name_of part = before_first is_equals part

abbrev pub value_of : List ℕ → List ℕ
value_of part = after_first is_equals part

-- the name of a parameter, in whatever case, with blanks round it (RFC 9110, section 5.6.6)
abbrev pub is_named : List ℕ → List ℕ → Bool
is_named name part = has_only name (name_of part)

-- that name and that value, whose case counts, with blanks round each
abbrev pub is_parameter : List ℕ → List ℕ → List ℕ → Bool
is_parameter name value part = is_named name part && is_word value (value_of part)

-- a parameter that asks for another form of the object: its kind, its group or its version
abbrev pub is_transform : List ℕ → Bool
is_transform part = is_named (codes "as") part || (is_named (codes "g") part || is_named (codes "v") part)

-- the parts of a media range: its type, and its parameters
abbrev pub parts : List ℕ → List (List ℕ)
parts range = slice_split is_semicolon range

-- one of the parts is that type, in whatever case, with blanks round it (RFC 9110, section 8.3.1)
abbrev pub has_type : List ℕ → List ℕ → Bool
has_type name range = list_any (has_only name) (parts range)

-- one of them is that parameter
abbrev pub has_parameter : List ℕ → List ℕ → List ℕ → Bool
has_parameter name value range = list_any (is_parameter name value) (parts range)

-- JSON is of that range; no parameter is spelled so
abbrev pub takes_json : List ℕ → Bool
takes_json range =
    has_type (codes "application/json") range || (has_type (codes "application/*") range || has_type (codes "*/*") range)

-- the range is that of a Table of `meta.k8s.io/v1`
abbrev pub is_table : List ℕ → Bool
is_table range =
    has_parameter (codes "as") (codes "Table") range
    && (has_parameter (codes "g") (codes "meta.k8s.io") range && has_parameter (codes "v") (codes "v1") range)

-- it can be given: as JSON, and as it is stored or as a Table
abbrev pub is_acceptable : List ℕ → Bool
is_acceptable range = takes_json range && (is_table range || not (list_any is_transform (parts range)))

abbrev pub is_table_if_any : Option (List ℕ) → Bool
is_table_if_any found = unwrap_or (option_map is_table found) false

-- the first range that can be given is that of a Table
unfoldable pub asks_for_table : List ℕ → Bool
asks_for_table accept = is_table_if_any (find is_acceptable (slice_split is_comma accept))
