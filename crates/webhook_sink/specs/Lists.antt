-- An EventList of `audit.k8s.io/v1`, whose items are lines (RFC 8259).
use Rattle.std.specs.Prelude.{ℕ, List, [], ◌∷◌, ◌++◌, ◌==◌, if◌then◌else◌, codes}
use Rattle.front_base.specs.Line.{Line}

-- what stands before the first line, and after the last one
unfoldable pub list_head : List ℕ
list_head = codes "{\"kind\":\"EventList\",\"apiVersion\":\"audit.k8s.io/v1\",\"metadata\":{},\"items\":["

unfoldable pub list_tail : List ℕ
list_tail = codes "]}"

-- what stands before the line of that number, counted from 0
abbrev pub separator : ℕ → List ℕ
separator index = if index == 0 then [] else 44 ∷ []

-- lines with a comma before each
abbrev pub more_lines : List Line → List ℕ
more_lines [] = []
more_lines (l ∷ ls) = 44 ∷ (l.bytes ++ more_lines ls)

-- lines with a comma between each two
abbrev pub lines_text : List Line → List ℕ
lines_text [] = []
lines_text (l ∷ ls) = l.bytes ++ more_lines ls

abbrev pub list_text : List Line → List ℕ
list_text lines = list_head ++ (lines_text lines ++ list_tail)
