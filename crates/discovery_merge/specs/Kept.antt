-- Documents that are kept until rows change.
use Rattle.std.specs.Prelude.{◌≡◌, ℕ, if◌then◌else◌, List, [], ◌∷◌, Option, Some, None}
use Rattle.std.specs.List.{list_any}
use Rattle.std.specs.Str.{bytes_eq}
use Rattle.apiservice_rows.specs.Row.{Row}
use Rattle.discovery_merge.specs.Documents.{group_document, group_list_text, group_text}
use Rattle.discovery_merge.specs.Groups.{group_of, is_of}
use Rattle.discovery_merge.specs.declared.groups.Group.{Group}

-- the document of the last of these groups that has the name, or else what was found before
abbrev pub last_document : List ℕ → Option (List ℕ) → List Group → Option (List ℕ)
last_document name found [] = found
last_document name found (g ∷ groups) =
    last_document name (if bytes_eq g.name name then Some (group_document g) else found) groups

-- the core group, where a row has it
abbrev pub core_groups : List Row → List Group
core_groups rows = if list_any (is_of []) rows then group_of rows [] ∷ [] else []

-- what contracts see of them: the text of the list of groups, and that of each group under its name
pub record Kept : Type 0 where
  pub list : List ℕ
  pub groups : List (List ℕ × List ℕ)

-- the text that is kept under a name
abbrev pub text_of : List ℕ → List (List ℕ × List ℕ) → Option (List ℕ)
text_of name [] = None
text_of name ((own, text) ∷ others) = if bytes_eq name own then Some text else text_of name others

-- they are the documents of those rows
pub record AreOf (rows : List Row) (kept : Kept) : Type 0 where
  pub list : kept.list ≡ group_list_text rows
  pub groups : (name : List ℕ) → text_of name kept.groups ≡ group_text name rows
