-- A document of merged resource lists: one line for each group version.
use Rattle.std.specs.Prelude.{◌≡◌, ℕ, Bool, true, false, List, [], ◌∷◌, ◌++◌, codes, ⊤}
use Rattle.std.specs.List.{AllByRecursion, list_any}
use Rattle.std.specs.Str.{bytes_eq, is_utf8}
use Rattle.json_span.specs.Quote.{quoted}
use Rattle.json_span.specs.Value.{Items, array, StandsFor, flat}
use Rattle.group_resources.specs.declared.line.MergedLine.{MergedLine}
use Rattle.group_resources.specs.declared.line.State.{State}
use Rattle.group_resources.specs.declared.line.State.TheVariants.{Fresh, Stale, Missing}

abbrev pub state_word : State → List ℕ
state_word Fresh = codes "fresh"
state_word Stale = codes "stale"
state_word Missing = codes "missing"

-- the array that stands where nothing is listed
abbrev pub nothing : List ℕ
nothing = codes "[]"

-- a line of these three, with its line feed
unfoldable pub line_of : List ℕ → State → List ℕ → List ℕ
line_of version state resources =
    codes "{\"groupVersion\":" ++ (quoted version
    ++ (codes ",\"state\":" ++ (quoted (state_word state)
    ++ (codes ",\"resources\":" ++ (resources ++ codes "}\n")))))

abbrev pub line_text : MergedLine → List ℕ
line_text line = line_of line.group_version line.state line.resources

-- the lines, one after another
abbrev pub document : List MergedLine → List ℕ
document [] = []
document (line ∷ lines) = line_text line ++ document lines

-- the text of a JSON array without white space (RFC 8259, section 5)
abbrev pub IsArray : List ℕ → Type 0
IsArray text = (items : Items) × StandsFor text (array items) × (text ≡ flat (array items))

abbrev pub IsOfState : State → List ℕ → Type 0
IsOfState Fresh resources = IsArray resources
IsOfState Stale resources = IsArray resources
IsOfState Missing resources = resources ≡ nothing

-- it is one that is written
pub record IsLine (line : MergedLine) : Type 0 where
  pub version : is_utf8 line.group_version ≡ true
  pub resources : IsOfState line.state line.resources

-- one of the lines has that group version
abbrev pub has_version : List ℕ → List MergedLine → Bool
has_version version lines = list_any (λ line. bytes_eq line.group_version version) lines

-- none has a group version that one before it has, or one of these
abbrev pub AreNew : List MergedLine → List MergedLine → Type 0
AreNew before [] = ⊤
AreNew before (line ∷ lines) = (has_version line.group_version before ≡ false) × AreNew (before ++ line ∷ []) lines

pub record AreLines (lines : List MergedLine) : Type 0 where
  pub each : AllByRecursion IsLine lines
  pub distinct : AreNew [] lines

-- the bytes are the document of these lines
pub record IsDocument (bytes : List ℕ) (lines : List MergedLine) : Type 0 where
  pub text : bytes ≡ document lines
  pub lines_are : AreLines lines
