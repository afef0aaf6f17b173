-- What is merged may stand in a document.
use Rattle.std.proofs.Common.{◌≡◌, ℕ, Bool, true, false, List, [], ◌∷◌, Option, Some, None, subst, sym, refl}
use Rattle.std.specs.Prelude.{◌&&◌, not, if◌then◌else◌, bytes_eq, codes, IfSome}
use Rattle.std.specs.List.{AllByRecursion}
use Rattle.std.specs.Str.{is_utf8}
use Rattle.json_span.specs.Value.{Value, array, StandsFor, flat}
use Rattle.group_resources.specs.Lines.{IsArray, IsLine, IsOfState}
use Rattle.group_resources.specs.Lists.{Lists}
use Rattle.group_resources.specs.Merged.{is_missing, kept_of, merged_by}
use Rattle.group_resources.specs.declared.line.MergedLine.{MergedLine}
use Rattle.group_resources.specs.declared.line.State.{State}
use Rattle.group_resources.specs.declared.line.State.TheVariants.{Fresh, Stale, Missing}
use Rattle.group_resources.proofs.MemberLemmas.{member_stands}

-- the law of compact texts
abbrev pub CompactLaw : Type 0
CompactLaw = (text : List ℕ) (v : Value) → StandsFor text v → StandsFor (flat v) v

pub listed_array : CompactLaw → (version : List ℕ) (status : ℕ) (body resources : List ℕ) → Lists version status body resources → IsArray resources
listed_array law version status body resources h =
    let own = member_stands body (codes "resources") h.value (array h.says.items) h.stands h.says.list_is in
    subst IsArray (sym h.says.resources_are) (h.says.items, law own.0 (array h.says.items) own.1, refl)

-- a line that isn't missing has an array
line_array : (state : State) (resources : List ℕ) → IsOfState state resources → not (is_missing state) ≡ true → IsArray resources
line_array Fresh resources h e = h
line_array Stale resources h e = h
line_array Missing resources h e = absurd (cc e)

right_of : (a b : Bool) → (a && b) ≡ true → b ≡ true
right_of true b e = e
right_of false b e = absurd (cc e)

-- so what is kept of lines is one
kept_array : (version : List ℕ) (lines : List MergedLine) → AllByRecursion IsLine lines → IfSome (kept_of version lines) IsArray
kept_array version [] h = tt
kept_array version (line ∷ lines) h =
    by_test (bytes_eq line.group_version version && not (is_missing line.state))
    (λ e. line_array line.state line.resources h.0.resources (right_of (bytes_eq line.group_version version) (not (is_missing line.state)) e))
    (kept_array version lines h.1)
  where
    by_test : (b : Bool) → (b ≡ true → IsArray line.resources) → IfSome (kept_of version lines) IsArray
        → IfSome (if b then Some line.resources else kept_of version lines) IsArray
    by_test true here others = here refl
    by_test false here others = others

merged_is : (version : List ℕ) (fetched kept : Option (List ℕ)) → is_utf8 version ≡ true → IfSome fetched IsArray → IfSome kept IsArray
    → IsLine (merged_by version fetched kept)
merged_is version (Some own) kept u f k = record { version = u; resources = f }
merged_is version None (Some own) u f k = record { version = u; resources = k }
merged_is version None None u f k = record { version = u; resources = refl }

pub merged_line_is : (version : List ℕ) (fetched : Option (List ℕ)) (lines : List MergedLine) → is_utf8 version ≡ true → IfSome fetched IsArray
    → AllByRecursion IsLine lines → IsLine (merged_by version fetched (kept_of version lines))
merged_line_is version fetched lines u f h = merged_is version fetched (kept_of version lines) u f (kept_array version lines h)
