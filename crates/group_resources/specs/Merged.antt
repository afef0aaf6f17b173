-- What is written of a group version.
use Rattle.std.specs.Prelude.{ℕ, ◌&&◌, Bool, true, false, not, if◌then◌else◌, List, [], ◌∷◌, bytes_eq, Option, Some, None}
use Rattle.group_resources.specs.Lines.{nothing}
use Rattle.group_resources.specs.declared.line.MergedLine.{MergedLine}
use Rattle.group_resources.specs.declared.line.State.{State}
use Rattle.group_resources.specs.declared.line.State.TheVariants.{Fresh, Stale, Missing}

abbrev pub is_missing : State → Bool
is_missing Fresh = false
is_missing Stale = false
is_missing Missing = true

-- the resources of the line of that group version, unless they are missing there
abbrev pub kept_of : List ℕ → List MergedLine → Option (List ℕ)
kept_of version [] = None
kept_of version (line ∷ lines) =
    if bytes_eq line.group_version version && not (is_missing line.state) then Some line.resources else kept_of version lines

-- fresh with what was fetched, else stale with what was kept, else missing
abbrev pub merged_by : List ℕ → Option (List ℕ) → Option (List ℕ) → MergedLine
merged_by version (Some fetched) kept = record { group_version = version; state = Fresh; resources = fetched }
merged_by version None (Some kept) = record { group_version = version; state = Stale; resources = kept }
merged_by version None None = record { group_version = version; state = Missing; resources = nothing }

-- the line of a group version, by what was fetched now and by the lines of a document written before
abbrev pub merged_of : List ℕ → Option (List ℕ) → List MergedLine → MergedLine
merged_of version fetched previous = merged_by version fetched (kept_of version previous)
