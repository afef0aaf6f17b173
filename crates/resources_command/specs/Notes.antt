-- Which group versions were not listed, and why.
use Rattle.std.specs.Prelude.{ℕ, Bool, true, false, ◌||◌, List, [], ◌∷◌, Option, Some, None}
use Rattle.resource_fetch.specs.Fetched.{listed_in}
use Rattle.resource_fetch.specs.declared.listing.Listing.{Listing}
use Rattle.resources_command.specs.Order.{name_of}
use Rattle.resources_command.specs.declared.group_versions.GroupVersion.{GroupVersion}

-- a group version that was not listed, and why
pub record Unlisted : Type 0 where
  pub group_version : List ℕ
  pub why : Listing

abbrev pub is_some : Option (List ℕ) → Bool
is_some None = false
is_some (Some resources) = true

abbrev pub is_listed : Listing → Bool
is_listed got = is_some (listed_in got)

-- one of them was listed
abbrev pub any_listed : List Listing → Bool
any_listed [] = false
any_listed (got ∷ gots) = is_listed got || any_listed gots

abbrev pub note_if : Bool → List ℕ → Listing → List Unlisted
note_if true version got = []
note_if false version got = record { group_version = version; why = got } ∷ []

-- what is told of one of them
abbrev pub note_of : GroupVersion → Listing → List Unlisted
note_of own got = note_if (is_listed got) (name_of own) got
