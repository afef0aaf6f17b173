-- What files hold, where that is told.
use Rattle.std.specs.Prelude.{◌≡◌, ℕ, ◌<◌, List, [], ◌∷◌, length, Option, Some, None, ⊤, if◌then◌else◌}
use Rattle.std.specs.Str.{bytes_eq}
use Rattle.front_base.specs.declared.file.TheConstants.{MOST_FILE_BYTES}

-- the bytes of the file of that name, names and bytes being given
abbrev pub file_of : List ℕ → List (List ℕ × List ℕ) → Option (List ℕ)
file_of name [] = None
file_of name (file ∷ files) = if bytes_eq file.0 name then Some file.1 else file_of name files

-- no two files have one name
abbrev pub HasDistinctNames : List (List ℕ × List ℕ) → Type 0
HasDistinctNames [] = ⊤
HasDistinctNames (file ∷ files) = (file_of file.0 files ≡ None) × HasDistinctNames files

-- the file of that name has these bytes
abbrev pub HasFile : Option (List (List ℕ × List ℕ)) → List ℕ → List ℕ → Type 0
HasFile None name bytes = ⊤
HasFile (Some files) name bytes = file_of name files ≡ Some bytes

-- the file of that name has more bytes than may be read
abbrev pub HasLongFile : Option (List (List ℕ × List ℕ)) → List ℕ → Type 0
HasLongFile None name = ⊤
HasLongFile (Some files) name = (bytes : List ℕ) × (file_of name files ≡ Some bytes) × (MOST_FILE_BYTES < length bytes)

-- told files stay as they are
abbrev pub KeepsFiles : Option (List (List ℕ × List ℕ)) → Option (List (List ℕ × List ℕ)) → Type 0
KeepsFiles None new = ⊤
KeepsFiles (Some files) new = new ≡ Some files

-- what is told of the last read that failed is now this, and it may be told no longer
abbrev pub Notes : Option (Option (List ℕ)) → Option (Option (List ℕ)) → Option (List ℕ) → Type 0
Notes None new name = new ≡ None
Notes (Some before) None name = ⊤
Notes (Some before) (Some now) name = now ≡ name
