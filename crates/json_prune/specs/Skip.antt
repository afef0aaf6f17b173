-- How far a string or a value goes, for private clauses.
use Rattle.std.specs.Prelude.{◌≡◌, ◌⊎◌, ℕ, zero, suc, ◌==◌, Bool, true, false, List, [], ◌∷◌, if◌then◌else◌}
use Rattle.json_prune.specs.declared.mark.Mark.{Mark}
use Rattle.json_prune.specs.declared.mark.Mark.TheVariants.{Quote, Opens, Closes, Comma, Other}
use Rattle.json_prune.specs.Mark.{mark_of}

-- the bytes up to the closing quotation mark, where the first is escaped or isn't
abbrev pub string_size : Bool → List ℕ → ℕ
string_size escaped [] = 0
string_size true (b ∷ bs) = suc (string_size false bs)
string_size false (b ∷ bs) = if b == 34 then 1 else suc (string_size (b == 92) bs)

-- between the tokens or in one, in a string, or in a string behind a backslash
pub data Where : Type 0 where
  outside : Where
  inside : Where
  escaped : Where

abbrev pub in_string : ℕ → Where
in_string b = if b == 34 then outside else if b == 92 then escaped else inside

-- none where nothing is open
abbrev pub unless_none : ℕ → (ℕ → ℕ) → ℕ
unless_none zero more = 0
unless_none (suc n) more = suc (more n)

-- a byte and what follows it, in a string or outside with so many brackets open
abbrev pub at_mark : Mark → ℕ → ℕ → (ℕ → ℕ) → ℕ
at_mark Quote n string more = suc string
at_mark Opens n string more = suc (more (suc n))
at_mark Closes n string more = unless_none n more
at_mark Comma n string more = unless_none n (λ m. more (suc m))
at_mark Other n string more = suc (more n)

-- the bytes before the first comma or closing bracket that belongs to none of them, with so many brackets open
abbrev pub size : Where → ℕ → List ℕ → ℕ
size w n [] = 0
size outside n (b ∷ bs) = at_mark (mark_of b) n (size inside n bs) (λ m. size outside m bs)
size inside n (b ∷ bs) = suc (size (in_string b) n bs)
size escaped n (b ∷ bs) = suc (size inside n bs)

abbrev pub value_size : List ℕ → ℕ
value_size = size outside 0

-- nothing, a comma or a closing bracket
abbrev pub Ends : List ℕ → Type 0
Ends [] = Unit {0}
Ends (b ∷ bs) = (b ≡ 44) ⊎ (b ≡ 93) ⊎ (b ≡ 125)
