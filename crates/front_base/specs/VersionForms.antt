-- The forms of versions (Kubernetes, "Versions in CustomResourceDefinitions", version priority).
use Rattle.std.specs.Prelude.{◌≡◌, ℕ, ◌⊎◌, List, ◌∷◌, ◌++◌, Some, codes}
use Rattle.front_base.specs.Number.{number_of}

-- `v1`: generally available
pub record IsStable (text : List ℕ) (major : ℕ) : Type 0 where
  pub digits : List ℕ
  pub value : number_of digits ≡ Some major
  pub text_is : text ≡ 118 ∷ digits

-- a version with a word between two numbers
pub record IsEarly (word text : List ℕ) (major minor : ℕ) : Type 0 where
  pub digits : List ℕ
  pub value : number_of digits ≡ Some major
  pub last : List ℕ
  pub last_value : number_of last ≡ Some minor
  pub text_is : text ≡ 118 ∷ (digits ++ (word ++ last))

-- `v1beta1`
abbrev pub IsBeta : List ℕ → ℕ → ℕ → Type 0
IsBeta = IsEarly (codes "beta")

-- `v1alpha1`
abbrev pub IsAlpha : List ℕ → ℕ → ℕ → Type 0
IsAlpha = IsEarly (codes "alpha")

-- a text of none of these forms
pub record IsOther (text : List ℕ) : Type 0 where
  pub no_stable : (major : ℕ) → IsStable text major → ⊥
  pub no_beta : (major minor : ℕ) → IsBeta text major minor → ⊥
  pub no_alpha : (major minor : ℕ) → IsAlpha text major minor → ⊥

-- a text of one of them
abbrev pub IsVersion : List ℕ → Type 0
IsVersion text =
    ((major : ℕ) × IsStable text major)
    ⊎ ((major : ℕ) × (minor : ℕ) × IsBeta text major minor)
    ⊎ ((major : ℕ) × (minor : ℕ) × IsAlpha text major minor)
