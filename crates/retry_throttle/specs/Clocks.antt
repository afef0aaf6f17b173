-- What a clock tells, and what its calls add to it.
use Rattle.std.specs.Prelude.{◌≡◌, ◌≤◌, ◌+◌, ◌-◌, ◌^◌, min, ℕ, zero, suc, List, [], ◌∷◌, Option, ⊤}
use Rattle.truncate_backend.specs.Told.{Joined}

-- the moments that it gave, the last of them, and how often it rested
pub record ClockTells : Type 0 where
  pub given : Option (List ℕ)
  pub last : ℕ
  pub rests : ℕ

abbrev pub clock_tells : {K : Type 0} → (K → Option (List ℕ)) → (K → ℕ) → (K → ℕ) → K → ClockTells
clock_tells given last rests clock = record { given = given clock; last = last clock; rests = rests clock }

-- none of them is before the one before it
abbrev pub IsRising : ℕ → List ℕ → Type 0
IsRising last [] = ⊤
IsRising last (m ∷ ms) = (last ≤ m) × IsRising m ms

-- the last of them, or another moment where there is none
abbrev pub last_of : ℕ → List ℕ → ℕ
last_of last [] = last
last_of last (m ∷ ms) = last_of m ms

-- a count of rests after so many more. It stands at the greatest number of its type
abbrev pub rested : ℕ → ℕ → ℕ
rested rests zero = rests
rested rests (suc n) = min (rested rests n + 1) (2 ^ 64 - 1)

-- the clock gave these moments, none before the one before it, and rested so often
pub record Passed (c : ClockTells) (moments : List ℕ) (rests : ℕ) (d : ClockTells) : Type 0 where
  pub given : Joined c.given moments d.given
  pub rises : IsRising c.last moments
  pub last_is : d.last ≡ last_of c.last moments
  pub rests_are : d.rests ≡ rested c.rests rests
