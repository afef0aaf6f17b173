-- How far a peer is behind a rate.
use Rattle.std.specs.Prelude.{ℕ, ◌+◌, ◌-◌, ◌*◌, ◌^◌, min}

-- a product that stands at the last value of its type
abbrev pub saturating_product : ℕ → ℕ → ℕ
saturating_product m n = min (m * n) (2 ^ 64 - 1)

-- what a peer owes, in thousandths of a byte, after a wait of so many milliseconds in which so many bytes moved, where it has
-- to move so many bytes a second
abbrev pub debt_after : ℕ → ℕ → ℕ → ℕ → ℕ
debt_after debt bytes waited min_rate =
    min (debt + saturating_product waited min_rate) (2 ^ 64 - 1) - saturating_product bytes 1000
