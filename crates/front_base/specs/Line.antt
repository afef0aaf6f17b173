-- An audit line.
use Rattle.std.specs.Prelude.{ℕ, List}

-- what contracts see of a line: whose it is, how many the bay offered to the sink before, and its text
pub record Line : Type 0 where
  pub bay : ℕ
  pub number : ℕ
  pub bytes : List ℕ
