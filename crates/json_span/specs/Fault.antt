-- Where a text that is refused goes wrong.
use Rattle.std.specs.Prelude.{ℕ, ◌<◌, ◌≤◌, List, ◌++◌, length, take}
use Rattle.json_span.specs.declared.fault.JsonError.{JsonError}
use Rattle.json_span.specs.declared.fault.JsonError.TheVariants as error
use Rattle.json_span.specs.Value.{IsText}

-- the text is refused, and its first `at` bytes are its longest prefix that some continuation completes
pub record FaultAt (Accepts : List ℕ → Type 0) (text : List ℕ) (at : ℕ) : Type 0 where
  pub refused : ¬ (Accepts text)
  pub within : at ≤ length text
  pub viable : (more : List ℕ) × Accepts (take at text ++ more)
  pub longest : (n : ℕ) → at < n → n ≤ length text → (more : List ℕ) → ¬ (Accepts (take n text ++ more))

-- what an error says of the text; out of memory says nothing
abbrev pub IsRefusal : List ℕ → JsonError → Type 0
IsRefusal text (error.NotJson fault) = FaultAt IsText text fault.at
IsRefusal text error.NoMemory = Unit {0}
