-- A list of lines, cut into batches from its front: each takes as many lines as the limits allow.
use Rattle.std.specs.Prelude.{◌≡◌, ◌+◌, ℕ, List, [], ◌∷◌, ◌++◌, length, ⊤, Bool, nat_le, nat_lt, ◌&&◌, ◌||◌, not}
use Rattle.front_base.specs.Line.{Line}
use Rattle.truncate_backend.specs.Tries.{bytes_of}
use Rattle.batch_backend.specs.Batches.{WithinLimits, IsBatch, is_any}
use Rattle.batch_backend.specs.declared.limits.Limits.{Limits}

-- the lines of batches, joined
abbrev pub joined : List (List Line) → List Line
joined [] = []
joined (batch ∷ batches) = batch ++ joined batches

-- each batch is within the limits
abbrev pub AllWithin : Limits → List (List Line) → Type 0
AllWithin limits [] = ⊤
AllWithin limits (batch ∷ batches) = WithinLimits limits batch × AllWithin limits batches

-- with the first of the next lines, if there is one, a batch would not be within the limits
abbrev pub IsFull : Limits → List Line → List Line → Type 0
IsFull limits batch [] = ⊤
IsFull limits batch (x ∷ next) = WithinLimits limits (batch ++ x ∷ []) → ⊥

-- no batch could take the first line of the next one, nor the last of them that of these
abbrev pub AreFull : Limits → List (List Line) → List Line → Type 0
AreFull limits [] next = ⊤
AreFull limits (batch ∷ batches) next = IsFull limits batch (joined batches ++ next) × AreFull limits batches next

-- these are the batches of the lines, in order
pub record AreBatches (limits : Limits) (lines : List Line) (batches : List (List Line)) : Type 0 where
  pub all : joined batches ≡ lines
  pub within : AllWithin limits batches
  pub full : AreFull limits batches []

-- where no line waits none came
abbrev pub IsStart : List (List Line) → List Line → Type 0
IsStart batches [] = batches ≡ []
IsStart batches (x ∷ pending) = ⊤

-- so far: these batches are whole, and the next one begins with these lines
pub record AreGathered (limits : Limits) (lines : List Line) (batches : List (List Line)) (pending : List Line) : Type 0 where
  pub all : joined batches ++ pending ≡ lines
  pub within : AllWithin limits batches
  pub full : AreFull limits batches pending
  pub start : IsStart batches pending
  pub pends : IsBatch limits pending

-- lines of these texts, with numbers from this one on
abbrev pub lines_from : ℕ → List (List ℕ) → List Line
lines_from n [] = []
lines_from n (text ∷ texts) = record { bay = 0; number = n; bytes = text } ∷ lines_from (n + 1) texts

-- what contracts see of a batch that is gathered
pub record Gathered : Type 0 where
  pub limits : Limits
  pub lines : List Line

-- whether a batch could take a line of so many bytes
abbrev pub could_take : Limits → List Line → ℕ → Bool
could_take limits lines size =
    not (is_any lines) || (nat_lt (length lines) limits.lines && nat_le (bytes_of lines + size) limits.bytes)
