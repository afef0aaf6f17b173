-- The turns of a drainer: the moments that it went by, one for its start, one for each pump and one for the end.
use Rattle.std.specs.Prelude.{◌≡◌, ◌<◌, ◌≤◌, ◌-◌, ◌⊎◌, max, true, ℕ, List, [], ◌∷◌, take, Option, IfSome, All}
use Rattle.batch_backend.specs.Batches.{is_any}
use Rattle.batch_backend.specs.Closes.{Times, AllButLastEnd}
use Rattle.batch_backend.specs.declared.limits.Limits.{Limits}
use Rattle.front_base.specs.Line.{Line}
use Rattle.truncate_backend.specs.Tries.{Try}

-- it is one of these turns
abbrev pub IsTurn : List ℕ → ℕ → Type 0
IsTurn [] m = ⊥
IsTurn (turn ∷ turns) m = (turn ≡ m) ⊎ IsTurn turns m

-- The first line of a batch was taken at one of these turns, and the batch was put at one. At no turn before that had the line waited as
-- long as a line may, unless it was taken at that very turn
pub record IsTimely (limits : Limits) (turns : List ℕ) (t : Times) : Type 0 where
  pub taken : IsTurn turns t.since
  pub put : IsTurn turns t.put
  pub after : t.since ≤ t.put
  pub young : All (λ turn. turn < t.put → turn - t.since < max limits.wait 1) turns

-- What waits was taken at one of these turns, of which this is the last one. By then it had waited for less time than a line may, or was
-- taken at that very turn
pub record WaitsInTime (limits : Limits) (turns : List ℕ) (last : ℕ) (waits : List Line) (since : ℕ) : Type 0 where
  pub taken : is_any waits ≡ true → IsTurn turns since
  pub after : is_any waits ≡ true → since ≤ last
  pub young : is_any waits ≡ true → last - since < max limits.wait 1

-- Turns from this moment to that one, which are the moments that the clock gave where it tells them; and each batch was put in time
pub record Turned (limits : Limits) (began last : ℕ) (given : Option (List ℕ)) (turns : List ℕ) (times : List Times) : Type 0 where
  pub given_are : IfSome given (λ moments. moments ≡ turns)
  pub first : take 1 turns ≡ began ∷ []
  pub last_is : IsTurn turns last
  pub latest : All (λ turn. turn ≤ last) turns
  pub timely : All (IsTimely limits turns) times

-- Of a drainer that made these tries: each but the last one ended for its number, its bytes or its age, and each was put in time
pub record EndsInTime (limits : Limits) (began ended : ℕ) (given : Option (List ℕ)) (tries : List Try) : Type 0 where
  pub turns : List ℕ
  pub times : List Times
  pub turned : Turned limits began ended given turns times
  pub ends : AllButLastEnd limits tries times
