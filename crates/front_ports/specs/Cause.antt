-- Why a call on the outside failed.
use Rattle.std.specs.Prelude.{◌≡◌, ℕ, ◌+◌, ◌-◌, ◌^◌, ◌≤◌, min, Result, OnOk, OnErr}

-- a count is greater after the call, or it stands at the last value of its type
abbrev pub Rose : ℕ → ℕ → Type 0
Rose before after = min (before + 1) (2 ^ 64 - 1) ≤ after

-- a count of faults doesn't fall, it rose where the call failed, and it stays where the call didn't
pub record HasCause {T E : Type 0} (before after : ℕ) (result : Result T E) : Type 0 where
  pub later : before ≤ after
  pub failed : OnErr result (Rose before after)
  pub sound : OnOk result (after ≡ before)
