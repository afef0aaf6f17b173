-- The command line of `rehearse`.
use Rattle.std.specs.Prelude.{ℕ, nat_lt, nat_eq, ◌||◌, if◌then◌else◌, List, [], ◌∷◌, length, Option, Some, None, Result, Ok, Err, codes, bytes_eq}
use Rattle.front_base.specs.Number as base
use Rattle.rehearse_plan.specs.declared.plan.Rehearsal.{Rehearsal}
use Rattle.rehearse_plan.specs.declared.words.RehearsalFault.{RehearsalFault}
use Rattle.rehearse_plan.specs.declared.words.RehearsalFault.TheVariants.{Usage, Count}
use Rattle.rehearse_plan.specs.declared.plan.TheConstants.{MOST_REHEARSED}

-- 1 to 20 digits whose number fits 64 bits
abbrev pub short_number : List ℕ → Option ℕ
short_number text = if nat_lt 20 (length text) then None else base.number_of text

-- where the kinds start, and how many requests there are
pub record Asked : Type 0 where
  pub start : ℕ
  pub count : ℕ

abbrev pub asked_by : Rehearsal → Asked
asked_by plan = record { start = plan.start; count = plan.count }

-- one request at least, and not too many
abbrev pub planned : ℕ → ℕ → Result Asked RehearsalFault
planned start count =
    if nat_eq count 0 || nat_lt MOST_REHEARSED count then Err (Count count)
    else Ok (record { start = start; count = count })

abbrev pub planned_by : Option ℕ → Option ℕ → Result Asked RehearsalFault
planned_by (Some start) (Some count) = planned start count
planned_by _ _ = Err Usage

-- the command word and two numbers
abbrev pub rehearsal_of : List (List ℕ) → Result Asked RehearsalFault
rehearsal_of (word ∷ start ∷ count ∷ []) =
    if bytes_eq word (codes "rehearse") then planned_by (short_number start) (short_number count) else Err Usage
rehearsal_of _ = Err Usage
