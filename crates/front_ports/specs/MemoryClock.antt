-- What a clock in memory tells.
use Rattle.std.specs.Prelude.{ℕ, List, Option}
use Rattle.front_ports.specs.Clocks.{told_moments}
use Rattle.front_ports.specs.declared.mem_clock.MemClock.{MemClock}

-- its first moment, the microseconds from each to the next, and how many it has given
abbrev pub clock_start : MemClock → ℕ
clock_start clock = clock.start

abbrev pub clock_step : MemClock → ℕ
clock_step clock = clock.step

abbrev pub clock_calls : MemClock → ℕ
clock_calls clock = clock.calls

-- the moment that it gave last
abbrev pub clock_last : MemClock → ℕ
clock_last clock = clock.last

-- all that it has given, while their count is below its type's end
abbrev pub clock_given : MemClock → Option (List ℕ)
clock_given clock = told_moments clock.start clock.step clock.calls

-- how often it has rested
abbrev pub clock_rests : MemClock → ℕ
clock_rests clock = clock.rests
