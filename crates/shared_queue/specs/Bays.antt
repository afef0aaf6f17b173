-- The lines of one bay among those of many.
use Rattle.std.specs.Prelude.{ℕ, List, ◌==◌}
use Rattle.std.specs.List.{filter}
use Rattle.front_base.specs.Line.{Line}

-- the lines of a bay, in order
abbrev pub of_bay : ℕ → List Line → List Line
of_bay bay lines = filter (λ (x : Line). x.bay == bay) lines
