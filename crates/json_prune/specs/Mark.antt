-- What a byte between tokens is, for private clauses.
use Rattle.std.specs.Prelude.{ℕ, ◌==◌, ◌||◌, if◌then◌else◌}
use Rattle.json_prune.specs.declared.mark.Mark.{Mark}
use Rattle.json_prune.specs.declared.mark.Mark.TheVariants.{Quote, Opens, Closes, Comma, Other}

abbrev pub mark_of : ℕ → Mark
mark_of b =
    if b == 34 then Quote else if (b == 91) || (b == 123) then Opens else if (b == 93) || (b == 125) then Closes
    else if b == 44 then Comma else Other
