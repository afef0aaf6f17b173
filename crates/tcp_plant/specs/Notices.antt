-- What is said of lines that were lost, and what is left to be said.
use Rattle.std.specs.Prelude.{◌≡◌, Option, Some, None}
use Rattle.tcp_plant.specs.declared.notice.Losses.{Losses}
use Rattle.tcp_plant.specs.declared.notice.Notice.{Notice}
use Rattle.tcp_plant.specs.declared.notice.Notices.{Notices}

-- nothing was lost
abbrev pub nothing : Losses
nothing = record { lost = 0; full = 0; large = 0 }

-- all that was to be said is in the notice, and nothing of it is said again
abbrev pub IsSaid : Notices → Notices → Notice → Type 0
IsSaid old new notice = (notice.losses ≡ old.losses) × (new.losses ≡ nothing)

-- what isn't said now stays to be said
abbrev pub IsKept : Option Notice → Notices → Notices → Type 0
IsKept None old new = new ≡ old
IsKept (Some notice) old new = new.failing ≡ old.failing
