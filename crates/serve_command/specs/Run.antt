-- A run of `serve`, from its words to its end.
use Rattle.std.specs.Prelude.{◌≡◌, ◌⊎◌, ℕ, Bool, List, Option, Some, None}
use Rattle.command_ends.specs.Ports.{FilesPort}
use Rattle.command_ends.specs.declared.status.Status.{Status}
use Rattle.front_plants.specs.Fresh.{Openings}
use Rattle.front_plants.specs.Plants.{PlantTells}
use Rattle.logbook.specs.Pages.{Book}
use Rattle.refusal_text.specs.declared.refusal.Refusal.{Refusal}
use Rattle.route_history.specs.History.{History}
use Rattle.serve_command.specs.Ended.{status_of}
use Rattle.serve_command.specs.declared.served.Served.{Served}
use Rattle.serve_config.specs.Config.{Configures, IsRefused}
use Rattle.serve_config.specs.declared.config.ServeConfig.{ServeConfig}
use Rattle.serve_roles.specs.Doors.{BayHandles}
use Rattle.serve_runs.specs.Causes.{NothingRan}
use Rattle.serve_runs.specs.declared.ended.Ended.{Ended}
use Rattle.shared_routes.specs.Shared.{Shared}
use Rattle.shared_runs.specs.Runs.{RunShared}
use Rattle.shared_runs.specs.Setup.{options_of, settings_of}

module _ {L W H K Y D : Type 0} where
  -- nothing ran, and it is reported so
  pub record IsOutcome (status : Status) (why : Option Refusal) (left : Served L W H K Y D) : Type 0 where
    pub status_is : left.status ≡ status
    pub why_is : left.why ≡ why
    pub none : left.ended ≡ None

  -- a run ended so, and its status is reported alone
  pub record IsLeft (ended : Ended History L W H K Y D) (counted : Bool) (left : Served L W H K Y D) : Type 0 where
    pub status_is : left.status ≡ status_of ended.status
    pub why_is : left.why ≡ None
    pub ended_is : left.ended ≡ Some ended
    pub counted_is : left.counted ≡ counted

module _ {L N W H K Y D C : Type 0} (h : BayHandles Shared L N W H K Y D C) (T : Type 0) (opens : Openings) where
  -- Words and files are refused, for the first reason in order, and the plant wasn't called
  pub record RunsNot (words : List (List ℕ)) (files : FilesPort) (before after : PlantTells C) (left : Served L W H K Y D) : Type 0 where
    pub refused : IsRefused words files left.status left.why
    pub no_call : after ≡ before
    pub none : left.ended ≡ None

  -- Words and files are accepted. They ran by the settings and options that they state, at the address of the words, over one table that
  -- begins with the rows of the files; or nothing ran, since a call of the plant failed or memory ran out
  pub record Runs (words : List (List ℕ)) (files : FilesPort) (before after : PlantTells C) (left : Served L W H K Y D) : Type 0 where
    pub config : ServeConfig
    pub configures : Configures words files.before.told config
    pub ended : Ended History L W H K Y D
    pub counted : Bool
    pub home : Book
    pub ran : RunShared h T (settings_of config.words config.loaded) (options_of config.words config.words.listen) opens home
        config.loaded.table.rows before after ended counted
        ⊎ NothingRan (settings_of config.words config.loaded) (options_of config.words config.words.listen) before after ended
    pub is_left : IsLeft ended counted left

  abbrev pub Run : List (List ℕ) → FilesPort → PlantTells C → PlantTells C → Served L W H K Y D → Type 0
  Run words files before after left = RunsNot words files before after left ⊎ Runs words files before after left
