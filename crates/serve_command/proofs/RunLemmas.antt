-- A run of what words and files make.
use Rattle.std.proofs.Common.{◌≡◌, ◌⊎◌, ℕ, Bool, List, subst}
use Rattle.apiservice_rows.specs.Row.{Row}
use Rattle.audit_core.specs.declared.settings.Settings.{Settings}
use Rattle.command_ends.specs.Ports.{FilesPort}
use Rattle.front_base.specs.declared.address.Address.{Address}
use Rattle.front_plants.specs.Fresh.{Openings}
use Rattle.front_plants.specs.Plants.{PlantTells}
use Rattle.logbook.specs.Pages.{Book}
use Rattle.route_history.specs.History.{History}
use Rattle.serve_command.specs.Run.{IsLeft, Runs}
use Rattle.serve_command.specs.Serve.{IsServe}
use Rattle.serve_command.specs.declared.prepared.Serve.{Serve}
use Rattle.serve_command.specs.declared.served.Served.{Served}
use Rattle.serve_config.specs.declared.serve.ServeWords.{ServeWords}
use Rattle.serve_roles.specs.Doors.{BayHandles}
use Rattle.serve_runs.specs.Causes.{NothingRan}
use Rattle.serve_runs.specs.declared.ended.Ended.{Ended}
use Rattle.shared_routes.specs.Shared.{Shared}
use Rattle.shared_runs.specs.Runs.{RunShared}
use Rattle.shared_runs.specs.Setup.{options_of, settings_of}

module _ {L N W H K Y D C : Type 0} (h : BayHandles Shared L N W H K Y D C) (T : Type 0) (opens : Openings) (home : Book)
    (before after : PlantTells C) (ended : Ended History L W H K Y D) (counted : Bool) where
  -- a run, or none, by these words, settings and rows
  abbrev pub Ran : ServeWords → Address → Settings → List Row → Type 0
  Ran words listen set opening =
      RunShared h T set (options_of words listen) opens home opening before after ended counted
      ⊎ NothingRan set (options_of words listen) before after ended

  pub runs : (words : List (List ℕ)) (files : FilesPort) (serve : Serve) (is : IsServe words files.before.told serve) (left : Served L W H K Y D)
      → Ran serve.words serve.words.listen serve.settings serve.routes.opening → IsLeft ended counted left
      → Runs h T opens words files before after left
  runs words files serve is left ran is_left = record {
    config = is.config;
    configures = is.configures;
    ended = ended;
    counted = counted;
    home = home;
    ran =
        subst (λ own. Ran own own.listen (settings_of is.config.words is.config.loaded) is.config.loaded.table.rows) is.words_are
        (subst (λ set. Ran serve.words serve.words.listen set is.config.loaded.table.rows) is.settings_are
        (subst (λ rows. Ran serve.words serve.words.listen serve.settings rows) is.opening_is ran));
    is_left = is_left;
  }
