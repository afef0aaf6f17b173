-- What words and files make of a run of `serve`.
use Rattle.std.specs.Prelude.{◌≡◌, ℕ, List}
use Rattle.command_ends.specs.Ports.{Told}
use Rattle.serve_config.specs.Config.{Configures}
use Rattle.serve_config.specs.declared.config.ServeConfig.{ServeConfig}
use Rattle.serve_command.specs.declared.prepared.Serve.{Serve}
use Rattle.shared_runs.specs.Setup.{settings_of}

-- The words are a command line of `serve`, and the files that it names, told as these, are accepted. The run has what the words ask for, the
-- settings that words and files state, and the rows of the files
pub record IsServe (words : List (List ℕ)) (told : Told) (serve : Serve) : Type 0 where
  pub config : ServeConfig
  pub configures : Configures words told config
  pub words_are : serve.words ≡ config.words
  pub settings_are : serve.settings ≡ settings_of config.words config.loaded
  pub opening_is : serve.routes.opening ≡ config.loaded.table.rows
