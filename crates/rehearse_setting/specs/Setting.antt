-- With which words a rehearsal begins, and what they and its files say.
use Rattle.std.specs.Prelude.{◌≡◌, ℕ, ◌*◌, List, [], ◌∷◌, ◌++◌, Some, codes, decimal}
use Rattle.apiservice_table.specs.declared.table_routes.TableRoutes.{TableRoutes}
use Rattle.rehearse_plan.specs.Files.{files_of}
use Rattle.serve_config.specs.Config.{Configures}
use Rattle.serve_config.specs.declared.config.ServeConfig.{ServeConfig}

-- a queue for three lines of each request
abbrev pub buffer_word : ℕ → List ℕ
buffer_word count = codes "--batch-buffer=" ++ decimal (3 * count)

abbrev pub bays_word : ℕ → List ℕ
bays_word bays = codes "--bays=" ++ decimal bays

abbrev pub words_of : ℕ → ℕ → List (List ℕ)
words_of count bays =
    codes "serve" ∷ bays_word bays ∷ codes "--audit-policy-file=policy" ∷ codes "--apiservices=apiservices"
    ∷ codes "--endpoints=endpoints" ∷ codes "--audit-webhook-url=http://127.0.0.1:9400/" ∷ buffer_word count ∷ []

-- what these words say, over these files
abbrev pub IsConfig : List (List ℕ) → ServeConfig → Type 0
IsConfig words config = Configures words (Some files_of) config

-- routes that begin with the APIServices of these files
abbrev pub Opens : List (List ℕ) → TableRoutes → Type 0
Opens words routes =
    (config : ServeConfig) × IsConfig words config × (routes.opening ≡ config.loaded.table.rows) × (routes.seen ≡ [])
