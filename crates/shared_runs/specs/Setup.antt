-- What words and files make of a run.
use Rattle.std.specs.Prelude.{ℕ, ◌*◌, ◌-◌, ◌^◌, min, List, [], Option, Some, None}
use Rattle.audit_core.specs.declared.settings.Settings.{Settings}
use Rattle.front_base.specs.declared.address.Address.{Address}
use Rattle.front_config.specs.declared.files.Loaded.{Loaded}
use Rattle.serve_bays.specs.declared.options.RunOptions.{RunOptions}
use Rattle.serve_config.specs.declared.serve.ServeWords.{ServeWords}

-- by which settings requests are answered and recorded
abbrev pub settings_of : ServeWords → Loaded → Settings
settings_of words loaded = record {
  tokens = loaded.tokens;
  policy = loaded.policy;
  endpoints = loaded.endpoints;
  max_event = words.max_event;
  log = words.log.mode;
  hook = words.webhook.mode;
}

abbrev pub text_of : Option (List ℕ) → List ℕ
text_of None = []
text_of (Some text) = text

-- what the run opens, and when batches are put; `--batch-max-wait-ms` is in milliseconds
abbrev pub options_of : ServeWords → Address → RunOptions
options_of words listen = record {
  listen = listen;
  bays = words.bays;
  connections = words.connections;
  log_path = text_of words.log.target;
  hook_url = text_of words.webhook.target;
  buffer = words.batch.buffer;
  limits = record {
    lines = words.batch.max_lines;
    bytes = words.batch.max_bytes;
    wait = min (words.batch.max_wait_ms * 1000) (2 ^ 64 - 1);
  };
}
