-- What the sinks of a plant in memory tell.
use Rattle.std.specs.Prelude.{ℕ, List, [], Option, Some, None}
use Rattle.front_plants.specs.Fresh.{Openings}
use Rattle.front_ports.specs.Memory.{bytes_written}
use Rattle.front_ports.specs.MemoryDial.{dial_calls}
use Rattle.front_ports.specs.declared.mem_bytes.MemBytes.{MemBytes}
use Rattle.front_ports.specs.declared.mem_dial.MemDial.{MemDial}
use Rattle.log_sink.specs.Logs.{log_tells}
use Rattle.log_sink.specs.declared.log.LogSink.{LogSink}
use Rattle.truncate_backend.specs.MemoryNotes.{noted_tries}
use Rattle.truncate_backend.specs.Tries.{Try, SinkTells}
use Rattle.truncate_backend.specs.declared.mem_notes.MemNotes.{MemNotes}
use Rattle.webhook_sink.specs.Hooked.{hook_tells}
use Rattle.webhook_sink.specs.declared.webhook.WebhookSink.{WebhookSink}

abbrev pub told_tries : MemNotes → Option (List Try)
told_tries notes = Some (noted_tries notes)

abbrev pub told_bytes : MemBytes → Option (List ℕ)
told_bytes out = Some (bytes_written out)

abbrev pub mem_log_tells : LogSink MemBytes MemNotes → SinkTells
mem_log_tells log = log_tells told_bytes told_tries log

abbrev pub mem_hook_tells : WebhookSink MemDial MemNotes → SinkTells
mem_hook_tells hook = hook_tells dial_calls told_tries hook

-- new ones were given nothing; each plant allots what it was told to
abbrev pub told_openings : Openings
told_openings = record { log = Some (Some []); hook = Some (Some []); allots = λ bay. None }
