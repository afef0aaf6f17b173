-- How a run opens each of its sinks: its log, and its webhook.
use Rattle.audit_core.specs.declared.sinks.Sink.{Sink}
use Rattle.audit_core.specs.declared.sinks.Sink.TheVariants.{Log, Webhook}
use Rattle.front_plants.specs.Fresh.{Openings, SinkOpens, log_opens, hook_opens}
use Rattle.front_plants.specs.declared.call.PlantCall.{PlantCall}
use Rattle.front_plants.specs.declared.call.PlantCall.TheVariants as calls
use Rattle.serve_bays.specs.declared.options.RunOptions.{RunOptions}

-- what it tells while it is new
abbrev pub side_opens : Openings → RunOptions → Sink → SinkOpens
side_opens opens options Log = log_opens opens
side_opens opens options Webhook = hook_opens opens options.hook_url

-- the call of a plant that opens it
abbrev pub side_call : RunOptions → Sink → PlantCall
side_call options Log = calls.Log options.log_path
side_call options Webhook = calls.Hook options.hook_url
