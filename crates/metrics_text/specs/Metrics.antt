-- Which metrics a run of a server has, and their samples.
use Rattle.std.specs.Prelude.{ℕ, List, [], ◌∷◌, ◌+◌, codes}
use Rattle.metrics_text.specs.Exposition.{Metric, Sample}
use Rattle.metrics_text.specs.declared.counts.Answers.{Answers}
use Rattle.metrics_text.specs.declared.counts.Connections.{Connections}
use Rattle.metrics_text.specs.declared.counts.RunCounts.{RunCounts}
use Rattle.metrics_text.specs.declared.counts.SinkLines.{SinkLines}

-- a metric that only rises, and one that falls too
abbrev pub counter : List ℕ → List ℕ → List Sample → Metric
counter name help samples = record { name = name; help = help; type = codes "counter"; samples = samples }

abbrev pub gauge : List ℕ → List ℕ → List Sample → Metric
gauge name help samples = record { name = name; help = help; type = codes "gauge"; samples = samples }

-- a value with these labels, and one without
abbrev pub labelled : List ℕ → ℕ → Sample
labelled labels value = record { labels = labels; value = value }

abbrev pub plain : ℕ → List Sample
plain value = labelled [] value ∷ []

-- one value for each sink
abbrev pub by_sink : ℕ → ℕ → List Sample
by_sink log webhook = labelled (codes "{sink=\"log\"}") log ∷ labelled (codes "{sink=\"webhook\"}") webhook ∷ []

-- requests by the class of the code that they were answered with
abbrev pub requests : Answers → Metric
requests a = counter (codes "apiserver_request_total") (codes "Requests that were answered, by the class of their code.")
    (labelled (codes "{code=\"1xx\"}") a.informational ∷ labelled (codes "{code=\"2xx\"}") a.successful
    ∷ labelled (codes "{code=\"3xx\"}") a.redirected ∷ labelled (codes "{code=\"4xx\"}") a.client_errors
    ∷ labelled (codes "{code=\"5xx\"}") a.server_errors ∷ [])

-- events that a sink has no line of
abbrev pub errors_of : SinkLines → ℕ
errors_of s = s.failed + s.lost + s.not_taken + s.too_large

-- kube-apiserver's counts of audit events, with its names and its label
abbrev pub events : ℕ → Metric
events count = counter (codes "apiserver_audit_event_total") (codes "Audit events of requests that were answered.") (plain count)

abbrev pub errors : SinkLines → SinkLines → Metric
errors log webhook = counter (codes "apiserver_audit_error_total") (codes "Audit events that a sink has no line of, for whatever reason.")
    (labelled (codes "{plugin=\"log\"}") (errors_of log) ∷ labelled (codes "{plugin=\"webhook\"}") (errors_of webhook) ∷ [])

abbrev pub requests_and_events : RunCounts → List Metric
requests_and_events r = requests r.answers ∷ events r.events ∷ errors r.log r.webhook ∷ []

-- connections of clients, by how they ended
abbrev pub ends : Connections → Metric
ends c = counter (codes "apiaggd_connections_ended_total") (codes "Connections that ended, by how.")
    (labelled (codes "{end=\"well\"}") c.well ∷ labelled (codes "{end=\"idle\"}") c.idle
    ∷ labelled (codes "{end=\"late\"}") c.late ∷ labelled (codes "{end=\"slow\"}") c.slow ∷ labelled (codes "{end=\"gone\"}") c.gone ∷ [])

abbrev pub connections : Connections → List Metric
connections c =
    counter (codes "apiaggd_connections_accepted_total") (codes "Connections that a bay was given.") (plain c.accepted)
    ∷ ends c
    ∷ gauge (codes "apiaggd_bays") (codes "Connections that can be served at once.") (plain c.bays)
    ∷ gauge (codes "apiaggd_bays_in_use") (codes "Connections that are open.") (plain c.open)
    ∷ []

abbrev pub calls : Connections → List Metric
calls c =
    counter (codes "apiaggd_dials_total") (codes "Connections to backends and webhooks that were begun.") (plain c.dials)
    ∷ counter (codes "apiaggd_dials_failed_total") (codes "Connections to backends and webhooks that could not be made.") (plain c.dials_failed)
    ∷ counter (codes "apiaggd_too_many_open_files_total") (codes "Connections that failed since the process had too many open files.") (plain c.no_files)
    ∷ []

-- what became of the lines of each sink
abbrev pub offered : ℕ → ℕ → Metric
offered log webhook = counter (codes "apiaggd_audit_lines_offered_total") (codes "Lines that a sink was offered, of requests that ended.") (by_sink log webhook)

abbrev pub written : ℕ → ℕ → Metric
written log webhook = counter (codes "apiaggd_audit_lines_written_total") (codes "Lines that were written or posted.") (by_sink log webhook)

abbrev pub failed : ℕ → ℕ → Metric
failed log webhook = counter (codes "apiaggd_audit_lines_failed_total") (codes "Lines that a blocking sink could not write.") (by_sink log webhook)

abbrev pub lost : ℕ → ℕ → Metric
lost log webhook = counter (codes "apiaggd_audit_lines_lost_total") (codes "Lines of batches that could not be written.") (by_sink log webhook)

abbrev pub not_taken : ℕ → ℕ → Metric
not_taken log webhook = counter (codes "apiaggd_audit_lines_not_taken_total") (codes "Lines that found the buffer full.") (by_sink log webhook)

abbrev pub too_large : ℕ → ℕ → Metric
too_large log webhook = counter (codes "apiaggd_audit_events_too_large_total") (codes "Events that were left out since even the line without objects was too large.") (by_sink log webhook)

abbrev pub last_written : ℕ → ℕ → Metric
last_written log webhook = gauge (codes "apiaggd_audit_last_written_timestamp_seconds") (codes "When the last line was written, 0 before the first.") (by_sink log webhook)

abbrev pub offers : SinkLines → SinkLines → List Metric
offers log webhook = offered log.offered webhook.offered ∷ written log.written webhook.written ∷ failed log.failed webhook.failed ∷ []

abbrev pub losses : SinkLines → SinkLines → List Metric
losses log webhook = lost log.lost webhook.lost ∷ not_taken log.not_taken webhook.not_taken ∷ too_large log.too_large webhook.too_large
    ∷ last_written log.last_written webhook.last_written ∷ []

-- all of a run
abbrev pub metrics : RunCounts → List (List Metric)
metrics r = requests_and_events r ∷ connections r.connections ∷ calls r.connections ∷ offers r.log r.webhook ∷ losses r.log r.webhook ∷ []
