-- The command line of `serve`.
use Rattle.std.specs.Prelude.{ℕ, ◌≤◌, ◌&&◌, ◌||◌, nat_eq, Bool, false, if◌then◌else◌, List, [], ◌∷◌, Option, Some, None, is_some, Result, Ok, Err, codes}
use Rattle.std.specs.List.{starts_with}
use Rattle.std.specs.Str.{bytes_eq}
use Rattle.json_value.specs.Results.{◌>>=◌, found_or}
use Rattle.json_value.specs.Results as results
use Rattle.audit_core.specs.declared.sinks.SinkMode.{SinkMode}
use Rattle.audit_core.specs.declared.sinks.SinkMode.TheVariants as sink
use Rattle.command_options.specs.Options as options
use Rattle.command_options.specs.Options.{file_names, given_of, have_numbers, in_range, number_given, value_of, with_flag}
use Rattle.command_options.specs.Spelling.{Named}
use Rattle.command_options.specs.declared.fault.WordsFault.{WordsFault}
use Rattle.command_options.specs.declared.fault.WordsFault.TheVariants.{Usage}
use Rattle.command_options.specs.declared.ranged.Ranged.{Ranged}
use Rattle.command_options.specs.declared.ranged.Ranged.TheVariants as option
use Rattle.front_base.specs.Address.{address_of}
use Rattle.front_base.specs.declared.address.Address.{Address}
use Rattle.serve_config.specs.declared.batch.BatchWords.{BatchWords}
use Rattle.serve_config.specs.declared.fault.ServeFault.{ServeFault}
use Rattle.serve_config.specs.declared.fault.ServeFault.TheVariants.{Words, Listen, Webhook, OwnWebhook}
use Rattle.serve_config.specs.declared.serve.ServeWords.{ServeWords}
use Rattle.serve_config.specs.declared.sinks.SinkWords.{SinkWords}
use Rattle.tcp_ports.specs.declared.limits.TcpLimits.{TcpLimits}
use Rattle.tcp_ports.specs.declared.limits.TheConstants.{DEFAULT_LIMITS}
use Rattle.webhook_sink.specs.Hooks.{hook_named}
use Rattle.webhook_sink.specs.declared.hook_url.HookUrl.{HookUrl}

-- the options of `serve`, of which the last two are flags
abbrev pub serve_names : List (List ℕ)
serve_names =
    codes "token-auth-file" ∷ codes "audit-policy-file" ∷ codes "apiservices" ∷ codes "endpoints" ∷ codes "max-event-size"
    ∷ codes "listen" ∷ codes "bays" ∷ codes "connections"
    ∷ codes "audit-log-path" ∷ codes "audit-log-mode" ∷ codes "audit-webhook-url" ∷ codes "audit-webhook-mode"
    ∷ codes "batch-buffer" ∷ codes "batch-max-size" ∷ codes "batch-max-wait-ms" ∷ codes "max-batch-size"
    ∷ codes "idle-timeout" ∷ codes "read-header-timeout" ∷ codes "min-rate" ∷ codes "stall-timeout"
    ∷ codes "dial-timeout" ∷ codes "response-header-timeout" ∷ codes "shutdown-timeout"
    ∷ codes "metrics-path" ∷ codes "reuse-port" ∷ codes "exit-on-stdin-eof" ∷ []

-- ---- numbers

-- those that have a number
abbrev pub serve_numbers : List Ranged
serve_numbers =
    option.MaxEventSize ∷ option.Bays ∷ option.Connections
    ∷ option.BatchBuffer ∷ option.BatchMaxSize ∷ option.BatchMaxWait ∷ option.MaxBatchSize
    ∷ option.IdleTimeout ∷ option.ReadHeaderTimeout ∷ option.MinRate ∷ option.StallTimeout
    ∷ option.DialTimeout ∷ option.ResponseHeaderTimeout ∷ option.ShutdownTimeout ∷ []

-- each of them that is given has a number
unfoldable pub numbers_of : List Named → Result (Unit {0}) ServeFault
numbers_of given = if have_numbers serve_numbers given then Ok tt else Err (Words Usage)

abbrev pub in_words : {A : Type 0} → Result A WordsFault → Result A ServeFault
in_words (Ok a) = Ok a
in_words (Err fault) = Err (Words fault)

-- the number of an option, in its range
unfoldable pub number_in : Ranged → List Named → Result ℕ WordsFault
number_in option given = number_given option given >>= in_range option

abbrev pub ranged : Ranged → List Named → Result ℕ ServeFault
ranged option given = in_words (number_in option given)

-- ---- sinks

abbrev pub mode_named : List ℕ → Option SinkMode
mode_named text =
    if bytes_eq text (codes "batch") then Some sink.Batch
    else if bytes_eq text (codes "blocking") then Some sink.Blocking
    else if bytes_eq text (codes "blocking-strict") then Some sink.Strict
    else None

-- without a sink there is no mode
abbrev pub sink_off : Option (List ℕ) → Result SinkWords ServeFault
sink_off None = Ok (record { target = None; mode = sink.Off })
sink_off (Some mode) = Err (Words Usage)

abbrev pub mode_of : SinkMode → Option (List ℕ) → Result SinkMode ServeFault
mode_of default None = Ok default
mode_of default (Some text) = found_or (Words Usage) (mode_named text)

-- a sink by its path or URL and its mode, both as they are given
abbrev pub sink_by : SinkMode → Option (List ℕ) → Option (List ℕ) → Result SinkWords ServeFault
sink_by default None mode = sink_off mode
sink_by default (Some target) mode = mode_of default mode >>= (λ own. Ok (record { target = Some target; mode = own }))

-- an address of this machine alone: its first byte is 127 (RFC 1122, section 3.2.1.3)
abbrev pub is_loopback : List ℕ → Bool
is_loopback ip = starts_with nat_eq ip (127 ∷ [])

-- all addresses of this machine, where it is listened at
abbrev pub is_any : List ℕ → Bool
is_any ip = bytes_eq ip (0 ∷ 0 ∷ 0 ∷ 0 ∷ [])

-- who dials the second address reaches who listens at the first one, by the addresses alone: they are the same; or all are listened at
-- and this machine is dialed; or 0.0.0.0 is dialed, which Linux leads to 127.0.0.1
abbrev pub is_same_host : List ℕ → List ℕ → Bool
is_same_host listened dialed =
    bytes_eq listened dialed
    || (is_any listened && is_loopback dialed
    || is_any dialed && bytes_eq listened (127 ∷ 0 ∷ 0 ∷ 1 ∷ []))

abbrev pub reaches : Address → Address → Bool
reaches listen hook = nat_eq listen.port hook.port && is_same_host listen.ip hook.ip

-- whom a URL names isn't who listens
abbrev pub not_own : Address → List ℕ → Address → Result (Unit {0}) ServeFault
not_own listen url hook = if reaches listen hook then Err (OwnWebhook url) else Ok tt

abbrev pub hook_at : Address → List ℕ → Option HookUrl → Result (Unit {0}) ServeFault
hook_at listen url None = Err (Webhook url)
hook_at listen url (Some hook) = not_own listen url hook.address

-- a webhook can have this URL, and it doesn't lead to the address that is listened at
unfoldable pub webhook_at : Address → List ℕ → Result (Unit {0}) ServeFault
webhook_at listen url = hook_at listen url (hook_named url)

abbrev pub webhook_of : Address → Option (List ℕ) → Result (Unit {0}) ServeFault
webhook_of listen None = Ok tt
webhook_of listen (Some url) = webhook_at listen url

-- ---- what is told

-- port 8001 of this machine alone
abbrev pub default_address : Address
default_address = record { ip = 127 ∷ 0 ∷ 0 ∷ 1 ∷ []; port = 8001 }

abbrev pub listen_of : Option (List ℕ) → Result Address ServeFault
listen_of None = Ok default_address
listen_of (Some text) = found_or (Listen text) (address_of text)

unfoldable pub batch_by : List Named → Result BatchWords ServeFault
batch_by given = do
  buffer ← ranged option.BatchBuffer given
  max_lines ← ranged option.BatchMaxSize given
  max_wait_ms ← ranged option.BatchMaxWait given
  max_bytes ← ranged option.MaxBatchSize given
  Ok (record { buffer = buffer; max_lines = max_lines; max_wait_ms = max_wait_ms; max_bytes = max_bytes })

-- the limits of the ports that options give; the others are those of a server that nobody tuned
unfoldable pub limits_by : List Named → Result TcpLimits ServeFault
limits_by given = do
  idle_timeout ← ranged option.IdleTimeout given
  read_header_timeout ← ranged option.ReadHeaderTimeout given
  min_rate ← ranged option.MinRate given
  stall_timeout ← ranged option.StallTimeout given
  dial_timeout ← ranged option.DialTimeout given
  response_header_timeout ← ranged option.ResponseHeaderTimeout given
  shutdown_timeout ← ranged option.ShutdownTimeout given
  Ok (record DEFAULT_LIMITS {
    idle_timeout = idle_timeout;
    read_header_timeout = read_header_timeout;
    min_rate = min_rate;
    stall_timeout = stall_timeout;
    dial_timeout = dial_timeout;
    response_header_timeout = response_header_timeout;
    shutdown_timeout = shutdown_timeout;
  })

-- what `serve` is told by its options. Numbers and modes are read before ranges are looked at, and the URL comes last
unfoldable pub serve_by : List Named → Result ServeWords ServeFault
serve_by given = do
  numbers ← numbers_of given
  log ← sink_by sink.Blocking (value_of (codes "audit-log-path") given) (value_of (codes "audit-log-mode") given)
  webhook ← sink_by sink.Batch (value_of (codes "audit-webhook-url") given) (value_of (codes "audit-webhook-mode") given)
  max_event ← ranged option.MaxEventSize given
  listen ← listen_of (value_of (codes "listen") given)
  bays ← ranged option.Bays given
  connections ← ranged option.Connections given
  batch ← batch_by given
  limits ← limits_by given
  checked ← webhook_of listen webhook.target
  Ok (record {
    files = file_names given;
    max_event = max_event;
    listen = listen;
    bays = bays;
    connections = connections;
    log = log;
    webhook = webhook;
    batch = batch;
    limits = limits;
    metrics_path = value_of (codes "metrics-path") given;
    reuse_port = is_some (value_of (codes "reuse-port") given);
    exit_on_stdin_eof = is_some (value_of (codes "exit-on-stdin-eof") given);
  })

-- numbers in the ranges of their options, as far as a run rests on them
pub record IsFit (words : ServeWords) : Type 0 where
  pub some : 1 ≤ words.bays
  pub few : words.bays ≤ 1024
  pub buffer : 1 ≤ words.batch.buffer
  pub lines : 1 ≤ words.batch.max_lines
  pub max : words.max_event ≤ 4194304

-- the words where each flag is an option in one word
unfoldable pub with_flags : List (List ℕ) → Result (List (List ℕ)) WordsFault
with_flags words = with_flag (codes "exit-on-stdin-eof") words >>= with_flag (codes "reuse-port")

-- the same by words where each flag is an option in one word
unfoldable pub serve_given : List (List ℕ) → Result ServeWords ServeFault
serve_given words = in_words (given_of serve_names words) >>= serve_by

unfoldable pub serve_of : List (List ℕ) → Result ServeWords ServeFault
serve_of words = in_words (with_flags words) >>= serve_given

-- what words ask for: the command's word, and its options
unfoldable pub serve_command : List (List ℕ) → Result ServeWords ServeFault
serve_command [] = Err (Words Usage)
serve_command (word ∷ words) = if bytes_eq word (codes "serve") then serve_of words else Err (Words Usage)

-- ---- answers

abbrev pub is_memory : ServeFault → Bool
is_memory (Words fault) = options.is_memory fault
is_memory (Listen text) = false
is_memory (Webhook text) = false
is_memory (OwnWebhook text) = false

-- what is answered, seen by view, is what is due, unless memory ran out
abbrev pub Gives : {A B : Type 0} → (A → B) → Result A ServeFault → Result B ServeFault → Type 0
Gives = results.Gives is_memory
