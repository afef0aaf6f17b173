-- What the handles of a plant in memory tell, and routes of one bay's own.
use Rattle.std.specs.Prelude.{ℕ, Some}
use Rattle.apiservice_table.specs.Changes.{placed}
use Rattle.apiservice_table.specs.declared.routes.Routes as routes
use Rattle.apiservice_table.specs.declared.table_routes.TableRoutes.{TableRoutes}
use Rattle.front_plants.specs.MemorySinks.{mem_log_tells, mem_hook_tells}
use Rattle.front_ports.specs.Mark.{visitor_mark, visitor_wishes}
use Rattle.front_ports.specs.Memory.{MemConn, conn_from, conn_wishes, duplex_left, duplex_written, duplex_read_faults, duplex_write_faults, input_side, output_side}
use Rattle.front_ports.specs.MemoryClock.{clock_given, clock_last, clock_rests}
use Rattle.front_ports.specs.MemoryDial.{dial_calls, dial_faults, dial_link_faults}
use Rattle.front_ports.specs.MemoryDoor.{door_closes, door_faults, door_given, door_left}
use Rattle.front_ports.specs.declared.clock.Clock as clocks
use Rattle.front_ports.specs.declared.dial.Dial as dials
use Rattle.front_ports.specs.declared.door.Door as doors
use Rattle.front_ports.specs.declared.mem_bytes.MemBytes.{MemBytes}
use Rattle.front_ports.specs.declared.mem_clock.MemClock.{MemClock}
use Rattle.front_ports.specs.declared.mem_dial.MemDial.{MemDial}
use Rattle.front_ports.specs.declared.mem_door.MemDoor.{MemDoor}
use Rattle.front_ports.specs.declared.mem_duplex.MemDuplex.{MemDuplex}
use Rattle.front_ports.specs.declared.stream.ByteSink as byte_sinks
use Rattle.front_ports.specs.declared.stream.Conn as conns
use Rattle.front_ports.specs.declared.stream.Source as sources
use Rattle.log_sink.specs.declared.log.LogSink.{LogSink}
use Rattle.serve_roles.specs.Doors.{BayHandles}
use Rattle.session_core.specs.Diaries.{may_note, noted}
use Rattle.session_core.specs.declared.diary.Diary as diaries
use Rattle.session_core.specs.declared.diary.MemDiary.{MemDiary}
use Rattle.truncate_backend.specs.declared.mem_notes.MemNotes.{MemNotes}
use Rattle.truncate_backend.specs.declared.sink.BatchSink as sinks
use Rattle.webhook_sink.specs.declared.webhook.WebhookSink.{WebhookSink}

-- a link, by what marks it
abbrev pub MemLink : Type 0
MemLink = MemDuplex ℕ

-- the rows before any change, the changes, and all of them as the bay's own
abbrev pub own_routes : routes.Ghosts TableRoutes
own_routes = record { opening = λ t. t.opening; seen = λ t. t.seen; own = λ t. placed 0 t.seen }

abbrev pub mem_dial : dials.Ghosts MemDial MemLink
mem_dial = record { calls = dial_calls; faults = dial_faults; link_faults = dial_link_faults }

abbrev pub mem_log : sinks.Ghosts (LogSink MemBytes MemNotes)
mem_log = record { tells = mem_log_tells }

abbrev pub mem_hook : sinks.Ghosts (WebhookSink MemDial MemNotes)
mem_hook = record { tells = mem_hook_tells }

abbrev pub mem_clock : clocks.Ghosts MemClock
mem_clock = record { last = clock_last; given = clock_given; rests = clock_rests }

abbrev pub mem_diary : diaries.Ghosts MemDiary
mem_diary = record { notes = λ d. Some (noted d); has_room = may_note }

abbrev pub mem_door : doors.Ghosts MemDoor MemConn
mem_door = record { left = λ d. Some (door_left d); given = λ d. Some (door_given d); closes = door_closes; faults = door_faults }

abbrev pub conn_source : sources.Ghosts MemConn
conn_source = record { left = λ c. Some (duplex_left c); read_faults = duplex_read_faults; outward = λ c. output_side (visitor_mark c.mark) (visitor_wishes c.mark) c }

abbrev pub conn_sink : byte_sinks.Ghosts MemConn
conn_sink = record { written = λ c. Some (duplex_written c); write_faults = duplex_write_faults; inward = λ c. input_side (visitor_mark c.mark) (visitor_wishes c.mark) c }

abbrev pub mem_conn : conns.Ghosts MemConn
mem_conn = record { from = conn_from; wishes = λ c. Some (conn_wishes c) }

-- all of them
abbrev pub mem_handles : BayHandles TableRoutes MemDial MemLink (LogSink MemBytes MemNotes) (WebhookSink MemDial MemNotes) MemClock MemDiary MemDoor MemConn
mem_handles = record {
  routes = own_routes;
  dial = mem_dial;
  log = mem_log;
  hook = mem_hook;
  clock = mem_clock;
  diary = mem_diary;
  door = mem_door;
  source = conn_source;
  sink = conn_sink;
  conn = mem_conn;
}
