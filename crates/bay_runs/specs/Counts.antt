-- How the ends of connections are counted.
use Rattle.std.specs.Prelude.{ℕ, ◌+◌, ◌-◌, ◌^◌, min, List, [], ◌∷◌}
use Rattle.bay_runs.specs.declared.end_counts.EndCounts.{EndCounts}
use Rattle.http_edge.specs.declared.request.End.{End}
use Rattle.http_edge.specs.declared.request.End.TheVariants as end
use Rattle.session_core.specs.declared.conn_end.ConnEnd.{ConnEnd}
use Rattle.session_core.specs.declared.conn_end.ConnEnd.TheVariants as conn_end

-- one more, but a count stays at the last value of its type
abbrev pub one_more : ℕ → ℕ
one_more n = min (n + 1) (2 ^ 64 - 1)

abbrev pub no_ends : EndCounts
no_ends = record {
  ended = 0;
  asked = 0;
  bad_head = 0;
  head_too_large = 0;
  bad_framing = 0;
  body_too_large = 0;
  cut_short = 0;
  read_fault = 0;
  write_fault = 0;
  backend_cut = 0;
  stream_spent = 0;
  numbers_spent = 0;
  no_memory = 0;
}

-- one more of those that ended since no more requests came
abbrev pub stop_counted : EndCounts → End → EndCounts
stop_counted counts end.Ended = record counts { ended = one_more counts.ended }
stop_counted counts end.Asked = record counts { asked = one_more counts.asked }
stop_counted counts end.BadHead = record counts { bad_head = one_more counts.bad_head }
stop_counted counts end.HeadTooLarge = record counts { head_too_large = one_more counts.head_too_large }
stop_counted counts end.BadFraming = record counts { bad_framing = one_more counts.bad_framing }
stop_counted counts end.BodyTooLarge = record counts { body_too_large = one_more counts.body_too_large }
stop_counted counts end.CutShort = record counts { cut_short = one_more counts.cut_short }

-- one more connection that ended so
abbrev pub counted : EndCounts → ConnEnd → EndCounts
counted counts (conn_end.Stopped stop) = stop_counted counts stop
counted counts conn_end.ReadFault = record counts { read_fault = one_more counts.read_fault }
counted counts conn_end.WriteFault = record counts { write_fault = one_more counts.write_fault }
counted counts conn_end.BackendCut = record counts { backend_cut = one_more counts.backend_cut }
counted counts conn_end.StreamSpent = record counts { stream_spent = one_more counts.stream_spent }
counted counts conn_end.NumbersSpent = record counts { numbers_spent = one_more counts.numbers_spent }
counted counts conn_end.NoMemory = record counts { no_memory = one_more counts.no_memory }

-- connections that ended so, one after another
abbrev pub all_counted : EndCounts → List ConnEnd → EndCounts
all_counted counts [] = counts
all_counted counts (end ∷ ends) = all_counted (counted counts end) ends
