use Rattle.std.proofs.Common.{ap, inl, inr, map, option_map, refl, string_bytes}
use Rattle.retry_throttle.specs.Clocks.{clock_tells}
use Rattle.ship_command.proofs.RunLemmas.{refuses}
use Rattle.ship_command.proofs.run.run_ship.Goals as goal

pub returns-in-Ok-clause-run : goal.returns-in-Ok-clause-run
returns-in-Ok-clause-run g c = inr (c.in-Ok.told, c.in-Ok.ensures.gives, c.ship_over.ensures.over)

pub returns-in-Err-clause-run : goal.returns-in-Err-clause-run
returns-in-Err-clause-run g c =
    let n = c.refused.ensures in
    inl (record {
      refused = refuses (map string_bytes c.args.words.now.items) c.in-Err.fault c.refused.result.status c.refused.result.why c.in-Err.ensures.gives n.status n.why;
      no_call = refl;
      early = record {
        no_lines = n.none.0;
        no_sink = ap (option_map g.P.H.BatchSink.tells) n.none.1;
        no_clock = ap (option_map (clock_tells g.P.K.Clock.given g.P.K.Clock.last g.P.K.Clock.rests)) n.none.2;
        unread = refl;
        unwritten = refl;
      };
    })
