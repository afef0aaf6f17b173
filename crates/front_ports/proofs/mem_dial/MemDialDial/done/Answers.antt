use Rattle.std.proofs.Common.{◌<◌, ◌∙◌, length, arith}
use Rattle.front_ports.proofs.DialLemmas.{sent_noted}
use Rattle.front_ports.proofs.mem_dial.MemDialDial.done.Goals as goal

pub returns-then-number-len-clause-noted : goal.returns-then-number-len-clause-noted
returns-then-number-len-clause-noted c =
    let within : c.number-number.result < length c.args.self.now.calls.items = omega arith in
    sent_noted _ _ _ _ _ _ _ within c.number-number.ensures c.index_mut.ensures.value (c.new.ensures ∙ c.into_output.ensures)
