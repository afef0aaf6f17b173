use Rattle.front_ports.proofs.ClockLemmas.{told_grow, told_lose}
use Rattle.front_ports.proofs.mem_clock.MemClockClock.now.Goals as goal

pub returns-clause-given : goal.returns-clause-given
returns-clause-given c = told_grow _ _ _ _ _ c.saturating_add-self.ensures c.step_on-moment.ensures

pub returns-clause-told : goal.returns-clause-told
returns-clause-told c = told_lose _ _ _ _ c.saturating_add-self.ensures
