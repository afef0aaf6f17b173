-- What a diary in memory tells.
use Rattle.std.specs.Prelude.{Bool, List, nat_lt, vec_len, vec_capacity}
use Rattle.session_core.specs.declared.diary.MemDiary.{MemDiary}
use Rattle.session_core.specs.declared.exchange.Exchange.{Exchange}

abbrev pub noted : MemDiary → List Exchange
noted d = d.exchanges.items

abbrev pub may_note : MemDiary → Bool
may_note d = nat_lt (vec_len d.exchanges) (vec_capacity d.exchanges)
