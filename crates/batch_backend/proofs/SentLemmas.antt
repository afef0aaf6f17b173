-- What the sink's port was given stays what the tries sent.
use Rattle.std.proofs.Common.{◌≡◌, ℕ, List, [], ◌∷◌, Option, Ok, Err, inl, inr, sym, subst}
use Rattle.std.specs.Prelude.{Result, ⊤}
use Rattle.front_base.specs.Line.{Line}
use Rattle.truncate_backend.specs.Outlets.{OutletTells}
use Rattle.truncate_backend.specs.Tries.{SinkTells, KeepsSent, Tried}
use Rattle.truncate_backend.specs.declared.tries.SinkFault.{SinkFault}
use Rattle.batch_backend.specs.Batches.{Pending, Drained}
use Rattle.batch_backend.specs.Flushes.{Pumps}
use Rattle.batch_backend.specs.Pumps.{PumpedAs, Put, PutAfter}
use Rattle.batch_backend.specs.declared.pumped.Pumped.{Pumped}
use Rattle.batch_backend.specs.declared.pumped.Pumped.TheVariants.{Took, Wrote, Lost, Waiting, Idle}

-- as the law of `truncate_backend` states it
pub record SentLaws : Type 0 where
  pub one : (m n : SinkTells) (lines : List Line) (result : Result ⊤ SinkFault) → Tried m lines result n → KeepsSent m n
  pub none : (m : SinkTells) → KeepsSent m m
  pub join : (a b c : SinkTells) → KeepsSent a b → KeepsSent b c → KeepsSent a c

module _ (law : SentLaws) where
  same_sent : (s t : SinkTells) → t ≡ s → KeepsSent s t
  same_sent s t e = subst (KeepsSent s) (sym e) (law.none s)

  pub put_sent : (s t : SinkTells) (lines : List Line) (answer : Pumped) → Put s lines answer t → KeepsSent s t
  put_sent s t lines (Wrote n) p = law.one s t lines (Ok tt) p.1
  put_sent s t lines (Lost n) p = law.one s t lines (Err p.1.0) p.1.1
  put_sent s t lines Took p = absurd p
  put_sent s t lines Waiting p = absurd p
  put_sent s t lines Idle p = absurd p

  after_sent : (p : Pending) (popped : Option Line) (s t : SinkTells) (lines : List Line) (answer : Pumped)
      → PutAfter p popped s lines answer t → KeepsSent s t
  after_sent p popped s t [] answer h = same_sent s t h.1
  after_sent p popped s t (l ∷ ls) answer h = put_sent s t (l ∷ ls) answer h

  pub pump_sent : (d e : Drained) (now : ℕ) (o n : OutletTells) (s t : SinkTells) (answer : Pumped)
      → PumpedAs d now o s answer e n t → KeepsSent s t
  pump_sent d e now o n s t answer (inl r) = put_sent s t d.pending.lines answer r.put
  pump_sent d e now o n s t answer (inr r) = after_sent d.pending r.line s t _ answer r.put

  pub pumps_sent : (answers : List Pumped) (d e : Drained) (now : ℕ) (o n : OutletTells) (s t : SinkTells)
      → Pumps answers d now o s e n t → KeepsSent s t
  pumps_sent [] d e now o n s t p = same_sent s t p.2
  pumps_sent (answer ∷ before) d e now o n s t (f, (m, (u, (p, a)))) =
      law.join s u t (pumps_sent before d f now o m s u p) (pump_sent f e now m n u t answer a)
