-- What alike bays offered, and what their sinks were sent.
use Rattle.std.proofs.Common.{◌≡◌, ◌≤◌, ℕ, Bool, List, [], length, slice_get, Some, None, sym, ap₂, ◌∙◌, subst}
use Rattle.std.proofs.lemmas.Option.{slice_get_past}
use Rattle.alike_exchanges.specs.Alike.{AlikeExchanges}
use Rattle.audit_core.specs.declared.settings.Settings.{Settings}
use Rattle.audit_core.specs.declared.sinks.Sink.{Sink}
use Rattle.connection_laws.specs.Whole.{offered_in, offers_in}
use Rattle.event_offers.specs.Taken.{is_taken, is_tried, lines_for}
use Rattle.front_plants.specs.Fresh.{SinkOpens}
use Rattle.serve_bays.specs.declared.options.RunOptions.{RunOptions}
use Rattle.queue_drain.specs.declared.drain_end.DrainEnd.{DrainEnd}
use Rattle.role_threads.specs.Lists.{AllPairs, IfBoth}
use Rattle.run_laws.specs.Told.{BatchedLines, BatchesTell, TriedLines, TriesTell, lines_by}
use Rattle.alike_runs.specs.AlikeSinks.{AlikeBreaks, AlikeDrains, AlikeOwn, AlikeTurns, SameBytes, SameDrains, SameOwn}
use Rattle.alike_runs.proofs.PairLemmas.{by_place, pairs_at, pairs_of, some_is}
use Rattle.alike_runs.proofs.SinkLemmas.{Cuts, Parts, Singles, cut_of_breaks, same_bytes, same_lines}
use Rattle.serve_roles.specs.Doors.{BayHandles}
use Rattle.serve_roles.specs.declared.bay_end.BayEnd.{BayEnd}
use Rattle.session_core.specs.declared.exchange.Exchange.{Exchange}
use Rattle.shared_queue.specs.Bays.{of_bay}
use Rattle.sink_lanes.specs.declared.ending.SinkEnd.{SinkEnd}
use Rattle.truncate_backend.specs.Tries.{lines_of}
use Rattle.truncate_backend.specs.declared.sink.BatchSink as sinks

-- the laws that are called
abbrev pub Taken : Type 0
Taken = (set : Settings) (sink : Sink) (bay : ℕ) (xs ys : List Exchange) → AllPairs AlikeExchanges xs ys
    → lines_for is_taken sink bay 0 (offered_in set xs) (offers_in xs) ≡ lines_for is_taken sink bay 0 (offered_in set ys) (offers_in ys)

abbrev pub Tried : Type 0
Tried = (set : Settings) (sink : Sink) (bay : ℕ) (xs ys : List Exchange) → AllPairs AlikeExchanges xs ys
    → lines_for is_tried sink bay 0 (offered_in set xs) (offers_in xs) ≡ lines_for is_tried sink bay 0 (offered_in set ys) (offers_in ys)

module _ {R L N W H K Y D C S : Type 0} (h : BayHandles R L N W H K Y D C) (set : Settings) (s : sinks.Ghosts S) (opens : SinkOpens) (sink : Sink)
    (options : RunOptions) (xs ys : ℕ → List Exchange) (bays others : List (BayEnd R L K Y D)) (end other : SinkEnd S K)
    (count : length bays ≡ options.bays) (also : length others ≡ options.bays)
    (alike : (bay : ℕ) → AllPairs AlikeExchanges (xs bay) (ys bay)) where
  -- ---- batches

  -- of each bay both sinks were tried with the same lines
  pub same_bays : (taken : Taken) (allots given : List ℕ) (b : BatchesTell h s opens set sink options allots xs bays end)
      (d : BatchesTell h s opens set sink options given ys others other)
      → (bay : ℕ) → of_bay bay (lines_of b.tries) ≡ of_bay bay (lines_of d.tries)
  same_bays taken allots given b d k =
      by_place (BatchedLines h set sink options.buffer allots (of_bay k (lines_of b.tries)) (xs k) k)
      (BatchedLines h set sink options.buffer given (of_bay k (lines_of d.tries)) (ys k) k)
      (of_bay k (lines_of b.tries) ≡ of_bay k (lines_of d.tries)) bays others k (count ∙ sym also) (b.each k) (d.each k)
      (λ x y p q. p.lines ∙ taken set sink k (xs k) (ys k) (alike k) ∙ sym q.lines)
      (λ past. b.others k (subst (λ n. n ≤ k) count past) ∙ sym (d.others k (subst (λ n. n ≤ k) count past)))

  pub same_drains : (taken : Taken) (sent : Cuts) (parts : Parts) (allots given : List ℕ) → opens.sent ≡ Some (Some []) → BatchesTell h s opens set sink options allots xs bays end
      → BatchesTell h s opens set sink options given ys others other
      → AlikeDrains s end other → SameDrains s end other
  same_drains taken sent parts allots given opened b d a =
      let cut : AlikeTurns (s.tells b.drain.sink) (s.tells d.drain.sink) =
      subst (λ z. IfBoth (λ (a b : DrainEnd S K). AlikeTurns (s.tells a.sink) (s.tells b.sink)) (Some b.drain) z) d.drain_is
      (subst (λ z. IfBoth (λ (a b : DrainEnd S K). AlikeTurns (s.tells a.sink) (s.tells b.sink)) z other.drain) b.drain_is a) in
      let bytes : SameBytes (s.tells b.drain.sink) (s.tells d.drain.sink) =
      same_bytes sent opens (s.tells b.drain.sink) (s.tells d.drain.sink) opened b.sent d.sent cut.tried
      (same_lines parts (s.tells b.drain.sink) (s.tells d.drain.sink) cut b.tries d.tries b.told d.told (same_bays taken allots given b d)) in
      subst (λ z. IfBoth (λ (a b : DrainEnd S K). SameBytes (s.tells a.sink) (s.tells b.sink)) z other.drain) (sym b.drain_is)
      (subst (λ z. IfBoth (λ (a b : DrainEnd S K). SameBytes (s.tells a.sink) (s.tells b.sink)) (Some b.drain) z) (sym d.drain_is) bytes)

  -- ---- a sink of each bay's own

  own_bytes : (tried : Tried) (sent : Cuts) (singles : Singles) → opens.sent ≡ Some (Some []) → (k : ℕ) (x y : BayEnd R L K Y D) (t : TriedLines h s opens set sink end.own.items (xs k) k x)
      (u : TriedLines h s opens set sink other.own.items (ys k) k y) → AlikeBreaks (s.tells t.to) (s.tells u.to)
      → SameBytes (s.tells t.to) (s.tells u.to)
  own_bytes tried sent singles opened k x y t u a =
      same_bytes sent opens (s.tells t.to) (s.tells u.to) opened t.sent u.sent
      (record {
        these = a.these;
        those = a.those;
        told = a.told;
        other_told = a.other_told;
        cut = cut_of_breaks singles (s.tells t.to) (s.tells u.to) t.single u.single a;
      })
      (some_is (s.tells t.to).tries (λ ts. lines_of ts ≡ lines_by is_tried set sink (xs k) k) a.these t.lines a.told
      ∙ tried set sink k (xs k) (ys k) (alike k)
      ∙ sym (some_is (s.tells u.to).tries (λ ts. lines_of ts ≡ lines_by is_tried set sink (ys k) k) a.those u.lines a.other_told))

  pub same_own : (tried : Tried) (sent : Cuts) (singles : Singles) → opens.sent ≡ Some (Some []) → length end.own.items ≡ options.bays → length other.own.items ≡ options.bays
      → TriesTell h s opens set sink xs bays end → TriesTell h s opens set sink ys others other
      → AlikeOwn s end other → SameOwn s end other
  same_own tried sent singles opened m n b d a =
      pairs_of (λ (a b : S). SameBytes (s.tells a) (s.tells b)) end.own.items other.own.items
      (λ k. by_place (TriedLines h s opens set sink end.own.items (xs k) k) (TriedLines h s opens set sink other.own.items (ys k) k)
      (IfBoth (λ (a b : S). SameBytes (s.tells a) (s.tells b)) (slice_get end.own.items k) (slice_get other.own.items k)) bays others k (count ∙ sym also) (b k) (d k)
      (λ x y t u.
      subst (λ z. IfBoth (λ (a b : S). SameBytes (s.tells a) (s.tells b)) z (slice_get other.own.items k)) (sym t.to_is)
      (subst (λ z. IfBoth (λ (a b : S). SameBytes (s.tells a) (s.tells b)) (Some t.to) z) (sym u.to_is)
      (own_bytes tried sent singles opened k x y t u
      (subst (λ z. IfBoth (λ (a b : S). AlikeBreaks (s.tells a) (s.tells b)) (Some t.to) z) u.to_is
      (subst (λ z. IfBoth (λ (a b : S). AlikeBreaks (s.tells a) (s.tells b)) z (slice_get other.own.items k)) t.to_is
      (pairs_at (λ (a b : S). AlikeBreaks (s.tells a) (s.tells b)) end.own.items other.own.items a k))))))
      (λ past.
      subst (λ z. IfBoth (λ (a b : S). SameBytes (s.tells a) (s.tells b)) z (slice_get other.own.items k))
      (sym (slice_get_past end.own.items k (subst (λ n. n ≤ k) (count ∙ sym m) past)))
      (subst (λ z. IfBoth (λ (a b : S). SameBytes (s.tells a) (s.tells b)) None z)
      (sym (slice_get_past other.own.items k (subst (λ n. n ≤ k) (count ∙ sym n) past))) tt)))
