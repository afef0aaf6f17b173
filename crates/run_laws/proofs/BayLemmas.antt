-- What bays keep.
use Rattle.std.proofs.Common.{◌≡◌, ◌<◌, ℕ, true, zero, suc, List, [], ◌∷◌, length, map, slice_get, Option, Some, None, IfSome, refl, sym, ap, ◌∙◌, subst}
use Rattle.any_lane.specs.Lanes.{any_queued, any_tells}
use Rattle.any_lane.specs.declared.lane.AnyLane.{AnyLane}
use Rattle.audit_core.specs.declared.settings.Settings.{Settings}
use Rattle.audit_core.specs.declared.sinks.Sink.TheVariants.{Log, Webhook}
use Rattle.bay_runs.specs.Runs.{exchanges_of}
use Rattle.connection_laws.specs.Whole.{offered_in, offers_in}
use Rattle.front_base.specs.Line.{Line}
use Rattle.front_plants.specs.Fresh.{SinkOpens}
use Rattle.serve_bays.specs.Served.{IsDrained, IsOwn}
use Rattle.serve_bays.specs.declared.options.RunOptions.{RunOptions}
use Rattle.run_laws.specs.Kept.{BatchesKeepAll, KeepsBatched, KeepsOwn, TriesKeepAll}
use Rattle.run_laws.proofs.DrainLemmas.{batches_keep, some_at}
use Rattle.run_laws.proofs.KeptLaneLemmas.{Accepts, Fails, Fills, Tries, account, keeps_put, lane_offered, own_taken, own_written, room_for_all}
use Rattle.run_laws.proofs.KeptTellLemmas.{bay_told}
use Rattle.serve_roles.specs.Doors.{BayHandles}
use Rattle.serve_roles.specs.declared.bay_end.BayEnd.{BayEnd}
use Rattle.serve_runs.specs.Served.{BayServed, exchanges_if}
use Rattle.session_core.specs.declared.exchange.Exchange.{Exchange}
use Rattle.shared_queue.specs.Bays.{of_bay}
use Rattle.sink_lanes.specs.Lanes.{own_lane}
use Rattle.sink_lanes.specs.Together.{ToldQueued}
use Rattle.sink_lanes.specs.declared.ending.SinkEnd.{SinkEnd}
use Rattle.truncate_backend.specs.Tries.{lines_of}

-- ---- a lane over a bay's own sink

own_in : {S T : Type 0} (own : List S) (k : ℕ) (l : AnyLane S T) → slice_get (map own_lane own) k ≡ Some l
    → (to : S) × (slice_get own k ≡ Some to) × (l ≡ own_lane to)
own_in [] k l e = absurd cc
own_in (s ∷ own) zero l e = (s, refl, cc)
own_in (s ∷ own) (suc k) l e = own_in own k l e

own_at : {S T : Type 0} (own : List S) (lanes : List (AnyLane S T)) (k : ℕ) (l : AnyLane S T) → lanes ≡ map own_lane own → slice_get lanes k ≡ Some l
    → (to : S) × (slice_get own k ≡ Some to) × (l ≡ own_lane to)
own_at own lanes k l e f = own_in own k l (sym (ap (λ z. slice_get z k) e) ∙ f)

module _ {R L N W H T K Y D C : Type 0} (h : BayHandles R L N W H K Y D C) (set : Settings) (log_new hook_new : SinkOpens) (boot : ℕ) (due : ℕ → Option (List C))
    (tables : List R) (logs : List (AnyLane W T)) (hooks : List (AnyLane H T)) where
  abbrev Served : ℕ → BayEnd R L K Y D → Type 0
  Served k end = BayServed h set log_new hook_new boot due tables logs hooks k end

  -- of a bay, by its exchanges
  by_exchanges : (Q : List Exchange → BayEnd R L K Y D → Type 0) (k : ℕ) (o : Option (BayEnd R L K Y D)) (s : IfSome o (Served k))
      → ((x : BayEnd R L K Y D) (b : BayServed h set log_new hook_new boot due tables logs hooks k x) → Q (exchanges_of b.runs.all) x)
      → IfSome o (Q (exchanges_if h set log_new hook_new boot due tables logs hooks k o s))
  by_exchanges Q k None s f = tt
  by_exchanges Q k (Some x) s f = f x s

  -- of bays, the exchanges of each
  abbrev pub exchanges_by : (bays : List (BayEnd R L K Y D)) → ((k : ℕ) → IfSome (slice_get bays k) (Served k)) → ℕ → List Exchange
  exchanges_by bays served k = exchanges_if h set log_new hook_new boot due tables logs hooks k (slice_get bays k) (served k)

  -- ---- batches

  log_keeps : (accepts : Accepts) (fills : Fills) (capacity : ℕ) (allots : List ℕ) (put : List Line) (k : ℕ) (end : BayEnd R L K Y D)
      (b : BayServed h set log_new hook_new boot due tables logs hooks k end) → ToldQueued h.log capacity allots k put b.log
      → any_queued b.log ≡ true → KeepsBatched h set Log capacity allots put (exchanges_of b.runs.all) k end
  log_keeps accepts fills capacity allots put k end b q queue =
      let t = b.told in
      let dues = offered_in set (exchanges_of b.runs.all) in
      let queued = sym t.lanes.log.queued ∙ ap (λ n. n.lanes.log.queued) b.ends ∙ queue in
      let notes = offers_in (exchanges_of b.runs.all) in
      let none = b.opens.lanes.0.none_accepted in
      let is = ap (λ n. n.lanes.log.tells.accepted) b.ends ∙ q.accepted_is in
      record {
        told = bay_told h set log_new hook_new boot due tables logs hooks k end b;
        offered = sym (ap (λ n. n.lanes.log.lines) b.ends)
            ∙ lane_offered Log dues b.m.lanes b.n.lanes notes k t.offered b.opens.bay_is b.opens.lines.0;
        account = account Log dues b.m.lanes b.n.lanes notes k t.offered b.opens.bay_is b.opens.lines.0 accepts fills put none b.opens.lanes.0.no_full is queued;
        none_full = room_for_all Log dues b.m.lanes b.n.lanes notes k t.offered b.opens.bay_is b.opens.lines.0 accepts fills put none b.opens.lanes.0.no_full is queued
            capacity allots (λ some. q.full (subst (λ x. 0 < x) (ap (λ n. n.lanes.log.tells.fulls) b.ends) some));
        keeps = keeps_put Log dues b.m.lanes b.n.lanes notes k t.offered b.opens.bay_is b.opens.lines.0 accepts fills put none b.opens.lanes.0.no_full is queued;
      }

  hook_keeps : (accepts : Accepts) (fills : Fills) (capacity : ℕ) (allots : List ℕ) (put : List Line) (k : ℕ) (end : BayEnd R L K Y D)
      (b : BayServed h set log_new hook_new boot due tables logs hooks k end) → ToldQueued h.hook capacity allots k put b.hook
      → any_queued b.hook ≡ true → KeepsBatched h set Webhook capacity allots put (exchanges_of b.runs.all) k end
  hook_keeps accepts fills capacity allots put k end b q queue =
      let t = b.told in
      let dues = offered_in set (exchanges_of b.runs.all) in
      let queued = sym t.lanes.hook.queued ∙ ap (λ n. n.lanes.hook.queued) b.ends ∙ queue in
      let notes = offers_in (exchanges_of b.runs.all) in
      let none = b.opens.lanes.1.none_accepted in
      let is = ap (λ n. n.lanes.hook.tells.accepted) b.ends ∙ q.accepted_is in
      record {
        told = bay_told h set log_new hook_new boot due tables logs hooks k end b;
        offered = sym (ap (λ n. n.lanes.hook.lines) b.ends)
            ∙ lane_offered Webhook dues b.m.lanes b.n.lanes notes k t.offered b.opens.bay_is b.opens.lines.1;
        account = account Webhook dues b.m.lanes b.n.lanes notes k t.offered b.opens.bay_is b.opens.lines.1 accepts fills put none b.opens.lanes.1.no_full is queued;
        none_full = room_for_all Webhook dues b.m.lanes b.n.lanes notes k t.offered b.opens.bay_is b.opens.lines.1 accepts fills put none b.opens.lanes.1.no_full is queued
            capacity allots (λ some. q.full (subst (λ x. 0 < x) (ap (λ n. n.lanes.hook.tells.fulls) b.ends) some));
        keeps = keeps_put Webhook dues b.m.lanes b.n.lanes notes k t.offered b.opens.bay_is b.opens.lines.1 accepts fills put none b.opens.lanes.1.no_full is queued;
      }

  pub log_batches : (accepts : Accepts) (fills : Fills) (options : RunOptions) (allots : List ℕ) (bays : List (BayEnd R L K Y D)) (end : SinkEnd W K)
      → length bays ≡ options.bays → (served : (k : ℕ) → IfSome (slice_get bays k) (Served k))
      → IsDrained h.log h.clock log_new options.bays options.buffer allots options.limits logs end
      → BatchesKeepAll h h.log set Log options allots (exchanges_by bays served) bays end
  log_batches accepts fills options allots bays end count served d =
      batches_keep h h.log set Log options allots (exchanges_by bays served) bays end logs count d
      (λ k. by_exchanges (λ xs. KeepsBatched h set Log options.buffer allots (of_bay k (lines_of d.tries)) xs k) k (slice_get bays k) (served k)
      (λ x b. log_keeps accepts fills options.buffer allots (of_bay k (lines_of d.tries)) k x b
      (some_at (ToldQueued h.log options.buffer allots k (of_bay k (lines_of d.tries))) (slice_get logs k) b.log (d.accepted k) b.log_is)
      (some_at (λ l. any_queued l ≡ true) (slice_get logs k) b.log (d.queued k) b.log_is)))

  pub hook_batches : (accepts : Accepts) (fills : Fills) (options : RunOptions) (allots : List ℕ) (bays : List (BayEnd R L K Y D)) (end : SinkEnd H K)
      → length bays ≡ options.bays → (served : (k : ℕ) → IfSome (slice_get bays k) (Served k))
      → IsDrained h.hook h.clock hook_new options.bays options.buffer allots options.limits hooks end
      → BatchesKeepAll h h.hook set Webhook options allots (exchanges_by bays served) bays end
  hook_batches accepts fills options allots bays end count served d =
      batches_keep h h.hook set Webhook options allots (exchanges_by bays served) bays end hooks count d
      (λ k. by_exchanges (λ xs. KeepsBatched h set Webhook options.buffer allots (of_bay k (lines_of d.tries)) xs k) k (slice_get bays k) (served k)
      (λ x b. hook_keeps accepts fills options.buffer allots (of_bay k (lines_of d.tries)) k x b
      (some_at (ToldQueued h.hook options.buffer allots k (of_bay k (lines_of d.tries))) (slice_get hooks k) b.hook (d.accepted k) b.hook_is)
      (some_at (λ l. any_queued l ≡ true) (slice_get hooks k) b.hook (d.queued k) b.hook_is)))

  -- ---- a bay's own sink

  log_own : (accepts : Accepts) (tries : Tries) (fills : Fills) (fails : Fails) (own : List W) (k : ℕ) (end : BayEnd R L K Y D)
      (b : BayServed h set log_new hook_new boot due tables logs hooks k end) → logs ≡ map own_lane own → KeepsOwn h h.log set Log own (exchanges_of b.runs.all) k end
  log_own accepts tries fills fails own k end b e =
      let t = b.told in
      let dues = offered_in set (exchanges_of b.runs.all) in
      let notes = offers_in (exchanges_of b.runs.all) in
      let mine = own_at own logs k b.log e b.log_is in
      let tells = ap (λ n. n.lanes.log.tells) b.ends ∙ ap (any_tells h.log) mine.2 in
      record {
        told = bay_told h set log_new hook_new boot due tables logs hooks k end b;
        to = mine.0;
        to_is = mine.1;
        offered = sym (ap (λ n. n.lanes.log.lines) b.ends)
            ∙ lane_offered Log dues b.m.lanes b.n.lanes notes k t.offered b.opens.bay_is b.opens.lines.0;
        written = own_written Log dues b.m.lanes b.n.lanes notes k t.offered b.opens.bay_is b.opens.lines.0 accepts tries fills fails
            (h.log.tells mine.0) b.opens.lanes.0.none_accepted b.opens.lanes.0.none_tried b.opens.lanes.0.no_full b.opens.lanes.0.no_fault tells;
        taken = own_taken Log dues b.m.lanes b.n.lanes notes k t.offered b.opens.bay_is b.opens.lines.0 accepts tries fills fails
            (h.log.tells mine.0) b.opens.lanes.0.none_accepted b.opens.lanes.0.none_tried b.opens.lanes.0.no_full b.opens.lanes.0.no_fault tells;
      }

  hook_own : (accepts : Accepts) (tries : Tries) (fills : Fills) (fails : Fails) (own : List H) (k : ℕ) (end : BayEnd R L K Y D)
      (b : BayServed h set log_new hook_new boot due tables logs hooks k end) → hooks ≡ map own_lane own → KeepsOwn h h.hook set Webhook own (exchanges_of b.runs.all) k end
  hook_own accepts tries fills fails own k end b e =
      let t = b.told in
      let dues = offered_in set (exchanges_of b.runs.all) in
      let notes = offers_in (exchanges_of b.runs.all) in
      let mine = own_at own hooks k b.hook e b.hook_is in
      let tells = ap (λ n. n.lanes.hook.tells) b.ends ∙ ap (any_tells h.hook) mine.2 in
      record {
        told = bay_told h set log_new hook_new boot due tables logs hooks k end b;
        to = mine.0;
        to_is = mine.1;
        offered = sym (ap (λ n. n.lanes.hook.lines) b.ends)
            ∙ lane_offered Webhook dues b.m.lanes b.n.lanes notes k t.offered b.opens.bay_is b.opens.lines.1;
        written = own_written Webhook dues b.m.lanes b.n.lanes notes k t.offered b.opens.bay_is b.opens.lines.1 accepts tries fills fails
            (h.hook.tells mine.0) b.opens.lanes.1.none_accepted b.opens.lanes.1.none_tried b.opens.lanes.1.no_full b.opens.lanes.1.no_fault tells;
        taken = own_taken Webhook dues b.m.lanes b.n.lanes notes k t.offered b.opens.bay_is b.opens.lines.1 accepts tries fills fails
            (h.hook.tells mine.0) b.opens.lanes.1.none_accepted b.opens.lanes.1.none_tried b.opens.lanes.1.no_full b.opens.lanes.1.no_fault tells;
      }

  pub log_tries : (accepts : Accepts) (tries : Tries) (fills : Fills) (fails : Fails) (count : ℕ) (bays : List (BayEnd R L K Y D)) (end : SinkEnd W K)
      (served : (k : ℕ) → IfSome (slice_get bays k) (Served k)) → IsOwn count logs end → TriesKeepAll h h.log set Log (exchanges_by bays served) bays end
  log_tries accepts tries fills fails count bays end served o =
      λ k. by_exchanges (λ xs. KeepsOwn h h.log set Log end.own.items xs k) k (slice_get bays k) (served k)
      (λ x b. log_own accepts tries fills fails end.own.items k x b o.lanes_are)

  pub hook_tries : (accepts : Accepts) (tries : Tries) (fills : Fills) (fails : Fails) (count : ℕ) (bays : List (BayEnd R L K Y D)) (end : SinkEnd H K)
      (served : (k : ℕ) → IfSome (slice_get bays k) (Served k)) → IsOwn count hooks end → TriesKeepAll h h.hook set Webhook (exchanges_by bays served) bays end
  hook_tries accepts tries fills fails count bays end served o =
      λ k. by_exchanges (λ xs. KeepsOwn h h.hook set Webhook end.own.items xs k) k (slice_get bays k) (served k)
      (λ x b. hook_own accepts tries fills fails end.own.items k x b o.lanes_are)
