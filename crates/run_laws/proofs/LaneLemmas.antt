-- What the lanes of bays tell.
use Rattle.std.proofs.Common.{◌≡◌, ◌+◌, ◌-◌, ◌^◌, ◌≤◌, ◌<◌, min, ◌⊎◌, inl, inr, ℕ, zero, suc, List, [], ◌∷◌, ◌++◌, length, map, slice_get, Option, Some, None, IfSome, Bool, refl, sym, ap, ◌∙◌, subst, arith}
use Rattle.std.specs.Prelude.{option_map}
use Rattle.any_lane.specs.Lanes.{any_tells}
use Rattle.any_lane.specs.declared.lane.AnyLane.{AnyLane}
use Rattle.audit_core.specs.Offers.{Due}
use Rattle.audit_core.specs.declared.offers.OfferNote.{OfferNote}
use Rattle.audit_core.specs.declared.offers.Outcome.{Outcome}
use Rattle.audit_core.specs.declared.settings.Settings.{Settings}
use Rattle.audit_core.specs.declared.sinks.Sink.{Sink}
use Rattle.audit_core.specs.declared.sinks.Sink.TheVariants.{Log, Webhook}
use Rattle.audit_core.specs.declared.sinks.SinkMode.{SinkMode}
use Rattle.audit_core.specs.declared.sinks.SinkMode.TheVariants.{Blocking, Strict}
use Rattle.bay_runs.specs.Runs.{exchanges_of}
use Rattle.connection_laws.specs.Whole.{count_of, is_full, offered_in, offers_in}
use Rattle.event_offers.specs.Lanes.{LanesState}
use Rattle.event_offers.specs.Offering.{OffersAll}
use Rattle.event_offers.specs.Taken.{is_taken, is_tried, lane_of, lines_for}
use Rattle.front_base.specs.Line.{Line}
use Rattle.front_plants.specs.Fresh.{SinkOpens}
use Rattle.front_ports.specs.Told.{Grows}
use Rattle.front_ports.specs.declared.clock.Clock as clocks
use Rattle.serve_bays.specs.Served.{IsDrained, IsOwn, SinkServed}
use Rattle.serve_bays.specs.declared.options.RunOptions.{RunOptions}
use Rattle.run_laws.specs.Told.{BatchedLines, BatchesAre, BatchesTell, TriedLines, TriesTell}
use Rattle.run_laws.proofs.FullLemmas.{all_fulls, both_none}
use Rattle.run_laws.proofs.SinkLemmas.{NewSends, Stays, all_stays, own_sent, own_single}
use Rattle.run_laws.proofs.TellLemmas.{bay_told}
use Rattle.serve_roles.specs.Doors.{BayHandles}
use Rattle.serve_roles.specs.declared.bay_end.BayEnd.{BayEnd}
use Rattle.serve_runs.specs.Served.{BayServed, exchanges_if}
use Rattle.session_core.specs.declared.exchange.Exchange.{Exchange}
use Rattle.shared_queue.specs.Bays.{of_bay}
use Rattle.sink_lanes.specs.Lanes.{own_lane}
use Rattle.sink_lanes.specs.Together.{ToldQueued}
use Rattle.sink_lanes.specs.declared.ending.SinkEnd.{SinkEnd}
use Rattle.truncate_backend.specs.Told.{CountsBy, Joined}
use Rattle.truncate_backend.specs.Tries.{Try, lines_of}
use Rattle.truncate_backend.specs.declared.sink.BatchSink as sinks

-- ---- lists that were empty

grows_all : {T : Type 0} (a b : Option (List T)) (more : List T) → IfSome a (λ xs. xs ≡ []) → Grows a b more → IfSome b (λ xs. xs ≡ more)
grows_all None b more f g = subst (λ z. IfSome z (λ xs. xs ≡ more)) (sym g) tt
grows_all (Some w) None more f g = tt
grows_all (Some w) (Some v) more f g = g ∙ ap (λ l. l ++ more) f

-- what is known of a list that is told
told_is : {T : Type 0} (a : Option (List T)) (xs ys : List T) → IfSome a (λ z. z ≡ ys) → a ≡ Some xs → xs ≡ ys
told_is a xs ys f e = subst (λ z. IfSome z (λ w. w ≡ ys)) e f

some_at : {A : Type 0} (P : A → Type 0) (o : Option A) (x : A) → IfSome o P → o ≡ Some x → P x
some_at P o x f e = subst (λ z. IfSome z P) e f

counted_one : (before more after : ℕ) → CountsBy before more after → before ≡ 0 → 0 < more → 0 < after
counted_one before more after c new p = let e = c (omega (arith, new)) in omega (arith, e, new, p)

counted_all : (before more after last : ℕ) → CountsBy before more after → before ≡ 0 → after ≡ last → last ≡ min more (2 ^ 64 - 1)
counted_all before more after last c new e = let n = c (omega (arith, new)) in omega (arith, n, new, e)

-- the laws that are called
abbrev Accepts : Type 0
Accepts = (sink : Sink) (dues : List Due) (m n : LanesState) (notes : List OfferNote)
    → OffersAll dues m notes n
    → Joined (lane_of sink m).tells.accepted (lines_for is_taken sink m.bay (lane_of sink m).lines dues notes) (lane_of sink n).tells.accepted

abbrev Tries : Type 0
Tries = (sink : Sink) (dues : List Due) (m n : LanesState) (notes : List OfferNote)
    → OffersAll dues m notes n
    → Joined (lane_of sink m).tells.tried (lines_for is_tried sink m.bay (lane_of sink m).lines dues notes) (lane_of sink n).tells.tried

abbrev Fills : Type 0
Fills = (sink : Sink) (dues : List Due) (m n : LanesState) (notes : List OfferNote)
    → OffersAll dues m notes n
    → CountsBy (lane_of sink m).tells.fulls (count_of is_full sink notes) (lane_of sink n).tells.fulls

-- the lines of a bay's offers, by its number, from its first line on
lines_from : (keeps : Outcome → Bool) (sink : Sink) (bay k before : ℕ) (dues : List Due) (notes : List OfferNote) → bay ≡ k → before ≡ 0
    → lines_for keeps sink bay before dues notes ≡ lines_for keeps sink k 0 dues notes
lines_from keeps sink bay k before dues notes e f =
    ap (λ x. lines_for keeps sink x before dues notes) e ∙ ap (λ x. lines_for keeps sink k x dues notes) f

-- lanes of a sink that is written to at once
pub are_own : {S T K : Type 0} (s : sinks.Ghosts S) (k : clocks.Ghosts K) (opens : SinkOpens) (mode : SinkMode) (options : RunOptions) (allots : List ℕ) (lanes : List (AnyLane S T)) (end : SinkEnd S K)
    → (mode ≡ Blocking) ⊎ (mode ≡ Strict) → SinkServed s k opens mode options.bays options.buffer allots options.limits lanes end
    → IsOwn options.bays lanes end
are_own s k opens mode options allots lanes end (inl e) h = subst (λ m. SinkServed s k opens m options.bays options.buffer allots options.limits lanes end) e h
are_own s k opens mode options allots lanes end (inr e) h = subst (λ m. SinkServed s k opens m options.bays options.buffer allots options.limits lanes end) e h

module _ {R L N W H T K Y D C : Type 0} (h : BayHandles R L N W H K Y D C) (set : Settings) (log_new hook_new : SinkOpens) (boot : ℕ) (due : ℕ → Option (List C))
    (tables : List R) (logs : List (AnyLane W T)) (hooks : List (AnyLane H T)) where
  -- ---- batches

  log_batched : (accepts : Accepts) (fills : Fills) (capacity : ℕ) (allots : List ℕ) (put : List Line) (k : ℕ) (end : BayEnd R L K Y D)
      (b : BayServed h set log_new hook_new boot due tables logs hooks k end) → ToldQueued h.log capacity allots k put b.log
      → BatchedLines h set Log capacity allots put (exchanges_of b.runs.all) k end
  log_batched accepts fills capacity allots put k end b q =
      let t = b.told in
      let dues = offered_in set (exchanges_of b.runs.all) in
      let notes = offers_in (exchanges_of b.runs.all) in
      let own = accepts Log dues b.m.lanes b.n.lanes notes t.offered in
      let all = grows_all b.m.lanes.log.tells.accepted b.n.lanes.log.tells.accepted _ b.opens.lanes.0.none_accepted own.grows in
      record {
        told = bay_told h set log_new hook_new boot due tables logs hooks k end b;
        lines = told_is b.n.lanes.log.tells.accepted put _ all (ap (λ n. n.lanes.log.tells.accepted) b.ends ∙ q.accepted_is)
            ∙ lines_from is_taken Log b.m.lanes.bay k b.m.lanes.log.lines dues notes b.opens.bay_is b.opens.lines.0;
        full = λ some. q.full (subst (λ x. 0 < x) (ap (λ n. n.lanes.log.tells.fulls) b.ends)
            (counted_one b.m.lanes.log.tells.fulls _ b.n.lanes.log.tells.fulls (fills Log dues b.m.lanes b.n.lanes notes t.offered) b.opens.lanes.0.no_full some));
      }

  hook_batched : (accepts : Accepts) (fills : Fills) (capacity : ℕ) (allots : List ℕ) (put : List Line) (k : ℕ) (end : BayEnd R L K Y D)
      (b : BayServed h set log_new hook_new boot due tables logs hooks k end) → ToldQueued h.hook capacity allots k put b.hook
      → BatchedLines h set Webhook capacity allots put (exchanges_of b.runs.all) k end
  hook_batched accepts fills capacity allots put k end b q =
      let t = b.told in
      let dues = offered_in set (exchanges_of b.runs.all) in
      let notes = offers_in (exchanges_of b.runs.all) in
      let own = accepts Webhook dues b.m.lanes b.n.lanes notes t.offered in
      let all = grows_all b.m.lanes.hook.tells.accepted b.n.lanes.hook.tells.accepted _ b.opens.lanes.1.none_accepted own.grows in
      record {
        told = bay_told h set log_new hook_new boot due tables logs hooks k end b;
        lines = told_is b.n.lanes.hook.tells.accepted put _ all (ap (λ n. n.lanes.hook.tells.accepted) b.ends ∙ q.accepted_is)
            ∙ lines_from is_taken Webhook b.m.lanes.bay k b.m.lanes.hook.lines dues notes b.opens.bay_is b.opens.lines.1;
        full = λ some. q.full (subst (λ x. 0 < x) (ap (λ n. n.lanes.hook.tells.fulls) b.ends)
            (counted_one b.m.lanes.hook.tells.fulls _ b.n.lanes.hook.tells.fulls (fills Webhook dues b.m.lanes b.n.lanes notes t.offered) b.opens.lanes.1.no_full some));
      }

  -- of a bay, by its exchanges
  by_exchanges : (Q : List Exchange → BayEnd R L K Y D → Type 0) (k : ℕ) (o : Option (BayEnd R L K Y D))
      (s : IfSome o (BayServed h set log_new hook_new boot due tables logs hooks k))
      → ((x : BayEnd R L K Y D) (b : BayServed h set log_new hook_new boot due tables logs hooks k x) → Q (exchanges_of b.runs.all) x)
      → IfSome o (Q (exchanges_if h set log_new hook_new boot due tables logs hooks k o s))
  by_exchanges Q k None s f = tt
  by_exchanges Q k (Some x) s f = f x s

  none_at : (k : ℕ) (o : Option (BayEnd R L K Y D)) (s : IfSome o (BayServed h set log_new hook_new boot due tables logs hooks k)) → o ≡ None
      → exchanges_if h set log_new hook_new boot due tables logs hooks k o s ≡ []
  none_at k None s e = refl
  none_at k (Some x) s e = absurd cc

  -- of bays, the exchanges of each
  abbrev pub exchanges_by : (bays : List (BayEnd R L K Y D))
      → ((k : ℕ) → IfSome (slice_get bays k) (BayServed h set log_new hook_new boot due tables logs hooks k)) → ℕ → List Exchange
  exchanges_by bays served k = exchanges_if h set log_new hook_new boot due tables logs hooks k (slice_get bays k) (served k)

  pub none_left : (bays : List (BayEnd R L K Y D)) (served : (k : ℕ) → IfSome (slice_get bays k) (BayServed h set log_new hook_new boot due tables logs hooks k))
      (k : ℕ) → slice_get bays k ≡ None → exchanges_by bays served k ≡ []
  none_left bays served k e = none_at k (slice_get bays k) (served k) e

  -- ---- how often lanes were Full

  log_fulls : (fills : Fills) (k : ℕ) (o : Option (BayEnd R L K Y D)) (s : IfSome o (BayServed h set log_new hook_new boot due tables logs hooks k))
      → (o ≡ None → slice_get logs k ≡ None)
      → IfSome (slice_get logs k) (λ l. (any_tells h.log l).fulls
      ≡ min (count_of is_full Log (offers_in (exchanges_if h set log_new hook_new boot due tables logs hooks k o s))) (2 ^ 64 - 1))
  log_fulls fills k None s none =
      subst (λ z. IfSome z (λ l. (any_tells h.log l).fulls ≡ min (count_of is_full Log (offers_in [])) (2 ^ 64 - 1))) (sym (none refl)) tt
  log_fulls fills k (Some x) b none =
      let notes = offers_in (exchanges_of b.runs.all) in
      subst (λ z. IfSome z (λ l. (any_tells h.log l).fulls ≡ min (count_of is_full Log notes) (2 ^ 64 - 1))) (sym b.log_is)
      (counted_all b.m.lanes.log.tells.fulls _ b.n.lanes.log.tells.fulls _
      (fills Log (offered_in set (exchanges_of b.runs.all)) b.m.lanes b.n.lanes notes b.told.offered) b.opens.lanes.0.no_full
      (ap (λ n. n.lanes.log.tells.fulls) b.ends))

  hook_fulls : (fills : Fills) (k : ℕ) (o : Option (BayEnd R L K Y D)) (s : IfSome o (BayServed h set log_new hook_new boot due tables logs hooks k))
      → (o ≡ None → slice_get hooks k ≡ None)
      → IfSome (slice_get hooks k) (λ l. (any_tells h.hook l).fulls
      ≡ min (count_of is_full Webhook (offers_in (exchanges_if h set log_new hook_new boot due tables logs hooks k o s))) (2 ^ 64 - 1))
  hook_fulls fills k None s none =
      subst (λ z. IfSome z (λ l. (any_tells h.hook l).fulls ≡ min (count_of is_full Webhook (offers_in [])) (2 ^ 64 - 1))) (sym (none refl)) tt
  hook_fulls fills k (Some x) b none =
      let notes = offers_in (exchanges_of b.runs.all) in
      subst (λ z. IfSome z (λ l. (any_tells h.hook l).fulls ≡ min (count_of is_full Webhook notes) (2 ^ 64 - 1))) (sym b.hook_is)
      (counted_all b.m.lanes.hook.tells.fulls _ b.n.lanes.hook.tells.fulls _
      (fills Webhook (offered_in set (exchanges_of b.runs.all)) b.m.lanes b.n.lanes notes b.told.offered) b.opens.lanes.1.no_full
      (ap (λ n. n.lanes.hook.tells.fulls) b.ends))

  pub log_batches : (accepts : Accepts) (fills : Fills) (options : RunOptions) (allots : List ℕ) (bays : List (BayEnd R L K Y D)) (end : SinkEnd W K)
      → length bays ≡ options.bays → (served : (k : ℕ) → IfSome (slice_get bays k) (BayServed h set log_new hook_new boot due tables logs hooks k))
      → IsDrained h.log h.clock log_new options.bays options.buffer allots options.limits logs end
      → BatchesTell h h.log log_new set Log options allots (exchanges_by bays served) bays end
  log_batches accepts fills options allots bays end count served d = record {
    allotted = d.allotted;
    drain = d.drain;
    drain_is = d.drain_is;
    tries = d.tries;
    told = d.told;
    within = d.within;
    noted = d.noted;
    each = λ k. by_exchanges (λ xs. BatchedLines h set Log options.buffer allots (of_bay k (lines_of d.tries)) xs k) k (slice_get bays k) (served k)
        (λ x b. log_batched accepts fills options.buffer allots (of_bay k (lines_of d.tries)) k x b
        (some_at (ToldQueued h.log options.buffer allots k (of_bay k (lines_of d.tries))) (slice_get logs k) b.log (d.accepted k) b.log_is));
    others = d.others;
    sent = d.sent;
    in_time = d.in_time;
    fulls_are = all_fulls h.log Log (exchanges_by bays served) logs d.drain.fulls options.bays d.fulls_are d.count
        (λ k. log_fulls fills k (slice_get bays k) (served k) (both_none bays logs k (d.count ∙ sym count)));
    timed = d.timed;
  }

  pub hook_batches : (accepts : Accepts) (fills : Fills) (options : RunOptions) (allots : List ℕ) (bays : List (BayEnd R L K Y D)) (end : SinkEnd H K)
      → length bays ≡ options.bays → (served : (k : ℕ) → IfSome (slice_get bays k) (BayServed h set log_new hook_new boot due tables logs hooks k))
      → IsDrained h.hook h.clock hook_new options.bays options.buffer allots options.limits hooks end
      → BatchesTell h h.hook hook_new set Webhook options allots (exchanges_by bays served) bays end
  hook_batches accepts fills options allots bays end count served d = record {
    allotted = d.allotted;
    drain = d.drain;
    drain_is = d.drain_is;
    tries = d.tries;
    told = d.told;
    within = d.within;
    noted = d.noted;
    each = λ k. by_exchanges (λ xs. BatchedLines h set Webhook options.buffer allots (of_bay k (lines_of d.tries)) xs k) k (slice_get bays k) (served k)
        (λ x b. hook_batched accepts fills options.buffer allots (of_bay k (lines_of d.tries)) k x b
        (some_at (ToldQueued h.hook options.buffer allots k (of_bay k (lines_of d.tries))) (slice_get hooks k) b.hook (d.accepted k) b.hook_is));
    others = d.others;
    sent = d.sent;
    in_time = d.in_time;
    fulls_are = all_fulls h.hook Webhook (exchanges_by bays served) hooks d.drain.fulls options.bays d.fulls_are d.count
        (λ k. hook_fulls fills k (slice_get bays k) (served k) (both_none bays hooks k (d.count ∙ sym count)));
    timed = d.timed;
  }

  pub log_batches_are : (accepts : Accepts) (fills : Fills) (options : RunOptions) (allots : List ℕ) (bays : List (BayEnd R L K Y D)) (end : SinkEnd W K)
      (count : length bays ≡ options.bays) (served : (k : ℕ) → IfSome (slice_get bays k) (BayServed h set log_new hook_new boot due tables logs hooks k))
      → (d : IsDrained h.log h.clock log_new options.bays options.buffer allots options.limits logs end)
      → BatchesAre h h.log log_new set Log options allots (exchanges_by bays served) bays end d.tries
  unfolding log_batches
  log_batches_are accepts fills options allots bays end count served d = record {
    told = log_batches accepts fills options allots bays end count served d;
    tries_are = refl;
  }

  pub hook_batches_are : (accepts : Accepts) (fills : Fills) (options : RunOptions) (allots : List ℕ) (bays : List (BayEnd R L K Y D)) (end : SinkEnd H K)
      (count : length bays ≡ options.bays) (served : (k : ℕ) → IfSome (slice_get bays k) (BayServed h set log_new hook_new boot due tables logs hooks k))
      → (d : IsDrained h.hook h.clock hook_new options.bays options.buffer allots options.limits hooks end)
      → BatchesAre h h.hook hook_new set Webhook options allots (exchanges_by bays served) bays end d.tries
  unfolding hook_batches
  hook_batches_are accepts fills options allots bays end count served d = record {
    told = hook_batches accepts fills options allots bays end count served d;
    tries_are = refl;
  }

  -- ---- tries of a bay's own sink

  own_in : {S : Type 0} (own : List S) (k : ℕ) (l : AnyLane S T) → slice_get (map own_lane own) k ≡ Some l
      → (to : S) × (slice_get own k ≡ Some to) × (l ≡ own_lane to)
  own_in [] k l e = absurd cc
  own_in (s ∷ own) zero l e = (s, refl, cc)
  own_in (s ∷ own) (suc k) l e = own_in own k l e

  own_at : {S : Type 0} (own : List S) (lanes : List (AnyLane S T)) (k : ℕ) (l : AnyLane S T) → lanes ≡ map own_lane own → slice_get lanes k ≡ Some l
      → (to : S) × (slice_get own k ≡ Some to) × (l ≡ own_lane to)
  own_at own lanes k l e f = own_in own k l (sym (ap (λ z. slice_get z k) e) ∙ f)

  tries_told : (tries : Option (List Try)) (ls : List Line) → IfSome (option_map lines_of tries) (λ xs. xs ≡ ls) → IfSome tries (λ ts. lines_of ts ≡ ls)
  tries_told None ls f = tt
  tries_told (Some ts) ls f = f

  log_tried : (sends : NewSends) (stays : Stays) (tries : Tries) (own : List W) (k : ℕ) (end : BayEnd R L K Y D) (b : BayServed h set log_new hook_new boot due tables logs hooks k end)
      → logs ≡ map own_lane own → TriedLines h h.log log_new set Log own (exchanges_of b.runs.all) k end
  log_tried sends stays tries own k end b e =
      let t = b.told in
      let dues = offered_in set (exchanges_of b.runs.all) in
      let notes = offers_in (exchanges_of b.runs.all) in
      let mine = own_at own logs k b.log e b.log_is in
      let joined = tries Log dues b.m.lanes b.n.lanes notes t.offered in
      let all = grows_all b.m.lanes.log.tells.tried b.n.lanes.log.tells.tried _ b.opens.lanes.0.none_tried joined.grows in
      let at_end = ap (λ n. n.lanes.log.tells.tried) b.ends ∙ ap (λ l. (any_tells h.log l).tried) mine.2 in
      let kept = all_stays stays Log dues b.m.lanes b.n.lanes notes t.offered in
      let own_is = ap (λ n. n.lanes.log.tells.sink) b.ends ∙ ap (λ l. (any_tells h.log l).sink) mine.2 in
      record {
        told = bay_told h set log_new hook_new boot due tables logs hooks k end b;
        to = mine.0;
        to_is = mine.1;
        lines = tries_told (h.log.tells mine.0).tries _
            (subst (λ ls. IfSome (option_map lines_of (h.log.tells mine.0).tries) (λ xs. xs ≡ ls))
            (lines_from is_tried Log b.m.lanes.bay k b.m.lanes.log.lines dues notes b.opens.bay_is b.opens.lines.0)
            (subst (λ z. IfSome z (λ xs. xs ≡ lines_for is_tried Log b.m.lanes.bay b.m.lanes.log.lines dues notes)) at_end all));
        single = own_single stays log_new b.m.lanes.log.tells.sink b.n.lanes.log.tells.sink (h.log.tells mine.0) b.opens.lanes.0.new kept own_is;
        sent = own_sent sends log_new b.m.lanes.log.tells.sink b.n.lanes.log.tells.sink (h.log.tells mine.0) b.opens.lanes.0.new kept own_is;
      }

  hook_tried : (sends : NewSends) (stays : Stays) (tries : Tries) (own : List H) (k : ℕ) (end : BayEnd R L K Y D) (b : BayServed h set log_new hook_new boot due tables logs hooks k end)
      → hooks ≡ map own_lane own → TriedLines h h.hook hook_new set Webhook own (exchanges_of b.runs.all) k end
  hook_tried sends stays tries own k end b e =
      let t = b.told in
      let dues = offered_in set (exchanges_of b.runs.all) in
      let notes = offers_in (exchanges_of b.runs.all) in
      let mine = own_at own hooks k b.hook e b.hook_is in
      let joined = tries Webhook dues b.m.lanes b.n.lanes notes t.offered in
      let all = grows_all b.m.lanes.hook.tells.tried b.n.lanes.hook.tells.tried _ b.opens.lanes.1.none_tried joined.grows in
      let at_end = ap (λ n. n.lanes.hook.tells.tried) b.ends ∙ ap (λ l. (any_tells h.hook l).tried) mine.2 in
      let kept = all_stays stays Webhook dues b.m.lanes b.n.lanes notes t.offered in
      let own_is = ap (λ n. n.lanes.hook.tells.sink) b.ends ∙ ap (λ l. (any_tells h.hook l).sink) mine.2 in
      record {
        told = bay_told h set log_new hook_new boot due tables logs hooks k end b;
        to = mine.0;
        to_is = mine.1;
        lines = tries_told (h.hook.tells mine.0).tries _
            (subst (λ ls. IfSome (option_map lines_of (h.hook.tells mine.0).tries) (λ xs. xs ≡ ls))
            (lines_from is_tried Webhook b.m.lanes.bay k b.m.lanes.hook.lines dues notes b.opens.bay_is b.opens.lines.1)
            (subst (λ z. IfSome z (λ xs. xs ≡ lines_for is_tried Webhook b.m.lanes.bay b.m.lanes.hook.lines dues notes)) at_end all));
        single = own_single stays hook_new b.m.lanes.hook.tells.sink b.n.lanes.hook.tells.sink (h.hook.tells mine.0) b.opens.lanes.1.new kept own_is;
        sent = own_sent sends hook_new b.m.lanes.hook.tells.sink b.n.lanes.hook.tells.sink (h.hook.tells mine.0) b.opens.lanes.1.new kept own_is;
      }

  pub log_tries : (sends : NewSends) (stays : Stays) (tries : Tries) (count : ℕ) (bays : List (BayEnd R L K Y D)) (end : SinkEnd W K)
      (served : (k : ℕ) → IfSome (slice_get bays k) (BayServed h set log_new hook_new boot due tables logs hooks k))
      → IsOwn count logs end → TriesTell h h.log log_new set Log (exchanges_by bays served) bays end
  log_tries sends stays tries count bays end served o =
      λ k. by_exchanges (λ xs. TriedLines h h.log log_new set Log end.own.items xs k) k (slice_get bays k) (served k)
      (λ x b. log_tried sends stays tries end.own.items k x b o.lanes_are)

  pub hook_tries : (sends : NewSends) (stays : Stays) (tries : Tries) (count : ℕ) (bays : List (BayEnd R L K Y D)) (end : SinkEnd H K)
      (served : (k : ℕ) → IfSome (slice_get bays k) (BayServed h set log_new hook_new boot due tables logs hooks k))
      → IsOwn count hooks end → TriesTell h h.hook hook_new set Webhook (exchanges_by bays served) bays end
  hook_tries sends stays tries count bays end served o =
      λ k. by_exchanges (λ xs. TriedLines h h.hook hook_new set Webhook end.own.items xs k) k (slice_get bays k) (served k)
      (λ x b. hook_tried sends stays tries end.own.items k x b o.lanes_are)
