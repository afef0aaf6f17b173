-- What becomes of the lanes of a sink.
use Rattle.std.proofs.Common.{◌≡◌, ◌<◌, ◌≤◌, ◌+◌, ◌-◌, ◌^◌, min, ℕ, zero, suc, true, List, [], ◌∷◌, length, map, get_or, slice_get, sum_by, Option, Some, None, IfSome, All, refl, sym, ap, ◌∙◌, subst, arith}
use Rattle.std.proofs.lemmas.List.Sums.{sum_by-cons}
use Rattle.any_lane.specs.Lanes.{any_queued, any_tells}
use Rattle.any_lane.specs.declared.lane.AnyLane.{AnyLane}
use Rattle.any_lane.specs.declared.lane.AnyLane.TheVariants as lane
use Rattle.audit_core.specs.declared.sinks.SinkMode.TheVariants.{Off, Batch, Blocking, Strict}
use Rattle.batch_backend.specs.Batches.{WithinLimits}
use Rattle.batch_backend.specs.declared.limits.Limits.{Limits}
use Rattle.front_base.specs.Line.{Line}
use Rattle.front_plants.specs.Fresh.{Openings, SinkOpens, IsNewSink, SentAll, SentTexts, log_opens}
use Rattle.log_sink.specs.Texts.{log_text}
use Rattle.serve_bays.specs.Lanes.{AreAllotted, AreShared, AreOwn}
use Rattle.serve_bays.specs.Served.{IsDrained, IsOwn, CanAllEnd, AreAllServed}
use Rattle.serve_bays.proofs.Walks.{image_count}
use Rattle.front_ports.specs.declared.clock.Clock as clocks
use Rattle.queue_drain.specs.Drains.{RanDrain, drain_state}
use Rattle.queue_drain.specs.Turns.{EndsInTime}
use Rattle.queue_drain.specs.declared.drain.QueueDrain.{QueueDrain}
use Rattle.queue_drain.specs.declared.drain_end.DrainEnd.{DrainEnd}
use Rattle.role_threads.specs.Lists.{AllPairs, IfBoth}
use Rattle.shared_queue.specs.Lanes.{lane_accepted, lane_fulls}
use Rattle.shared_queue.specs.declared.lane.QueueLane.{QueueLane}
use Rattle.sink_lanes.specs.Ends.{CanEnd, Ends, own_parts, queued_part, queued_parts, some_first}
use Rattle.sink_lanes.specs.Lanes.{own_lane, queue_lane}
use Rattle.sink_lanes.specs.Together.{SameAny, StayTogether, StaysTogether, ToldQueued}
use Rattle.sink_lanes.specs.declared.ending.SinkEnd.{SinkEnd}
use Rattle.truncate_backend.specs.Told.{JoinedEach}
use Rattle.truncate_backend.specs.Tries.{Try, SinkTells, SentAfter, SentBy, KeepsSent, IsNoted, IsDone, lines_of, sent_bytes, texts_of}
use Rattle.truncate_backend.specs.declared.sink.BatchSink as sinks

pairs_count : {A B : Type 0} (T : A → B → Type 0) (xs : List A) (ys : List B) → AllPairs T xs ys → length ys ≡ length xs
pairs_count T [] [] p = refl
pairs_count T [] (y ∷ ys) p = absurd p
pairs_count T (x ∷ xs) [] p = absurd p
pairs_count T (x ∷ xs) (y ∷ ys) p = ap suc (pairs_count T xs ys p.1)

past : {A : Type 0} (xs : List A) (k : ℕ) (d : A) → length xs ≤ k → get_or xs k d ≡ d
past [] k d h = refl
past (x ∷ xs) zero d h = absurd (omega arith)
past (x ∷ xs) (suc k) d h = past xs k d (omega arith)

few_first : {A : Type 0} (o : Option A) (xs : List A) → length (some_first o xs) ≤ length xs + 1
few_first None xs = omega arith
few_first (Some x) xs = omega arith

module _ {S R : Type 0} where
  few_parts : (xs : List (AnyLane S R)) → length (queued_parts xs) ≤ length xs
  few_parts [] = omega arith
  few_parts (x ∷ xs) = let a = few_parts xs in let b = few_first (queued_part x) (queued_parts xs) in omega arith

  -- lanes over sinks of their own stay such
  own_after : (own : List S) (after : List (AnyLane S R)) → AllPairs SameAny (map own_lane own) after → after ≡ map own_lane (own_parts after)
  own_after [] [] p = refl
  own_after [] (x ∷ after) p = absurd p
  own_after (s ∷ own) [] p = absurd p
  own_after (s ∷ own) (lane.Off failed ∷ after) p = let q = p.0.home in absurd cc
  own_after (s ∷ own) (lane.Queue l ∷ after) p = let q = p.0.queued in absurd cc
  own_after (s ∷ own) (lane.Own o ∷ after) p = ap (λ z. lane.Own o ∷ z) (own_after own after p.1)

  -- lanes of a queue stay such
  queued_after : (queue : List (QueueLane R)) (after : List (AnyLane S R)) → AllPairs SameAny (map queue_lane queue) after
      → (bay : ℕ) → IfSome (slice_get after bay) (λ l. any_queued l ≡ true)
  queued_after [] [] p bay = tt
  queued_after [] (x ∷ after) p bay = absurd p
  queued_after (q ∷ queue) [] p bay = absurd p
  queued_after (q ∷ queue) (x ∷ after) p zero = p.0.queued
  queued_after (q ∷ queue) (x ∷ after) p (suc bay) = queued_after queue after p.1 bay

-- how often lanes of a queue answered Full
fulls_in : {S R : Type 0} (s : sinks.Ghosts S) (lanes : List (AnyLane S R)) → ((bay : ℕ) → IfSome (slice_get lanes bay) (λ l. any_queued l ≡ true))
    → sum_by (λ (l : AnyLane S R). (any_tells s l).fulls) lanes ≡ sum_by lane_fulls (queued_parts lanes)
fulls_in s [] q = refl
fulls_in s (lane.Off failed ∷ lanes) q = let h = q zero in absurd cc
fulls_in {S = S} {R = R} s (lane.Queue l ∷ lanes) q =
    sum_by-cons (λ (l : AnyLane S R). (any_tells s l).fulls) (lane.Queue l) lanes
    ∙ (ap (λ n. lane_fulls l + n) (fulls_in s lanes (λ bay. q (suc bay))) ∙ sym (sum_by-cons lane_fulls l (queued_parts lanes)))
fulls_in s (lane.Own o ∷ lanes) q = let h = q zero in absurd cc

-- a new sink that made no try was given nothing
none_sent : (text : List Line → List ℕ) (sent : Option (Option (List ℕ))) (tries : Option (List Try)) → sent ≡ Some (Some [])
    → IfSome tries (λ ts. ts ≡ []) → SentAfter [] text sent tries
none_sent text sent None e h = subst (λ (z : Option (Option (List ℕ))). SentAfter [] text z None) (sym e) tt
none_sent text sent (Some ts) e h =
    subst (λ (z : Option (Option (List ℕ))). SentAfter [] text z (Some ts)) (sym e)
    (subst (λ (z : List Try). SentAfter [] text (Some (Some [])) (Some z)) (sym h) refl)

-- the laws of `truncate_backend` on new sinks that are called
pub record NewLaws : Type 0 where
  pub first : (text : List Line → List ℕ) (a b : Option (List Try)) → IfSome a (λ ts. ts ≡ []) → JoinedEach (IsNoted text) a b
      → IfSome b (All (IsNoted text))
  pub texts : (text : List Line → List ℕ) (ts : List Try) → All (IsNoted text) ts → SentBy text ts (sent_bytes text ts)

abbrev pub JoinsSent : Type 0
JoinsSent = (a b c : SinkTells) → KeepsSent a b → KeepsSent b c → KeepsSent a c

sent_texts : NewLaws → (text : List Line → List ℕ) (sent : Option (Option (List ℕ))) (tries : Option (List Try)) → SentAfter [] text sent tries
    → IfSome tries (All (IsNoted text)) → SentTexts text sent tries
sent_texts laws text None tries h n = absurd h
sent_texts laws text (Some None) tries h n = tt
sent_texts laws text (Some (Some bytes)) None h n = tt
sent_texts laws text (Some (Some bytes)) (Some ts) h n = subst (SentBy text ts) (sym h) (laws.texts text ts n)

pub sent_all : NewLaws → (opens : SinkOpens) (m n : SinkTells) → IsNewSink opens m → KeepsSent m n → SentAll opens n
sent_all laws opens m n new keeps =
    let text : n.text ≡ opens.text = keeps.text_is ∙ new.text_is in
    let bytes : opens.sent ≡ Some (Some []) → SentAfter [] opens.text n.sent n.tries =
    λ e.
    subst (λ (z : List Line → List ℕ). SentAfter [] z n.sent n.tries) text
    (keeps.follows [] (none_sent m.text m.sent m.tries (new.sent_is ∙ e) new.no_try)) in
    let noted : IfSome n.tries (All (IsNoted opens.text)) =
    subst (λ (z : List Line → List ℕ). IfSome n.tries (All (IsNoted z))) new.text_is
    (laws.first m.text m.tries n.tries new.no_try keeps.noted) in
    record {
      text_is = text;
      bytes = bytes;
      noted = noted;
      written = λ e. sent_texts laws opens.text n.sent n.tries (bytes e) noted;
    }

-- ---- where each try is Done

given_is : (opens : SinkOpens) (sink : SinkTells) (tries : List Try) (bytes : List ℕ) → SentAll opens sink → opens.sent ≡ Some (Some [])
    → sink.tries ≡ Some tries → sink.sent ≡ Some (Some bytes) → (bytes ≡ sent_bytes opens.text tries) × All (IsNoted opens.text) tries
given_is opens sink tries bytes all e t s =
    let after : SentAfter [] opens.text sink.sent (Some tries) =
    subst (λ (z : Option (List Try)). SentAfter [] opens.text sink.sent z) t (all.bytes e) in (
      subst (λ (z : Option (Option (List ℕ))). SentAfter [] opens.text z (Some tries)) s after,
      subst (λ (z : Option (List Try)). IfSome z (All (IsNoted opens.text))) t all.noted,
    )

pub done_texts : ((text : List Line → List ℕ) (ts : List Try) → All (IsNoted text) ts → All IsDone ts → sent_bytes text ts ≡ texts_of text ts)
    → (opens : SinkOpens) (sink : SinkTells) (tries : List Try) (bytes : List ℕ) → SentAll opens sink → opens.sent ≡ Some (Some [])
    → sink.tries ≡ Some tries → sink.sent ≡ Some (Some bytes) → All IsDone tries → bytes ≡ texts_of opens.text tries
done_texts done opens sink tries bytes all e t s d =
    let given = given_is opens sink tries bytes all e t s in
    given.0 ∙ done opens.text tries given.1 d

pub done_log : ((ts : List Try) → All (IsNoted log_text) ts → All IsDone ts → sent_bytes log_text ts ≡ log_text (lines_of ts))
    → (opens : Openings) (sink : SinkTells) (tries : List Try) (bytes : List ℕ) → SentAll (log_opens opens) sink → opens.log ≡ Some (Some [])
    → sink.tries ≡ Some tries → sink.sent ≡ Some (Some bytes) → All IsDone tries → bytes ≡ log_text (lines_of tries)
done_log done opens sink tries bytes all e t s d =
    let given = given_is (log_opens opens) sink tries bytes all e t s in
    given.0 ∙ done tries given.1 d

module _ {S R K : Type 0} (s : sinks.Ghosts S) (clock : clocks.Ghosts K) (opens : SinkOpens) (laws : NewLaws) (join : JoinsSent) (stay : StaysTogether S R K s clock) where
  -- where there is no drainer, nothing is left of one
  none_ran : (drain ran : Option (QueueDrain S R K)) → drain ≡ None → IfBoth (RanDrain s clock) drain ran → ran ≡ None
  none_ran None None e b = refl
  none_ran None (Some d) e b = absurd b
  none_ran (Some d) ran e b = absurd cc

  none_left : (queue : List (QueueLane R)) (ran : Option (QueueDrain S R K)) (o : Option (DrainEnd S K)) → ran ≡ None → Ends s clock queue ran o → o ≡ None
  none_left queue None None e x = refl
  none_left queue None (Some d) e x = absurd x
  none_left queue (Some d) o e x = absurd cc

  none_ends : (queue : List (QueueLane R)) (ran : Option (QueueDrain S R K)) → ran ≡ None → CanEnd s clock queue ran
  none_ends queue ran e = subst (CanEnd s clock queue) (sym e) tt

  own_served : (bays : ℕ) (before after : List (AnyLane S R)) (drain ran : Option (QueueDrain S R K)) (end : SinkEnd S K)
      → AreOwn s opens bays before drain → AllPairs SameAny before after → IfBoth (RanDrain s clock) drain ran
      → end.own.items ≡ own_parts after → Ends s clock (queued_parts after) ran end.drain → IsOwn bays after end
  own_served bays before after drain ran end a p b o x =
      let q = subst (λ z. AllPairs SameAny z after) a.lanes_are p in
      let are = own_after a.own after q in
      let n = pairs_count SameAny (map own_lane a.own) after q in
      let m = image_count (own_lane {S = S} {R = R}) a.own in
      let k = ap length are ∙ image_count (own_lane {S = S} {R = R}) (own_parts after) in
      record {
        lanes_are = are ∙ ap (map own_lane) (sym o);
        count = omega (arith, ap length o, n, m, k, a.count);
        no_drain = none_left (queued_parts after) ran end.drain (none_ran drain ran a.no_drain b) x;
      }

  some_drained : (bays capacity : ℕ) (allots : List ℕ) (limits : Limits) (sink : SinkTells) (after : List (AnyLane S R)) (ran : Option (QueueDrain S R K))
      (end : SinkEnd S K) (o : Option (DrainEnd S K)) (d : QueueDrain S R K) → end.drain ≡ o → AreAllotted opens.allots bays allots → length after ≡ bays
      → ((bay : ℕ) → IfSome (slice_get after bay) (λ l. any_queued l ≡ true))
      → IfBoth (RanDrain s clock) (Some d) ran → IsNewSink opens sink → StayTogether s clock capacity allots limits sink after ran
      → Ends s clock (queued_parts after) ran o → IsDrained s clock opens bays capacity allots limits after end
  some_drained bays capacity allots limits sink after None end o d e n m q b new t x = absurd b
  some_drained bays capacity allots limits sink after (Some r) end None d e n m q b new t x = absurd x
  some_drained bays capacity allots limits sink after (Some r) end (Some left) d e n m q b new t (x, sent, timed) = record {
    allotted = n;
    drain = left;
    drain_is = e;
    tries = x.tries;
    told = x.told;
    count = m;
    queued = q;
    accepted = λ bay. subst (λ z. IfSome (slice_get after bay) (ToldQueued s capacity allots bay z)) (x.bays bay) (t.told bay);
    others = λ bay lt.
        let few = few_parts after in
        let same = image_count lane_accepted (queued_parts after) in
        sym (x.bays bay) ∙ past (map lane_accepted (queued_parts after)) bay [] (omega (arith, few, same, m, lt));
    within = subst (λ z. All (λ (t : Try). WithinLimits z t.lines) x.tries) t.limits_are x.within;
    unwritten = x.unwritten;
    each = x.each;
    written_is = x.written_is;
    lost_is = x.lost_is;
    faults_are = x.faults_are;
    refusals_are = x.refusals_are;
    cause = x.cause;
    fulls_are = x.fulls_are ∙ ap (λ n. min n (2 ^ 64 - 1)) (sym (fulls_in s after q));
    noted = subst (λ (z : List Line → List ℕ). All (IsNoted z) x.tries) (sent.text_is ∙ (t.sent.text_is ∙ new.text_is)) x.noted;
    sent = sent_all laws opens sink (s.tells left.sink) new (join sink (drain_state s clock r).sink (s.tells left.sink) t.sent sent);
    in_time = subst (λ (z : Limits). EndsInTime z left.began left.ended (clock.given left.clock) x.tries) t.limits_are x.in_time;
    timed = timed;
  }

  batch_served : (bays capacity : ℕ) (allots : List ℕ) (limits : Limits) (before after : List (AnyLane S R)) (drain ran : Option (QueueDrain S R K)) (end : SinkEnd S K)
      → AreShared s clock opens bays capacity allots limits before drain → AllPairs SameAny before after → IfBoth (RanDrain s clock) drain ran
      → Ends s clock (queued_parts after) ran end.drain → IsDrained s clock opens bays capacity allots limits after end
  batch_served bays capacity allots limits before after drain ran end a p b x =
      let t = stay capacity allots limits a.sink before after drain ran a.queued p b in
      let n = pairs_count SameAny before after p in
      let m : length before ≡ bays =
      ap length a.queued.lanes_are ∙ (image_count queue_lane a.queued.queue ∙ (a.queued.new.count ∙ a.allotted.count)) in
      some_drained bays capacity allots limits a.sink after ran end end.drain a.queued.drained refl a.allotted (n ∙ m)
      (queued_after a.queued.queue after (subst (λ z. AllPairs SameAny z after) a.queued.lanes_are p))
      (subst (λ z. IfBoth (RanDrain s clock) z ran) a.queued.drain_is b) a.new t x

module _ {S R K : Type 0} (s : sinks.Ghosts S) (clock : clocks.Ghosts K) (laws : NewLaws) (join : JoinsSent) (stay : StaysTogether S R K s clock) where
  pub can_all_end : CanAllEnd S R K s clock
  can_all_end opens Off bays capacity allots limits before after drain ran a p b = none_ends s clock opens laws join stay (queued_parts after) ran (none_ran s clock opens laws join stay drain ran a.no_drain b)
  can_all_end opens Batch bays capacity allots limits before after drain ran a p b =
      (stay capacity allots limits a.sink before after drain ran a.queued p b).can_end
  can_all_end opens Blocking bays capacity allots limits before after drain ran a p b = none_ends s clock opens laws join stay (queued_parts after) ran (none_ran s clock opens laws join stay drain ran a.no_drain b)
  can_all_end opens Strict bays capacity allots limits before after drain ran a p b = none_ends s clock opens laws join stay (queued_parts after) ran (none_ran s clock opens laws join stay drain ran a.no_drain b)

  pub are_all_served : AreAllServed S R K s clock
  are_all_served opens Off bays capacity allots limits before after drain ran end a p b o x =
      none_left s clock opens laws join stay (queued_parts after) ran end.drain (none_ran s clock opens laws join stay drain ran a.no_drain b) x
  are_all_served opens Batch bays capacity allots limits before after drain ran end a p b o x =
      batch_served s clock opens laws join stay bays capacity allots limits before after drain ran end a p b x
  are_all_served opens Blocking bays capacity allots limits before after drain ran end a p b o x = own_served s clock opens laws join stay bays before after drain ran end a p b o x
  are_all_served opens Strict bays capacity allots limits before after drain ran end a p b o x = own_served s clock opens laws join stay bays before after drain ran end a p b o x
