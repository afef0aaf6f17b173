-- What a drainer's counts say.
use Rattle.std.proofs.Common.{◌≡◌, ◌+◌, ◌≤◌, ◌<◌, ◌-◌, ◌^◌, min, ℕ, zero, suc, List, length, slice_get, Option, Some, None, IfSome, refl, sym, ap, ◌∙◌, subst, arith, sum_by}
use Rattle.any_lane.specs.declared.lane.AnyLane.{AnyLane}
use Rattle.audit_core.specs.declared.settings.Settings.{Settings}
use Rattle.audit_core.specs.declared.sinks.Sink.{Sink}
use Rattle.connection_laws.specs.Whole.{offers_in, count_of, is_full}
use Rattle.front_plants.specs.Fresh.{SinkOpens}
use Rattle.front_ports.specs.declared.clock.Clock as clocks
use Rattle.serve_bays.specs.Served.{IsDrained}
use Rattle.serve_bays.specs.declared.options.RunOptions.{RunOptions}
use Rattle.queue_drain.specs.declared.drain_end.DrainEnd.{DrainEnd}
use Rattle.run_laws.specs.Kept.{AllWritten, BatchesKeepAll, KeepsBatched, KeptBay, offered_to}
use Rattle.run_laws.proofs.ShareLemmas.{all_of_each, shares, total, total_most}
use Rattle.run_laws.proofs.WrittenLemmas.{all_done, as_many, few}
use Rattle.serve_roles.specs.Doors.{BayHandles}
use Rattle.serve_roles.specs.declared.bay_end.BayEnd.{BayEnd}
use Rattle.session_core.specs.declared.exchange.Exchange.{Exchange}
use Rattle.shared_queue.specs.Bays.{of_bay}
use Rattle.sink_lanes.specs.declared.ending.SinkEnd.{SinkEnd}
use Rattle.truncate_backend.specs.Tries.{Try, done_of, lines_of}
use Rattle.truncate_backend.specs.declared.sink.BatchSink as sinks

pub some_at : {A : Type 0} (P : A → Type 0) (o : Option A) (x : A) → IfSome o P → o ≡ Some x → P x
some_at P o x f e = subst (λ z. IfSome z P) e f

pub map_some : {A : Type 0} (P Q : A → Type 0) (o : Option A) → ((x : A) → P x → Q x) → IfSome o P → IfSome o Q
map_some P Q None f p = tt
map_some P Q (Some x) f p = f x p

-- ---- what a drainer counted

same_length : (done unwritten all : ℕ) → done + unwritten ≡ all → min unwritten (2 ^ 64 - 1) ≡ 0 → done ≡ all
same_length done unwritten all e z = omega (arith, e, z)

no_lost : (done unwritten all : ℕ) → done + unwritten ≡ all → done ≡ all → min unwritten (2 ^ 64 - 1) ≡ 0
no_lost done unwritten all e z = omega (arith, e, z)

all_written : {S K : Type 0} (drain : DrainEnd S K) (tries : List Try) (unwritten : ℕ)
    → length (done_of tries) + unwritten ≡ length (lines_of tries) → drain.written ≡ min (length (done_of tries)) (2 ^ 64 - 1)
    → drain.lost ≡ min unwritten (2 ^ 64 - 1) → done_of tries ≡ lines_of tries → AllWritten drain tries
all_written drain tries unwritten e w l d = record {
  done = d;
  none_lost = l ∙ no_lost (length (done_of tries)) unwritten (length (lines_of tries)) e (ap length d);
  written_is = w ∙ ap (λ ls. min (length ls) (2 ^ 64 - 1)) d;
}

-- ---- where it wrote as many lines as were offered

each_few : (put full due offered : ℕ) → put + full ≡ due → offered ≡ due → put ≤ offered
each_few put full due offered e f = omega (arith, e, f)

no_full : (put full due offered : ℕ) → put + full ≡ due → offered ≡ due → put ≡ offered → full ≡ 0
no_full put full due offered e f g = omega (arith, e, f, g)

wrote_all : (written done all held offered : ℕ) → written ≡ min done (2 ^ 64 - 1) → written ≡ offered → written < 2 ^ 64 - 1
    → done ≤ all → all ≤ held → held ≤ offered → done ≡ all
wrote_all written done all held offered w o l a b c = omega (arith, w, o, l, a, b, c)

none_left : (done unwritten all : ℕ) → done + unwritten ≡ all → unwritten ≡ 0 → done ≡ all
none_left done unwritten all e z = omega (arith, e, z)

-- what has a cause that isn't there isn't there
no_loss : (unwritten faults refusals : ℕ) → (0 < unwritten → 0 < faults + refusals) → faults ≡ 0 → refusals ≡ 0 → unwritten ≡ 0
no_loss zero faults refusals h a b = refl
no_loss (suc unwritten) faults refusals h a b = let some = h (omega arith) in absurd (omega (arith, some, a, b))

held_all : (written done all held offered : ℕ) → written ≡ min done (2 ^ 64 - 1) → written ≡ offered → written < 2 ^ 64 - 1
    → done ≤ all → all ≤ held → offered ≤ held
held_all written done all held offered w o l a b = omega (arith, w, o, l, a, b)

module _ {R L N W H K Y D C S T : Type 0} (h : BayHandles R L N W H K Y D C) (s : sinks.Ghosts S) (set : Settings) (sink : Sink)
    (options : RunOptions) (allots : List ℕ) (xs : ℕ → List Exchange) (bays : List (BayEnd R L K Y D)) (end : SinkEnd S K) (lanes : List (AnyLane S T)) (count : length bays ≡ options.bays)
    {k : clocks.Ghosts K} {opens : SinkOpens} (d : IsDrained s k opens options.bays options.buffer allots options.limits lanes end)
    (each : (k : ℕ) → IfSome (slice_get bays k) (KeepsBatched h set sink options.buffer allots (of_bay k (lines_of d.tries)) (xs k) k)) where
  abbrev held : ℕ → ℕ
  held k = length (of_bay k (lines_of d.tries))

  bay_few : (k : ℕ) → IfSome (slice_get bays k) (λ x. held k ≤ offered_to sink x)
  bay_few k =
      map_some (KeepsBatched h set sink options.buffer allots (of_bay k (lines_of d.tries)) (xs k) k) (λ x. held k ≤ offered_to sink x) (slice_get bays k)
      (λ x b. each_few (held k) (count_of is_full sink (offers_in (xs k))) _ (offered_to sink x) b.account b.offered) (each k)

  all_held : length (lines_of d.tries) ≤ total held bays
  all_held = shares bays (lines_of d.tries) (λ bay above. d.others bay (subst (λ n. n ≤ bay) count above))

  bay_keeps : (k : ℕ) (x : BayEnd R L K Y D) → KeepsBatched h set sink options.buffer allots (of_bay k (lines_of d.tries)) (xs k) k x
      → held k ≡ offered_to sink x → KeptBay h set sink (of_bay k (lines_of d.tries)) (xs k) k x
  bay_keeps k x b e = record {
    told = b.told;
    kept = b.keeps (no_full (held k) (count_of is_full sink (offers_in (xs k))) _ (offered_to sink x) b.account b.offered e);
  }

  both_some : {A : Type 0} (P Q E : A → Type 0) (o : Option A) → ((x : A) → P x → Q x → E x) → IfSome o P → IfSome o Q → IfSome o E
  both_some P Q E None f p q = tt
  both_some P Q E (Some x) f p q = f x p q

  written : done_of d.tries ≡ lines_of d.tries → AllWritten d.drain d.tries
  written e = all_written d.drain d.tries d.unwritten d.each d.written_is d.lost_is e

  pub batches_keep : BatchesKeepAll h s set sink options allots xs bays end
  batches_keep = record {
    allotted = d.allotted.count;
    drain = d.drain;
    drain_is = d.drain_is;
    tries = d.tries;
    told = d.told;
    each = each;
    others = d.others;
    done = λ answers. written (all_done d.tries answers);
    none_lost = λ none. written
        (as_many d.tries (same_length (length (done_of d.tries)) d.unwritten (length (lines_of d.tries)) d.each (sym d.lost_is ∙ none)));
    no_fault = λ none few. written
        (as_many d.tries (none_left (length (done_of d.tries)) d.unwritten (length (lines_of d.tries)) d.each
        (no_loss d.unwritten _ _ d.cause none few)));
    as_many = λ offered below. (
      written (as_many d.tries (wrote_all d.drain.written (length (done_of d.tries)) (length (lines_of d.tries)) (total held bays)
          (sum_by (offered_to sink) bays) d.written_is offered below (few d.tries) all_held (total_most (offered_to sink) held bays bay_few))),
      (λ k. both_some (KeepsBatched h set sink options.buffer allots (of_bay k (lines_of d.tries)) (xs k) k) (λ x. held k ≡ offered_to sink x)
          (KeptBay h set sink (of_bay k (lines_of d.tries)) (xs k) k) (slice_get bays k) (bay_keeps k) (each k)
          (all_of_each (offered_to sink) held bays bay_few
          (held_all d.drain.written (length (done_of d.tries)) (length (lines_of d.tries)) (total held bays) (sum_by (offered_to sink) bays)
          d.written_is offered below (few d.tries) all_held) k)),
    );
  }
