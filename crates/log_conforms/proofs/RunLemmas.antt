-- The lines of a run, by those of its bays.
use Rattle.std.proofs.Common.{◌≡◌, ◌≤◌, ◌⊎◌, ℕ, zero, suc, List, [], ◌∷◌, length, slice_get, Option, Some, None, IfSome, inl, inr, refl, sym, ap, ◌∙◌, arith, subst}
use Rattle.std.proofs.lemmas.Option.{slice_get_past}
use Rattle.any_lane.specs.declared.lane.AnyLane.{AnyLane}
use Rattle.audit_core.specs.declared.settings.Settings.{Settings}
use Rattle.audit_core.specs.declared.sinks.Sink.{Sink}
use Rattle.audit_core.specs.declared.sinks.SinkMode.{SinkMode}
use Rattle.audit_core.specs.declared.sinks.SinkMode.TheVariants.{Blocking, Strict}
use Rattle.bay_logs.specs.Noted.{AreNoted}
use Rattle.bay_logs.specs.Woven.{AreWoven}
use Rattle.bay_runs.specs.Runs.{ConnTells, Ran, ServedConn, exchanges_of}
use Rattle.event_offers.specs.Taken.{is_taken, is_tried}
use Rattle.front_base.specs.Line.{Line}
use Rattle.front_plants.specs.Fresh.{SinkOpens}
use Rattle.front_ports.specs.declared.clock.Clock as clocks
use Rattle.log_conforms.specs.Conforming.{AreTried, AreTriedByBays}
use Rattle.serve_bays.specs.Served.{IsOwn, SinkServed}
use Rattle.serve_bays.specs.declared.options.RunOptions.{RunOptions}
use Rattle.run_laws.specs.Told.{BatchedLines, BatchesTell, TriedLines, TriesTell, lines_by}
use Rattle.serve_roles.specs.Doors.{BayHandles, tells_of}
use Rattle.serve_roles.specs.declared.bay_end.BayEnd.{BayEnd}
use Rattle.serve_runs.specs.Served.{BayServed, exchanges_if}
use Rattle.session_core.specs.Bays.{BayState}
use Rattle.session_core.specs.declared.exchange.Exchange.{Exchange}
use Rattle.shared_queue.specs.Bays.{of_bay}
use Rattle.sink_lanes.specs.declared.ending.SinkEnd.{SinkEnd}
use Rattle.truncate_backend.specs.Tries.{lines_of}
use Rattle.truncate_backend.specs.declared.sink.BatchSink as sinks

-- the law that is called
abbrev pub DoorsAreRecorded : Type 0 → Type 0
DoorsAreRecorded C = (tells : C → ConnTells) (set : Settings) (m n : BayState) (all : List (ServedConn C))
    → Ran tells set m all n → AreNoted set m.boot m.lanes.bay m.number (exchanges_of all)

-- ---- lists

past_end : {A : Type 0} (xs : List A) (k : ℕ) → slice_get xs k ≡ None → length xs ≤ k
past_end [] k e = omega arith
past_end (x ∷ xs) zero e = absurd cc
past_end (x ∷ xs) (suc k) e = let h = past_end xs k e in omega arith

some_is : {A : Type 0} (o : Option A) (P : A → Type 0) (x : A) → IfSome o P → o ≡ Some x → P x
some_is o P x h e = subst (λ z. IfSome z P) e h

noted_from : (set : Settings) (a b c p q s : ℕ) (xs : List Exchange) → p ≡ a → q ≡ b → s ≡ c → AreNoted set p q s xs → AreNoted set a b c xs
noted_from set a b c p q s xs e f g h =
    subst (λ (z : ℕ). AreNoted set a b z xs) g (subst (λ (z : ℕ). AreNoted set a z s xs) f (subst (λ (z : ℕ). AreNoted set z q s xs) e h))

-- sinks that are written to at once
pub are_own : {S T K : Type 0} (s : sinks.Ghosts S) (k : clocks.Ghosts K) (opens : SinkOpens) (mode : SinkMode) (options : RunOptions) (allots : List ℕ) (lanes : List (AnyLane S T)) (end : SinkEnd S K)
    → (mode ≡ Blocking) ⊎ (mode ≡ Strict) → SinkServed s k opens mode options.bays options.buffer allots options.limits lanes end
    → IsOwn options.bays lanes end
are_own s k opens mode options allots lanes end (inl e) h = subst (λ m. SinkServed s k opens m options.bays options.buffer allots options.limits lanes end) e h
are_own s k opens mode options allots lanes end (inr e) h = subst (λ m. SinkServed s k opens m options.bays options.buffer allots options.limits lanes end) e h

-- ---- the exchanges of a run

module _ {R L N W H T K Y D C : Type 0} (h : BayHandles R L N W H K Y D C) (set : Settings) (log_new hook_new : SinkOpens) (boot : ℕ)
    (due : ℕ → Option (List C)) (tables : List R) (logs : List (AnyLane W T)) (hooks : List (AnyLane H T)) where
  pub bay_noted : DoorsAreRecorded C → (bay : ℕ) (end : Option (BayEnd R L K Y D)) (b : IfSome end (BayServed h set log_new hook_new boot due tables logs hooks bay))
      → AreNoted set boot bay 0 (exchanges_if h set log_new hook_new boot due tables logs hooks bay end b)
  bay_noted law bay None b = tt
  bay_noted law bay (Some end) b =
      noted_from set boot bay 0 b.m.boot b.m.lanes.bay b.m.number (exchanges_of b.runs.all) b.opens.boot_is b.opens.bay_is b.opens.number
      (law (tells_of h) set b.m b.n b.runs.all b.runs.ran)

  pub none_at : (bay : ℕ) (end : Option (BayEnd R L K Y D)) (b : IfSome end (BayServed h set log_new hook_new boot due tables logs hooks bay)) → end ≡ None
      → exchanges_if h set log_new hook_new boot due tables logs hooks bay end b ≡ []
  none_at bay None b e = refl
  none_at bay (Some end) b e = absurd cc

-- ---- their lines

module _ {R L N W H K Y D C S : Type 0} (h : BayHandles R L N W H K Y D C) (set : Settings) (s : sinks.Ghosts S) (opens : SinkOpens) (sink : Sink)
    (options : RunOptions) (xs : ℕ → List Exchange) (bays : List (BayEnd R L K Y D)) (end : SinkEnd S K) (count : length bays ≡ options.bays)
    (none : (bay : ℕ) → slice_get bays bay ≡ None → xs bay ≡ []) where
  -- there is no bay of that number
  is_past : (bay : ℕ) → slice_get bays bay ≡ None → options.bays ≤ bay
  is_past bay e = subst (λ (n : ℕ). n ≤ bay) count (past_end bays bay e)

  batch_at : (allots : List ℕ) (put : List Line) (bay : ℕ) (o : Option (BayEnd R L K Y D)) → IfSome o (BatchedLines h set sink options.buffer allots put (xs bay) bay)
      → (o ≡ None → put ≡ []) → (o ≡ None → xs bay ≡ []) → put ≡ lines_by is_taken set sink (xs bay) bay
  batch_at allots put bay None each past left = past refl ∙ sym (ap (λ (ys : List Exchange). lines_by is_taken set sink ys bay) (left refl))
  batch_at allots put bay (Some own) each past left = each.lines

  pub batches_woven : (allots : List ℕ) (told : BatchesTell h s opens set sink options allots xs bays end) → AreWoven is_taken set sink xs (lines_of told.tries)
  batches_woven allots told = λ bay.
      batch_at allots (of_bay bay (lines_of told.tries)) bay (slice_get bays bay) (told.each bay) (λ e. told.others bay (is_past bay e)) (none bay)

  own_at : (lines : List Line) (bay : ℕ) (own : BayEnd R L K Y D) → TriedLines h s opens set sink end.own.items (xs bay) bay own
      → AreTried s (slice_get end.own.items bay) (of_bay bay lines) → of_bay bay lines ≡ lines_by is_tried set sink (xs bay) bay
  own_at lines bay own t these =
      let mine : AreTried s (Some t.to) (of_bay bay lines) = subst (λ o. AreTried s o (of_bay bay lines)) t.to_is these in
      mine.2 ∙ some_is (s.tells t.to).tries (λ tries. lines_of tries ≡ lines_by is_tried set sink (xs bay) bay) mine.0 t.lines mine.1

  tried_at : (lines : List Line) (bay : ℕ) (o : Option (BayEnd R L K Y D)) → IfSome o (TriedLines h s opens set sink end.own.items (xs bay) bay)
      → AreTried s (slice_get end.own.items bay) (of_bay bay lines) → (o ≡ None → slice_get end.own.items bay ≡ None) → (o ≡ None → xs bay ≡ [])
      → of_bay bay lines ≡ lines_by is_tried set sink (xs bay) bay
  tried_at lines bay None each these past left =
      let empty : AreTried s None (of_bay bay lines) = subst (λ o. AreTried s o (of_bay bay lines)) (past refl) these in
      empty ∙ sym (ap (λ (ys : List Exchange). lines_by is_tried set sink ys bay) (left refl))
  tried_at lines bay (Some own) each these past left = own_at lines bay own each these

  pub tries_woven : (lines : List Line) → length end.own.items ≡ options.bays → TriesTell h s opens set sink xs bays end → AreTriedByBays s end.own.items lines
      → AreWoven is_tried set sink xs lines
  tries_woven lines many told tried = λ bay.
      tried_at lines bay (slice_get bays bay) (told bay) (tried bay)
      (λ e. slice_get_past end.own.items bay (subst (λ (n : ℕ). n ≤ bay) (sym many) (is_past bay e))) (none bay)
