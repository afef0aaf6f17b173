-- The requests of each bay of a run, over routes that were new.
use Rattle.std.proofs.Common.{◌≡◌, ℕ, zero, suc, ◌+◌, Bool, true, List, [], ◌∷◌, map, Option, Some, None, IfSome, refl, sym, ap, subst, ◌∙◌, arith, slice_get, All}
use mathlib.Core.List.{IsPrefix}
use Rattle.std.proofs.lemmas.List.Elements.{All-head, All-tail}
use Rattle.any_lane.specs.declared.lane.AnyLane.{AnyLane}
use Rattle.apiservice_rows.specs.Row.{Row}
use Rattle.apiservice_table.specs.declared.change.Change.{Change}
use Rattle.audit_core.specs.declared.settings.Settings.{Settings}
use Rattle.bay_runs.specs.Runs.{exchanges_of}
use Rattle.front_plants.specs.Fresh.{SinkOpens}
use Rattle.logbook.specs.Pages.{Book}
use Rattle.route_history.specs.History.{changes_of}
use Rattle.route_history.specs.declared.entry.Entry.{Entry}
use Rattle.route_laws.specs.Decided.{AreDecided, BayDecided}
use Rattle.route_laws.proofs.StepLemmas.{connections}
use Rattle.serve_roles.specs.Doors.{BayHandles, tells_of}
use Rattle.serve_roles.specs.declared.bay_end.BayEnd.{BayEnd}
use Rattle.serve_runs.specs.Served.{BayServed, exchanges_if}
use Rattle.session_core.specs.Bays.{BayState}
use Rattle.session_core.specs.declared.exchange.Exchange.{Exchange}
use Rattle.shared_routes.specs.Makers.{OwnAll, made_by}
use Rattle.shared_routes.specs.Places.{changes_at}
use Rattle.shared_routes.specs.Shared.{Shared, AreNew, IsNew, own_changes, seen_changes}
use Rattle.shared_runs.specs.Histories.{SawOne}
use Rattle.shared_runs.specs.Unnamed.{routes_of}

-- the routes at a place are new
new_at : (home : Book) (opening : List Row) (n : ℕ) (all : List Shared) (bay : ℕ) (one : Shared) → AreNew home opening n all → slice_get all bay ≡ Some one
    → IsNew home opening (n + bay) one
new_at home opening n [] bay one new at = absurd (cc at)
new_at home opening n (r ∷ rs) zero one new at =
    let e : r ≡ one = cc at in subst (λ (k : ℕ). IsNew home opening k one) (omega arith) (subst (λ (s : Shared). IsNew home opening n s) e new.0)
new_at home opening n (r ∷ rs) (suc bay) one new at =
    subst (λ (k : ℕ). IsNew home opening k one) (omega arith) (new_at home opening (n + 1) rs bay one new.1 at)

module _ {L K Y D : Type 0} where
  -- the own changes at a place are those of its number
  own_at : (n : ℕ) (entries : List Entry) (ends : List (BayEnd Shared L K Y D)) (bay : ℕ) (end : BayEnd Shared L K Y D) → OwnAll n entries (map routes_of ends)
      → slice_get ends bay ≡ Some end → own_changes end.routes ≡ made_by (n + bay) 0 entries
  own_at n entries [] bay end own at = absurd (cc at)
  own_at n entries (x ∷ xs) zero end own at =
      let e : x ≡ end = cc at in
      ap (λ (y : BayEnd Shared L K Y D). own_changes y.routes) (sym e) ∙ own.0 ∙ ap (λ (k : ℕ). made_by k 0 entries) (omega arith)
  own_at n entries (x ∷ xs) (suc bay) end own at =
      own_at (n + 1) entries xs bay end own.1 at ∙ ap (λ (k : ℕ). made_by k 0 entries) (omega arith)

  saw_at : (home : Book) (opening : List Row) (entries : List Entry) (ends : List (BayEnd Shared L K Y D)) (bay : ℕ) (end : BayEnd Shared L K Y D)
      → All (SawOne home opening entries) ends → slice_get ends bay ≡ Some end → IsPrefix end.routes.entries entries
  saw_at home opening entries [] bay end saw at = absurd (cc at)
  saw_at home opening entries (x ∷ xs) zero end saw at =
      let e : x ≡ end = cc at in
      subst (λ (y : BayEnd Shared L K Y D). IsPrefix y.routes.entries entries) e (All-head (SawOne home opening entries) x xs saw).seen
  saw_at home opening entries (x ∷ xs) (suc bay) end saw at =
      saw_at home opening entries xs bay end (All-tail (SawOne home opening entries) x xs saw) at

module _ {R L N W H T K Y D C : Type 0} (h : BayHandles R L N W H K Y D C) (set : Settings) (log_new hook_new : SinkOpens) (boot : ℕ) (due : ℕ → Option (List C))
    (tables : List R) (logs : List (AnyLane W T)) (hooks : List (AnyLane H T)) where
  -- the requests of a bay, over the routes that it was given
  pub bay_decided : (bay : ℕ) (end : BayEnd R L K Y D) (b : BayServed h set log_new hook_new boot due tables logs hooks bay end)
      → AreDecided set (h.routes.opening b.table) (h.routes.seen b.table) (h.routes.own b.table) (exchanges_of b.runs.all)
      (h.routes.seen end.routes) (h.routes.own end.routes)
  bay_decided bay end b =
      let goes = (connections set (tells_of h) b.m b.runs.all b.n b.runs.ran).1 in
      let xs : List Exchange = exchanges_of b.runs.all in
      let seen_is = ap (λ (s : BayState). s.seen) b.ends in
      let own_is = ap (λ (s : BayState). s.own) b.ends in
      subst (λ (l : List Row). AreDecided set l (h.routes.seen b.table) (h.routes.own b.table) xs (h.routes.seen end.routes) (h.routes.own end.routes)) b.sees.opening
      (subst (λ (l : List Change). AreDecided set b.m.opening l (h.routes.own b.table) xs (h.routes.seen end.routes) (h.routes.own end.routes)) b.sees.seen
      (subst (λ (l : List (ℕ × Change)). AreDecided set b.m.opening b.m.seen l xs (h.routes.seen end.routes) (h.routes.own end.routes)) b.sees.own
      (subst (λ (l : List Change). AreDecided set b.m.opening b.m.seen b.m.own xs l (h.routes.own end.routes)) seen_is
      (subst (λ (l : List (ℕ × Change)). AreDecided set b.m.opening b.m.seen b.m.own xs b.n.seen l) own_is goes))))

module _ {L N W H T K Y D C : Type 0} (h : BayHandles Shared L N W H K Y D C) (set : Settings) (log_new hook_new : SinkOpens) (boot : ℕ) (due : ℕ → Option (List C))
    (tables : List Shared) (logs : List (AnyLane W T)) (hooks : List (AnyLane H T)) (home : Book) (opening : List Row) (entries : List Entry)
    (opening_is : (r : Shared) → h.routes.opening r ≡ r.opening) (seen_is : (r : Shared) → h.routes.seen r ≡ seen_changes r)
    (own_is : (r : Shared) → h.routes.own r ≡ own_changes r) where
  one_bay : (bay : ℕ) (end : BayEnd Shared L K Y D) (b : BayServed h set log_new hook_new boot due tables logs hooks bay end) → AreNew home opening 0 tables
      → own_changes end.routes ≡ made_by bay 0 entries → IsPrefix end.routes.entries entries
      → BayDecided set opening entries (exchanges_of b.runs.all) bay end
  one_bay bay end b new own saw =
      let xs : List Exchange = exchanges_of b.runs.all in
      let fresh = new_at home opening 0 tables bay b.table new b.table_is in
      let no_changes : h.routes.seen b.table ≡ [] = seen_is b.table ∙ ap (λ (l : List Entry). changes_of l) fresh.seen in
      let none : h.routes.own b.table ≡ [] = own_is b.table ∙ ap (λ (ps : List ℕ). changes_at ps (seen_changes b.table)) fresh.own in
      let new_seen = h.routes.seen end.routes in
      let new_own = h.routes.own end.routes in
      record {
        seen = saw;
        decided =
            subst (λ (l : List Row). AreDecided set l [] [] xs (seen_changes end.routes) (made_by bay 0 entries)) (opening_is b.table ∙ fresh.opening_is)
            (subst (λ (l : List Change). AreDecided set (h.routes.opening b.table) l [] xs (seen_changes end.routes) (made_by bay 0 entries)) no_changes
            (subst (λ (l : List (ℕ × Change)). AreDecided set (h.routes.opening b.table) (h.routes.seen b.table) l xs (seen_changes end.routes) (made_by bay 0 entries)) none
            (subst (λ (l : List Change). AreDecided set (h.routes.opening b.table) (h.routes.seen b.table) (h.routes.own b.table) xs l (made_by bay 0 entries)) (seen_is end.routes)
            (subst (λ (l : List (ℕ × Change)). AreDecided set (h.routes.opening b.table) (h.routes.seen b.table) (h.routes.own b.table) xs new_seen l) (own_is end.routes ∙ own)
            (bay_decided h set log_new hook_new boot due tables logs hooks bay end b)))));
      }

  decided_if : (bay : ℕ) (o : Option (BayEnd Shared L K Y D)) (b : IfSome o (BayServed h set log_new hook_new boot due tables logs hooks bay)) → AreNew home opening 0 tables
      → ((end : BayEnd Shared L K Y D) → o ≡ Some end → (own_changes end.routes ≡ made_by bay 0 entries) × IsPrefix end.routes.entries entries)
      → IfSome o (BayDecided set opening entries (exchanges_if h set log_new hook_new boot due tables logs hooks bay o b) bay)
  decided_if bay None b new f = tt
  decided_if bay (Some end) b new f = let e = f end refl in one_bay bay end b new e.0 e.1

  -- each bay's requests
  pub each_decided : (ends : List (BayEnd Shared L K Y D)) (each : (bay : ℕ) → IfSome (slice_get ends bay) (BayServed h set log_new hook_new boot due tables logs hooks bay))
      → AreNew home opening 0 tables → OwnAll 0 entries (map routes_of ends) → All (SawOne home opening entries) ends → (bay : ℕ)
      → IfSome (slice_get ends bay) (BayDecided set opening entries (exchanges_if h set log_new hook_new boot due tables logs hooks bay (slice_get ends bay) (each bay)) bay)
  each_decided ends each new own saw bay =
      decided_if bay (slice_get ends bay) (each bay) new
      (λ end at. (own_at 0 entries ends bay end own at ∙ ap (λ (k : ℕ). made_by k 0 entries) (omega arith), saw_at home opening entries ends bay end saw at))
