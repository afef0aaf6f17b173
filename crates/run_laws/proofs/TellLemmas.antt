-- What a bay's diary and counts tell.
use Rattle.std.proofs.Common.{◌≡◌, ◌+◌, ℕ, List, [], ◌∷◌, ◌++◌, length, Option, Some, None, IfSome, refl, sym, ap, ◌∙◌, subst, arith}
use Rattle.any_lane.specs.declared.lane.AnyLane.{AnyLane}
use Rattle.audit_core.specs.declared.settings.Settings.{Settings}
use Rattle.bay_laws.specs.Whole.{AllInMemory}
use Rattle.bay_runs.specs.Counts.{all_counted, counted, no_ends}
use Rattle.bay_runs.specs.Runs.{ends_of, exchanges_of}
use Rattle.bay_runs.specs.declared.end_counts.EndCounts.{EndCounts}
use Rattle.front_ports.specs.Told.{Adds}
use Rattle.http_edge.specs.declared.request.End.TheVariants as end
use Rattle.run_laws.specs.Told.{BayTold}
use Rattle.serve_roles.specs.Doors.{BayHandles}
use Rattle.serve_roles.specs.declared.bay_end.BayEnd.{BayEnd}
use Rattle.front_plants.specs.Fresh.{SinkOpens}
use Rattle.serve_runs.specs.Served.{BayServed}
use Rattle.session_core.specs.declared.conn_end.ConnEnd.{ConnEnd}
use Rattle.session_core.specs.declared.conn_end.ConnEnd.TheVariants as conn_end

pub adds_all : {T : Type 0} (a b : Option (List T)) (more : List T) → IfSome a (λ xs. xs ≡ []) → Adds a b more → IfSome b (λ xs. xs ≡ more)
adds_all None b more f g = subst (λ z. IfSome z (λ xs. xs ≡ more)) (sym g) tt
adds_all (Some w) b more f g = subst (λ z. IfSome z (λ xs. xs ≡ more)) (sym g) (ap (λ l. l ++ more) f)

-- ---- a count of 0 connections that ran out of memory

-- another end leaves that count
ends_keep : (c : EndCounts) (e : ConnEnd) (ends : List ConnEnd) → ((counted c e).no_memory ≡ 0) × AllInMemory ends
    → (c.no_memory ≡ 0) × AllInMemory (e ∷ ends)
ends_keep c (conn_end.Stopped end.Ended) ends h = (h.0, (refl, h.1))
ends_keep c (conn_end.Stopped end.Asked) ends h = (h.0, (refl, h.1))
ends_keep c (conn_end.Stopped end.BadHead) ends h = (h.0, (refl, h.1))
ends_keep c (conn_end.Stopped end.HeadTooLarge) ends h = (h.0, (refl, h.1))
ends_keep c (conn_end.Stopped end.BadFraming) ends h = (h.0, (refl, h.1))
ends_keep c (conn_end.Stopped end.BodyTooLarge) ends h = (h.0, (refl, h.1))
ends_keep c (conn_end.Stopped end.CutShort) ends h = (h.0, (refl, h.1))
ends_keep c conn_end.ReadFault ends h = (h.0, (refl, h.1))
ends_keep c conn_end.WriteFault ends h = (h.0, (refl, h.1))
ends_keep c conn_end.BackendCut ends h = (h.0, (refl, h.1))
ends_keep c conn_end.StreamSpent ends h = (h.0, (refl, h.1))
ends_keep c conn_end.NumbersSpent ends h = (h.0, (refl, h.1))
ends_keep c conn_end.NoMemory ends h = let z = h.0 in absurd (omega arith)

pub in_memory : (c : EndCounts) (ends : List ConnEnd) → (all_counted c ends).no_memory ≡ 0 → (c.no_memory ≡ 0) × AllInMemory ends
in_memory c [] h = (h, tt)
in_memory c (e ∷ ends) h = ends_keep c e ends (in_memory (counted c e) ends h)

pub counted_all : (n e m x : ℕ) → n ≡ e → n ≡ m + x → m ≡ 0 → e ≡ x
counted_all n e m x p q r = omega (arith, p, q, r)

module _ {R L N W H T K Y D C : Type 0} (h : BayHandles R L N W H K Y D C) where
  pub bay_told : (set : Settings) (log_new hook_new : SinkOpens) (boot : ℕ) (due : ℕ → Option (List C)) (tables : List R) (logs : List (AnyLane W T)) (hooks : List (AnyLane H T))
      (k : ℕ) (end : BayEnd R L K Y D) (b : BayServed h set log_new hook_new boot due tables logs hooks k end) → BayTold h set (exchanges_of b.runs.all) end
  bay_told set log_new hook_new boot due tables logs hooks k end b = record {
    noted = subst (λ z. IfSome z (λ notes. notes ≡ exchanges_of b.runs.all)) (ap (λ n. n.notes) b.ends)
        (adds_all b.m.notes b.n.notes (exchanges_of b.runs.all) b.opens.diary b.told.noted);
    number_is = counted_all b.n.number end.number b.m.number (length (exchanges_of b.runs.all)) (ap (λ n. n.number) b.ends) b.told.number_is b.opens.number;
    whole = λ none. b.told.whole (in_memory no_ends (ends_of b.runs.all) (sym (ap (λ (c : EndCounts). c.no_memory) b.runs.counted) ∙ none)).1;
  }
