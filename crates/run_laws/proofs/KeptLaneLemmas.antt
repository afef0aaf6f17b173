-- What one lane was offered and keeps.
use Rattle.std.proofs.Common.{◌≡◌, ◌+◌, ◌≤◌, ◌<◌, ◌-◌, ◌^◌, min, ◌⊎◌, ℕ, Bool, true, List, [], ◌++◌, length, sum, get_or, Option, Some, None, IfSome, refl, sym, ap, ◌∙◌, subst, arith}
use Rattle.std.specs.Prelude.{option_map}
use Rattle.audit_core.specs.Offers.{Due}
use Rattle.audit_core.specs.declared.offers.OfferNote.{OfferNote}
use Rattle.audit_core.specs.declared.offers.Outcome.{Outcome}
use Rattle.audit_core.specs.declared.sinks.Sink.{Sink}
use Rattle.connection_laws.specs.Whole.{count_of, is_full, is_failure}
use Rattle.event_offers.specs.Lanes.{LanesState}
use Rattle.event_offers.specs.Offering.{OffersAll}
use Rattle.event_offers.specs.Taken.{is_taken, is_tried, lane_of, lines_for}
use Rattle.front_base.specs.Line.{Line}
use Rattle.front_ports.specs.Told.{Grows}
use Rattle.run_laws.specs.Kept.{AllFit, AllTaken, Kept, lines_due}
use Rattle.run_laws.proofs.KeepLemmas.{all_counted, all_kept, all_offered, all_taken, never_full, none_counted, none_failed}
use Rattle.truncate_backend.specs.Lanes.{LaneTells}
use Rattle.truncate_backend.specs.Owns.{own_tells}
use Rattle.truncate_backend.specs.Told.{CountsBy, Joined}
use Rattle.truncate_backend.specs.Tries.{SinkTells, Try, done_of, lines_of}

-- the laws that are called
abbrev pub Accepts : Type 0
Accepts = (sink : Sink) (dues : List Due) (m n : LanesState) (notes : List OfferNote)
    → OffersAll dues m notes n
    → Joined (lane_of sink m).tells.accepted (lines_for is_taken sink m.bay (lane_of sink m).lines dues notes) (lane_of sink n).tells.accepted

abbrev pub Tries : Type 0
Tries = (sink : Sink) (dues : List Due) (m n : LanesState) (notes : List OfferNote)
    → OffersAll dues m notes n
    → Joined (lane_of sink m).tells.tried (lines_for is_tried sink m.bay (lane_of sink m).lines dues notes) (lane_of sink n).tells.tried

abbrev pub Fills : Type 0
Fills = (sink : Sink) (dues : List Due) (m n : LanesState) (notes : List OfferNote)
    → OffersAll dues m notes n
    → CountsBy (lane_of sink m).tells.fulls (count_of is_full sink notes) (lane_of sink n).tells.fulls

abbrev pub Fails : Type 0
Fails = (sink : Sink) (dues : List Due) (m n : LanesState) (notes : List OfferNote)
    → OffersAll dues m notes n
    → CountsBy (lane_of sink m).tells.faults (count_of is_failure sink notes) (lane_of sink n).tells.faults

-- a list that was empty
grows_all : {T : Type 0} (a b : Option (List T)) (more : List T) → IfSome a (λ xs. xs ≡ []) → Grows a b more → IfSome b (λ xs. xs ≡ more)
grows_all None b more f g = subst (λ z. IfSome z (λ xs. xs ≡ more)) (sym g) tt
grows_all (Some w) None more f g = tt
grows_all (Some w) (Some v) more f g = g ∙ ap (λ l. l ++ more) f

told_is : {T : Type 0} (a : Option (List T)) (xs ys : List T) → IfSome a (λ z. z ≡ ys) → a ≡ Some xs → xs ≡ ys
told_is a xs ys f e = subst (λ z. IfSome z (λ w. w ≡ ys)) e f

-- lines by the bay's number, from its first one on
lines_from : (keeps : Outcome → Bool) (sink : Sink) (bay k before : ℕ) (dues : List Due) (notes : List OfferNote) → bay ≡ k → before ≡ 0
    → lines_for keeps sink bay before dues notes ≡ lines_for keeps sink k 0 dues notes
lines_from keeps sink bay k before dues notes e f =
    ap (λ x. lines_for keeps sink x before dues notes) e ∙ ap (λ x. lines_for keeps sink k x dues notes) f

counted_one : (before more after : ℕ) → CountsBy before more after → before ≡ 0 → 0 < more → 0 < after
counted_one before more after c new p = let e = c (omega (arith, new)) in omega (arith, e, new, p)

-- a new lane of that bay, to which all of this was offered
module _ (sink : Sink) (dues : List Due) (m n : LanesState) (notes : List OfferNote) (k : ℕ) (all : OffersAll dues m notes n) (bay_is : m.bay ≡ k)
    (first : (lane_of sink m).lines ≡ 0) where
  pub lane_offered : (lane_of sink n).lines ≡ length (lines_due sink k 0 dues)
  lane_offered = omega (arith, first, all_offered sink dues m n notes all k 0)

  -- ---- a queue

  module _ (accepts : Accepts) (fills : Fills) (put : List Line) (none : IfSome (lane_of sink m).tells.accepted (λ xs. xs ≡ []))
      (new : (lane_of sink m).tells.fulls ≡ 0) (told : (lane_of sink n).tells.accepted ≡ Some put) (queued : (lane_of sink m).queued ≡ true) where
    queue_failed : count_of is_failure sink notes ≡ 0
    queue_failed = none_failed sink dues m n notes all queued

    put_is : put ≡ lines_for is_taken sink k 0 dues notes
    put_is =
        told_is (lane_of sink n).tells.accepted put _
        (grows_all (lane_of sink m).tells.accepted (lane_of sink n).tells.accepted _ none (accepts sink dues m n notes all).grows) told
        ∙ lines_from is_taken sink m.bay k (lane_of sink m).lines dues notes bay_is first

    each_counted : length put + count_of is_full sink notes + count_of is_failure sink notes ≡ length (lines_due sink k 0 dues)
    each_counted =
        ap (λ l. length l + count_of is_full sink notes + count_of is_failure sink notes) put_is
        ∙ all_counted sink dues m n notes all k 0

    pub account : length put + count_of is_full sink notes ≡ length (lines_due sink k 0 dues)
    account = omega (arith, each_counted, queue_failed)

    pub room_for_all : (capacity : ℕ) (allots : List ℕ)
        → (0 < (lane_of sink n).tells.fulls → (length put ≡ get_or allots k 0) ⊎ (capacity + get_or allots k 0 ≤ length put + sum allots))
        → sum allots ≤ capacity → length (lines_due sink k 0 dues) ≤ get_or allots k 0 → count_of is_full sink notes ≡ 0
    room_for_all capacity allots why room few =
        never_full capacity (sum allots) (get_or allots k 0) (length (lines_due sink k 0 dues)) (length put) (count_of is_full sink notes)
        (count_of is_failure sink notes) each_counted room few
        (λ some. why (counted_one (lane_of sink m).tells.fulls (count_of is_full sink notes) (lane_of sink n).tells.fulls
        (fills sink dues m n notes all) new some))

    pub keeps_put : count_of is_full sink notes ≡ 0 → Kept sink k dues notes put
    keeps_put full = record {
      all = put_is ∙ all_kept is_taken refl sink dues m n notes all full queue_failed k 0;
      taken = all_taken sink dues m n notes all full queue_failed;
    }

  -- ---- a sink of the bay's own

  both_told : (tries : Option (List Try)) (ls : List Line) → IfSome (option_map lines_of tries) (λ xs. xs ≡ ls)
      → IfSome (option_map done_of tries) (λ xs. xs ≡ ls) → IfSome tries (λ ts. (lines_of ts ≡ ls) × (done_of ts ≡ ls))
  both_told None ls f g = tt
  both_told (Some ts) ls f g = (f, g)

  no_faults : (faults refusals : ℕ) → faults ≡ 0 → refusals ≡ 0 → min (faults + refusals) (2 ^ 64 - 1) ≡ 0
  no_faults faults refusals e f = omega (arith, e, f)

  if_lines : (a : Option (List Line)) (xs ys : List Line) → xs ≡ ys → IfSome a (λ z. z ≡ xs) → IfSome a (λ z. z ≡ ys)
  if_lines a xs ys e f = subst (λ l. IfSome a (λ z. z ≡ l)) e f

  module _ (accepts : Accepts) (tries : Tries) (fills : Fills) (fails : Fails) (to : SinkTells)
      (none : IfSome (lane_of sink m).tells.accepted (λ xs. xs ≡ [])) (untried : IfSome (lane_of sink m).tells.tried (λ xs. xs ≡ []))
      (new : (lane_of sink m).tells.fulls ≡ 0) (unfailed : (lane_of sink m).tells.faults ≡ 0) (told : (lane_of sink n).tells ≡ own_tells to) where
    own_full : count_of is_full sink notes ≡ 0
    own_full =
        none_counted (lane_of sink m).tells.fulls (count_of is_full sink notes) (lane_of sink n).tells.fulls (fills sink dues m n notes all) new
        (ap (λ (t : LaneTells). t.fulls) told)

    own_failed : to.faults ≡ 0 → to.refusals ≡ 0 → count_of is_failure sink notes ≡ 0
    own_failed f g =
        none_counted (lane_of sink m).tells.faults (count_of is_failure sink notes) (lane_of sink n).tells.faults (fails sink dues m n notes all) unfailed
        (ap (λ (t : LaneTells). t.faults) told ∙ no_faults to.faults to.refusals f g)

    pub own_written : to.faults ≡ 0 → to.refusals ≡ 0
        → IfSome to.tries (λ ts. (lines_of ts ≡ lines_due sink k 0 dues) × (done_of ts ≡ lines_due sink k 0 dues))
    own_written f g =
        both_told to.tries (lines_due sink k 0 dues)
        (subst (λ o. IfSome o (λ xs. xs ≡ lines_due sink k 0 dues)) (ap (λ (t : LaneTells). t.tried) told)
        (if_lines (lane_of sink n).tells.tried _ (lines_due sink k 0 dues)
        (lines_from is_tried sink m.bay k (lane_of sink m).lines dues notes bay_is first
        ∙ all_kept is_tried refl sink dues m n notes all own_full (own_failed f g) k 0)
        (grows_all (lane_of sink m).tells.tried (lane_of sink n).tells.tried _ untried (tries sink dues m n notes all).grows)))
        (subst (λ o. IfSome o (λ xs. xs ≡ lines_due sink k 0 dues)) (ap (λ (t : LaneTells). t.accepted) told)
        (if_lines (lane_of sink n).tells.accepted _ (lines_due sink k 0 dues)
        (lines_from is_taken sink m.bay k (lane_of sink m).lines dues notes bay_is first
        ∙ all_kept is_taken refl sink dues m n notes all own_full (own_failed f g) k 0)
        (grows_all (lane_of sink m).tells.accepted (lane_of sink n).tells.accepted _ none (accepts sink dues m n notes all).grows)))

    pub own_taken : to.faults ≡ 0 → to.refusals ≡ 0 → AllFit sink dues → AllTaken sink notes
    own_taken f g = all_taken sink dues m n notes all own_full (own_failed f g)
