-- A try joins the tries.
use Rattle.std.proofs.Common.{◌≡◌, ◌+◌, ◌-◌, ◌^◌, ◌≤◌, min, ℕ, List, [], ◌∷◌, ◌++◌, Option, Some, None, option_map, false, refl, sym, ap, ◌∙◌, append-nil, subst, Ok, Err, arith}
use Rattle.front_base.specs.Line.{Line}
use Rattle.front_ports.specs.Told.{Grows}
use Rattle.truncate_backend.specs.Told.{Joined, RisesByOne}
use Rattle.truncate_backend.specs.Tries.{Try, SinkTells, Tried, Counted, answer_of, try_of, lines_of, lines_done, done_of}
use Rattle.truncate_backend.proofs.SentLemmas.{keeps-one, single-one}
use Rattle.truncate_backend.proofs.TryLemmas.{lines-append, done-append, none-done}
use Rattle.truncate_backend.specs.Owns.{own_tells}
use Rattle.truncate_backend.specs.Lanes.{Offered}
use Rattle.truncate_backend.specs.declared.lane.Offer.TheVariants.{Taken, Failed}
use Rattle.truncate_backend.specs.declared.tries.SinkFault.{SinkFault}
use Rattle.truncate_backend.specs.declared.tries.SinkFault.TheVariants as faults

pub grows_map : {A B : Type 0} (f : List A → List B) (a b : Option (List A)) (xs : List A) (more : List B) → ((ys : List A) → f (ys ++ xs) ≡ f ys ++ more) → Grows a b xs → Grows (option_map f a) (option_map f b) more
grows_map f None b xs more h j = ap (option_map f) j
grows_map f (Some zs) None xs more h j = tt
grows_map f (Some zs) (Some ys) xs more h j = ap f j ∙ h zs

pub tried_lines : (a b : Option (List Try)) (t : Try) → Joined a (t ∷ []) b → Joined (option_map lines_of a) t.lines (option_map lines_of b)
tried_lines a b t j = record { grows = grows_map lines_of a b (t ∷ []) t.lines (λ ys. lines-append ys (t ∷ []) ∙ ap (λ l. lines_of ys ++ l) (append-nil t.lines)) j.grows }

pub tried_done : (a b : Option (List Try)) (t : Try) → Joined a (t ∷ []) b → Joined (option_map done_of a) (lines_done t.note.answer t.lines) (option_map done_of b)
tried_done a b t j = record { grows = grows_map done_of a b (t ∷ []) (lines_done t.note.answer t.lines) (λ ys. done-append ys (t ∷ []) ∙ ap (λ l. done_of ys ++ l) (append-nil (lines_done t.note.answer t.lines))) j.grows }

pub sum_rises : (a b c d : ℕ) → RisesByOne a c → b ≡ d → RisesByOne (min (a + b) (2 ^ 64 - 1)) (min (c + d) (2 ^ 64 - 1))
sum_rises a b c d r e = record { later = let h = r.later in omega arith; is = let h = r.later in let k = r.is in omega arith }

pub sum_rises_right : (a b c d : ℕ) → a ≡ c → RisesByOne b d → RisesByOne (min (a + b) (2 ^ 64 - 1)) (min (c + d) (2 ^ 64 - 1))
sum_rises_right a b c d e r = record { later = let h = r.later in omega arith; is = let h = r.later in let k = r.is in omega arith }

pub own_taken : (m n : SinkTells) (x : Line) → Tried m (x ∷ []) (Ok tt) n → Offered (own_tells m) x false Taken (own_tells n)
own_taken m n x t =
    (tried_done m.tries n.tries _ t.is.tries, tried_lines m.tries n.tries _ t.is.tries, refl, (let c = t.is.counts in let a = c.0 in let b = c.1 in omega arith), (keeps-one m n (x ∷ []) (Ok tt) t, single-one m n x (Ok tt) t))

failed_rises : (m n : SinkTells) (e : SinkFault) → Counted m (Err e) n → RisesByOne (own_tells m).faults (own_tells n).faults
failed_rises m n faults.Port c = sum_rises m.faults m.refusals n.faults n.refusals c.0 (sym c.1)
failed_rises m n (faults.Refused code) c = sum_rises_right m.faults m.refusals n.faults n.refusals (sym c.0) c.1
failed_rises m n faults.BadAnswer c = sum_rises_right m.faults m.refusals n.faults n.refusals (sym c.0) c.1

pub own_failed : (m n : SinkTells) (x : Line) (e : SinkFault) → Tried m (x ∷ []) (Err e) n → Offered (own_tells m) x false (Failed x) (own_tells n)
own_failed m n x e t =
    let d = tried_done m.tries n.tries (try_of (x ∷ []) t.sent (answer_of (Err e))) t.is.tries in
    (refl, refl, subst (λ (l : List Line). Joined (option_map done_of m.tries) l (option_map done_of n.tries)) (none-done e (x ∷ [])) d, tried_lines m.tries n.tries _ t.is.tries, refl, failed_rises m n e t.is.counts, (keeps-one m n (x ∷ []) (Err e) t, single-one m n x (Err e) t))
