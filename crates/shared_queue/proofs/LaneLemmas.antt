-- What a lane counts and keeps.
use Rattle.std.proofs.Common.{◌≡◌, ◌<◌, ◌≤◌, ◌+◌, ◌-◌, ◌^◌, ◌⊎◌, min, ℕ, zero, suc, inl, inr, length, sum, get_or, sym, ap, ◌∙◌, arith}
use Rattle.crossbeam_queue.specs.Passes.{view}
use Rattle.truncate_backend.specs.Told.{RisesByOne}
use Rattle.shared_queue.specs.Lanes.{LaneParts, CanBeFull, lane_accepted, lane_allotment, lane_allotments, lane_capacity, lane_fulls}
use Rattle.shared_queue.specs.declared.lane.QueueLane.{QueueLane}

-- the sum of two counts rises with either
pub rises_left : (a b c d : ℕ) → RisesByOne a c → d ≡ b → RisesByOne (min (a + b) (2 ^ 64 - 1)) (min (c + d) (2 ^ 64 - 1))
rises_left a b c d r e = record { later = let h = r.later in omega arith; is = let h = r.later in let k = r.is in omega arith }

pub rises_right : (a b c d : ℕ) → c ≡ a → RisesByOne b d → RisesByOne (min (a + b) (2 ^ 64 - 1)) (min (c + d) (2 ^ 64 - 1))
rises_right a b c d e r = record { later = let h = r.later in omega arith; is = let h = r.later in let k = r.is in omega arith }

either : (A B : Type 0) (a b : ℕ) → (0 < a → A) → (0 < b → B) → 0 < min (a + b) (2 ^ 64 - 1) → A ⊎ B
either A B zero b f g h = inr (g (omega (arith, h)))
either A B (suc a) b f g h = inl (f (omega arith))

pub lane_parts : {R : Type 0} (l : QueueLane R) → LaneParts l
lane_parts l =
    let full = either (length (lane_accepted l) ≡ lane_allotment l) (CanBeFull l) l.beyond l.refusals.count
    (λ h. sym l.count_is.0 ∙ l.beyond_is h) l.crowded in
    let within : length (lane_accepted l) ≤ lane_allotment l = omega (arith, l.count_is.0, l.count_is.1) in
    record {
      allotted = sym l.allotment_is ∙ ap (λ b. get_or (view l.pass).allotments b 0) l.bay_is;
      within = within;
      beyond = λ h. sym l.count_is.0 ∙ l.beyond_is h;
      refused = l.crowded;
      full = full;
      spent = λ h room. elim (full h) [ inl e ↦ e | inr c ↦ omega (arith, c, room, within) ];
    }
