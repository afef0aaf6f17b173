-- What a ring accepted, in two parts.
use Rattle.std.proofs.Common.{◌≡◌, ◌+◌, ◌-◌, ◌<◌, ◌≤◌, ℕ, List, [], ◌∷◌, ◌++◌, length, take, drop, refl, sym, ap, ◌∙◌, arith, add-one, drop-cons, get_or, Bool, true, false, Some, option_map, IfSome}
use Rattle.std.proofs.Math.Seq.{take-suc}
use Rattle.std.proofs.lemmas.List.{take-append-drop, length-take}
use Rattle.front_base.specs.Line.{Line}
use Rattle.truncate_backend.specs.Told.{Joined}
use Rattle.bounded_buffer.specs.Ring.{told_of, RingParts}
use Rattle.bounded_buffer.specs.declared.ring_lane.RingLane.{RingLane}

next_taken : (cs q n : List Line) (x : Line) → q ≡ x ∷ n → length q ≤ length cs → drop (length cs - length q) cs ≡ q
    → take (length cs - length n) cs ≡ take (length cs - length q) cs ++ x ∷ []
next_taken cs q n x e h d =
    let a = ap length e in
    let k : ℕ = length cs - length q in
    let lt : k < length cs = omega arith in
    let c = drop-cons cs k x lt in
    let t = take-suc cs k x lt in
    let g : get_or cs k x ≡ x = cc in
    let m : length cs - length n ≡ k + 1 = omega arith in
    rw (m, add-one, t, g) refl

-- a pop takes the next of the copies
pub pop-told : (told : Bool) (cs q n : List Line) (x : Line) → q ≡ x ∷ n
    → (told ≡ true → length q ≤ length cs) → (told ≡ true → drop (length cs - length q) cs ≡ q)
    → Joined (told_of told (take (length cs - length q) cs)) (x ∷ []) (told_of told (take (length cs - length n) cs))
pop-told true cs q n x e h d = record { grows = next_taken cs q n x e (h refl) (d refl) }
pop-told false cs q n x e h d = record { grows = refl }

two_parts : (told : Bool) (cs q : List Line) → (told ≡ true → drop (length cs - length q) cs ≡ q)
    → told_of told cs ≡ option_map (λ taken. taken ++ q) (told_of told (take (length cs - length q) cs))
two_parts true cs q d =
    ap Some (sym (take-append-drop (length cs - length q) cs) ∙ ap (λ z. take (length cs - length q) cs ++ z) (d refl))
two_parts false cs q d = refl

was_full : (told : Bool) (capacity fulls : ℕ) (cs q : List Line) → (told ≡ true → length q ≤ length cs)
    → (told ≡ true → 0 < fulls → capacity ≤ length cs) → 0 < fulls
    → IfSome (told_of told (take (length cs - length q) cs)) (λ taken. capacity ≤ length taken + length q)
was_full true capacity fulls cs q h k f =
    let a = h refl in
    let b = k refl f in
    let t = length-take (length cs - length q) cs in
    omega arith
was_full false capacity fulls cs q h k f = tt

pub ring-parts : (r : RingLane) → RingParts r
ring-parts r =
    record {
      accepted = two_parts r.told r.copies.lines r.queue.items r.parts;
      within = r.within;
      full = λ f. was_full r.told r.capacity r.fulls r.copies.lines r.queue.items r.held r.crowded f;
    }
