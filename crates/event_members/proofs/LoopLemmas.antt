-- Reading bytes of a string one after the other, as a loop does.
use Rattle.std.proofs.Common.{◌≡◌, ℕ, suc, ◌-◌, ◌+◌, ◌≤◌, ◌<◌, true, false, List, [], ◌∷◌, ◌++◌, Option, Some, None, refl, sym, ap, ◌∙◌, append_assoc, arith}
use Rattle.std.proofs.lemmas.List.{append-nil}
use Rattle.event_members.specs.declared.fault.EventFault.{EventFault}
use Rattle.event_members.specs.declared.fault.EventFault.TheVariants as fault
use Rattle.event_members.specs.TextMembers.{◌>>=◌, Fails, is_closed, rest_of, up_to}

-- what was read before, and what is still read
abbrev pub with_front : {A : Type 0} → List A → Option (List A × List ℕ) → Option (List A × List ℕ)
with_front front read = read >>= λ x. Some (front ++ x.0, x.1)

regroup : {A : Type 0} (front : List A) (b : A) (read : Option (List A × List ℕ)) → with_front front (read >>= λ x. Some (b ∷ x.0, x.1)) ≡ with_front (front ++ b ∷ []) read
regroup {A} front b (Some x) = ap (λ (s : List A). Some (s, x.1)) (simp append_assoc)
regroup front b None = refl

pub goes_on : {A : Type 0} (mark : ℕ) (one : List ℕ → Option (A × List ℕ)) (front : List A) (count i : ℕ) (bytes : List ℕ) (b : A) (after : List ℕ) (total : Option (List A × List ℕ)) → i < count → is_closed mark bytes ≡ false → one bytes ≡ Some (b, after)
    → with_front front (up_to mark one (count - i) bytes) ≡ total → with_front (front ++ b ∷ []) (up_to mark one (count - (i + 1)) after) ≡ total
unfolding up_to
goes_on mark one front count i bytes b after total lt unclosed h so_far =
    let k : count - i ≡ suc (count - (i + 1)) = omega arith in
    let step : with_front front (up_to mark one (count - i) bytes) ≡ with_front (front ++ b ∷ []) (up_to mark one (count - (i + 1)) after) = rw (k, unclosed, h) (regroup front b (up_to mark one (count - (i + 1)) after)) in
    sym step ∙ so_far

pub closes : {A : Type 0} (mark : ℕ) (one : List ℕ → Option (A × List ℕ)) (front : List A) (count i : ℕ) (bytes after : List ℕ) (total : Option (List A × List ℕ)) → i < count → is_closed mark bytes ≡ true → rest_of bytes ≡ after
    → with_front front (up_to mark one (count - i) bytes) ≡ total → total ≡ Some (front, after)
unfolding up_to
closes {A} mark one front count i bytes after total lt closed h so_far =
    let k : count - i ≡ suc (count - (i + 1)) = omega arith in
    let step : with_front front (up_to mark one (count - i) bytes) ≡ Some (front, after) = rw (k, closed, h) (ap (λ (s : List A). Some (s, after)) (append-nil front)) in
    sym so_far ∙ step

pub fails : {A : Type 0} (mark : ℕ) (one : List ℕ → Option (A × List ℕ)) (e : EventFault) (front : List A) (count i : ℕ) (bytes : List ℕ) (total : Option (List A × List ℕ)) → i < count → is_closed mark bytes ≡ false → Fails e (one bytes)
    → with_front front (up_to mark one (count - i) bytes) ≡ total → Fails e total
unfolding up_to
fails mark one fault.NoMemory front count i bytes total lt unclosed h so_far = tt
fails mark one fault.NotAnEvent front count i bytes total lt unclosed h so_far =
    let k : count - i ≡ suc (count - (i + 1)) = omega arith in
    let step : with_front front (up_to mark one (count - i) bytes) ≡ None = rw (k, unclosed, h) refl in
    sym so_far ∙ step

pub is_done : {A : Type 0} (mark : ℕ) (one : List ℕ → Option (A × List ℕ)) (front : List A) (count i : ℕ) (bytes : List ℕ) (total : Option (List A × List ℕ)) → count ≤ i → with_front front (up_to mark one (count - i) bytes) ≡ total → total ≡ None
unfolding up_to
is_done mark one front count i bytes total le so_far =
    let k : count - i ≡ 0 = omega arith in
    let step : with_front front (up_to mark one (count - i) bytes) ≡ None = rw k refl in
    sym so_far ∙ step

pub fails_then : {A B : Type 0} (e : EventFault) (read : Option A) (more : A → Option B) → Fails e read → Fails e (read >>= more)
fails_then fault.NoMemory read more h = tt
fails_then {A} {B} fault.NotAnEvent read more h = rw h refl
