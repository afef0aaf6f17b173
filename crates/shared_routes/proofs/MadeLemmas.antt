-- Own places in a history that grows.
use Rattle.std.proofs.Common.{◌≡◌, ℕ, zero, suc, ◌+◌, ◌-◌, ◌<◌, ◌≤◌, ◌==◌, ◌&&◌, nat_lt, Bool, true, false, if◌then◌else◌, List, [], ◌∷◌, ◌++◌, length, refl, ap, sym, ◌∙◌, subst, arith, append_assoc, length-append, Some, slice_get}
use Rattle.std.proofs.lemmas.Bool.Decides.{nat_tests}
use Rattle.std.proofs.lemmas.List.{length-map, map-append}
use mathlib.Core.List.{IsPrefix}
use Rattle.apiservice_table.specs.Changes.{IsLater}
use Rattle.apiservice_table.specs.declared.change.Change.{Change}
use Rattle.route_history.specs.History.{changes_of}
use Rattle.route_history.specs.declared.entry.Entry.{Entry}
use Rattle.shared_routes.specs.Makers.{are_made_by, places_of, made_by}
use Rattle.shared_routes.specs.Places.{are_below, changes_at, with_change}
use Rattle.shared_routes.proofs.PlaceLemmas.{is_less, joined, own_push, own_stay}

-- the changes of what was seen more
pub seen_later : (old new : List Entry) → IsPrefix old new → IsLater (changes_of old) (changes_of new)
seen_later old new p = (changes_of p.0, ap (λ (l : List Entry). changes_of l) (sym p.1) ∙ map-append (λ (e : Entry). e.change) old p.0)

pub seen_push : (before new : List Entry) (c : Entry) → new ≡ before ++ c ∷ [] → changes_of new ≡ changes_of before ++ c.change ∷ []
seen_push before new c last = ap (λ (l : List Entry). changes_of l) last ∙ map-append (λ (e : Entry). e.change) before (c ∷ [])

pub as_many : (entries : List Entry) → length (changes_of entries) ≡ length entries
as_many entries = length-map entries (λ (e : Entry). e.change)

both : (t u x y x' y' : Bool) → (x ≡ true → x' ≡ true) → (y ≡ true → y' ≡ true) → (if t then (u && x) else y) ≡ true → (if t then (u && x') else y') ≡ true
both true true x y x' y' f g h = f h
both true false x y x' y' f g h = h
both false u x y x' y' f g h = g h

more : (b at : ℕ) (ps : List ℕ) (log rest : List Entry) → are_made_by b at ps log ≡ true → are_made_by b at ps (log ++ rest) ≡ true
more b at [] log rest h = refl
more b at (p ∷ ps) [] rest h = absurd (cc h)
more b at (p ∷ ps) (c ∷ cs) rest h =
    both (p == at) (c.bay == b) (are_made_by b (at + 1) ps cs) (are_made_by b (at + 1) (p ∷ ps) cs) (are_made_by b (at + 1) ps (cs ++ rest)) (are_made_by b (at + 1) (p ∷ ps) (cs ++ rest))
    (more b (at + 1) ps cs rest) (more b (at + 1) (p ∷ ps) cs rest) h

-- own places stay while more is seen
pub made_later : (b : ℕ) (ps : List ℕ) (old new : List Entry) → IsPrefix old new → are_made_by b 0 ps old ≡ true → are_made_by b 0 ps new ≡ true
made_later b ps old new p h = subst (λ (l : List Entry). are_made_by b 0 ps l ≡ true) p.1 (more b 0 ps old p.0 h)

here : (t u : Bool) → t ≡ true → u ≡ true → (if t then (u && true) else false) ≡ true
here true true p q = refl
here true false p q = absurd (cc q)
here false u p q = absurd (cc p)

further : (t : Bool) (x y : Bool) → t ≡ false → y ≡ true → (if t then x else y) ≡ true
further true x y p q = absurd (cc p)
further false x y p q = q

pushed : (b at q : ℕ) (ps : List ℕ) (log : List Entry) (c : Entry) → q ≡ at + length log → c.bay ≡ b → are_made_by b at ps log ≡ true → are_made_by b at (ps ++ q ∷ []) (log ++ c ∷ []) ≡ true
pushed b at q [] [] c is of h = here (q == at) (c.bay == b) (grind (arith, nat_tests)) (grind (arith, nat_tests))
pushed b at q [] (d ∷ cs) c is of h =
    further (q == at) ((d.bay == b) && are_made_by b (at + 1) [] (cs ++ c ∷ [])) (are_made_by b (at + 1) (q ∷ []) (cs ++ c ∷ [])) (grind (arith, nat_tests)) (pushed b (at + 1) q [] cs c (omega (arith, is)) of refl)
pushed b at q (p ∷ ps) [] c is of h = absurd (cc h)
pushed b at q (p ∷ ps) (d ∷ cs) c is of h =
    both (p == at) (d.bay == b) (are_made_by b (at + 1) ps cs) (are_made_by b (at + 1) (p ∷ ps) cs) (are_made_by b (at + 1) (ps ++ q ∷ []) (cs ++ c ∷ [])) (are_made_by b (at + 1) ((p ∷ ps) ++ q ∷ []) (cs ++ c ∷ []))
    (pushed b (at + 1) q ps cs c (omega (arith, is)) of) (pushed b (at + 1) q (p ∷ ps) cs c (omega (arith, is)) of) h

-- an own change joins them at its place
pub made_push : (b q : ℕ) (ps : List ℕ) (old before new : List Entry) (c : Entry) → IsPrefix old before → new ≡ before ++ c ∷ [] → q ≡ length new - 1 → c.bay ≡ b → are_made_by b 0 ps old ≡ true → are_made_by b 0 (ps ++ q ∷ []) new ≡ true
made_push b q ps old before new c p last at of h =
    let len : length new ≡ length before + 1 = ap length last ∙ length-append before (c ∷ []) in
    subst (λ (l : List Entry). are_made_by b 0 (ps ++ q ∷ []) l ≡ true) (sym last) (pushed b 0 q ps before c (omega (arith, len, at)) of (made_later b ps old before p h))

-- there are no more of them than entries of the bay
longer : (t u x y : Bool) (p at : ℕ) (ps rest : List ℕ) → (x ≡ true → length ps ≤ length rest) → (y ≡ true → length (p ∷ ps) ≤ length rest) → (if t then (u && x) else y) ≡ true → length (p ∷ ps) ≤ length (if u then at ∷ rest else rest)
longer true true x y p at ps rest f g h = let le = f h in omega (arith, le)
longer true false x y p at ps rest f g h = absurd (cc h)
longer false true x y p at ps rest f g h = let le = g h in omega (arith, le)
longer false false x y p at ps rest f g h = g h

pub made_fewer : (b at : ℕ) (ps : List ℕ) (log : List Entry) → are_made_by b at ps log ≡ true → length ps ≤ length (places_of b at log)
made_fewer b at [] log h = omega arith
made_fewer b at (p ∷ ps) [] h = absurd (cc h)
made_fewer b at (p ∷ ps) (c ∷ cs) h =
    longer (p == at) (c.bay == b) (are_made_by b (at + 1) ps cs) (are_made_by b (at + 1) (p ∷ ps) cs) p at ps (places_of b (at + 1) cs)
    (made_fewer b (at + 1) ps cs) (made_fewer b (at + 1) (p ∷ ps) cs) h

none_left : (ps : List ℕ) → 0 ≡ length ps → [] ≡ ps
none_left [] e = refl
none_left (p ∷ ps) e = absurd (omega (arith, e))

same : (t u x y : Bool) (p at : ℕ) (ps rest : List ℕ) → (t ≡ true → p ≡ at) → (x ≡ true → length ps ≡ length rest → ps ≡ rest) → (y ≡ true → length (p ∷ ps) ≤ length rest) → (y ≡ true → length (p ∷ ps) ≡ length rest → p ∷ ps ≡ rest)
    → (if t then (u && x) else y) ≡ true → length (p ∷ ps) ≡ length (if u then at ∷ rest else rest) → p ∷ ps ≡ (if u then at ∷ rest else rest)
same true true x y p at ps rest is f le g h len = let e : ps ≡ rest = f h (omega (arith, len)) in let k : p ≡ at = is refl in cc (e, k)
same true false x y p at ps rest is f le g h len = absurd (cc h)
same false true x y p at ps rest is f le g h len = let l = le h in absurd (omega (arith, len, l))
same false false x y p at ps rest is f le g h len = g h len

pub equal_when : (p at : ℕ) → (p == at) ≡ true → p ≡ at
equal_when p at h = grind (arith, nat_tests)

-- where there are as many, they are all
pub made_all : (b at : ℕ) (ps : List ℕ) (log : List Entry) → are_made_by b at ps log ≡ true → length ps ≡ length (places_of b at log) → ps ≡ places_of b at log
made_all b at [] log h len = none_left (places_of b at log) len
made_all b at (p ∷ ps) [] h len = absurd (cc h)
made_all b at (p ∷ ps) (c ∷ cs) h len =
    same (p == at) (c.bay == b) (are_made_by b (at + 1) ps cs) (are_made_by b (at + 1) (p ∷ ps) cs) p at ps (places_of b (at + 1) cs)
    (equal_when p at) (made_all b (at + 1) ps cs) (made_fewer b (at + 1) (p ∷ ps) cs) (made_all b (at + 1) (p ∷ ps) cs) h len

get_here : (pre : List Entry) (c : Entry) (cs : List Entry) → slice_get (changes_of (pre ++ c ∷ cs)) (length pre) ≡ Some c.change
get_here [] c cs = refl
get_here (x ∷ pre) c cs = get_here pre c cs

chosen : (u : Bool) (at : ℕ) (c : Change) (ps : List ℕ) (all : List Change) (os : List (ℕ × Change)) → slice_get all at ≡ Some c → changes_at ps all ≡ os
    → changes_at (if u then at ∷ ps else ps) all ≡ (if u then (at, c) ∷ os else os)
chosen true at c ps all os f e = ap (λ x. with_change at x (changes_at ps all)) f ∙ ap (λ l. (at, c) ∷ l) e
chosen false at c ps all os f e = e

-- what stands at all places of a bay are all its entries
pub own_all : (b at : ℕ) (pre log all : List Entry) → all ≡ pre ++ log → at ≡ length pre → changes_at (places_of b at log) (changes_of all) ≡ made_by b at log
own_all b at pre [] all e n = refl
own_all b at pre (c ∷ cs) all e n =
    let next = own_all b (at + 1) (pre ++ c ∷ []) cs all (e ∙ sym (append_assoc pre (c ∷ []) cs)) (omega (arith, n, length-append pre (c ∷ []))) in
    let found : slice_get (changes_of all) at ≡ Some c.change = ap (λ (l : List Entry). slice_get (changes_of l) at) e ∙ (ap (λ k. slice_get (changes_of (pre ++ c ∷ cs)) k) n ∙ get_here pre c cs) in
    chosen (c.bay == b) at c.change (places_of b (at + 1) cs) (changes_of all) (made_by b (at + 1) cs) found next

-- ---- own places are places of what was seen

lower : (t u x y z w : Bool) → (t ≡ true → z ≡ true) → (x ≡ true → w ≡ true) → (y ≡ true → (z && w) ≡ true) → (if t then (u && x) else y) ≡ true → (z && w) ≡ true
lower true true x y z w f g k h = joined z w (f refl) (g h)
lower true false x y z w f g k h = absurd (cc h)
lower false u x y z w f g k h = k h

below : (b at n : ℕ) (ps : List ℕ) (log : List Entry) → n ≡ at + length log → are_made_by b at ps log ≡ true → are_below n ps ≡ true
below b at n [] log e h = refl
below b at n (p ∷ ps) [] e h = absurd (cc h)
below b at n (p ∷ ps) (c ∷ cs) e h =
    lower (p == at) (c.bay == b) (are_made_by b (at + 1) ps cs) (are_made_by b (at + 1) (p ∷ ps) cs) (nat_lt p n) (are_below n ps)
    (λ same. is_less p n (let k = equal_when p at same in omega (arith, e, k)))
    (below b (at + 1) n ps cs (omega (arith, e))) (below b (at + 1) n (p ∷ ps) cs (omega (arith, e))) h

pub made_below : (b : ℕ) (ps : List ℕ) (log : List Entry) → are_made_by b 0 ps log ≡ true → are_below (length (changes_of log)) ps ≡ true
made_below b ps log h = below b 0 (length (changes_of log)) ps log (omega (arith, as_many log)) h

-- what was seen more leaves the own changes
pub own_stays : (b : ℕ) (ps : List ℕ) (old new : List Entry) → IsPrefix old new → are_made_by b 0 ps old ≡ true → changes_at ps (changes_of new) ≡ changes_at ps (changes_of old)
own_stays b ps old new p h = own_stay ps (changes_of old) (changes_of new) (seen_later old new p) (made_below b ps old h)

-- an own change joins them at its place
pub own_pushes : (b q : ℕ) (ps : List ℕ) (old before new : List Entry) (c : Entry) → IsPrefix old before → new ≡ before ++ c ∷ [] → q ≡ length new - 1 → are_made_by b 0 ps old ≡ true
    → changes_at (ps ++ q ∷ []) (changes_of new) ≡ changes_at ps (changes_of old) ++ (length (changes_of before), c.change) ∷ []
own_pushes b q ps old before new c p last at h =
    own_push ps (changes_of old) (changes_of before) (changes_of new) c.change q (seen_later old before p) (seen_push before new c last)
    (at ∙ ap (λ n. n - 1) (sym (as_many new))) (made_below b ps old h)
