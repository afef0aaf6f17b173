-- Each entry of a history is counted once, by the bay that made it.
use Rattle.std.proofs.Common.{◌≡◌, ℕ, ◌+◌, ◌<◌, ◌≤◌, ◌==◌, Bool, true, false, if◌then◌else◌, List, [], ◌∷◌, length, All, refl, ap, sym, ◌∙◌, arith}
use Rattle.std.proofs.lemmas.Bool.Decides.{nat_tests}
use Rattle.std.proofs.lemmas.List.Elements.{All-nil, All-cons, All-head, All-tail}
use Rattle.route_history.specs.History.{changes_of}
use Rattle.route_history.specs.declared.entry.Entry.{Entry}
use Rattle.shared_routes.specs.Makers.{places_of, made_by, own_count, AreNumbered, IsWithin, OwnAll, AreMade}
use Rattle.shared_routes.specs.Places.{changes_at}
use Rattle.shared_routes.specs.Shared.{Shared}
use Rattle.shared_routes.proofs.MadeLemmas.{equal_when, made_all, made_fewer, made_later, own_all, own_stays}

-- how many entries are of these bays
abbrev counted : ℕ → List Shared → List Entry → ℕ
counted at [] log = 0
counted at (r ∷ rs) log = length (places_of r.bay at log) + counted at rs log

abbrev hit : Bool → ℕ
hit true = 1
hit false = 0

abbrev hits : Entry → List Shared → ℕ
hits c [] = 0
hits c (r ∷ rs) = hit (c.bay == r.bay) + hits c rs

one_more : (u : Bool) (at : ℕ) (rest : List ℕ) → length (if u then at ∷ rest else rest) ≡ hit u + length rest
one_more true at rest = omega arith
one_more false at rest = omega arith

counted_step : (at : ℕ) (rs : List Shared) (c : Entry) (cs : List Entry) → counted at rs (c ∷ cs) ≡ hits c rs + counted (at + 1) rs cs
counted_step at [] c cs = refl
counted_step at (r ∷ rs) c cs = omega (arith, one_more (c.bay == r.bay) at (places_of r.bay (at + 1) cs), counted_step at rs c cs)

counted_none : (at : ℕ) (rs : List Shared) → counted at rs [] ≡ 0
counted_none at [] = refl
counted_none at (r ∷ rs) = omega (arith, counted_none at rs)

miss : (t : Bool) → t ≡ false → hit t ≡ 0
miss true h = absurd (cc h)
miss false h = refl

hits_none : (n : ℕ) (c : Entry) (rs : List Shared) → AreNumbered n rs → c.bay < n → hits c rs ≡ 0
hits_none n c [] num lt = refl
hits_none n c (r ∷ rs) num lt =
    let is = num.0 in
    let no : hit (c.bay == r.bay) ≡ 0 = miss (c.bay == r.bay) (grind (arith, nat_tests)) in
    omega (arith, no, hits_none (n + 1) c rs num.1 (omega arith))

-- an entry is of one bay, or of none
hits_first : (n : ℕ) (c : Entry) (r : Shared) (rs : List Shared) → (r.bay ≡ n) → AreNumbered (n + 1) rs → hits c rs ≤ 1 → (t : Bool) → (c.bay == r.bay) ≡ t → hit t + hits c rs ≤ 1
hits_first n c r rs is num le true e =
    let eq : c.bay ≡ r.bay = equal_when c.bay r.bay e in
    omega (arith, hits_none (n + 1) c rs num (omega (arith, eq, is)))
hits_first n c r rs is num le false e = omega (arith, le)

hits_bound : (n : ℕ) (c : Entry) (rs : List Shared) → AreNumbered n rs → hits c rs ≤ 1
hits_bound n c [] num = omega arith
hits_bound n c (r ∷ rs) num = hits_first n c r rs num.0 num.1 (hits_bound (n + 1) c rs num.1) (c.bay == r.bay) refl

hits_here : (n : ℕ) (c : Entry) (r : Shared) (rs : List Shared) → (r.bay ≡ n) → (hits c rs ≡ 1 → c.bay < n + 1 + length rs) → (t : Bool) → (c.bay == r.bay) ≡ t → hit t + hits c rs ≡ 1 → c.bay < n + length (r ∷ rs)
hits_here n c r rs is rest true e h = let eq : c.bay ≡ r.bay = equal_when c.bay r.bay e in omega (arith, eq, is)
hits_here n c r rs is rest false e h = let lt = rest (omega (arith, h)) in omega (arith, lt)

hits_some : (n : ℕ) (c : Entry) (rs : List Shared) → AreNumbered n rs → hits c rs ≡ 1 → c.bay < n + length rs
hits_some n c [] num h = absurd (omega (arith, h))
hits_some n c (r ∷ rs) num h = hits_here n c r rs num.0 (hits_some (n + 1) c rs num.1) (c.bay == r.bay) refl h

counted_bound : (at : ℕ) (rs : List Shared) (log : List Entry) → AreNumbered 0 rs → counted at rs log ≤ length log
counted_bound at rs [] num = omega (arith, counted_none at rs)
counted_bound at rs (c ∷ cs) num = omega (arith, counted_step at rs c cs, hits_bound 0 c rs num, counted_bound (at + 1) rs cs num)

-- where each entry is counted, each is of one of the bays
counted_all : (at : ℕ) (rs : List Shared) (log : List Entry) → AreNumbered 0 rs → counted at rs log ≡ length log → All (λ (c : Entry). c.bay < length rs) log
counted_all at rs [] num e = All-nil (λ (c : Entry). c.bay < length rs)
counted_all at rs (c ∷ cs) num e =
    let s = counted_step at rs c cs in
    let one = hits_bound 0 c rs num in
    let le = counted_bound (at + 1) rs cs num in
    let lt = hits_some 0 c rs num (omega (arith, s, one, le, e)) in
    All-cons (λ (x : Entry). x.bay < length rs) c cs (omega (arith, lt)) (counted_all (at + 1) rs cs num (omega (arith, s, one, le, e)))

abbrev AreWithin : List Entry → List Shared → Type 0
AreWithin log [] = Unit {0}
AreWithin log (r ∷ rs) = IsWithin log r × AreWithin log rs

each_within : (log : List Entry) (rs : List Shared) → All (IsWithin log) rs → AreWithin log rs
each_within log [] all = tt
each_within log (r ∷ rs) all = (All-head (IsWithin log) r rs all, each_within log rs (All-tail (IsWithin log) r rs all))

own_fewer : (log : List Entry) (rs : List Shared) → AreWithin log rs → own_count rs ≤ counted 0 rs log
own_fewer log [] w = omega arith
own_fewer log (r ∷ rs) w =
    let more = made_later r.bay r.places r.entries log w.0.seen w.0.own in
    omega (arith, made_fewer r.bay 0 r.places log more, own_fewer log rs w.1)

own_exact : (n : ℕ) (log : List Entry) (rs : List Shared) → AreNumbered n rs → AreWithin log rs → own_count rs ≡ counted 0 rs log → OwnAll n log rs
own_exact n log [] num w e = tt
own_exact n log (r ∷ rs) num w e =
    let more = made_later r.bay r.places r.entries log w.0.seen w.0.own in
    let a = made_fewer r.bay 0 r.places log more in
    let b = own_fewer log rs w.1 in
    let len : length r.places ≡ length (places_of r.bay 0 log) = omega (arith, a, b, e) in
    let all = made_all r.bay 0 r.places log more len in (
      sym (own_stays r.bay r.places r.entries log w.0.seen w.0.own)
          ∙ ap (λ (ps : List ℕ). changes_at ps (changes_of log)) all
          ∙ own_all r.bay 0 [] log log refl refl
          ∙ ap (λ k. made_by k 0 log) num.0,
      own_exact (n + 1) log rs num.1 w.1 (omega (arith, a, b, e)),
    )

-- where bays have as many own changes as the history has entries, each has exactly those of its number, and there are no others
pub are_made : (log : List Entry) (rs : List Shared) → AreNumbered 0 rs → All (IsWithin log) rs → own_count rs ≡ length log → AreMade log rs
are_made log rs num all e =
    let w = each_within log rs all in
    let a = own_fewer log rs w in
    let b = counted_bound 0 rs log num in
    record { own = own_exact 0 log rs num w (omega (arith, a, b, e)); by = counted_all 0 rs log num (omega (arith, a, b, e)) }
