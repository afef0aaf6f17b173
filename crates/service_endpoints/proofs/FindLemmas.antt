-- The places of the last endpoints.
use Rattle.std.proofs.Common.{◌≡◌, ℕ, suc, ◌+◌, ◌<◌, ◌≤◌, ◌∷◌, [], ◌++◌, List, length, take, get_or, Bool, true, false, cond, Option, Some, None, option_map, bytes_eq, refl, sym, ap, ◌∙◌, arith}
use Rattle.std.proofs.lemmas.Bool.{cond-false}
use Rattle.std.proofs.lemmas.List.{take_more, length-take-le}
use Rattle.std.specs.Cmp.Lexicographic.{same_text}
use Rattle.front_base.specs.declared.address.Address.{Address}
use Rattle.service_endpoints.specs.Find.{later_or, last_address, last_place, AreShort}
use Rattle.service_endpoints.specs.declared.endpoint.Endpoint.{Endpoint}
use Rattle.service_endpoints.specs.declared.key.TheConstants.{MOST_KEY_BYTES}

-- one endpoint more
later_map : (o : Option ℕ) (b : Bool) (n : ℕ) (rest : Option ℕ) → later_or (option_map suc (cond b (Some n) o)) rest ≡ cond b (Some (suc n)) (later_or (option_map suc o) rest)
later_map o true n rest = refl
later_map o false n rest = refl

place_pushed : (q : List ℕ) (xs : List Endpoint) (r : Endpoint) → last_place q (xs ++ r ∷ []) ≡ cond (bytes_eq r.key q) (Some (length xs)) (last_place q xs)
unfolding last_place
place_pushed q [] r = refl
place_pushed q (x ∷ xs) r =
    ap (λ o. later_or (option_map suc o) (cond (bytes_eq x.key q) (Some 0) None)) (place_pushed q xs r)
    ∙ later_map (last_place q xs) (bytes_eq r.key q) (length xs) (cond (bytes_eq x.key q) (Some 0) None)

pub placed : (i : ℕ) (xs : List Endpoint) (d : Endpoint) (key q : List ℕ) (before after : Option ℕ)
    → i < length xs → key ≡ (get_or xs i d).key → before ≡ last_place q (take i xs) → after ≡ cond (bytes_eq key q) (Some i) before
    → after ≡ last_place q (take (i + 1) xs)
placed i xs d key q before after h t b a =
    let n : length (take i xs) ≡ i = length-take-le i xs (omega arith) in
    a ∙ rw (t, b) (ap (λ k. cond (bytes_eq (get_or xs i d).key q) (Some k) (last_place q (take i xs))) (sym n))
    ∙ sym (place_pushed q (take i xs) (get_or xs i d)) ∙ ap (last_place q) (sym (take_more xs i d h))

-- the address at the place
here_or : (b : Bool) (u : Address) (d : Endpoint) (x : Endpoint) (xs : List Endpoint) → x.address ≡ u → option_map (λ p. (get_or (x ∷ xs) p d).address) (cond b (Some 0) None) ≡ cond b (Some u) None
here_or true u d x xs e = ap Some e
here_or false u d x xs e = refl

later_addresses : (o : Option ℕ) (ou : Option Address) (b : Bool) (x : Endpoint) (xs : List Endpoint) (d : Endpoint)
    → option_map (λ p. (get_or xs p d).address) o ≡ ou
    → option_map (λ p. (get_or (x ∷ xs) p d).address) (later_or (option_map suc o) (cond b (Some 0) None)) ≡ later_or ou (cond b (Some x.address) None)
later_addresses None ou b x xs d e = rw (← e) (here_or b x.address d x xs refl)
later_addresses (Some p) ou b x xs d e = rw (← e) refl

place_address : (q : List ℕ) (xs : List Endpoint) (d : Endpoint) → option_map (λ p. (get_or xs p d).address) (last_place q xs) ≡ last_address q xs
unfolding last_place last_address
place_address q [] d = refl
place_address q (x ∷ xs) d = later_addresses (last_place q xs) (last_address q xs) (bytes_eq x.key q) x xs d (place_address q xs d)

pub address_found : (q : List ℕ) (xs : List Endpoint) (p : ℕ) (d : Endpoint) → Some p ≡ last_place q xs → Some (get_or xs p d).address ≡ last_address q xs
address_found q xs p d e = ap (option_map (λ i. (get_or xs i d).address)) e ∙ place_address q xs d

abbrev none : Endpoint
none = record { key = []; address = record { ip = []; port = 0 } }

pub address_missing : (q : List ℕ) (xs : List Endpoint) → None ≡ last_place q xs → None ≡ last_address q xs
address_missing q xs e = ap (option_map (λ i. (get_or xs i none).address)) e ∙ place_address q xs none

-- a place is within the endpoints
abbrev Within : ℕ → Option ℕ → Type 0
Within n None = Unit {0}
Within n (Some p) = p < n

later_within : (o : Option ℕ) (b : Bool) (n : ℕ) → Within n o → Within (suc n) (later_or (option_map suc o) (cond b (Some 0) None))
later_within None true n h = omega arith
later_within None false n h = tt
later_within (Some p) b n h = omega (arith, h)

all_within : (q : List ℕ) (xs : List Endpoint) → Within (length xs) (last_place q xs)
unfolding last_place
all_within q [] = tt
all_within q (x ∷ xs) = later_within (last_place q xs) (bytes_eq x.key q) (length xs) (all_within q xs)

pub place_within : (q : List ℕ) (xs : List Endpoint) (p : ℕ) → Some p ≡ last_place q xs → p < length xs
place_within q xs p e = rw (← e) at (all_within q xs)

-- ---- keys are short

pub short_more : (xs : List Endpoint) (r : Endpoint) → AreShort xs → length r.key ≤ MOST_KEY_BYTES → AreShort (xs ++ r ∷ [])
short_more [] r h u = (u, tt)
short_more (x ∷ xs) r h u = (h.0, short_more xs r h.1 u)

longer_differs : (x q : List ℕ) → length x ≤ MOST_KEY_BYTES → MOST_KEY_BYTES < length q → bytes_eq x q ≡ false
longer_differs x q short long = by_cases (bytes_eq x q) refl
  where
    by_cases : (b : Bool) → bytes_eq x q ≡ b → b ≡ false
    by_cases true e = let n : length x ≡ length q = ap length (same_text x q (sym e)) in absurd (omega arith)
    by_cases false e = refl

-- a longer text is no key
pub too_long : (q : List ℕ) (xs : List Endpoint) → AreShort xs → MOST_KEY_BYTES < length q → None ≡ last_address q xs
unfolding last_address
too_long q [] short long = refl
too_long q (x ∷ xs) short long =
    rw (← too_long q xs short.1 long) (sym (cond-false _ _ _ (longer_differs x.key q short.0 long)))
