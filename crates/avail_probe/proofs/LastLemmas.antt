-- The last elements of a list.
use Rattle.std.proofs.Common.{◌≡◌, ℕ, ◌+◌, ◌-◌, ◌<◌, ◌≤◌, Bool, true, false, not, Option, Some, None, List, [], ◌∷◌, ◌++◌, length, drop, nat_le, if◌then◌else◌, length-append, length-drop, drop-drop, leb-true, refl, sym, ap, ◌∙◌, arith}
use Rattle.std.proofs.lemmas.Bool.Decides.{nat_tests}
use Rattle.std.proofs.lemmas.List.{drop-append-le}
use Rattle.avail_probe.specs.Watching.{Watched, are_last, are_so, kept, last, probed, wish, wish_by, wish_for}
use Rattle.avail_probe.specs.declared.watcher.TheConstants.{MOST_PROBES}

longer : {T : Type 0} → (xs : List T) (x : T) → length (xs ++ x ∷ []) ≡ length xs + 1
longer xs x = length-append xs (x ∷ [])

-- one more where there is room, and where there is none
pub last_room : {T : Type 0} → (n : ℕ) (xs : List T) (x : T) → length xs < n → last n (xs ++ x ∷ []) ≡ xs ++ x ∷ []
last_room n xs x room =
    let none : length (xs ++ x ∷ []) - n ≡ 0 = omega (arith, longer xs x, room) in
    ap (λ k. drop k (xs ++ x ∷ [])) none

pub last_full : {T : Type 0} → (n : ℕ) (xs : List T) (x : T) → 0 < n → length xs ≡ n → last n (xs ++ x ∷ []) ≡ drop 1 xs ++ x ∷ []
last_full n xs x some full =
    let one : length (xs ++ x ∷ []) - n ≡ 1 = omega (arith, longer xs x, full) in
    let inside : 1 ≤ length xs = omega (arith, some, full) in
    ap (λ k. drop k (xs ++ x ∷ [])) one ∙ drop-append-le 1 xs (x ∷ []) inside

-- the last of the last
length_last : {T : Type 0} → (m : ℕ) (xs : List T) → length (last m xs) ≡ length xs - (length xs - m)
length_last m xs = length-drop (length xs - m) xs

last_last : {T : Type 0} → (n m : ℕ) (xs : List T) → n ≤ m → n ≤ length xs → last n (last m xs) ≡ last n xs
last_last n m xs most inside =
    let sum : (length xs - m) + (length (last m xs) - n) ≡ length xs - n = omega (arith, length_last m xs, most, inside) in
    drop-drop (length (last m xs) - n) (length xs - m) xs ∙ ap (λ k. drop k xs) sum

-- what is dropped before one more is dropped after it too
last_more : {T : Type 0} → (m : ℕ) (xs : List T) (x : T) → last m (last m xs ++ x ∷ []) ≡ last m (xs ++ x ∷ [])
last_more m xs x =
    let j = length xs - m in
    let k = length (drop j xs ++ x ∷ []) - m in
    let inside : j ≤ length xs = omega arith in
    let sum : j + k ≡ length (xs ++ x ∷ []) - m = omega (arith, longer xs x, longer (drop j xs) x, length_last m xs) in
    ap (drop k) (sym (drop-append-le j xs (x ∷ []) inside)) ∙ drop-drop k j (xs ++ x ∷ []) ∙ ap (λ i. drop i (xs ++ x ∷ [])) sum

same_if : (t : Bool) (n m : ℕ) (good : Bool) (probes : List Bool) → n ≤ m → nat_le n (length probes) ≡ t
    → (if t then are_so good (last n (last m probes)) else false) ≡ (if t then are_so good (last n probes) else false)
same_if true n m good probes most is = ap (are_so good) (last_last n m probes most (leb-true n (length probes) is))
same_if false n m good probes most is = refl

are_same : (n m : ℕ) (good : Bool) (probes : List Bool) → n ≤ m → are_last n good (last m probes) ≡ are_last n good probes
are_same n m good probes most =
    let tests : nat_le n (length (last m probes)) ≡ nat_le n (length probes) = grind (arith, nat_tests, length_last m probes, most) in
    ap (λ t. if t then are_so good (last n (last m probes)) else false) tests
    ∙ same_if (nat_le n (length probes)) n m good probes most refl

same_for : (threshold : ℕ) (up : Bool) (probes : List Bool) → threshold ≤ MOST_PROBES
    → wish_for threshold up (last MOST_PROBES probes) ≡ wish_for threshold up probes
same_for threshold up probes most = ap (λ t. if t then Some up else None) (are_same threshold MOST_PROBES up probes most)

same_by : (threshold : ℕ) (told : Option Bool) (probes : List Bool) → threshold ≤ MOST_PROBES
    → wish_by threshold told (last MOST_PROBES probes) ≡ wish_by threshold told probes
same_by threshold None probes most = rw (same_for threshold true probes most, same_for threshold false probes most) refl
same_by threshold (Some up) probes most = same_for threshold (not up) probes most

pub same_wish : (threshold : ℕ) (w : Watched) → threshold ≤ MOST_PROBES → wish threshold (kept w) ≡ wish threshold w
same_wish threshold w most = same_by threshold w.told w.probes most

pub same_kept : (good : Bool) (w all : Watched) → w ≡ kept all
    → probed good w ≡ kept (record { told = all.told; refused = all.refused; probes = all.probes ++ good ∷ [] })
same_kept good w all is =
    ap (probed good) is
    ∙ ap (λ probes. record { told = all.told; refused = all.refused; probes = probes }) (last_more MOST_PROBES all.probes good)
