-- Empty parts at the ends of a list of parts.
use Rattle.std.proofs.Common.{◌≡◌, ◌==◌, ℕ, ◌+◌, ◌-◌, ◌<◌, ◌≤◌, Bool, true, false, cond, List, [], ◌∷◌, ◌++◌, length, get_or, take, drop, refl, sym, ap, ◌∙◌, Bor, arith, length-drop}
use Rattle.std.proofs.lemmas.Bool.{cond-true, cond-false}
use Rattle.std.proofs.lemmas.List.{drop_all, drop_more, take_all, take_more, map-append}
use Rattle.std.proofs.lemmas.List.Splits.{length-slice_split}
use Rattle.std.specs.List.{onto_first, slice_split}
use Rattle.request_info.specs.Parts.{from_first, to_last, in_front, texts_of}

-- the first part
kept_first : (xs rest : List (Bor (List ℕ))) (x : Bor (List ℕ)) → xs ≡ x ∷ rest → (length x.now == 0) ≡ false → from_first (texts_of xs) ≡ texts_of xs
unfolding from_first
kept_first xs rest x e f = rw e (cond-false _ _ _ f)

dropped_first : (xs rest : List (Bor (List ℕ))) (x : Bor (List ℕ)) → xs ≡ x ∷ rest → (length x.now == 0) ≡ true → from_first (texts_of rest) ≡ from_first (texts_of xs)
unfolding from_first
dropped_first xs rest x e f = rw e (sym (cond-true _ _ _ f))

all_from : (i : ℕ) (parts : List (Bor (List ℕ))) → take (length parts - i) (drop i parts) ≡ drop i parts
all_from i parts = take_all _ _ (omega (arith, length-drop i parts))

pub first_kept : (i : ℕ) (parts : List (Bor (List ℕ))) (d : Bor (List ℕ)) → i < length parts → (length (get_or parts i d).now == 0) ≡ false → texts_of (take (length parts - i) (drop i parts)) ≡ from_first (texts_of (drop i parts))
first_kept i parts d h f = ap texts_of (all_from i parts) ∙ sym (kept_first (drop i parts) (drop (i + 1) parts) (get_or parts i d) (drop_more parts i d h) f)

pub first_dropped : (i : ℕ) (parts : List (Bor (List ℕ))) (d : Bor (List ℕ)) → i < length parts → (length (get_or parts i d).now == 0) ≡ true → from_first (texts_of (drop (i + 1) parts)) ≡ from_first (texts_of (drop i parts))
first_dropped i parts d h f = dropped_first (drop i parts) (drop (i + 1) parts) (get_or parts i d) (drop_more parts i d h) f

none_first : (xs : List (Bor (List ℕ))) → xs ≡ [] → texts_of xs ≡ from_first (texts_of xs)
unfolding from_first
none_first xs e = rw e refl

pub first_of_none : (i : ℕ) (parts : List (Bor (List ℕ))) → length parts ≤ i → texts_of (take (length parts - length parts) (drop (length parts) parts)) ≡ from_first (texts_of (drop i parts))
first_of_none i parts h =
    ap texts_of (all_from (length parts) parts ∙ drop_all (length parts) parts (omega arith) ∙ sym (drop_all i parts h)) ∙ none_first (drop i parts) (drop_all i parts h)

-- the last part
in_front_of : (y x : List ℕ) (xs : List (List ℕ)) → in_front y (xs ++ x ∷ []) ≡ y ∷ (xs ++ x ∷ [])
in_front_of y x [] = refl
in_front_of y x (z ∷ zs) = refl

last_kept : (xs : List (List ℕ)) (x : List ℕ) → (length x == 0) ≡ false → to_last (xs ++ x ∷ []) ≡ xs ++ x ∷ []
unfolding to_last
last_kept [] x f = cond-false _ _ _ f
last_kept (y ∷ ys) x f = ap (in_front y) (last_kept ys x f) ∙ in_front_of y x ys

last_dropped : (xs : List (List ℕ)) (x : List ℕ) → (length x == 0) ≡ true → to_last (xs ++ x ∷ []) ≡ to_last xs
unfolding to_last
last_dropped [] x f = cond-true _ _ _ f
last_dropped (y ∷ ys) x f = ap (in_front y) (last_dropped ys x f)

texts_more : (i : ℕ) (parts : List (Bor (List ℕ))) (d : Bor (List ℕ)) → i < length parts → texts_of (take (i + 1) parts) ≡ texts_of (take i parts) ++ (get_or parts i d).now ∷ []
texts_more i parts d h = ap texts_of (take_more parts i d h) ∙ map-append (λ part. part.now) (take i parts) (get_or parts i d ∷ [])

pub to_last_kept : (i : ℕ) (parts : List (Bor (List ℕ))) (d : Bor (List ℕ)) → i < length parts → (length (get_or parts i d).now == 0) ≡ false → texts_of (take (i + 1) parts) ≡ to_last (texts_of (take (i + 1) parts))
to_last_kept i parts d h f = rw (texts_more i parts d h) (sym (last_kept (texts_of (take i parts)) (get_or parts i d).now f))

pub to_last_dropped : (i : ℕ) (parts : List (Bor (List ℕ))) (d : Bor (List ℕ)) → i < length parts → (length (get_or parts i d).now == 0) ≡ true → to_last (texts_of (take i parts)) ≡ to_last (texts_of (take (i + 1) parts))
to_last_dropped i parts d h f = rw (texts_more i parts d h) (sym (last_dropped (texts_of (take i parts)) (get_or parts i d).now f))

pub to_last_of_none : [] ≡ to_last []
unfolding to_last
to_last_of_none = refl

-- an empty part at the end, as a slash at the end of a path makes it
pub both_ends : (parts : List (List ℕ)) → to_last (from_first (parts ++ [] ∷ [])) ≡ to_last (from_first parts)
unfolding from_first to_last
both_ends [] = refl
both_ends (part ∷ parts) = either (length part == 0) (both_ends parts)
  where
    either : (b : Bool) → to_last (from_first (parts ++ [] ∷ [])) ≡ to_last (from_first parts)
        → to_last (cond b (from_first (parts ++ [] ∷ [])) (part ∷ (parts ++ [] ∷ []))) ≡ to_last (cond b (from_first parts) (part ∷ parts))
    either true rest = rest
    either false rest = last_dropped (part ∷ parts) [] refl

-- a list that is cut has a part
cut_once : (b : Bool) (x : ℕ) (parts more : List (List ℕ)) → 0 < length parts → cond b ([] ∷ (parts ++ more)) (onto_first x (parts ++ more)) ≡ cond b ([] ∷ parts) (onto_first x parts) ++ more
cut_once true x parts more h = refl
cut_once false x [] more h = absurd (omega (arith, h))
cut_once false x (part ∷ parts) more h = refl

pub cut_more : (path : List ℕ) → slice_split (λ b. b == 47) (path ++ 47 ∷ []) ≡ slice_split (λ b. b == 47) path ++ [] ∷ []
cut_more [] = refl
cut_more (x ∷ path) =
    ap (λ parts. cond (x == 47) ([] ∷ parts) (onto_first x parts)) (cut_more path)
    ∙ cut_once (x == 47) x (slice_split (λ b. b == 47) path) ([] ∷ []) (omega (arith, length-slice_split (λ b. b == 47) path))
