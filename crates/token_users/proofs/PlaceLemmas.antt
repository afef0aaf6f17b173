-- The places of the last records.
use Rattle.std.proofs.Common.{◌≡◌, ℕ, suc, ◌+◌, ◌<◌, ◌∷◌, [], ◌++◌, List, length, take, get_or, Bool, true, false, cond, Option, Some, None, option_map, IsUtf8, bytes_eq, refl, sym, ap, ◌∙◌, arith}
use Rattle.std.proofs.lemmas.Bool.{cond-false}
use Rattle.std.proofs.lemmas.List.{take_more, length-take-le}
use Rattle.std.proofs.lemmas.Str.{IsUtf8-from_is_utf8}
use Rattle.std.specs.Cmp.Lexicographic.{same_text}
use Rattle.std.specs.Str.{is_utf8}
use Rattle.front_base.specs.declared.user.User.{User}
use Rattle.token_users.specs.Places.{later_or, last_user, last_place, AreTexts}
use Rattle.token_users.specs.declared.record.Record.{Record}

-- one record more
later_map : (o : Option ℕ) (b : Bool) (n : ℕ) (rest : Option ℕ) → later_or (option_map suc (cond b (Some n) o)) rest ≡ cond b (Some (suc n)) (later_or (option_map suc o) rest)
later_map o true n rest = refl
later_map o false n rest = refl

later_none : (b : Bool) → later_or (option_map suc None) (cond b (Some 0) None) ≡ cond b (Some 0) None
later_none b = refl

place_pushed : (q : List ℕ) (xs : List Record) (r : Record) → last_place q (xs ++ r ∷ []) ≡ cond (bytes_eq r.token q) (Some (length xs)) (last_place q xs)
unfolding last_place
place_pushed q [] r = refl
place_pushed q (x ∷ xs) r =
    ap (λ o. later_or (option_map suc o) (cond (bytes_eq x.token q) (Some 0) None)) (place_pushed q xs r)
    ∙ later_map (last_place q xs) (bytes_eq r.token q) (length xs) (cond (bytes_eq x.token q) (Some 0) None)

pub placed : (i : ℕ) (xs : List Record) (d : Record) (token q : List ℕ) (before after : Option ℕ)
    → i < length xs → token ≡ (get_or xs i d).token → before ≡ last_place q (take i xs) → after ≡ cond (bytes_eq token q) (Some i) before
    → after ≡ last_place q (take (i + 1) xs)
placed i xs d token q before after h t b a =
    let n : length (take i xs) ≡ i = length-take-le i xs (omega arith) in
    a ∙ rw (t, b) (ap (λ k. cond (bytes_eq (get_or xs i d).token q) (Some k) (last_place q (take i xs))) (sym n))
    ∙ sym (place_pushed q (take i xs) (get_or xs i d)) ∙ ap (last_place q) (sym (take_more xs i d h))

texts_pushed : (xs : List Record) (r : Record) → AreTexts xs → is_utf8 r.token ≡ true → AreTexts (xs ++ r ∷ [])
texts_pushed [] r h u = (u, tt)
texts_pushed (x ∷ xs) r h u = (h.0, texts_pushed xs r h.1 u)

pub texts_more : (i : ℕ) (xs : List Record) (d : Record) → i < length xs → AreTexts (take i xs) → is_utf8 (get_or xs i d).token ≡ true → AreTexts (take (i + 1) xs)
texts_more i xs d h texts u = rw (take_more xs i d h) (texts_pushed (take i xs) (get_or xs i d) texts u)

-- the record at the place
here_or : (b : Bool) (u : User) (d : Record) (x : Record) (xs : List Record) → x.user ≡ u → option_map (λ p. (get_or (x ∷ xs) p d).user) (cond b (Some 0) None) ≡ cond b (Some u) None
here_or true u d x xs e = ap Some e
here_or false u d x xs e = refl

later_users : (o : Option ℕ) (ou : Option User) (b : Bool) (x : Record) (xs : List Record) (d : Record)
    → option_map (λ p. (get_or xs p d).user) o ≡ ou
    → option_map (λ p. (get_or (x ∷ xs) p d).user) (later_or (option_map suc o) (cond b (Some 0) None)) ≡ later_or ou (cond b (Some x.user) None)
later_users None ou b x xs d e = rw (← e) (here_or b x.user d x xs refl)
later_users (Some p) ou b x xs d e = rw (← e) refl

place_user : (q : List ℕ) (xs : List Record) (d : Record) → option_map (λ p. (get_or xs p d).user) (last_place q xs) ≡ last_user q xs
unfolding last_place last_user
place_user q [] d = refl
place_user q (x ∷ xs) d = later_users (last_place q xs) (last_user q xs) (bytes_eq x.token q) x xs d (place_user q xs d)

pub user_found : (q : List ℕ) (xs : List Record) (p : ℕ) (d : Record) → Some p ≡ last_place q xs → Some (get_or xs p d).user ≡ last_user q xs
user_found q xs p d e = ap (option_map (λ i. (get_or xs i d).user)) e ∙ place_user q xs d

abbrev none : Record
none = record { token = []; user = record { name = []; uid = []; groups = [] } }

pub user_missing : (q : List ℕ) (xs : List Record) → None ≡ last_place q xs → None ≡ last_user q xs
user_missing q xs e = ap (option_map (λ i. (get_or xs i none).user)) e ∙ place_user q xs none

-- a place is within the records
abbrev Within : ℕ → Option ℕ → Type 0
Within n None = Unit {0}
Within n (Some p) = p < n

later_within : (o : Option ℕ) (b : Bool) (n : ℕ) → Within n o → Within (suc n) (later_or (option_map suc o) (cond b (Some 0) None))
later_within None true n h = omega arith
later_within None false n h = tt
later_within (Some p) b n h = omega (arith, h)

all_within : (q : List ℕ) (xs : List Record) → Within (length xs) (last_place q xs)
unfolding last_place
all_within q [] = tt
all_within q (x ∷ xs) = later_within (last_place q xs) (bytes_eq x.token q) (length xs) (all_within q xs)

pub place_within : (q : List ℕ) (xs : List Record) (p : ℕ) → Some p ≡ last_place q xs → p < length xs
place_within q xs p e = rw (← e) at (all_within q xs)

-- bytes that are no text are no token
differs : (x q : List ℕ) → is_utf8 x ≡ true → ¬ (IsUtf8 q) → bytes_eq x q ≡ false
differs x q u bad = by_cases (bytes_eq x q) refl
  where
    by_cases : (b : Bool) → bytes_eq x q ≡ b → b ≡ false
    by_cases true e = absurd (bad (rw (same_text x q (sym e)) at (IsUtf8-from_is_utf8 x u)))
    by_cases false e = refl

pub no_text_no_user : (q : List ℕ) (xs : List Record) → AreTexts xs → ¬ (IsUtf8 q) → None ≡ last_user q xs
unfolding last_user
no_text_no_user q [] texts bad = refl
no_text_no_user q (x ∷ xs) texts bad =
    rw (← no_text_no_user q xs texts.1 bad) (sym (cond-false _ _ _ (differs x.token q texts.0 bad)))
