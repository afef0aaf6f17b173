-- The key of a version, by the form of its text.
use Rattle.std.proofs.Common.{◌≡◌, ℕ, ◌<◌, ◌^◌, Bool, true, false, List, [], ◌∷◌, ◌++◌, length, Option, Some, None, refl, sym, ap, ◌∙◌, arith, inl, inr, codes}
use Rattle.std.specs.Prelude.{nat_lt, ◌==◌, ◌&&◌, if◌then◌else◌, take, drop}
use Rattle.std.specs.Char.{is_ascii_digit}
use Rattle.std.specs.List.{starts_with}
use Rattle.std.specs.Str.{all_ascii_digits}
use Rattle.std.specs.Str.Parse.{digits_value}
use Rattle.std.proofs.Math.Seq.{drop-append_seam, take-append_seam}
use Rattle.std.proofs.lemmas.Bool.Decides.{Decides-eqb, nat_tests}
use Rattle.std.proofs.lemmas.List.{append-nil, take-append-drop}
use Rattle.std.proofs.lemmas.Slice.Eq.{starts_is}
use Rattle.std.specs.Cmp.{nat_cmp_is}
use Rattle.std.specs.Cmp.Lexicographic.{slice_cmp}
use Rattle.std.specs.Ordering.{nat_cmp}
use Rattle.std.specs.declared.cmp.Ordering.TheVariants.{Less, Equal}
use Rattle.front_base.specs.Number.{is_number, number_of}
use Rattle.front_base.specs.Version.{key_of, tail_key, stable_key, early_key, other_key, digits_len, rank, version_order}
use Rattle.front_base.specs.VersionForms.{IsStable, IsEarly, IsBeta, IsAlpha, IsOther, IsVersion}
use Rattle.front_base.specs.declared.version.VersionKey.{VersionKey}
use Rattle.front_base.specs.declared.version.Maturity.{Maturity}
use Rattle.front_base.specs.declared.version.Maturity.TheVariants.{Stable, Beta, Alpha}
use Rattle.front_base.proofs.NumberLemmas.{both}

-- a number is digits alone
digits_of : (ds : List ℕ) (n : ℕ) → number_of ds ≡ Some n → all_ascii_digits ds ≡ true
unfolding number_of
digits_of ds n e = cases (is_number ds && nat_lt (digits_value 10 ds) (2 ^ 64)) refl e
  where
    cases : (b : Bool) → (is_number ds && nat_lt (digits_value 10 ds) (2 ^ 64)) ≡ b
        → (if b then Some (digits_value 10 ds) else None) ≡ Some n → all_ascii_digits ds ≡ true
    cases true h e = (both _ _ (both _ _ h).0).1
    cases false h e = absurd (cc e)

-- what follows digits begins with none
abbrev Follows : List ℕ → Type 0
Follows [] = Unit {0}
Follows (c ∷ cs) = is_ascii_digit c ≡ false

run_of : (ds rest : List ℕ) → all_ascii_digits ds ≡ true → Follows rest → digits_len (ds ++ rest) ≡ length ds
run_of [] [] e f = refl
run_of [] (c ∷ cs) e f = let none : is_ascii_digit c ≡ false = f in rw none refl
run_of (d ∷ ds) rest e f =
    let h = both (is_ascii_digit d) (all_ascii_digits ds) e in
    let more : digits_len (ds ++ rest) ≡ length ds = run_of ds rest h.1 f in
    rw h.0 (omega (arith, more))

-- the key of a number and what follows it
key_by : (ds rest : List ℕ) (n : ℕ) → number_of ds ≡ Some n → Follows rest → key_of (118 ∷ (ds ++ rest)) ≡ tail_key (Some n) rest
unfolding key_of
key_by ds rest n e f =
    let len = run_of ds rest (digits_of ds n e) f in
    rw (len, take-append_seam ds rest, drop-append_seam ds rest, e) refl

tail_nil : (n : ℕ) → tail_key (Some n) [] ≡ record { maturity = Stable; major = n; minor = 0 }
unfolding tail_key
tail_nil n = refl

stable_key_is : (text : List ℕ) (n : ℕ) → IsStable text n → key_of text ≡ record { maturity = Stable; major = n; minor = 0 }
stable_key_is text n s =
    let whole : s.digits ++ [] ≡ s.digits = append-nil s.digits in
    let by = key_by s.digits [] n s.value tt in
    rw s.text_is (rw whole at by ∙ tail_nil n)

beta_tail : (n k : ℕ) (es : List ℕ) → number_of es ≡ Some k → tail_key (Some n) (codes "beta" ++ es) ≡ record { maturity = Beta; major = n; minor = k }
unfolding tail_key
beta_tail n k es e = let some : (length (codes "beta" ++ es) == 0) ≡ false = grind (arith, nat_tests) in rw (some, e) refl

alpha_tail : (n k : ℕ) (es : List ℕ) → number_of es ≡ Some k → tail_key (Some n) (codes "alpha" ++ es) ≡ record { maturity = Alpha; major = n; minor = k }
unfolding tail_key
alpha_tail n k es e = let some : (length (codes "alpha" ++ es) == 0) ≡ false = grind (arith, nat_tests) in rw (some, e) refl

beta_key_is : (text : List ℕ) (n k : ℕ) → IsBeta text n k → key_of text ≡ record { maturity = Beta; major = n; minor = k }
beta_key_is text n k s = rw s.text_is (key_by s.digits (codes "beta" ++ s.last) n s.value refl ∙ beta_tail n k s.last s.last_value)

alpha_key_is : (text : List ℕ) (n k : ℕ) → IsAlpha text n k → key_of text ≡ record { maturity = Alpha; major = n; minor = k }
alpha_key_is text n k s = rw s.text_is (key_by s.digits (codes "alpha" ++ s.last) n s.value refl ∙ alpha_tail n k s.last s.last_value)

-- what a text of no form has for a key
after_early : (word text ds r : List ℕ) (m : Maturity) → text ≡ 118 ∷ (ds ++ r) → r ≡ word ++ drop (length word) r
    → ((major minor : ℕ) → IsEarly word text major minor → ⊥)
    → early_key m (number_of ds) (number_of (drop (length word) r)) ≡ other_key
after_early word text ds r m is split none = cases (number_of ds) refl (number_of (drop (length word) r)) refl
  where
    cases : (a : Option ℕ) → number_of ds ≡ a → (b : Option ℕ) → number_of (drop (length word) r) ≡ b → early_key m a b ≡ other_key
    cases None p b q = refl
    cases (Some n) p None q = refl
    cases (Some n) p (Some k) q = absurd (none n k (record {
      digits = ds;
      value = p;
      last = drop (length word) r;
      last_value = q;
      text_is = is ∙ ap (λ x. 118 ∷ (ds ++ x)) split;
    }))

other_tail : (text ds r : List ℕ) → text ≡ 118 ∷ (ds ++ r) → IsOther text → tail_key (number_of ds) r ≡ other_key
unfolding tail_key
other_tail text ds r is o = by_length (length r == 0) refl
  where
    stable : (a : Option ℕ) → number_of ds ≡ a → r ≡ [] → stable_key a ≡ other_key
    stable None p e = refl
    stable (Some n) p e = absurd (o.no_stable n (record { digits = ds; value = p; text_is = is ∙ ap (λ x. 118 ∷ (ds ++ x)) e ∙ ap (λ x. 118 ∷ x) (append-nil ds) }))

    empty : (r : List ℕ) → (length r == 0) ≡ true → r ≡ []
    empty [] e = refl
    empty (c ∷ cs) e = let none : length (c ∷ cs) ≡ 0 = grind (arith, nat_tests, e) in absurd (omega (arith, none))

    by_beta : (b : Bool) → starts_with (λ x y. x == y) r (codes "beta") ≡ b
        → (if b then early_key Beta (number_of ds) (number_of (drop 4 r)) else other_key) ≡ other_key
    by_beta true e = after_early (codes "beta") text ds r Beta is ((starts_is Decides-eqb r (codes "beta") true (sym e)).0 refl) o.no_beta
    by_beta false e = refl

    by_alpha : (b : Bool) → starts_with (λ x y. x == y) r (codes "alpha") ≡ b
        → (if b then early_key Alpha (number_of ds) (number_of (drop 5 r))
        else if starts_with (λ x y. x == y) r (codes "beta") then early_key Beta (number_of ds) (number_of (drop 4 r)) else other_key) ≡ other_key
    by_alpha true e = after_early (codes "alpha") text ds r Alpha is ((starts_is Decides-eqb r (codes "alpha") true (sym e)).0 refl) o.no_alpha
    by_alpha false e = by_beta (starts_with (λ x y. x == y) r (codes "beta")) refl

    by_length : (b : Bool) → (length r == 0) ≡ b → (if b then stable_key (number_of ds)
        else if starts_with (λ x y. x == y) r (codes "alpha") then early_key Alpha (number_of ds) (number_of (drop 5 r))
        else if starts_with (λ x y. x == y) r (codes "beta") then early_key Beta (number_of ds) (number_of (drop 4 r))
        else other_key) ≡ other_key
    by_length true e = stable (number_of ds) refl (empty r e)
    by_length false e = by_alpha (starts_with (λ x y. x == y) r (codes "alpha")) refl

other_key_is : (text : List ℕ) → IsOther text → key_of text ≡ other_key
unfolding key_of
other_key_is [] o = refl
other_key_is (c ∷ rest) o = cases (c == 118) refl
  where
    cases : (b : Bool) → (c == 118) ≡ b
        → (if b then tail_key (number_of (take (digits_len rest) rest)) (drop (digits_len rest) rest) else other_key) ≡ other_key
    cases true e =
        let at : c ≡ 118 = grind (arith, nat_tests, e) in
        other_tail (c ∷ rest) (take (digits_len rest) rest) (drop (digits_len rest) rest)
        (rw at (ap (λ x. 118 ∷ x) (sym (take-append-drop (digits_len rest) rest)))) o
    cases false e = refl

-- ---- the order, by the keys

nat_cmp_less : (x y : ℕ) → x < y → nat_cmp x y ≡ Less
nat_cmp_less x y h = sym (nat_cmp_is x y Less h)

nat_cmp_same : (x : ℕ) → nat_cmp x x ≡ Equal
nat_cmp_same x = sym (nat_cmp_is x x Equal refl)

abbrev key : Maturity → ℕ → ℕ → VersionKey
key m major minor = record { maturity = m; major = major; minor = minor }

less_first : (a b : List ℕ) (k l : VersionKey) → key_of a ≡ k → key_of b ≡ l → rank k.maturity < rank l.maturity → version_order a b ≡ Less
less_first a b k l p q h = rw (p, q) (rw (nat_cmp_less _ _ h) refl)

less_major : (a b : List ℕ) (m : Maturity) (i j k l : ℕ) → key_of a ≡ key m i j → key_of b ≡ key m k l → k < i → version_order a b ≡ Less
less_major a b m i j k l p q h = rw (p, q) (rw (nat_cmp_same (rank m), nat_cmp_less _ _ h) refl)

less_minor : (a b : List ℕ) (m : Maturity) (i j l : ℕ) → key_of a ≡ key m i j → key_of b ≡ key m i l → l < j → version_order a b ≡ Less
less_minor a b m i j l p q h = rw (p, q) (rw (nat_cmp_same (rank m), nat_cmp_same i, nat_cmp_less _ _ h) refl)

pub stable_beta : (a b : List ℕ) (m n k : ℕ) → IsStable a m → IsBeta b n k → version_order a b ≡ Less
stable_beta a b m n k s t = less_first a b _ _ (stable_key_is a m s) (beta_key_is b n k t) (omega arith)

pub beta_alpha : (a b : List ℕ) (m n k l : ℕ) → IsBeta a m n → IsAlpha b k l → version_order a b ≡ Less
beta_alpha a b m n k l s t = less_first a b _ _ (beta_key_is a m n s) (alpha_key_is b k l t) (omega arith)

pub other_last : (a b : List ℕ) → IsVersion a → IsOther b → version_order a b ≡ Less
other_last a b (inl (m, s)) o = less_first a b _ _ (stable_key_is a m s) (other_key_is b o) (omega arith)
other_last a b (inr (inl (m, n, s))) o = less_first a b _ _ (beta_key_is a m n s) (other_key_is b o) (omega arith)
other_last a b (inr (inr (m, n, s))) o = less_first a b _ _ (alpha_key_is a m n s) (other_key_is b o) (omega arith)

pub stable_number : (a b : List ℕ) (m n : ℕ) → IsStable a m → IsStable b n → n < m → version_order a b ≡ Less
stable_number a b m n s t h = less_major a b Stable m 0 n 0 (stable_key_is a m s) (stable_key_is b n t) h

pub beta_major : (a b : List ℕ) (m n k l : ℕ) → IsBeta a m n → IsBeta b k l → k < m → version_order a b ≡ Less
beta_major a b m n k l s t h = less_major a b Beta m n k l (beta_key_is a m n s) (beta_key_is b k l t) h

pub beta_minor : (a b : List ℕ) (m n l : ℕ) → IsBeta a m n → IsBeta b m l → l < n → version_order a b ≡ Less
beta_minor a b m n l s t h = less_minor a b Beta m n l (beta_key_is a m n s) (beta_key_is b m l t) h

pub alpha_major : (a b : List ℕ) (m n k l : ℕ) → IsAlpha a m n → IsAlpha b k l → k < m → version_order a b ≡ Less
alpha_major a b m n k l s t h = less_major a b Alpha m n k l (alpha_key_is a m n s) (alpha_key_is b k l t) h

pub alpha_minor : (a b : List ℕ) (m n l : ℕ) → IsAlpha a m n → IsAlpha b m l → l < n → version_order a b ≡ Less
alpha_minor a b m n l s t h = less_minor a b Alpha m n l (alpha_key_is a m n s) (alpha_key_is b m l t) h

pub others_by_bytes : (a b : List ℕ) → IsOther a → IsOther b → version_order a b ≡ slice_cmp nat_cmp a b
others_by_bytes a b o q = rw (other_key_is a o, other_key_is b q) refl
