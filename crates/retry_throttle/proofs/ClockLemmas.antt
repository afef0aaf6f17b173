-- Calls of a clock, one after another.
use Rattle.std.proofs.Common.{◌≡◌, ◌≤◌, ◌+◌, ◌-◌, ◌^◌, min, ℕ, zero, suc, List, [], ◌∷◌, ◌++◌, Option, Some, None, refl, sym, ap, ◌∙◌, subst, arith, append-nil, append_assoc}
use Rattle.front_ports.specs.Told.{Grows}
use Rattle.truncate_backend.specs.Told.{Joined}
use Rattle.retry_throttle.specs.Clocks.{ClockTells, IsRising, last_of, rested, Passed}

-- ---- lists that are told, over calls one after another

grows_on : {T : Type 0} (a b c : Option (List T)) (xs ys : List T) → Grows a b xs → Grows b c ys → Grows a c (xs ++ ys)
grows_on None None c xs ys p q = q
grows_on None (Some b) c xs ys p q = cc p
grows_on (Some a) None None xs ys p q = tt
grows_on (Some a) None (Some c) xs ys p q = cc q
grows_on (Some a) (Some b) None xs ys p q = tt
grows_on (Some a) (Some b) (Some c) xs ys p q = q ∙ (ap (λ l. l ++ ys) p ∙ append_assoc a xs ys)

pub joined_on : {T : Type 0} (a b c : Option (List T)) (xs ys : List T) → Joined a xs b → Joined b ys c → Joined a (xs ++ ys) c
joined_on a b c xs ys p q = record { grows = grows_on a b c xs ys p.grows q.grows }

grows_none : {T : Type 0} (a : Option (List T)) → Grows a a []
grows_none None = refl
grows_none (Some a) = sym (append-nil a)

pub joined_none : {T : Type 0} (a : Option (List T)) → Joined a [] a
joined_none a = record { grows = grows_none a }

-- ---- moments and rests

pub rising_on : (a : ℕ) (ms ns : List ℕ) → IsRising a ms → IsRising (last_of a ms) ns → IsRising a (ms ++ ns)
rising_on a [] ns r s = s
rising_on a (m ∷ ms) ns r s = (r.0, rising_on m ms ns r.1 s)

pub rising_rest : (a : ℕ) (ms ns : List ℕ) → IsRising a (ms ++ ns) → IsRising (last_of a ms) ns
rising_rest a [] ns r = r
rising_rest a (m ∷ ms) ns r = rising_rest m ms ns r.1

pub rising_last : (a : ℕ) (ms ns : List ℕ) → IsRising a (ms ++ ns) → a ≤ last_of a ms
rising_last a [] ns r = omega arith
rising_last a (m ∷ ms) ns r = let h = rising_last m ms ns r.1 in omega (arith, h, r.0)

pub last_on : (a : ℕ) (ms ns : List ℕ) → last_of a (ms ++ ns) ≡ last_of (last_of a ms) ns
last_on a [] ns = refl
last_on a (m ∷ ms) ns = last_on m ms ns

rested_on : (a i j : ℕ) → rested (rested a i) j ≡ rested a (i + j)
rested_on a i zero = let e : i ≡ i + 0 = omega arith in ap (rested a) e
rested_on a i (suc j) =
    let e : suc (i + j) ≡ i + suc j = omega arith in
    ap (λ z. min (z + 1) (2 ^ 64 - 1)) (rested_on a i j) ∙ ap (rested a) e

pub passed_on : (c d e : ClockTells) (ms ns : List ℕ) (i j : ℕ) → Passed c ms i d → Passed d ns j e → Passed c (ms ++ ns) (i + j) e
passed_on c d e ms ns i j p q = record {
  given = joined_on c.given d.given e.given ms ns p.given q.given;
  rises = rising_on c.last ms ns p.rises (subst (λ z. IsRising z ns) p.last_is q.rises);
  last_is = q.last_is ∙ (ap (λ z. last_of z ns) p.last_is ∙ sym (last_on c.last ms ns));
  rests_are = q.rests_are ∙ (ap (λ z. rested z j) p.rests_are ∙ rested_on c.rests i j);
}

pub passed_none : (c : ClockTells) → Passed c [] 0 c
passed_none c = record { given = joined_none c.given; rises = tt; last_is = refl; rests_are = refl }

-- a moment was given
pub passed_now : (c d : ClockTells) (m : ℕ) → Grows c.given d.given (m ∷ []) → c.last ≤ m → d.last ≡ m → d.rests ≡ c.rests → Passed c (m ∷ []) 0 d
passed_now c d m g l e r = record { given = record { grows = g }; rises = (l, tt); last_is = e; rests_are = r }

-- the clock rested
pub passed_rest : (c d : ClockTells) → d.given ≡ c.given → d.last ≡ c.last → d.rests ≡ min (c.rests + 1) (2 ^ 64 - 1) → Passed c [] 1 d
passed_rest c d g l r = record { given = subst (λ z. Joined c.given [] z) (sym g) (joined_none c.given); rises = tt; last_is = l; rests_are = r }

pub passed_later : (c d : ClockTells) (ms : List ℕ) (i : ℕ) → Passed c ms i d → c.last ≤ d.last
passed_later c d ms i p =
    let h = rising_last c.last ms [] (subst (IsRising c.last) (sym (append-nil ms)) p.rises) in
    let e = p.last_is in
    omega (arith, h, e)
