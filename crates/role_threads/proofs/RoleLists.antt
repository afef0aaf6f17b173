-- Roles in lists.
use Rattle.std.proofs.Common.{◌≡◌, ◌<◌, ◌≤◌, ℕ, zero, suc, List, [], ◌∷◌, ◌++◌, length, length-append, append-nil, append_assoc, get_or, take, drop, Option, Some, None, refl, sym, ap, ◌∙◌, subst, arith}
use Rattle.std.proofs.Math.Seq.{drop-length, take-length}
use Rattle.role_threads.specs.Lists.{one_or_none, last_of, AllPairs, IfBoth, bays_in, logs_in, hooks_in}
use Rattle.role_threads.specs.Ran.{RanOne, RanAll}
use Rattle.role_threads.specs.declared.role.AnyRole.{AnyRole}
use Rattle.role_threads.specs.declared.role.AnyRole.TheVariants.{Bay, Log, Hook}
use Rattle.role_threads.specs.declared.role.Roles.{Roles}

-- what holds at each place
pairs_of : {A : Type 0} (P : A → A → Type 0) (xs ys : List A) → length ys ≡ length xs
    → ((i : ℕ) (d : A) → i < length xs → P (get_or xs i d) (get_or ys i d)) → AllPairs P xs ys
pairs_of P [] [] e f = tt
pairs_of P [] (y ∷ ys) e f = absurd (omega arith)
pairs_of P (x ∷ xs) [] e f = absurd (omega arith)
pairs_of P (x ∷ xs) (y ∷ ys) e f =
    (f 0 x (omega arith), pairs_of P xs ys (omega arith) (λ i d lt. f (suc i) d (omega arith)))

written_back : {A : Type 0} (new items : List A) (n : ℕ) → length new ≡ length items → n ≡ length items
    → take n (new ++ drop (length new) items) ≡ new
written_back new items n same len =
    let e : drop (length new) items ≡ [] = ap (λ k. drop k items) same ∙ drop-length items in
    ap (λ l. take n (new ++ l)) e ∙ (ap (λ l. take n l) (append-nil new) ∙ (ap (λ k. take k new) (len ∙ sym same) ∙ take-length new))

-- through a slice of a list
pub pairs_back : {A : Type 0} (P : A → A → Type 0) (xs old new : List A) (n : ℕ) → old ≡ xs → length new ≡ length old → n ≡ length xs
    → ((i : ℕ) (d : A) → i < length old → P (get_or old i d) (get_or new i d))
    → AllPairs P xs (take n (new ++ drop (length new) xs))
pairs_back {A = A} P xs old new n e len count f =
    subst (λ (l : List A). AllPairs P xs l) (sym (written_back new xs n (len ∙ ap length e) count))
    (subst (λ (l : List A). AllPairs P l new) e (pairs_of P old new len f))

-- the next one of a list that is walked by value
pub next_whole : {A : Type 0} (xs ys rest zs : List A) (x : A) → xs ≡ ys ++ rest → rest ≡ x ∷ zs → xs ≡ (ys ++ x ∷ []) ++ zs
next_whole xs ys rest zs x e r = (e ∙ ap (λ l. ys ++ l) r) ∙ sym (append_assoc ys (x ∷ []) zs)

pub next_below : {A : Type 0} (xs ys rest zs : List A) (x : A) → xs ≡ ys ++ rest → rest ≡ x ∷ zs → length ys < length xs
next_below xs ys rest zs x e r = omega (arith, ap length (e ∙ ap (λ l. ys ++ l) r), length-append ys (x ∷ zs))

-- the last of them
pub last_snoc : {A : Type 0} (first : Option A) (xs : List A) (x : A) → last_of first (xs ++ x ∷ []) ≡ Some x
last_snoc first [] x = refl
last_snoc first (y ∷ ys) x = last_snoc (Some y) ys x

one_pair : {A : Type 0} (P : A → A → Type 0) (o : Option A) (ys : List A) → AllPairs P (one_or_none o) ys → IfBoth P o (last_of None ys)
one_pair P None [] h = tt
one_pair P None (y ∷ ys) h = absurd h
one_pair P (Some x) [] h = absurd h
one_pair P (Some x) (y ∷ []) h = h.0
one_pair P (Some x) (y ∷ z ∷ zs) h = absurd h.1

module _ {B G H : Type 0} where
  pub bays_join : (xs ys : List (AnyRole B G H)) → bays_in (xs ++ ys) ≡ bays_in xs ++ bays_in ys
  bays_join [] ys = refl
  bays_join (Bay b ∷ xs) ys = ap (λ z. b ∷ z) (bays_join xs ys)
  bays_join (Log d ∷ xs) ys = bays_join xs ys
  bays_join (Hook d ∷ xs) ys = bays_join xs ys

  pub logs_join : (xs ys : List (AnyRole B G H)) → logs_in (xs ++ ys) ≡ logs_in xs ++ logs_in ys
  logs_join [] ys = refl
  logs_join (Bay b ∷ xs) ys = logs_join xs ys
  logs_join (Log d ∷ xs) ys = ap (λ z. d ∷ z) (logs_join xs ys)
  logs_join (Hook d ∷ xs) ys = logs_join xs ys

  pub hooks_join : (xs ys : List (AnyRole B G H)) → hooks_in (xs ++ ys) ≡ hooks_in xs ++ hooks_in ys
  hooks_join [] ys = refl
  hooks_join (Bay b ∷ xs) ys = hooks_join xs ys
  hooks_join (Log d ∷ xs) ys = hooks_join xs ys
  hooks_join (Hook d ∷ xs) ys = ap (λ z. d ∷ z) (hooks_join xs ys)

  -- one more
  pub added_bay : (xs ys : List (AnyRole B G H)) (b : B) → ys ≡ xs ++ Bay b ∷ []
      → (bays_in ys ≡ bays_in xs ++ b ∷ []) × (logs_in ys ≡ logs_in xs) × (hooks_in ys ≡ hooks_in xs)
  added_bay xs ys b e = (
    ap bays_in e ∙ bays_join xs (Bay b ∷ []),
    ap logs_in e ∙ (logs_join xs (Bay b ∷ []) ∙ append-nil (logs_in xs)),
    ap hooks_in e ∙ (hooks_join xs (Bay b ∷ []) ∙ append-nil (hooks_in xs)),
  )

  pub added_log : (xs ys : List (AnyRole B G H)) (d : G) → ys ≡ xs ++ Log d ∷ []
      → (bays_in ys ≡ bays_in xs) × (logs_in ys ≡ logs_in xs ++ d ∷ []) × (hooks_in ys ≡ hooks_in xs)
  added_log xs ys d e = (
    ap bays_in e ∙ (bays_join xs (Log d ∷ []) ∙ append-nil (bays_in xs)),
    ap logs_in e ∙ logs_join xs (Log d ∷ []),
    ap hooks_in e ∙ (hooks_join xs (Log d ∷ []) ∙ append-nil (hooks_in xs)),
  )

  pub added_hook : (xs ys : List (AnyRole B G H)) (d : H) → ys ≡ xs ++ Hook d ∷ []
      → (bays_in ys ≡ bays_in xs) × (logs_in ys ≡ logs_in xs) × (hooks_in ys ≡ hooks_in xs ++ d ∷ [])
  added_hook xs ys d e = (
    ap bays_in e ∙ (bays_join xs (Hook d ∷ []) ∙ append-nil (bays_in xs)),
    ap logs_in e ∙ (logs_join xs (Hook d ∷ []) ∙ append-nil (logs_in xs)),
    ap hooks_in e ∙ hooks_join xs (Hook d ∷ []),
  )

  -- no more bays than roles
  pub few_bays : (xs : List (AnyRole B G H)) → length (bays_in xs) ≤ length xs
  few_bays [] = omega arith
  few_bays (Bay b ∷ xs) = let h = few_bays xs in omega arith
  few_bays (Log d ∷ xs) = let h = few_bays xs in omega arith
  few_bays (Hook d ∷ xs) = let h = few_bays xs in omega arith

module _ {B G H : Type 0} (P : B → B → Type 0) (Q : G → G → Type 0) (S : H → H → Type 0) where
  ran_bays : (xs ys : List (AnyRole B G H)) → AllPairs (RanOne P Q S) xs ys → AllPairs P (bays_in xs) (bays_in ys)
  ran_bays [] [] p = tt
  ran_bays [] (y ∷ ys) p = absurd p
  ran_bays (x ∷ xs) [] p = absurd p
  ran_bays (Bay a ∷ xs) (Bay b ∷ ys) p = (p.0, ran_bays xs ys p.1)
  ran_bays (Bay a ∷ xs) (Log e ∷ ys) p = absurd p.0
  ran_bays (Bay a ∷ xs) (Hook e ∷ ys) p = absurd p.0
  ran_bays (Log d ∷ xs) (Bay b ∷ ys) p = absurd p.0
  ran_bays (Log d ∷ xs) (Log e ∷ ys) p = ran_bays xs ys p.1
  ran_bays (Log d ∷ xs) (Hook e ∷ ys) p = absurd p.0
  ran_bays (Hook d ∷ xs) (Bay b ∷ ys) p = absurd p.0
  ran_bays (Hook d ∷ xs) (Log e ∷ ys) p = absurd p.0
  ran_bays (Hook d ∷ xs) (Hook e ∷ ys) p = ran_bays xs ys p.1

  ran_logs : (xs ys : List (AnyRole B G H)) → AllPairs (RanOne P Q S) xs ys → AllPairs Q (logs_in xs) (logs_in ys)
  ran_logs [] [] p = tt
  ran_logs [] (y ∷ ys) p = absurd p
  ran_logs (x ∷ xs) [] p = absurd p
  ran_logs (Bay a ∷ xs) (Bay b ∷ ys) p = ran_logs xs ys p.1
  ran_logs (Bay a ∷ xs) (Log e ∷ ys) p = absurd p.0
  ran_logs (Bay a ∷ xs) (Hook e ∷ ys) p = absurd p.0
  ran_logs (Log d ∷ xs) (Bay b ∷ ys) p = absurd p.0
  ran_logs (Log d ∷ xs) (Log e ∷ ys) p = (p.0, ran_logs xs ys p.1)
  ran_logs (Log d ∷ xs) (Hook e ∷ ys) p = absurd p.0
  ran_logs (Hook d ∷ xs) (Bay b ∷ ys) p = absurd p.0
  ran_logs (Hook d ∷ xs) (Log e ∷ ys) p = absurd p.0
  ran_logs (Hook d ∷ xs) (Hook e ∷ ys) p = ran_logs xs ys p.1

  ran_hooks : (xs ys : List (AnyRole B G H)) → AllPairs (RanOne P Q S) xs ys → AllPairs S (hooks_in xs) (hooks_in ys)
  ran_hooks [] [] p = tt
  ran_hooks [] (y ∷ ys) p = absurd p
  ran_hooks (x ∷ xs) [] p = absurd p
  ran_hooks (Bay a ∷ xs) (Bay b ∷ ys) p = ran_hooks xs ys p.1
  ran_hooks (Bay a ∷ xs) (Log e ∷ ys) p = absurd p.0
  ran_hooks (Bay a ∷ xs) (Hook e ∷ ys) p = absurd p.0
  ran_hooks (Log d ∷ xs) (Bay b ∷ ys) p = absurd p.0
  ran_hooks (Log d ∷ xs) (Log e ∷ ys) p = ran_hooks xs ys p.1
  ran_hooks (Log d ∷ xs) (Hook e ∷ ys) p = absurd p.0
  ran_hooks (Hook d ∷ xs) (Bay b ∷ ys) p = absurd p.0
  ran_hooks (Hook d ∷ xs) (Log e ∷ ys) p = absurd p.0
  ran_hooks (Hook d ∷ xs) (Hook e ∷ ys) p = (p.0, ran_hooks xs ys p.1)

  -- the parts of a list that ran
  pub ran_roles : (m n : Roles B G H) (xs ys : List (AnyRole B G H)) → AllPairs (RanOne P Q S) xs ys
      → bays_in xs ≡ m.bays.items → logs_in xs ≡ one_or_none m.log → hooks_in xs ≡ one_or_none m.hook
      → n.bays.items ≡ bays_in ys → n.log ≡ last_of None (logs_in ys) → n.hook ≡ last_of None (hooks_in ys)
      → RanAll P Q S m n
  ran_roles m n xs ys p a b c e f g = record {
    bays = subst (λ q. AllPairs P q n.bays.items) a (subst (λ q. AllPairs P (bays_in xs) q) (sym e) (ran_bays xs ys p));
    log = subst (λ q. IfBoth Q m.log q) (sym f)
        (one_pair Q m.log (logs_in ys) (subst (λ q. AllPairs Q q (logs_in ys)) b (ran_logs xs ys p)));
    hook = subst (λ q. IfBoth S m.hook q) (sym g)
        (one_pair S m.hook (hooks_in ys) (subst (λ q. AllPairs S q (hooks_in ys)) c (ran_hooks xs ys p)));
  }
