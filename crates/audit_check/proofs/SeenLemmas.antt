-- What is remembered of requests.
use Rattle.std.proofs.Common.{◌≡◌, ℕ, ◌/◌, ◌%◌, ◌<◌, Bool, true, false, cond, List, [], length, get_or, set, Option, Some, None, refl, sym, ap, ◌∙◌, arith, subst}
use Rattle.std.specs.Prelude.{◌==◌, ◌&&◌, if◌then◌else◌}
use Rattle.std.specs.BTreeMap.{is_at}
use Rattle.std.specs.Cmp.{nat_cmp_is}
use Rattle.std.specs.Map.{lookup}
use Rattle.std.specs.Ordering.{is_eq, nat_cmp, ordering_then}
use Rattle.std.specs.declared.cmp.Ordering.{Ordering}
use Rattle.std.specs.declared.cmp.Ordering.TheVariants as order
use Rattle.std.proofs.lemmas.List.{get_or-replicate, get_or-set_same, get_or-set_other, length-set}
use Rattle.std.proofs.lemmas.Bool.Decides.{nat_tests}
use Rattle.std.proofs.lemmas.Map.Lookups.{exact_unsigned}
use Rattle.front_base.specs.AuditId.{AuditId}
use Rattle.front_base.specs.declared.stage.Stage.{Stage}
use Rattle.audit_check.specs.Seen.{Seen, is_same, block_cmp, block_of, place_of, stages_in, stages_of, last_seen, AreWhole}
use Rattle.audit_check.specs.declared.block.Block.{Block}

-- ---- IDs

both : (a b : Bool) → (a && b) ≡ true → (a ≡ true) × (b ≡ true)
both true b e = (refl, e)
both false b e = absurd (cc e)

equal_numbers : (a b : ℕ) → (a == b) ≡ true → a ≡ b
equal_numbers a b h = grind (arith, nat_tests)

number_self : (n : ℕ) → (n == n) ≡ true
number_self n = grind (arith, nat_tests)

pub one_id : (a b : AuditId) → is_same a b ≡ true → a ≡ b
one_id a b h =
    let p = both (a.boot == b.boot) _ h in
    let q = both (a.bay == b.bay) (a.number == b.number) p.1 in
    let boot : a.boot ≡ b.boot = equal_numbers a.boot b.boot p.0 in
    let bay : a.bay ≡ b.bay = equal_numbers a.bay b.bay q.0 in
    let number : a.number ≡ b.number = equal_numbers a.number b.number q.1 in
    λ i. record { boot = boot i; bay = bay i; number = number i }

pub same_self : (a : AuditId) → is_same a a ≡ true
same_self a = rw (number_self a.boot, number_self a.bay, number_self a.number) refl

-- ---- blocks

both_equal : (a b : Ordering) → is_eq (ordering_then a b) ≡ true → (a ≡ order.Equal) × (is_eq b ≡ true)
both_equal order.Less b h = absurd (cc h)
both_equal order.Equal b h = (refl, h)
both_equal order.Greater b h = absurd (cc h)

equal : (a : Ordering) → is_eq a ≡ true → a ≡ order.Equal
equal order.Less h = absurd (cc h)
equal order.Equal h = refl
equal order.Greater h = absurd (cc h)

cmp_self : (n : ℕ) → nat_cmp n n ≡ order.Equal
cmp_self n = sym (nat_cmp_is n n order.Equal refl)

one_block : (a b : Block) → is_at (block_cmp a) b ≡ true → a ≡ b
one_block a b h =
    let p = both_equal (nat_cmp a.boot b.boot) _ h in
    let q = both_equal (nat_cmp a.bay b.bay) (nat_cmp a.index b.index) p.1 in
    let boot : a.boot ≡ b.boot = exact_unsigned a.boot b.boot p.0 in
    let bay : a.bay ≡ b.bay = exact_unsigned a.bay b.bay q.0 in
    let index : a.index ≡ b.index = exact_unsigned a.index b.index (equal (nat_cmp a.index b.index) q.1) in
    λ i. record { boot = boot i; bay = bay i; index = index i }

block_self : (a : Block) → is_at (block_cmp a) a ≡ true
block_self a = rw (cmp_self a.boot, cmp_self a.bay, cmp_self a.index) refl

-- a number is given by its block and its place there
number_of_parts : (a b : ℕ) → a / 64 ≡ b / 64 → a % 64 ≡ b % 64 → a ≡ b
number_of_parts a b p q = omega arith

one_place : (a b : AuditId) → block_of a ≡ block_of b → place_of a ≡ place_of b → a ≡ b
one_place a b p q =
    let boot : a.boot ≡ b.boot = ap (λ (k : Block). k.boot) p in
    let bay : a.bay ≡ b.bay = ap (λ (k : Block). k.bay) p in
    let number : a.number ≡ b.number = number_of_parts a.number b.number (ap (λ (k : Block). k.index) p) q in
    λ i. record { boot = boot i; bay = bay i; number = number i }

-- ---- one stage more

pub nothing_seen : (id : AuditId) → last_seen (record { blocks = [] }) id ≡ None
nothing_seen id = get_or-replicate 64 (place_of id) None None (omega arith)

by_place : (old : List (Option Stage)) (k j : ℕ) (stage : Option Stage) → k < length old → (b : Bool) → (k == j) ≡ b →
    get_or (set old k stage) j None ≡ (if b then stage else get_or old j None)
by_place old k j stage within true e = let same : k ≡ j = equal_numbers k j e in subst (λ (i : ℕ). get_or (set old k stage) i None ≡ stage) same (get_or-set_same old k stage None within)
by_place old k j stage within false e = get_or-set_other old k j stage None (λ (same : j ≡ k). absurd (cc (e, ap (λ (i : ℕ). k == i) same, number_self k)))

pub noted : (old new : Seen) (id : AuditId) (stage : Stage) → place_of id < length (stages_of old (block_of id)) →
    ((b : Block) → lookup (is_at (block_cmp b)) new.blocks ≡ cond (is_at (block_cmp (block_of id)) b) (Some (set (stages_of old (block_of id)) (place_of id) (Some stage))) (lookup (is_at (block_cmp b)) old.blocks)) →
    (q : AuditId) → last_seen new q ≡ (if is_same id q then Some stage else last_seen old q)
noted old new id stage within updated q = by_block (is_at (block_cmp (block_of id)) (block_of q)) refl
  where
    written : List (Option Stage)
    written = set (stages_of old (block_of id)) (place_of id) (Some stage)

    is_block : (b : Bool) → is_at (block_cmp (block_of id)) (block_of q) ≡ b → stages_of new (block_of q) ≡ stages_in (cond b (Some written) (lookup (is_at (block_cmp (block_of q))) old.blocks))
    is_block b e = ap stages_in (updated (block_of q) ∙ ap (λ (c : Bool). cond c (Some written) (lookup (is_at (block_cmp (block_of q))) old.blocks)) e)

    own : block_of id ≡ block_of q → (b : Bool) → (place_of id == place_of q) ≡ b → (c : Bool) → is_same id q ≡ c →
        (if b then Some stage else get_or (stages_of old (block_of id)) (place_of q) None) ≡ (if c then Some stage else last_seen old q)
    own same true p true r = refl
    own same true p false r = absurd (cc (r, ap (is_same id) (one_place id q same (equal_numbers (place_of id) (place_of q) p)), same_self id))
    own same false p true r = absurd (cc (p, ap (λ (x : AuditId). place_of id == place_of x) (one_id id q r), number_self (place_of id)))
    own same false p false r = ap (λ (k : Block). get_or (stages_of old k) (place_of q) None) same

    other : is_at (block_cmp (block_of id)) (block_of q) ≡ false → (c : Bool) → is_same id q ≡ c → c ≡ false
    other e true r = absurd (cc (e, ap (λ (x : AuditId). is_at (block_cmp (block_of id)) (block_of x)) (one_id id q r), block_self (block_of id)))
    other e false r = refl

    by_block : (b : Bool) → is_at (block_cmp (block_of id)) (block_of q) ≡ b → last_seen new q ≡ (if is_same id q then Some stage else last_seen old q)
    by_block true e =
        ap (λ (s : List (Option Stage)). get_or s (place_of q) None) (is_block true e)
        ∙ (by_place (stages_of old (block_of id)) (place_of id) (place_of q) (Some stage) within (place_of id == place_of q) refl
        ∙ own (one_block (block_of id) (block_of q) e) (place_of id == place_of q) refl (is_same id q) refl)
    by_block false e =
        ap (λ (s : List (Option Stage)). get_or s (place_of q) None) (is_block false e) ∙ ap (λ (c : Bool). if c then Some stage else last_seen old q) (sym (other e (is_same id q) refl))

-- ---- whole blocks

pub whole_at : (blocks : List (Block × List (Option Stage))) (b : Block) (stages : List (Option Stage)) → AreWhole blocks → Some stages ≡ lookup (is_at (block_cmp b)) blocks → length stages ≡ 64
whole_at blocks b stages h is = ap (λ (s : Option (List (Option Stage))). length (stages_in s)) is ∙ h b

pub whole_noted : (old new : List (Block × List (Option Stage))) (k : Block) (stages : List (Option Stage)) (at : ℕ) (stage : Option Stage) → AreWhole old → length stages ≡ 64 →
    ((b : Block) → lookup (is_at (block_cmp b)) new ≡ cond (is_at (block_cmp k) b) (Some (set stages at stage)) (lookup (is_at (block_cmp b)) old)) → AreWhole new
whole_noted old new k stages at stage h len updated b = ap (λ (s : Option (List (Option Stage))). length (stages_in s)) (updated b) ∙ by_block (is_at (block_cmp k) b)
  where
    by_block : (own : Bool) → length (stages_in (cond own (Some (set stages at stage)) (lookup (is_at (block_cmp b)) old))) ≡ 64
    by_block true = length-set stages at stage ∙ len
    by_block false = h b
