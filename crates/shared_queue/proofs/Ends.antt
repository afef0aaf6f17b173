-- What is known once all lanes have ended.
use Rattle.std.proofs.Common.{◌≡◌, ◌≢◌, not, ◌==◌, ℕ, zero, suc, ◌+◌, ◌≤◌, ◌<◌, true, List, [], ◌∷◌, ◌++◌, length, get_or, drop, map, All, MatchOption, sym, refl, ap, ◌∙◌, subst, ⊎_elim, append_assoc, arith, slice_get, IfSome, Some, None}
use Rattle.std.specs.List.{filter}
use Rattle.std.proofs.lemmas.List.Elements.{filter-append, All-map}
use Rattle.std.proofs.lemmas.List.Filters.{length-filter_both}
use Rattle.std.proofs.Math.Seq.{drop-append_seam}
use Rattle.std.proofs.lemmas.List.{length-map}
use Rattle.std.proofs.lemmas.Bool.Decides.{nat_tests}
use Rattle.std.specs.Prelude.{Option as StdOption}
use mathlib.Core.Option.{some, some-ne-none, some-injective}
use native.Mathlib.Decide.{ℕ_discrete}
use lib.ListN.{get_elem?}
use Rattle.crossbeam_queue.specs.Fifo.{Pops, Held}
use Rattle.front_base.specs.Line.{Line}
use Rattle.truncate_backend.specs.Outlets.{TakesOne, count_all}
use Rattle.shared_queue.specs.declared.views.EndedLane.{EndedLane}
use Rattle.shared_queue.specs.declared.views.View.{View}
use Rattle.shared_queue.specs.Bays.{of_bay}
use Rattle.shared_queue.specs.Rule.{popped, Kept, Accounts, with_outlet}
use Rattle.shared_queue.specs.Ends.{left_of, lefts, accepts, AllEnded, EndParts}
use Rattle.shared_queue.proofs.Steps.{pops, accounts, below_or, part_other}

-- a pop at the end keeps the rule, and tells what each bay accepted
pub drains : (port : ℕ) (v : View) → v.makes ≡ true → v.pops ≡ true → Pops Kept port v (λ x w. (w ≡ popped v x) × ((items : List Line) × Accounts v (x ∷ items)))
drains port v makes may x items views h at = let r = pops port v may x items views h at in (r.0, r.1, (r.2, (items, accounts port v makes may (x ∷ items) views h at)))

of_append : (b : ℕ) (xs ys : List Line) → of_bay b (xs ++ ys) ≡ of_bay b xs ++ of_bay b ys
of_append b xs ys = filter-append (λ (x : Line). x.bay == b) xs ys

pub of_first : (b : ℕ) (x : Line) (xs : List Line) → x.bay ≡ b → of_bay b (x ∷ xs) ≡ x ∷ of_bay b xs
of_first b x xs e = grind (arith, nat_tests)

pub of_skip : (b : ℕ) (x : Line) (xs : List Line) → x.bay ≢ b → of_bay b (x ∷ xs) ≡ of_bay b xs
of_skip b x xs e = grind (arith, nat_tests)

of_twice : (b : ℕ) (xs : List Line) → of_bay b (of_bay b xs) ≡ of_bay b xs
of_twice b [] = refl
of_twice b (x ∷ xs) = elim (ℕ_discrete x.bay b) [
  | yes is ↦ ap (λ ys. of_bay b ys) (of_first b x xs is) ∙ (of_first b x (of_bay b xs) is ∙ (ap (λ (ys : List Line). x ∷ ys) (of_twice b xs) ∙ sym (of_first b x xs is)))
  | no other ↦ ap (λ ys. of_bay b ys) (of_skip b x xs other) ∙ (of_twice b xs ∙ sym (of_skip b x xs other))
]

left_is : (v : View) (items : List Line) → Accounts v items → (k : ℕ) (e : EndedLane) → get_elem? v.ended k ≡ some e → left_of v.taken e ≡ of_bay e.bay items
left_is v items acc k e at = ap (λ (ys : List Line). drop (length (of_bay e.bay v.taken)) ys) (acc.ended k e at ∙ of_append e.bay v.taken items) ∙ drop-append_seam (of_bay e.bay v.taken) (of_bay e.bay items)

two_parts : (v : View) (items : List Line) → Accounts v items → (k : ℕ) (e : EndedLane) → get_elem? v.ended k ≡ some e → e.accepted ≡ of_bay e.bay v.taken ++ left_of v.taken e
two_parts v items acc k e at = (acc.ended k e at ∙ of_append e.bay v.taken items) ∙ ap (λ ys. of_bay e.bay v.taken ++ ys) (sym (left_is v items acc k e at))

taken_on : (v : View) (x : Line) (items : List Line) → Accounts v (x ∷ items) → Accounts (popped v x) items
taken_on v x items acc = record {
  ended = λ k e at. acc.ended k e at ∙ ap (λ ys. of_bay e.bay ys) (sym (append_assoc v.taken (x ∷ []) items));
  later = λ b le. ap (λ ys. of_bay b ys) (append_assoc v.taken (x ∷ []) items) ∙ acc.later b le;
}

same_map : (f g : EndedLane → List Line) (es : List EndedLane) → ((k : ℕ) (u : EndedLane) → get_elem? es k ≡ some u → f u ≡ g u) → map f es ≡ map g es
same_map f g [] same = refl
same_map f g (y ∷ ys) same = λ i. same zero y refl i ∷ same_map f g ys (λ k u at. same (suc k) u at) i

takes_one : (f g : EndedLane → List Line) (x : Line) (es : List EndedLane) (j : ℕ) (e : EndedLane) → get_elem? es j ≡ some e → f e ≡ x ∷ g e → ((k : ℕ) (u : EndedLane) → k ≢ j → get_elem? es k ≡ some u → f u ≡ g u) → TakesOne (map f es) x (map g es)
takes_one f g x [] j e at here others = absurd (some-ne-none e (sym at))
takes_one f g x (y ∷ ys) zero e at here others = let is = some-injective y e at in let rest : (zs : List EndedLane) → ((k : ℕ) (u : EndedLane) → get_elem? zs k ≡ some u → f u ≡ g u) → map f zs ≡ map g zs = same_map f g in
    record { before = []; after = map g ys; rest = g y; was = λ i. (ap f is ∙ (here ∙ ap (λ (u : EndedLane). x ∷ g u) (sym is))) i ∷ rest ys (λ k u at. others (suc k) u (λ h. omega arith) at) i; is = refl }
takes_one f g x (y ∷ ys) (suc j) e at here others = let r = takes_one f g x ys j e at here (λ k u n at. others (suc k) u (λ h. n (omega arith)) at) in
    record { before = g y ∷ r.before; after = r.after; rest = r.rest; was = λ i. others zero y (λ h. omega arith) refl i ∷ r.was i; is = λ i. g y ∷ r.is i }

some_at : {A : Type 0} (l : List A) (i : ℕ) → i < length l → (a : A) × (get_elem? l i ≡ some a)
some_at [] i h = absurd (omega arith)
some_at (x ∷ xs) zero h = (x, refl)
some_at (x ∷ xs) (suc i) h = some_at xs i (omega arith)

read_at : {A : Type 0} (l : List A) (i : ℕ) (d : A) → i < length l → get_elem? l i ≡ some (get_or l i d)
read_at [] i d h = absurd (omega arith)
read_at (x ∷ xs) zero d h = refl
read_at (x ∷ xs) (suc i) d h = read_at xs i d (omega arith)

get_map : (f : EndedLane → List Line) (es : List EndedLane) (k : ℕ) (e : EndedLane) → get_elem? es k ≡ some e → get_or (map f es) k [] ≡ f e
get_map f [] k e at = absurd (some-ne-none e (sym at))
get_map f (y ∷ ys) zero e at = ap f (some-injective y e at)
get_map f (y ∷ ys) (suc k) e at = get_map f ys k e at

pub get_past : (xs : List (List Line)) (k : ℕ) → length xs ≤ k → get_or xs k [] ≡ []
get_past [] k le = refl
get_past (x ∷ xs) zero le = absurd (omega arith)
get_past (x ∷ xs) (suc k) le = get_past xs k (omega arith)

not_nil : (xs ys : List Line) (x : Line) → xs ++ x ∷ ys ≡ [] → ⊥
not_nil [] ys x e = cc
not_nil (z ∷ zs) ys x e = cc

first_nil : (xs ys : List Line) → xs ++ ys ≡ [] → xs ≡ []
first_nil [] ys e = refl
first_nil (z ∷ zs) ys e = cc

pub takes : (v : View) (x : Line) (items : List Line) → Accounts v (x ∷ items) → AllEnded v → TakesOne (lefts v) x (lefts (popped v x))
takes v x items acc ord =
    let later = acc.later x.bay in
    let below : x.bay < v.made = ⊎_elim (λ y. y) (λ le. absurd (not_nil (of_bay x.bay v.taken) (of_bay x.bay items) x (sym (of_append x.bay v.taken (x ∷ items) ∙ ap (λ ys. of_bay x.bay v.taken ++ ys) (of_first x.bay x items refl)) ∙ later le))) (below_or x.bay v.made) in
    let it = some_at v.ended x.bay (subst (λ n. x.bay < n) (sym ord.count) below) in
    let after = taken_on v x items acc in
    takes_one (left_of v.taken) (left_of (popped v x).taken) x v.ended x.bay it.0 it.1
    (left_is v (x ∷ items) acc x.bay it.0 it.1 ∙ (of_first it.0.bay x items (sym (ord.places x.bay it.0 it.1)) ∙ ap (λ ys. x ∷ ys) (sym (left_is (popped v x) items after x.bay it.0 it.1))))
    (λ k u n at. left_is v (x ∷ items) acc k u at ∙ (of_skip u.bay x items (λ e. n (sym (e ∙ ord.places k u at))) ∙ sym (left_is (popped v x) items after k u at)))

pub none_left : (v : View) (items : List Line) → length items ≡ 0 → Accounts v items → All (λ ys. ys ≡ []) (lefts v)
none_left v [] len acc = All-map (λ ys. ys ≡ []) (left_of v.taken) v.ended (λ k d lt. left_is v [] acc k (get_or v.ended k d) (read_at v.ended k d lt))
none_left v (x ∷ xs) len acc = absurd (omega arith)

-- the lists of bays from o on, each of which is the bay's part of the items, are together no longer than these
parts_within : (f : EndedLane → List Line) (es : List EndedLane) (o : ℕ) (items : List Line) → ((k : ℕ) (e : EndedLane) → get_elem? es k ≡ some e → (e.bay ≡ k + o) × (f e ≡ of_bay e.bay items)) → count_all (map f es) ≤ length items
parts_within f [] o items each = omega arith
parts_within f (e ∷ es) o items each =
    let h = each zero e refl in
    let b : e.bay ≡ o = h.0 ∙ (omega arith) in
    let others : List Line = filter (λ (x : Line). not (x.bay == o)) items in
    let rest = parts_within f es (o + 1) others (λ k u at. let g = each (suc k) u at in let n : u.bay ≡ k + (o + 1) = g.0 ∙ (omega arith) in (n, g.1 ∙ sym (part_other u.bay o items (λ z. omega arith)))) in
    let both = length-filter_both (λ (x : Line). x.bay == o) (λ (x : Line). not (x.bay == o)) (λ x. refl) items in
    let own : length (f e) ≡ length (of_bay o items) = ap length (h.1 ∙ ap (λ k. of_bay k items) b) in
    omega (arith, both, rest, own)

pub lefts_within : (v : View) (items : List Line) → Accounts v items → AllEnded v → count_all (lefts v) ≤ length items
lefts_within v items acc ord = parts_within (left_of v.taken) v.ended 0 items (λ k e at. (ord.places k e at ∙ (omega arith), left_is v items acc k e at))

-- what the accounts of a queue whose lanes have all ended say of each bay
pub parts_of : (n : ℕ) (v : View) (items : List Line) → Accounts v items → AllEnded v → count_all (lefts v) ≤ n → EndParts (accepts v) v.taken (lefts v) n
parts_of n v items acc ord within = record {
  count = length-map v.ended (left_of v.taken) ∙ sym (length-map v.ended (λ e. e.accepted));
  parts = λ bay. ⊎_elim
      (λ (lt : bay < length v.ended). let it = some_at v.ended bay lt in
      get_map (λ e. e.accepted) v.ended bay it.0 it.1 ∙ (two_parts v items acc bay it.0 it.1 ∙ (ap (λ b. of_bay b v.taken ++ left_of v.taken it.0) (ord.places bay it.0 it.1) ∙ ap (λ ys. of_bay bay v.taken ++ ys) (sym (get_map (left_of v.taken) v.ended bay it.0 it.1)))))
      (λ (le : length v.ended ≤ bay).
      let none : of_bay bay v.taken ≡ [] = first_nil (of_bay bay v.taken) (of_bay bay items) (sym (of_append bay v.taken items) ∙ acc.later bay (subst (λ n. n ≤ bay) ord.count le)) in
      let a = length-map v.ended (λ e. e.accepted) in let b = length-map v.ended (left_of v.taken) in
      get_past (accepts v) bay (omega arith) ∙ sym (ap (λ ys. of_bay bay v.taken ++ ys) (get_past (lefts v) bay (omega arith)) ∙ ap (λ (ys : List Line). ys ++ []) none))
      (below_or bay (length v.ended));
  own = λ bay. ⊎_elim
      (λ (lt : bay < length v.ended). let it = some_at v.ended bay lt in
      let is : get_or (lefts v) bay [] ≡ of_bay bay items = get_map (left_of v.taken) v.ended bay it.0 it.1 ∙ (left_is v items acc bay it.0 it.1 ∙ ap (λ b. of_bay b items) (ord.places bay it.0 it.1)) in
      ap (λ ys. of_bay bay ys) is ∙ (of_twice bay items ∙ sym is))
      (λ (le : length v.ended ≤ bay).
      let b = length-map v.ended (left_of v.taken) in
      let is : get_or (lefts v) bay [] ≡ [] = get_past (lefts v) bay (omega arith) in ap (λ ys. of_bay bay ys) is ∙ sym is)
      (below_or bay (length v.ended));
  within = within;
}

count_join : (xs ys : List (List Line)) → count_all (xs ++ ys) ≡ count_all xs + count_all ys
count_join [] ys = omega arith
count_join (x ∷ xs) ys = omega (arith, count_join xs ys)

pub fewer_left : (old new : List (List Line)) (x : Line) → TakesOne old x new → count_all new ≤ count_all old
fewer_left old new x t =
    let a = count_join t.before ((x ∷ t.rest) ∷ t.after) in let b = count_join t.before (t.rest ∷ t.after) in
    let c = ap (λ ls. count_all ls) t.was in let d = ap (λ ls. count_all ls) t.is in
    omega (arith, a, b, c, d)

pub each_at : {A : Type 0} (P : ℕ → A → Type 0) (xs : List A) → ((k : ℕ) → IfSome (slice_get xs k) (P k)) → (k : ℕ) (x : A) → get_elem? xs k ≡ some x → P k x
each_at P [] f k x at = absurd (some-ne-none x (sym at))
each_at P (y ∷ ys) f zero x at = subst (P 0) (some-injective y x at) (f 0)
each_at P (y ∷ ys) f (suc k) x at = each_at (λ n. P (suc n)) ys (λ n. f (suc n)) k x at

map_back : {A B : Type 0} (f : A → B) (xs : List A) (k : ℕ) (b : B) → get_elem? (map f xs) k ≡ some b → (x : A) × (get_elem? xs k ≡ some x) × (f x ≡ b)
map_back f [] k b at = absurd (some-ne-none b (sym at))
map_back f (y ∷ ys) zero b at = (y, refl, some-injective (f y) b at)
map_back f (y ∷ ys) (suc k) b at = map_back f ys k b at

-- lanes that ended in order
pub in_order : {A : Type 0} (f : A → EndedLane) (xs : List A) (v : View) → v.ended ≡ map f xs → length xs ≡ v.made → ((k : ℕ) → IfSome (slice_get xs k) (λ x. (f x).bay ≡ k)) → AllEnded v
in_order f xs v e len at = record {
  count = (ap length e ∙ length-map xs f) ∙ len;
  places = λ k u h. let b = map_back f xs k u (ap (λ es. get_elem? es k) (sym e) ∙ h) in ap (λ (y : EndedLane). y.bay) (sym b.2) ∙ each_at (λ k x. (f x).bay ≡ k) xs at k b.0 b.1;
}

-- what a pop at the end leaves
pub after_pop : (n : ℕ) (r : StdOption Line) (v w : View) → MatchOption r ((w ≡ v) × Held 0 (Accounts v)) (λ x. (w ≡ popped v x) × ((items : List Line) × Accounts v (x ∷ items))) → AllEnded v → EndParts (accepts v) v.taken (lefts v) n → AllEnded w × EndParts (accepts w) w.taken (lefts w) n
after_pop n None v w h ord parts = (subst AllEnded (sym h.0) ord, subst (λ (y : View). EndParts (accepts y) y.taken (lefts y) n) (sym h.0) parts)
after_pop n (Some x) v w h ord parts =
    let now : AllEnded (popped v x) = record { count = ord.count; places = ord.places } in
    let one = takes v x h.1.0 h.1.1 ord in
    let few = fewer_left (lefts v) (lefts (popped v x)) x one in
    let le = parts.within in
    (subst AllEnded (sym h.0) now, subst (λ (y : View). EndParts (accepts y) y.taken (lefts y) n) (sym h.0) (parts_of n (popped v x) h.1.0 (taken_on v x h.1.0 h.1.1) now (omega arith)))

pub ends_on : (r : StdOption Line) (v w : View) → MatchOption r ((w ≡ v) × Held 0 (Accounts v)) (λ x. (w ≡ popped v x) × ((items : List Line) × Accounts v (x ∷ items))) → (v.makes ≡ true) × (v.pops ≡ true) → (w.makes ≡ true) × (w.pops ≡ true)
ends_on None v w h e = (ap (λ (y : View). y.makes) h.0 ∙ e.0, ap (λ (y : View). y.pops) h.0 ∙ e.1)
ends_on (Some x) v w h e = (ap (λ (y : View). y.makes) h.0 ∙ e.0, ap (λ (y : View). y.pops) h.0 ∙ e.1)

-- what stands when all lanes and the outlet came back
pub record Back (v : View) : Type 0 where
  pub makes : v.makes ≡ true
  pub pops : v.pops ≡ true
  pub in_order : AllEnded v

some_on : {A : Type 0} {P Q : A → Type 0} (r : StdOption A) → IfSome r P → ((x : A) → P x → Q x) → IfSome r Q
some_on None h f = tt
some_on (Some x) h f = f x h

bay_at : {A : Type 0} (f : A → EndedLane) (n : A → ℕ) (xs : List A) (k : ℕ) → ((x : A) → (f x).bay ≡ n x) → IfSome (slice_get xs k) (λ x. n x ≡ k) → IfSome (slice_get xs k) (λ x. (f x).bay ≡ k)
bay_at f n xs k bay h = some_on (slice_get xs k) h (λ x e. bay x ∙ e)

pub all_back : {A : Type 0} (f : A → EndedLane) (n : A → ℕ) (xs : List A) (o t m b : View) → t.makes ≡ true → length xs ≡ t.made → m ≡ record t { ended = map f xs } → b ≡ with_outlet m o → ((k : ℕ) → IfSome (slice_get xs k) (λ x. n x ≡ k)) → ((x : A) → (f x).bay ≡ n x) → Back b
all_back f n xs o t m b makes len is both at bay = record {
  makes = ap (λ (y : View). y.makes) both ∙ (ap (λ (y : View). y.makes) is ∙ makes);
  pops = ap (λ (y : View). y.pops) both;
  in_order = in_order f xs b (ap (λ (y : View). y.ended) both ∙ ap (λ (y : View). y.ended) is) (len ∙ sym (ap (λ (y : View). y.made) both ∙ ap (λ (y : View). y.made) is)) (λ k. bay_at f n xs k bay (at k));
}

-- what each bay accepted, once its lane ended
pub accepted_back : {A : Type 0} (f : A → EndedLane) (xs : List A) → map (λ (e : EndedLane). e.accepted) (map f xs) ≡ map (λ x. (f x).accepted) xs
accepted_back f [] = refl
accepted_back f (x ∷ xs) = ap (λ ls. (f x).accepted ∷ ls) (accepted_back f xs)
