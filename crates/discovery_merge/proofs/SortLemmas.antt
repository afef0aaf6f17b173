-- What a stable sort leaves is `sorted`, whatever the sort.
use Rattle.std.proofs.Common.{Bor, ◌≡◌, ℕ, zero, suc, ◌+◌, ◌<◌, ◌≤◌, Bool, true, false, cond, not, ◌&&◌, ◌||◌, List, [], ◌∷◌, length, get_or, map, filter, refl, sym, ap, ◌∙◌, subst, inl, inr, true≢false, suc-le-suc, zero-le, arith}
use Rattle.std.proofs.lemmas.Bool.{cond-true, cond-false, cases_Bool, and_parts, not-true}
use Rattle.std.proofs.lemmas.Cmp.{on_total}
use Rattle.std.proofs.lemmas.List.Sorted.{ranks_by, sorted_far, answers_always}
use Rattle.std.specs.Cmp.{IsTotalOrder, IsStrictWeakOrder}
use Rattle.std.specs.Fn.{Called, ComparesAs, Mut}
use Rattle.std.specs.List.{list_any}
use Rattle.std.specs.List.Sorted.{ties, IsSortedBy, IsStableBy, IsSortedByClosure, IsStableByClosure}
use Rattle.std.specs.declared.cmp.Ordering.{Ordering}
use Rattle.std.specs.Ordering.{is_lt}
use Rattle.discovery_merge.specs.Order.{put, sorted}

-- an element is kept, or left out, in front
module _ {X : Type 0} (p : X → Bool) where
  filter-kept : (y : X) (ys : List X) → p y ≡ true → filter p (y ∷ ys) ≡ y ∷ filter p ys
  filter-kept y ys h = cond-true _ _ _ h

  filter-dropped : (y : X) (ys : List X) → p y ≡ false → filter p (y ∷ ys) ≡ filter p ys
  filter-dropped y ys h = cond-false _ _ _ h

or_swapped : (a b c : Bool) → (a || (b || c)) ≡ (b || (a || c))
or_swapped true true c = refl
or_swapped true false c = refl
or_swapped false true c = refl
or_swapped false false c = refl

module _ {X : Type 0} (lt : X → X → Bool) (o : IsStrictWeakOrder lt) where
  never_less : (x : X) → lt x x ≡ false
  never_less x = elim (cases_Bool (lt x x)) [ inl less ↦ o.one_way x x less | inr same ↦ same ]

  tie_parts : (x y : X) → ties lt x y ≡ true → (lt x y ≡ false) × (lt y x ≡ false)
  tie_parts x y h =
      let parts = and_parts (not (lt x y)) (not (lt y x)) h in
      (not-true (lt x y) parts.0, not-true (lt y x) parts.1)

  tie_from : (x y : X) → lt x y ≡ false → lt y x ≡ false → ties lt x y ≡ true
  tie_from x y p q = ap (λ b. not b && not (lt y x)) p ∙ ap not q

  tie_itself : (x : X) → ties lt x x ≡ true
  tie_itself x = tie_from x x (never_less x) (never_less x)

  -- none of those is less than x
  abbrev NoneLess : X → List X → Type 0
  NoneLess x [] = Unit {0}
  NoneLess x (y ∷ ys) = (lt y x ≡ false) × NoneLess x ys

  -- none is less than one before it
  abbrev Rises : List X → Type 0
  Rises [] = Unit {0}
  Rises (y ∷ ys) = NoneLess y ys × Rises ys

  NoneLess-at : (x : X) (ys : List X) → ((j : ℕ) → j < length ys → lt (get_or ys j x) x ≡ false) → NoneLess x ys
  NoneLess-at x [] h = tt
  NoneLess-at x (y ∷ ys) h = (h zero (suc-le-suc zero-le), NoneLess-at x ys (λ j less. h (suc j) (suc-le-suc less)))

  Rises-from_far : (ys : List X)
      → ((i j : ℕ) (d : X) → i ≤ j → j < length ys → lt (get_or ys j d) (get_or ys i d) ≡ false) → Rises ys
  Rises-from_far [] h = tt
  Rises-from_far (y ∷ ys) h = (
    NoneLess-at y ys (λ j less. h zero (suc j) y zero-le (suc-le-suc less)),
    Rises-from_far ys (λ i j d le less. h (suc i) (suc j) d (suc-le-suc le) (suc-le-suc less)),
  )

  Rises-at : (ys : List X) → Rises ys → (k : ℕ) (d : X) → k + 1 < length ys
      → lt (get_or ys (k + 1) d) (get_or ys k d) ≡ false
  Rises-at [] up k d within = absurd (omega arith)
  Rises-at (y ∷ []) up k d within = absurd (omega arith)
  Rises-at (y ∷ z ∷ zs) up zero d within = up.0.0
  Rises-at (y ∷ z ∷ zs) up (suc k) d within =
      ap (λ n. lt (get_or (y ∷ z ∷ zs) n d) (get_or (z ∷ zs) k d)) {x = suc k + 1} {y = suc (k + 1)} (omega arith)
      ∙ Rises-at (z ∷ zs) up.1 k d (omega arith)

  -- where an element that ties with y is among them, y isn't less than x
  NoneLess-found : (x y : X) (zs : List X) (w : X) (ws : List X)
      → NoneLess x zs → filter (ties lt y) zs ≡ w ∷ ws → lt y x ≡ false
  NoneLess-found x y [] w ws h e = cc
  NoneLess-found x y (z ∷ zs) w ws h e =
      elim (cases_Bool (ties lt y z)) [
        | inl with ↦ o.chain y z x (tie_parts y z with).0 h.0
        | inr without ↦ NoneLess-found x y zs w ws h.1 (sym (filter-dropped (ties lt y) z zs without) ∙ e)
      ]

  -- lists that rise are equal where those that tie with each element are
  same_from_ties : (ys zs : List X) → Rises ys → Rises zs
      → ((x : X) → filter (ties lt x) ys ≡ filter (ties lt x) zs) → ys ≡ zs
  same_from_ties [] [] left right same = refl
  same_from_ties [] (z ∷ zs) left right same =
      let clash = same z ∙ filter-kept (ties lt z) z zs (tie_itself z) in cc
  same_from_ties (y ∷ ys) [] left right same =
      let clash = sym (same y) ∙ filter-kept (ties lt y) y ys (tie_itself y) in cc
  same_from_ties (y ∷ ys) (z ∷ zs) left right same =
      let at_y = filter-kept (ties lt y) y ys (tie_itself y) in
      let at_z = filter-kept (ties lt z) z zs (tie_itself z) in
      let down = NoneLess-found z y (z ∷ zs) y _ (never_less z, right.0) (sym (same y) ∙ at_y) in
      let up = NoneLess-found y z (y ∷ ys) z _ (never_less y, left.0) (same z ∙ at_z) in
      let heads = sym at_y ∙ same y ∙ filter-kept (ties lt y) z zs (tie_from y z down up) in
      let head : y ≡ z = cc in
      let tails : (x : X) → filter (ties lt x) ys ≡ filter (ties lt x) zs =
      λ x. elim (cases_Bool (ties lt x y)) [
        | inl with ↦
            let both = sym (filter-kept (ties lt x) y ys with) ∙ same x
            ∙ filter-kept (ties lt x) z zs (ap (ties lt x) (sym head) ∙ with) in cc
        | inr without ↦
            sym (filter-dropped (ties lt x) y ys without) ∙ same x
            ∙ filter-dropped (ties lt x) z zs (ap (ties lt x) (sym head) ∙ without)
      ] in
      ap (λ w. w ∷ ys) head ∙ ap (λ l. z ∷ l) (same_from_ties ys zs left.1 right.1 tails)

module _ {X : Type 0} (order : X → X → Ordering) where
  abbrev less : X → X → Bool
  less x y = is_lt (order x y)

  put-past : (x y : X) (ys : List X) → less y x ≡ true → put order x (y ∷ ys) ≡ y ∷ put order x ys
  unfolding put
  put-past x y ys h = cond-true _ _ _ h

  put-stays : (x y : X) (ys : List X) → less y x ≡ false → put order x (y ∷ ys) ≡ x ∷ y ∷ ys
  unfolding put
  put-stays x y ys h = cond-false _ _ _ h

  put-nil : (x : X) → put order x [] ≡ x ∷ []
  unfolding put
  put-nil x = refl

  sorted-nil : sorted order [] ≡ []
  unfolding sorted
  sorted-nil = refl

  sorted-cons : (x : X) (xs : List X) → sorted order (x ∷ xs) ≡ put order x (sorted order xs)
  unfolding sorted
  sorted-cons x xs = refl

  module _ (total : IsTotalOrder order) where
    weak : IsStrictWeakOrder less
    weak = ranks_by total (λ x. x)

    -- elements that tie with z stand as they did
    filter-put : (z x : X) (ys : List X) → filter (ties less z) (put order x ys) ≡ filter (ties less z) (x ∷ ys)
    filter-put z x [] = ap (filter (ties less z)) (put-nil x)
    filter-put z x (y ∷ ys) =
        let p = ties less z in
        elim (cases_Bool (less y x)) [
          | inr stays ↦ ap (filter p) (put-stays x y ys stays)
          | inl past ↦
              ap (filter p) (put-past x y ys past)
              ∙ elim (cases_Bool (p y)) [
                | inr without ↦
                    filter-dropped p y (put order x ys) without ∙ filter-put z x ys
                    ∙ ap (λ l. cond (p x) (x ∷ l) l) (sym (filter-dropped p y ys without))
                | inl with ↦
                    elim (cases_Bool (p x)) [
                      | inl both ↦
                          let apart = weak.chain y z x (tie_parts less weak z y with).1 (tie_parts less weak z x both).0 in
                          absurd (true≢false (sym past ∙ apart))
                      | inr only ↦
                          filter-kept p y (put order x ys) with
                          ∙ ap (λ l. y ∷ l) (filter-put z x ys ∙ filter-dropped p x ys only)
                          ∙ sym (filter-dropped p x (y ∷ ys) only ∙ filter-kept p y ys with)
                    ]
              ]
        ]

    filter-sorted : (z : X) (xs : List X) → filter (ties less z) (sorted order xs) ≡ filter (ties less z) xs
    filter-sorted z [] = ap (filter (ties less z)) sorted-nil
    filter-sorted z (x ∷ xs) =
        ap (filter (ties less z)) (sorted-cons x xs) ∙ filter-put z x (sorted order xs)
        ∙ ap (λ l. cond (ties less z x) (x ∷ l) l) (filter-sorted z xs)

    NoneLess-put : (y x : X) (ys : List X) → less x y ≡ false → NoneLess less weak y ys → NoneLess less weak y (put order x ys)
    NoneLess-put y x [] h none = subst (NoneLess less weak y) (sym (put-nil x)) (h, tt)
    NoneLess-put y x (z ∷ zs) h none =
        elim (cases_Bool (less z x)) [
          | inl past ↦
              subst (NoneLess less weak y) (sym (put-past x z zs past)) (none.0, NoneLess-put y x zs h none.1)
          | inr stays ↦ subst (NoneLess less weak y) (sym (put-stays x z zs stays)) (h, none)
        ]

    -- what isn't less than y isn't less than x, where y isn't
    NoneLess-further : (x y : X) (ys : List X) → less y x ≡ false → NoneLess less weak y ys → NoneLess less weak x ys
    NoneLess-further x y [] h none = tt
    NoneLess-further x y (z ∷ zs) h none = (weak.chain z y x none.0 h, NoneLess-further x y zs h none.1)

    Rises-put : (x : X) (ys : List X) → Rises less weak ys → Rises less weak (put order x ys)
    Rises-put x [] up = subst (Rises less weak) (sym (put-nil x)) (tt, tt)
    Rises-put x (y ∷ ys) up =
        elim (cases_Bool (less y x)) [
          | inl past ↦
              subst (Rises less weak) (sym (put-past x y ys past))
              (NoneLess-put y x ys (weak.one_way y x past) up.0, Rises-put x ys up.1)
          | inr stays ↦
              subst (Rises less weak) (sym (put-stays x y ys stays))
              ((stays, NoneLess-further x y ys stays up.0), up)
        ]

    Rises-sorted : (xs : List X) → Rises less weak (sorted order xs)
    Rises-sorted [] = subst (Rises less weak) (sym sorted-nil) tt
    Rises-sorted (x ∷ xs) = subst (Rises less weak) (sym (sorted-cons x xs)) (Rises-put x (sorted order xs) (Rises-sorted xs))

    pub sorted_rises : (xs : List X) → IsSortedBy less (sorted order xs)
    sorted_rises xs = λ k d from within. Rises-at less weak (sorted order xs) (Rises-sorted xs) k d within

    pub sorted_stable : (xs : List X) → IsStableBy less xs (sorted order xs)
    sorted_stable xs = λ z. filter-sorted z xs

    pub sorted_is : (xs ys : List X) → IsSortedBy less ys → IsStableBy less xs ys → ys ≡ sorted order xs
    sorted_is xs ys up stable =
        same_from_ties less weak ys (sorted order xs)
        (Rises-from_far less weak ys (sorted_far less weak ys up))
        (Rises-sorted xs)
        (λ x. stable x ∙ sym (filter-sorted x xs))

-- the same elements
module _ {X : Type 0} (order : X → X → Ordering) (p : X → Bool) where
  list_any-put : (x : X) (ys : List X) → list_any p (put order x ys) ≡ (p x || list_any p ys)
  list_any-put x [] = ap (list_any p) (put-nil order x)
  list_any-put x (y ∷ ys) =
      elim (cases_Bool (is_lt (order y x))) [
        | inl past ↦
            ap (list_any p) (put-past order x y ys past) ∙ ap (λ b. p y || b) (list_any-put x ys)
            ∙ or_swapped (p y) (p x) (list_any p ys)
        | inr stays ↦ ap (list_any p) (put-stays order x y ys stays)
      ]

  pub list_any-sorted : (xs : List X) → list_any p (sorted order xs) ≡ list_any p xs
  list_any-sorted [] = ap (list_any p) (sorted-nil order)
  list_any-sorted (x ∷ xs) =
      ap (list_any p) (sorted-cons order x xs) ∙ list_any-put x (sorted order xs)
      ∙ ap (λ b. p x || b) (list_any-sorted xs)

-- a function of the elements, by which they are in order
module _ {A B : Type 0} (f : A → B) (order : B → B → Ordering) where
  abbrev through : A → A → Ordering
  through a b = order (f a) (f b)

  put-map : (x : A) (xs : List A) → map f (put through x xs) ≡ put order (f x) (map f xs)
  put-map x [] = ap (map f) (put-nil through x) ∙ sym (put-nil order (f x))
  put-map x (y ∷ ys) =
      elim (cases_Bool (is_lt (order (f y) (f x)))) [
        | inl past ↦
            ap (map f) (put-past through x y ys past) ∙ ap (λ l. f y ∷ l) (put-map x ys)
            ∙ sym (put-past order (f x) (f y) (map f ys) past)
        | inr stays ↦
            ap (map f) (put-stays through x y ys stays) ∙ sym (put-stays order (f x) (f y) (map f ys) stays)
      ]

  sorted-map : (xs : List A) → map f (sorted through xs) ≡ sorted order (map f xs)
  sorted-map [] = ap (map f) (sorted-nil through) ∙ sym (sorted-nil order)
  sorted-map (x ∷ xs) =
      ap (map f) (sorted-cons through x xs) ∙ put-map x (sorted through xs)
      ∙ ap (put order (f x)) (sorted-map xs) ∙ sym (sorted-cons order (f x) (map f xs))

  -- what a stable sort of the elements leaves, seen through f
  sorted_through : IsTotalOrder order → (xs ys : List A)
      → IsSortedBy (λ a b. is_lt (through a b)) ys → IsStableBy (λ a b. is_lt (through a b)) xs ys
      → map f ys ≡ sorted order (map f xs)
  sorted_through total xs ys up stable =
      ap (map f) (sorted_is through (on_total f total) xs ys up stable) ∙ sorted-map xs

-- what `sort_by` leaves of references, where each call of its closure answers by the order
pub sorted_by_calls : {F X : Type 0} {g : Mut F (Bor (Bor X) × (Bor (Bor X) × Unit {0})) Ordering} {f : F}
    (order : X → X → Ordering) → IsTotalOrder order → (xs ys : List (Bor X))
    → IsSortedByClosure g f ys → IsStableByClosure g f xs ys
    → ((f : F) (a : Bor (Bor X) × (Bor (Bor X) × Unit {0})) (r : Ordering) (f' : F)
    → Called g f a r f' → r ≡ order a.0.now.now a.1.0.now.now)
    → map (λ x. x.now) ys ≡ sorted order (map (λ x. x.now) xs)
sorted_by_calls {F} {X} {g} {f} order total xs ys up stable answers =
    let now : Bor X → X = λ x. x.now in
    let lt : Bor X → Bor X → Bool = λ x y. is_lt (order x.now y.now) in
    let weak : IsStrictWeakOrder lt = ranks_by total now in
    let by_order : ComparesAs g lt f =
    answers_always g (λ a r. is_lt r ≡ lt a.0.now a.1.0.now) f (λ e a r e' call. ap is_lt (answers e a r e' call)) in
    sorted_through now order total xs ys (up lt weak by_order) (stable lt weak by_order)
