-- Lists that are walked by value, beside what was made of them.
use Rattle.std.proofs.Common.{◌≡◌, ◌<◌, ◌+◌, ℕ, zero, suc, List, [], ◌∷◌, ◌++◌, length, length-append, map, slice_get, IfSome, append_assoc, append-nil, refl, sym, ap, subst, ◌∙◌, arith}
use Rattle.std.proofs.lemmas.List.{map-append}
use Rattle.front_base.specs.declared.address.Address.{Address}
use Rattle.serve_bays.specs.BayCalls.{bay_calls, bays_calls}

pub image_count : {A B : Type 0} (f : A → B) (ys : List A) → length (map f ys) ≡ length ys
image_count f [] = refl
image_count f (y ∷ ys) = ap suc (image_count f ys)

mid_at : {A : Type 0} (P : ℕ → A → Type 0) (ys zs : List A) (x : A) → ((k : ℕ) → IfSome (slice_get (ys ++ x ∷ zs) k) (P k)) → P (length ys) x
mid_at P [] zs x f = f zero
mid_at P (y ∷ ys) zs x f = mid_at (λ n. P (suc n)) ys zs x (λ k. f (suc k))

-- what comes next stands where the next one is made
pub walk_next : {A B : Type 0} (P : ℕ → B → Type 0) (f : A → B) (done : List A) (rest new items : List B) (x : B)
    → map f done ++ rest ≡ items → rest ≡ x ∷ new → ((k : ℕ) → IfSome (slice_get items k) (P k)) → P (length done) x
walk_next P f done rest new items x e r h =
    subst (λ n. P n x) (image_count f done)
    (mid_at P (map f done) new x (λ k. subst (λ l. IfSome (slice_get l k) (P k)) (sym e ∙ ap (λ l. map f done ++ l) r) (h k)))

-- one more was made of it
pub walk_more : {A B : Type 0} (f : A → B) (done more : List A) (rest new items : List B) (x : B) (a : A)
    → map f done ++ rest ≡ items → rest ≡ x ∷ new → more ≡ done ++ a ∷ [] → f a ≡ x → map f more ++ new ≡ items
walk_more f done more rest new items x a e r m q =
    ap (λ l. map f l ++ new) m
    ∙ (ap (λ l. l ++ new) (map-append f done (a ∷ []))
    ∙ (append_assoc (map f done) (f a ∷ []) new
    ∙ (ap (λ z. map f done ++ z ∷ new) q ∙ (ap (λ l. map f done ++ l) (sym r) ∙ e))))

-- where nothing comes next, as many were made
pub walk_end : {A B : Type 0} (f : A → B) (done : List A) (rest items : List B) → map f done ++ rest ≡ items → length rest ≡ 0
    → map f done ≡ items
walk_end f done [] items e r = sym (append-nil (map f done)) ∙ e
walk_end f done (z ∷ rest) items e r = absurd (omega arith)

pub next_whole : {A : Type 0} (xs ys rest zs : List A) (x : A) → xs ≡ ys ++ rest → rest ≡ x ∷ zs → xs ≡ (ys ++ x ∷ []) ++ zs
next_whole xs ys rest zs x e r = (e ∙ ap (λ l. ys ++ l) r) ∙ sym (append_assoc ys (x ∷ []) zs)

pub next_below : {A : Type 0} (xs ys rest zs : List A) (x : A) → xs ≡ ys ++ rest → rest ≡ x ∷ zs → length ys < length xs
next_below xs ys rest zs x e r = omega (arith, ap length (e ∙ ap (λ l. ys ++ l) r), length-append ys (x ∷ zs))

pub all_of : {A : Type 0} (xs ys rest : List A) → xs ≡ ys ++ rest → length rest ≡ 0 → ys ≡ xs
all_of xs ys [] e r = sym (append-nil ys) ∙ sym e
all_of xs ys (z ∷ rest) e r = absurd (omega arith)

each_snoc : {A : Type 0} (P : ℕ → A → Type 0) (xs : List A) (x : A) → ((k : ℕ) → IfSome (slice_get xs k) (P k)) → P (length xs) x
    → (k : ℕ) → IfSome (slice_get (xs ++ x ∷ []) k) (P k)
each_snoc P [] x f p zero = p
each_snoc P [] x f p (suc k) = tt
each_snoc P (y ∷ ys) x f p zero = f zero
each_snoc P (y ∷ ys) x f p (suc k) = each_snoc (λ n. P (suc n)) ys x (λ n. f (suc n)) p k

pub each_more : {A : Type 0} (P : ℕ → A → Type 0) (xs ys : List A) (x : A) → ys ≡ xs ++ x ∷ []
    → ((k : ℕ) → IfSome (slice_get xs k) (P k)) → P (length xs) x → (k : ℕ) → IfSome (slice_get ys k) (P k)
each_more P xs ys x e f p k = subst (λ l. IfSome (slice_get l k) (P k)) (sym e) (each_snoc P xs x f p k)

-- the calls of one bay more
pub bays_more : (listen : Address) (connections bay : ℕ) (n m : ℕ) → m ≡ bay + n
    → bays_calls listen connections bay (suc n) ≡ bays_calls listen connections bay n ++ bay_calls listen connections m
bays_more listen connections bay zero m e =
    let f : m ≡ bay = omega arith in
    append-nil (bay_calls listen connections bay) ∙ ap (bay_calls listen connections) (sym f)
bays_more listen connections bay (suc n) m e =
    ap (λ l. bay_calls listen connections bay ++ l) (bays_more listen connections (suc bay) n m (omega arith))
    ∙ sym (append_assoc (bay_calls listen connections bay) (bays_calls listen connections (suc bay) n) (bay_calls listen connections m))

-- the calls of some bays, of the next one, and of the others
pub bays_split : (listen : Address) (connections bay m k : ℕ) → bays_calls listen connections bay (m + suc k)
    ≡ bays_calls listen connections bay m
    ++ (bay_calls listen connections (bay + m) ++ bays_calls listen connections (suc (bay + m)) k)
bays_split listen connections bay zero k =
    ap (bays_calls listen connections bay) (let e : zero + suc k ≡ suc k = omega arith in e)
    ∙ ap (λ b. bay_calls listen connections b ++ bays_calls listen connections (suc b) k) (let e : bay ≡ bay + zero = omega arith in e)
bays_split listen connections bay (suc m) k =
    ap (bays_calls listen connections bay) (let e : suc m + suc k ≡ suc (m + suc k) = omega arith in e)
    ∙ (ap (λ l. bay_calls listen connections bay ++ l) (bays_split listen connections (suc bay) m k)
    ∙ (ap (λ b. bay_calls listen connections bay ++ (bays_calls listen connections (suc bay) m
    ++ (bay_calls listen connections b ++ bays_calls listen connections (suc b) k)))
    (let e : suc bay + m ≡ bay + suc m = omega arith in e)
    ∙ sym (append_assoc (bay_calls listen connections bay) (bays_calls listen connections (suc bay) m) _)))

-- as many stand beside each other, so where one more comes there is one more beside it
pub some_left : {A B T : Type 0} (f : A → B) (done : List A) (rest items : List B) (tables yielded left more : List T) (x : T)
    → map f done ++ rest ≡ items → length items ≡ length tables → tables ≡ yielded ++ left → left ≡ x ∷ more
    → length done ≡ length yielded → 0 < length rest
some_left f done rest items tables yielded left more x e n t l d =
    let a = ap length e in
    let b = length-append (map f done) rest in
    let c = image_count f done in
    let k = next_below tables yielded left more x t l in
    omega (arith, a, b, c, k, n, d)

-- and where no more comes there is none
pub none_left : {A B T : Type 0} (f : A → B) (done : List A) (rest items : List B) (tables yielded : List T)
    → map f done ++ rest ≡ items → length items ≡ length tables → yielded ≡ tables → length done ≡ length yielded → length rest ≡ 0
none_left f done rest items tables yielded e n t d =
    let a = ap length e in
    let b = length-append (map f done) rest in
    let c = image_count f done in
    let k = ap length t in
    omega (arith, a, b, c, k, n, d)

-- the image of one more
pub image_more : {A B : Type 0} (f : A → B) (done more : List A) (a : A) (ys : List B) (y : B) → more ≡ done ++ a ∷ [] → f a ≡ y → map f done ≡ ys
    → map f more ≡ ys ++ y ∷ []
image_more f done more a ys y e p q =
    ap (map f) e ∙ (map-append f done (a ∷ []) ∙ (ap (λ z. z ++ f a ∷ []) q ∙ ap (λ z. ys ++ z ∷ []) p))

pub one_longer : {T : Type 0} (ys : List T) (y : T) → length (ys ++ y ∷ []) ≡ suc (length ys)
one_longer ys y = omega (arith, length-append ys (y ∷ []))
