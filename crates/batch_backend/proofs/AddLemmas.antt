-- A line is added to those that wait.
use Rattle.std.proofs.Common.{◌≡◌, ◌+◌, ◌<◌, ◌≤◌, ℕ, List, [], ◌∷◌, ◌++◌, length, length-append, refl, sym, ap, ◌∙◌, subst, arith, Bool, true, false, nat_eq, nat_le, nat_lt, ◌||◌, Some}
use Rattle.std.proofs.lemmas.Bool.Decides.{nat_tests}
use Rattle.std.proofs.lemmas.Bool.{leb-true, le-leb}
use Rattle.front_base.specs.Line.{Line}
use Rattle.truncate_backend.specs.Tries.{SinkTells, bytes_of}
use Rattle.batch_backend.specs.declared.limits.Limits.{Limits}
use Rattle.batch_backend.specs.declared.pumped.Pumped.{Pumped}
use Rattle.batch_backend.specs.declared.pumped.Pumped.TheVariants.{Took}
use Rattle.batch_backend.specs.Batches.{Pending, Move, Drained, IsBatch, WithinLimits, is_over, is_whole, is_any, since_of, after_pop}
use Rattle.batch_backend.specs.Pumps.{Put, PutAfter, Takes}
use Rattle.batch_backend.proofs.TryLaws.{BytesLaw}

pub bytes-more : BytesLaw → (xs : List Line) (x : Line) → bytes_of (xs ++ x ∷ []) ≡ bytes_of xs + length x.bytes
bytes-more law xs x = let a = law xs (x ∷ []) in omega arith

is_false : (b : Bool) → (b ≡ true → ⊥) → b ≡ false
is_false true h = absurd (h refl)
is_false false h = refl

leb_false : (a b : ℕ) → b < a → nat_le a b ≡ false
leb_false a b h = is_false _ (λ e. let k = leb-true a b e in omega arith)

pub part-whole : (limits : Limits) (lines : List Line) → length lines < limits.lines → bytes_of lines < limits.bytes → is_whole limits lines ≡ false
part-whole limits lines h k = rw (leb_false limits.lines (length lines) h) (leb_false limits.bytes (bytes_of lines) k)

or_right : (a b : Bool) → b ≡ true → (a || b) ≡ true
or_right true b h = refl
or_right false b h = h

pub whole-lines : (limits : Limits) (lines : List Line) → limits.lines ≤ length lines → is_whole limits lines ≡ true
whole-lines limits lines h = rw (le-leb limits.lines (length lines) h) refl

pub whole-bytes : (limits : Limits) (lines : List Line) → limits.bytes ≤ bytes_of lines → is_whole limits lines ≡ true
whole-bytes limits lines h = or_right (nat_le limits.lines (length lines)) _ (le-leb limits.bytes (bytes_of lines) h)

pub any_of : (lines : List Line) → 0 < length lines → is_any lines ≡ true
any_of [] h = absurd (omega arith)
any_of (l ∷ ls) h = refl

lt_false : (a b : ℕ) → nat_lt a b ≡ false → b ≤ a
lt_false a b h = grind (arith, nat_tests)

-- a line that doesn't carry them over the limit
pub not-over : (limits : Limits) (p : Pending) (x : Line) → is_over limits p x ≡ false → 0 < length p.lines → bytes_of p.lines + length x.bytes ≤ limits.bytes
not-over limits p x h k =
    let a = any_of p.lines k in
    let b : nat_lt limits.bytes (bytes_of p.lines + length x.bytes) ≡ false = rw a at h in
    lt_false limits.bytes (bytes_of p.lines + length x.bytes) b

pub put_more : (p : Pending) (x : Line) (lines : List Line) (s t : SinkTells) (answer : Pumped) → Put s (lines ++ x ∷ []) answer t → PutAfter p (Some x) s (lines ++ x ∷ []) answer t
put_more p x [] s t answer h = h
put_more p x (l ∷ ls) s t answer h = h

batch_more : (limits : Limits) (lines : List Line) (x : Line) → WithinLimits limits (lines ++ x ∷ []) → IsBatch limits (lines ++ x ∷ [])
batch_more limits [] x h = h
batch_more limits (l ∷ ls) x h = h

abbrev stays : Limits → ℕ → Pending → Line → Move
stays limits now p x = record { put = []; left = record { lines = p.lines ++ x ∷ []; since = since_of now p } }

abbrev goes : Limits → ℕ → Pending → Line → Move
goes limits now p x = record { put = p.lines ++ x ∷ []; left = record { lines = []; since = since_of now p } }

after_stays : (limits : Limits) (now : ℕ) (p : Pending) (x : Line) → is_over limits p x ≡ false → is_whole limits (p.lines ++ x ∷ []) ≡ false → after_pop limits now p (Some x) ≡ stays limits now p x
after_stays limits now p x h k = rw (h, k) refl

after_goes : (limits : Limits) (now : ℕ) (p : Pending) (x : Line) → is_over limits p x ≡ false → is_whole limits (p.lines ++ x ∷ []) ≡ true → after_pop limits now p (Some x) ≡ goes limits now p x
after_goes limits now p x h k = rw (h, k) refl

pub takes-more : (d e : Drained) (now : ℕ) (x : Line) (s : SinkTells) → is_over d.limits d.pending x ≡ false → is_whole d.limits (d.pending.lines ++ x ∷ []) ≡ false → e ≡ record { limits = d.limits; pending = record { lines = d.pending.lines ++ x ∷ []; since = since_of now d.pending } } → Takes d now x s Took e s
takes-more d e now x s h k f =
    let a = after_stays d.limits now d.pending x h k in
    record {
      limits = ap (λ (z : Drained). z.limits) f;
      left = ap (λ (z : Drained). z.pending) f ∙ sym (ap (λ (m : Move). m.left) a);
      put = subst (λ (l : List Line). PutAfter d.pending (Some x) s l Took s) (sym (ap (λ (m : Move). m.put) a)) (refl, refl);
      within = subst (λ (l : List Line). IsBatch d.limits l) (sym (ap (λ (m : Move). m.put) a)) tt;
    }

pub takes-whole : BytesLaw → (d e : Drained) (now : ℕ) (x : Line) (s t : SinkTells) (answer : Pumped) → is_over d.limits d.pending x ≡ false → is_whole d.limits (d.pending.lines ++ x ∷ []) ≡ true → length d.pending.lines < d.limits.lines → e ≡ record { limits = d.limits; pending = record { lines = []; since = since_of now d.pending } } → Put s (d.pending.lines ++ x ∷ []) answer t → Takes d now x s answer e t
takes-whole law d e now x s t answer h k b f p =
    let a = after_goes d.limits now d.pending x h k in
    let l = length-append d.pending.lines (x ∷ []) in
    let m = bytes-more law d.pending.lines x in
    let w : WithinLimits d.limits (d.pending.lines ++ x ∷ []) = record { some = omega arith; lines_fit = omega arith; bytes_fit = λ q. let o = not-over d.limits d.pending x h (omega arith) in omega arith } in
    record {
      limits = ap (λ (z : Drained). z.limits) f;
      left = ap (λ (z : Drained). z.pending) f ∙ sym (ap (λ (m : Move). m.left) a);
      put = subst (λ (l : List Line). PutAfter d.pending (Some x) s l answer t) (sym (ap (λ (m : Move). m.put) a)) (put_more d.pending x d.pending.lines s t answer p);
      within = subst (λ (l : List Line). IsBatch d.limits l) (sym (ap (λ (m : Move). m.put) a)) (batch_more d.limits d.pending.lines x w);
    }

pub empty-len : (b : Bool) (n : ℕ) → b ≡ nat_eq n 0 → b ≡ true → n ≡ 0
empty-len b n h k = grind (arith, nat_tests)

pub some-len : (b : Bool) (n : ℕ) → b ≡ nat_eq n 0 → b ≡ false → 0 < n
some-len b n h k = grind (arith, nat_tests)

abbrev pending_of : List Line → ℕ → Pending
pending_of lines since = record { lines = lines; since = since }

pub since-empty : (now since : ℕ) (lines : List Line) → length lines ≡ 0 → now ≡ since_of now (pending_of lines since)
since-empty now since [] h = refl
since-empty now since (l ∷ ls) h = absurd (omega arith)

pub since-some : (now since : ℕ) (lines : List Line) → 0 < length lines → since ≡ since_of now (pending_of lines since)
since-some now since [] h = absurd (omega arith)
since-some now since (l ∷ ls) h = refl

pub same-drained : (limits : Limits) (xs ys : List Line) (m n : ℕ) → xs ≡ ys → m ≡ n → ◌≡◌ {A = Drained} (record { limits = limits; pending = pending_of xs m }) (record { limits = limits; pending = pending_of ys n })
same-drained limits xs ys m n e f = ap (λ (l : List Line). record { limits = limits; pending = pending_of l m }) e ∙ ap (λ (k : ℕ). record { limits = limits; pending = pending_of ys k }) f
