-- What the places of a decoder mean for the bytes that led there.
use Rattle.std.proofs.Common.{suc, zero, ◌≡◌, ℕ, ◌+◌, ◌-◌, ◌^◌, ◌<◌, ◌≤◌, ◌⊎◌, inl, inr, ◌==◌, ◌∷◌, [], ◌++◌, List, length}
use Rattle.std.proofs.Common.{Bool, true, false, Some, None, refl, sym, ap, ◌∙◌, subst, arith, append_assoc, cond}
use Rattle.std.proofs.Common.{not, append-nil, min}
use Rattle.std.specs.Prelude.{IsTrue, nat_lt}
use Rattle.std.proofs.lemmas.Bool.Decides.{nat_tests}
use Rattle.body_frames.specs.declared.frame.BodyFault.{BodyFault}
use Rattle.body_frames.specs.declared.frame.BodyFault.TheVariants.{BadChunk, TooLarge}
use Rattle.body_frames.specs.declared.frame.Frame.{Frame}
use Rattle.body_frames.specs.declared.frame.Frame.TheVariants.{NoBody, Length, Chunked, Close}
use Rattle.body_frames.specs.declared.place.Mode.{Mode}
use Rattle.body_frames.specs.declared.place.Mode.TheVariants.{Whole, Open, Digits, Blank, Extension, LineFeed, Data}
use Rattle.body_frames.specs.declared.place.Mode.TheVariants.{DataReturn, DataFeed, LastReturn, LastFeed, Done, Past}
use Rattle.body_frames.specs.declared.place.Mode.TheVariants.{Broken}
use Rattle.body_frames.specs.declared.place.Place.{Place}
use Rattle.body_frames.specs.Machine.{start, step, run, emitted, is_data, is_data_mode, next_mode}
use Rattle.body_frames.specs.Machine.{fault_of, fault_mode, is_open, is_open_mode, is_sound, is_sound_mode}
use Rattle.body_frames.specs.Machine.{is_done, is_done_mode, ends_here_mode}
use Rattle.body_frames.specs.Chunks.{IsChunked, Begins, BreaksAt}
use Rattle.body_frames.specs.Body.{IsBody, IsOver, Breaks, IsRefused, IsPart, ends_itself}
use Rattle.body_frames.proofs.MachineLemmas.{run-append, broken_run, sound_step, data_open, open_or_done}
use Rattle.body_frames.proofs.ChunkLemmas.{takes_chunked}
use Rattle.body_frames.proofs.ChunkSound.{either, only_chunked}
use Rattle.body_frames.proofs.BreakLemmas.{awaits_begins, breaks_at, closed_stays, start_sound, fault_or}
use Rattle.body_frames.proofs.OverLemmas.{over_fault, fault_over}

-- ---- a body has no more bytes than the limit

data_room : (room : ℕ) (m : Mode) → IsTrue (is_sound_mode room m) → is_data_mode room m ≡ true → 0 < room
data_room room (Whole n) s e = grind (arith, nat_tests)
data_room room Open s e = grind (arith, nat_tests)
data_room room (Data n) s e = grind (arith, nat_tests)
data_room room _ s e = absurd (cc e)

room_run : (xs : List ℕ) (p : Place) → (is_open p ≡ true → IsTrue (is_sound p))
    → (run p xs).room + length (emitted p xs) ≡ p.room
unfolding run emitted
room_run [] p s = omega arith
room_run (b ∷ xs) p s =
    let ih = room_run xs (step p b) (λ o. by_open (either (is_open p)) o) in
    let n = count (is_data p) (emitted (step p b) xs) in
    let r = room (is_data p) p.room (λ e. data_room p.room p.mode (s (data_open p e)) e) in
    omega (arith, ih, n, r)
  where
    count : (t : Bool) (ys : List ℕ) → length (cond t (b ∷ []) [] ++ ys) ≡ cond t 1 0 + length ys
    count true ys = omega arith
    count false ys = omega arith

    room : (t : Bool) (n : ℕ) → (t ≡ true → 0 < n) → cond t (n - 1) n + cond t 1 0 ≡ n
    room true n h = let some = h refl in omega (arith, some)
    room false n h = omega arith

    by_open : (is_open p ≡ true) ⊎ (is_open p ≡ false) → is_open (step p b) ≡ true → IsTrue (is_sound (step p b))
    by_open (inl k) o = sound_step p b (s k) k
    by_open (inr k) o = absurd (cc (closed_stays (b ∷ []) p k, o))

-- ---- a body of a known length

data Sized (p : Place) (n : ℕ) (t : List ℕ) : Type 0 where
  shorter : length t < n → (run p t).mode ≡ Whole (n - length t) → Sized p n t
  exact : length t ≡ n → (run p t).mode ≡ Done → emitted p t ≡ t → Sized p n t
  longer : n < length t → (run p t).mode ≡ Past → Sized p n t

emits : (p : Place) (b : ℕ) (t out : List ℕ) → is_data p ≡ true → emitted (step p b) t ≡ out
    → emitted p (b ∷ t) ≡ b ∷ out
unfolding emitted
emits p b t out e f = ap (λ k. cond k (b ∷ []) [] ++ emitted (step p b) t) e ∙ ap (λ l. b ∷ l) f

pub past_mode : (t : List ℕ) (p : Place) → p.mode ≡ Past → (run p t).mode ≡ Past
unfolding run
past_mode [] p e = e
past_mode (b ∷ t) p e = past_mode t (step p b) (ap (λ m. next_mode p.framed p.room m b) e)

done_sized : (t : List ℕ) (p : Place) → p.mode ≡ Done → Sized p 0 t
unfolding run emitted
done_sized [] p e = exact refl e refl
done_sized (b ∷ t) p e = longer (omega arith) (past_mode t (step p b) (ap (λ m. next_mode p.framed p.room m b) e))

whole_sized : (t : List ℕ) (n : ℕ) (p : Place) → p.mode ≡ Whole n → 0 < n → Sized p n t
unfolding run emitted
whole_sized [] n p e h = shorter h (e ∙ ap Whole (omega arith))
whole_sized (b ∷ t) zero p e h = absurd (omega (arith, h))
whole_sized (b ∷ t) (suc zero) p e h =
    by_rest (done_sized t (step p b) (ap (λ m. next_mode p.framed p.room m b) e))
  where
    by_rest : Sized (step p b) 0 t → Sized p 1 (b ∷ t)
    by_rest (shorter few m) = absurd (omega (arith, few))
    by_rest (exact size m out) =
        exact (omega (arith, size)) m (emits p b t t (ap (is_data_mode p.room) e) out)
    by_rest (longer many m) = longer (omega (arith, many)) m
whole_sized (b ∷ t) (suc (suc k)) p e h =
    let more : nat_lt 1 (suc (suc k)) ≡ true = grind (arith, nat_tests) in
    let one : suc (suc k) - 1 ≡ suc k = omega arith in
    let next : (step p b).mode ≡ Whole (suc k) =
    ap (λ m. next_mode p.framed p.room m b) e ∙ rw more (ap Whole one) in
    by_rest (whole_sized t (suc k) (step p b) next (omega arith))
  where
    by_rest : Sized (step p b) (suc k) t → Sized p (suc (suc k)) (b ∷ t)
    by_rest (shorter few m) = shorter (omega (arith, few)) (m ∙ ap Whole (omega arith))
    by_rest (exact size m out) =
        exact (omega (arith, size)) m (emits p b t t (ap (is_data_mode p.room) e) out)
    by_rest (longer many m) = longer (omega (arith, many)) m

length_sized : (n limit : ℕ) (t : List ℕ) → n ≤ limit → Sized (start (Length n) limit) n t
length_sized zero limit t h = done_sized t (start (Length 0) limit) (rw (low) refl)
  where
    low : nat_lt limit 0 ≡ false
    low = grind (arith, nat_tests)
length_sized (suc n) limit t h = whole_sized t (suc n) (start (Length (suc n)) limit) (rw (low, some) refl) (omega arith)
  where
    low : nat_lt limit (suc n) ≡ false
    low = grind (arith, nat_tests)

    some : suc n == 0 ≡ false
    some = grind (arith, nat_tests)

-- ---- a body that ends with its input

data Unsized (p : Place) (t : List ℕ) : Type 0 where
  inside : length t ≤ p.room → (run p t).mode ≡ Open → emitted p t ≡ t → Unsized p t
  beyond : p.room < length t → (run p t).mode ≡ Broken TooLarge → Unsized p t

large_mode : (t : List ℕ) (p : Place) → p.mode ≡ Broken TooLarge → (run p t).mode ≡ Broken TooLarge
unfolding run
large_mode [] p e = e
large_mode (b ∷ t) p e = large_mode t (step p b) (ap (λ m. next_mode p.framed p.room m b) e)

open_unsized : (t : List ℕ) (p : Place) → p.mode ≡ Open → Unsized p t
unfolding run emitted
open_unsized [] p e = inside (omega arith) e refl
open_unsized (b ∷ t) p e = by_room (either (nat_lt 0 p.room)) (λ next. open_unsized t (step p b) next)
  where
    by_rest : nat_lt 0 p.room ≡ true → (step p b).room ≡ p.room - 1 → Unsized (step p b) t → Unsized p (b ∷ t)
    by_rest k r (inside few m out) =
        let some : 0 < p.room = grind (arith, nat_tests, k) in
        let data_is : is_data p ≡ true = ap (is_data_mode p.room) e ∙ k in
        inside (omega (arith, few, r, some)) m (emits p b t t data_is out)
    by_rest k r (beyond many m) =
        let some : 0 < p.room = grind (arith, nat_tests, k) in
        beyond (omega (arith, many, r, some)) m

    by_room : (nat_lt 0 p.room ≡ true) ⊎ (nat_lt 0 p.room ≡ false) → ((step p b).mode ≡ Open → Unsized (step p b) t)
        → Unsized p (b ∷ t)
    by_room (inl k) next =
        let room : (step p b).room ≡ p.room - 1 = rw (ap (is_data_mode p.room) e ∙ k) refl in
        let mode : (step p b).mode ≡ Open = ap (λ m. next_mode p.framed p.room m b) e ∙ rw k refl in
        by_rest k room (next mode)
    by_room (inr k) next =
        let none : p.room < length (b ∷ t) = grind (arith, nat_tests, k) in
        let mode : (step p b).mode ≡ Broken TooLarge = ap (λ m. next_mode p.framed p.room m b) e ∙ rw k refl in
        beyond none (large_mode t (step p b) mode)

-- ---- what the places mean

pub record Means (f : Frame) (limit : ℕ) (t : List ℕ) (m : Mode) (out : List ℕ) : Type 0 where
  pub done : is_done_mode m ≡ true → IsBody f limit t out × (ends_itself f ≡ true)
  pub ends : ends_here_mode m ≡ true → IsBody f limit t out
  pub whole : (b : List ℕ) → IsBody f limit t b → (ends_here_mode m ≡ true) × (out ≡ b)
  pub itself : (b : List ℕ) → IsBody f limit t b → ends_itself f ≡ true → is_done_mode m ≡ true
  pub broken : (x : BodyFault) → fault_mode m ≡ Some x → IsRefused f limit t x
  pub refused : (x : BodyFault) → IsRefused f limit t x → fault_mode m ≡ Some x
  pub awaits : is_open_mode m ≡ true → IsPart f limit t
  pub part : IsPart f limit t → is_open_mode m ≡ true

none_means : (limit : ℕ) (t : List ℕ) (m : Mode) (out : List ℕ) → Sized (start NoBody limit) 0 t
    → m ≡ (run (start NoBody limit) t).mode → out ≡ emitted (start NoBody limit) t → Means NoBody limit t m out
none_means limit t m out (shorter few k) e o = absurd (omega (arith, few))
none_means limit t m out (exact size k g) e o =
    let none : t ≡ [] = empty t size in
    let mode : m ≡ Done = e ∙ k in
    let body : out ≡ [] = o ∙ g ∙ none in
    record {
      done = λ d. ((none, body), refl);
      ends = λ d. (none, body);
      whole = λ b h. (ap ends_here_mode mode, body ∙ sym h.1);
      itself = λ b h i. ap is_done_mode mode;
      broken = λ x f. absurd (cc (ap fault_mode mode, f));
      refused = λ x h. no_refusal x h;
      awaits = λ a. absurd (cc (ap is_open_mode mode, a));
      part = λ h. absurd h;
    }
  where
    empty : (l : List ℕ) → length l ≡ 0 → l ≡ []
    empty [] e = refl
    empty (x ∷ l) e = absurd (omega (arith, e))

    no_refusal : (x : BodyFault) → IsRefused NoBody limit t x → fault_mode m ≡ Some x
    no_refusal TooLarge h = absurd h
    no_refusal (BadChunk at) h = absurd h
none_means limit t m out (longer many k) e o =
    let mode : m ≡ Past = e ∙ k in
    record {
      done = λ d. absurd (cc (ap is_done_mode mode, d));
      ends = λ d. absurd (cc (ap ends_here_mode mode, d));
      whole = λ b h. absurd (some t many h.0);
      itself = λ b h i. absurd (some t many h.0);
      broken = λ x f. absurd (cc (ap fault_mode mode, f));
      refused = λ x h. no_refusal x h;
      awaits = λ a. absurd (cc (ap is_open_mode mode, a));
      part = λ h. absurd h;
    }
  where
    some : (l : List ℕ) → 0 < length l → l ≡ [] → ⊥
    some l h e = let size = ap length e in omega (arith, h, size)

    no_refusal : (x : BodyFault) → IsRefused NoBody limit t x → fault_mode m ≡ Some x
    no_refusal TooLarge h = absurd h
    no_refusal (BadChunk at) h = absurd h

large_means : (n limit : ℕ) (t : List ℕ) (m : Mode) (out : List ℕ) → limit < n → m ≡ Broken TooLarge
    → Means (Length n) limit t m out
large_means n limit t m out over mode = record {
  done = λ d. absurd (cc (ap is_done_mode mode, d));
  ends = λ d. absurd (cc (ap ends_here_mode mode, d));
  whole = λ b h. absurd (omega (arith, over, h.2));
  itself = λ b h i. absurd (omega (arith, over, h.2));
  broken = λ x f. by_fault x (sym (ap fault_mode mode) ∙ f);
  refused = λ x h. refusal x h;
  awaits = λ a. absurd (cc (ap is_open_mode mode, a));
  part = λ h. absurd (omega (arith, over, h.1));
}
  where
    by_fault : (x : BodyFault) → Some TooLarge ≡ Some x → IsRefused (Length n) limit t x
    by_fault TooLarge e = over
    by_fault (BadChunk at) e = absurd (cc e)

    refusal : (x : BodyFault) → IsRefused (Length n) limit t x → fault_mode m ≡ Some x
    refusal TooLarge h = ap fault_mode mode
    refusal (BadChunk at) h = absurd h

sized_means : (n limit : ℕ) (t : List ℕ) (m : Mode) (out : List ℕ) → n ≤ limit → Sized (start (Length n) limit) n t
    → m ≡ (run (start (Length n) limit) t).mode → out ≡ emitted (start (Length n) limit) t
    → Means (Length n) limit t m out
sized_means n limit t m out low (shorter few k) e o =
    let mode : m ≡ Whole (n - length t) = e ∙ k in
    record {
      done = λ d. absurd (cc (ap is_done_mode mode, d));
      ends = λ d. absurd (cc (ap ends_here_mode mode, d));
      whole = λ b h. absurd (omega (arith, few, h.1));
      itself = λ b h i. absurd (omega (arith, few, h.1));
      broken = λ x f. absurd (cc (ap fault_mode mode, f));
      refused = λ x h. absurd (no_refusal x h);
      awaits = λ a. (few, low);
      part = λ h. ap is_open_mode mode;
    }
  where
    no_refusal : (x : BodyFault) → IsRefused (Length n) limit t x → ⊥
    no_refusal TooLarge h = omega (arith, low, h)
    no_refusal (BadChunk at) h = h
sized_means n limit t m out low (exact size k g) e o =
    let mode : m ≡ Done = e ∙ k in
    record {
      done = λ d. ((o ∙ g, size, low), refl);
      ends = λ d. (o ∙ g, size, low);
      whole = λ b h. (ap ends_here_mode mode, o ∙ g ∙ sym h.0);
      itself = λ b h i. ap is_done_mode mode;
      broken = λ x f. absurd (cc (ap fault_mode mode, f));
      refused = λ x h. absurd (no_refusal x h);
      awaits = λ a. absurd (cc (ap is_open_mode mode, a));
      part = λ h. absurd (omega (arith, size, h.0));
    }
  where
    no_refusal : (x : BodyFault) → IsRefused (Length n) limit t x → ⊥
    no_refusal TooLarge h = omega (arith, low, h)
    no_refusal (BadChunk at) h = h
sized_means n limit t m out low (longer many k) e o =
    let mode : m ≡ Past = e ∙ k in
    record {
      done = λ d. absurd (cc (ap is_done_mode mode, d));
      ends = λ d. absurd (cc (ap ends_here_mode mode, d));
      whole = λ b h. absurd (omega (arith, many, h.1));
      itself = λ b h i. absurd (omega (arith, many, h.1));
      broken = λ x f. absurd (cc (ap fault_mode mode, f));
      refused = λ x h. absurd (no_refusal x h);
      awaits = λ a. absurd (cc (ap is_open_mode mode, a));
      part = λ h. absurd (omega (arith, many, h.0));
    }
  where
    no_refusal : (x : BodyFault) → IsRefused (Length n) limit t x → ⊥
    no_refusal TooLarge h = omega (arith, low, h)
    no_refusal (BadChunk at) h = h

length_means : (n limit : ℕ) (t : List ℕ)
    → Means (Length n) limit t (run (start (Length n) limit) t).mode (emitted (start (Length n) limit) t)
length_means n limit t = by_limit (either (nat_lt limit n))
  where
    by_limit : (nat_lt limit n ≡ true) ⊎ (nat_lt limit n ≡ false)
        → Means (Length n) limit t (run (start (Length n) limit) t).mode (emitted (start (Length n) limit) t)
    by_limit (inl k) =
        let over : limit < n = grind (arith, nat_tests, k) in
        large_means n limit t _ _ over (large_mode t (start (Length n) limit) (rw k refl))
    by_limit (inr k) =
        let low : n ≤ limit = grind (arith, nat_tests, k) in
        sized_means n limit t _ _ low (length_sized n limit t low) refl refl

close_means : (limit : ℕ) (t : List ℕ) (m : Mode) (out : List ℕ) → Unsized (start Close limit) t
    → m ≡ (run (start Close limit) t).mode → out ≡ emitted (start Close limit) t → Means Close limit t m out
close_means limit t m out (inside few k g) e o =
    let mode : m ≡ Open = e ∙ k in
    record {
      done = λ d. absurd (cc (ap is_done_mode mode, d));
      ends = λ d. (o ∙ g, few);
      whole = λ b h. (ap ends_here_mode mode, o ∙ g ∙ sym h.0);
      itself = λ b h i. absurd (cc i);
      broken = λ x f. absurd (cc (ap fault_mode mode, f));
      refused = λ x h. absurd (no_refusal x h);
      awaits = λ a. few;
      part = λ h. ap is_open_mode mode;
    }
  where
    no_refusal : (x : BodyFault) → IsRefused Close limit t x → ⊥
    no_refusal TooLarge h = omega (arith, few, h)
    no_refusal (BadChunk at) h = h
close_means limit t m out (beyond many k) e o =
    let mode : m ≡ Broken TooLarge = e ∙ k in
    record {
      done = λ d. absurd (cc (ap is_done_mode mode, d));
      ends = λ d. absurd (cc (ap ends_here_mode mode, d));
      whole = λ b h. absurd (omega (arith, many, h.1));
      itself = λ b h i. absurd (cc i);
      broken = λ x f. by_fault x (sym (ap fault_mode mode) ∙ f);
      refused = λ x h. refusal x h;
      awaits = λ a. absurd (cc (ap is_open_mode mode, a));
      part = λ h. absurd (omega (arith, many, h));
    }
  where
    by_fault : (x : BodyFault) → Some TooLarge ≡ Some x → IsRefused Close limit t x
    by_fault TooLarge e = many
    by_fault (BadChunk at) e = absurd (cc e)

    refusal : (x : BodyFault) → IsRefused Close limit t x → fault_mode m ≡ Some x
    refusal TooLarge h = ap fault_mode (e ∙ k)
    refusal (BadChunk at) h = absurd h

-- ---- a chunked body

-- a mode of a chunked body
abbrev is_chunk : Mode → Bool
is_chunk Open = false
is_chunk _ = true

chunk_next : (framed room : ℕ) (m : Mode) (b : ℕ) → is_chunk m ≡ true → is_chunk (next_mode framed room m b) ≡ true
chunk_next framed room (Whole n) b e = grind (arith, nat_tests)
chunk_next framed room Open b e = absurd (cc e)
chunk_next framed room (Digits l n) b e = grind (arith, nat_tests)
chunk_next framed room (Blank l n) b e = grind (arith, nat_tests)
chunk_next framed room (Extension l n) b e = grind (arith, nat_tests)
chunk_next framed room (LineFeed n) b e = grind (arith, nat_tests)
chunk_next framed room (Data n) b e = grind (arith, nat_tests)
chunk_next framed room DataReturn b e = grind (arith, nat_tests)
chunk_next framed room DataFeed b e = grind (arith, nat_tests)
chunk_next framed room LastReturn b e = grind (arith, nat_tests)
chunk_next framed room LastFeed b e = grind (arith, nat_tests)
chunk_next framed room Done b e = refl
chunk_next framed room Past b e = refl
chunk_next framed room (Broken f) b e = refl

chunk_run : (xs : List ℕ) (p : Place) → is_chunk p.mode ≡ true → is_chunk (run p xs).mode ≡ true
unfolding run
chunk_run [] p e = e
chunk_run (b ∷ xs) p e = chunk_run xs (step p b) (chunk_next p.framed p.room p.mode b e)

ends_done : (m : Mode) → is_chunk m ≡ true → ends_here_mode m ≡ true → is_done_mode m ≡ true
ends_done Done e h = refl
ends_done Open e h = absurd (cc e)
ends_done _ e h = absurd (cc h)

done_ends : (m : Mode) → is_done_mode m ≡ true → ends_here_mode m ≡ true
done_ends Done e = refl
done_ends _ e = absurd (cc e)

pub open_no_fault : (m : Mode) (f : BodyFault) → is_open_mode m ≡ true → fault_mode m ≡ Some f → ⊥
open_no_fault (Broken g) f o e = absurd (cc o)
open_no_fault _ f o e = absurd (cc e)

-- the first bytes that lead to the end of a body
pub record Ended (p : Place) (t : List ℕ) : Type 0 where
  pub own : List ℕ
  pub rest : List ℕ
  pub split : t ≡ own ++ rest
  pub done : is_done (run p own) ≡ true

not_open_done : (a b : Bool) → a ≡ not b → a ≡ false → b ≡ true
not_open_done a true e f = refl
not_open_done a false e f = absurd (cc (e, f))

ended_here : (t : List ℕ) (p : Place) → IsTrue (is_sound p) → is_open p ≡ false → fault_of p ≡ None → Ended p t
unfolding run
ended_here t p s o n = record {
  own = [];
  rest = t;
  split = refl;
  done = not_open_done (is_open p) (is_done p) (open_or_done p s n) o;
}

pub ended : (t : List ℕ) (p : Place) → IsTrue (is_sound p) → is_open (run p t) ≡ false → fault_of (run p t) ≡ None
    → Ended p t
unfolding run
ended [] p s c n = ended_here [] p s c n
ended (b ∷ t) p s c n = by_open (either (is_open p)) (λ k. ended t (step p b) k c n)
  where
    by_fault : is_open p ≡ false → ((g : BodyFault) × (fault_of p ≡ Some g)) ⊎ (fault_of p ≡ None) → Ended p (b ∷ t)
    by_fault o (inr k) = ended_here (b ∷ t) p s o k
    by_fault o (inl g) = absurd (cc (broken_run (b ∷ t) p g.0 g.1, n))

    by_open : (is_open p ≡ true) ⊎ (is_open p ≡ false) → (IsTrue (is_sound (step p b)) → Ended (step p b) t)
        → Ended p (b ∷ t)
    by_open (inl o) next =
        let e = next (sound_step p b s o) in
        record { own = b ∷ e.own; rest = e.rest; split = ap (λ l. b ∷ l) e.split; done = e.done }
    by_open (inr o) next = by_fault o (fault_or p)

-- ---- texts cut at two places

-- of two texts that begin one text, one begins the other, and goes on with the same byte
split_order : (a b : List ℕ) (x y : ℕ) (r s : List ℕ) → a ++ x ∷ r ≡ b ++ y ∷ s
    → (a ≡ b) ⊎ (((m : List ℕ) × (b ≡ a ++ x ∷ m)) ⊎ ((m : List ℕ) × (a ≡ b ++ y ∷ m)))
split_order [] [] x y r s e = inl refl
split_order [] (c ∷ b) x y r s e =
    let same : c ≡ x = cc e in
    inr (inl (b, ap (λ k. k ∷ b) same))
split_order (c ∷ a) [] x y r s e =
    let same : c ≡ y = cc e in
    inr (inr (a, ap (λ k. k ∷ a) same))
split_order (c ∷ a) (d ∷ b) x y r s e =
    let here : c ≡ d = cc e in
    let there : a ++ x ∷ r ≡ b ++ y ∷ s = cc e in
    by_rest here (split_order a b x y r s there)
  where
    cons : (k l : List ℕ) → c ≡ d → k ≡ l → c ∷ k ≡ d ∷ l
    cons k l e f = cc

    by_rest : c ≡ d → (a ≡ b) ⊎ (((m : List ℕ) × (b ≡ a ++ x ∷ m)) ⊎ ((m : List ℕ) × (a ≡ b ++ y ∷ m)))
        → (c ∷ a ≡ d ∷ b)
        ⊎ (((m : List ℕ) × (d ∷ b ≡ c ∷ (a ++ x ∷ m))) ⊎ ((m : List ℕ) × (c ∷ a ≡ d ∷ (b ++ y ∷ m))))
    by_rest h (inl f) = inl (cons a b h f)
    by_rest h (inr (inl f)) = inr (inl (f.0, sym (cons (a ++ x ∷ f.0) b h (sym f.1))))
    by_rest h (inr (inr f)) = inr (inr (f.0, cons a (b ++ y ∷ f.0) h f.1))

-- of two texts that begin one text, one begins the other
split_or : (a b : List ℕ) (y : ℕ) (r s : List ℕ) → a ++ r ≡ b ++ y ∷ s
    → ((m : List ℕ) × (b ≡ a ++ m)) ⊎ ((m : List ℕ) × (a ≡ b ++ y ∷ m))
split_or [] b y r s e = inl (b, refl)
split_or (c ∷ a) [] y r s e =
    let same : c ≡ y = cc e in
    inr (a, ap (λ k. k ∷ a) same)
split_or (c ∷ a) (d ∷ b) y r s e =
    let here : c ≡ d = cc e in
    let there : a ++ r ≡ b ++ y ∷ s = cc e in
    by_rest here (split_or a b y r s there)
  where
    cons : (k l : List ℕ) → c ≡ d → k ≡ l → c ∷ k ≡ d ∷ l
    cons k l e f = cc

    by_rest : c ≡ d → ((m : List ℕ) × (b ≡ a ++ m)) ⊎ ((m : List ℕ) × (a ≡ b ++ y ∷ m))
        → ((m : List ℕ) × (d ∷ b ≡ c ∷ (a ++ m))) ⊎ ((m : List ℕ) × (c ∷ a ≡ d ∷ (b ++ y ∷ m)))
    by_rest h (inl f) = inl (f.0, sym (cons (a ++ f.0) b h (sym f.1)))
    by_rest h (inr f) = inr (f.0, cons a (b ++ y ∷ f.0) h f.1)

-- ---- a whole chunked body isn't the first part of another

pub not_done_past : (m : Mode) → m ≡ Past → is_done_mode m ≡ true → ⊥
not_done_past m e d = absurd (cc (ap is_done_mode e, d))

pub past_after : (q : Place) (x : ℕ) → is_done q ≡ true → (step q x).mode ≡ Past
past_after q x d = by_mode q.mode d
  where
    by_mode : (m : Mode) → is_done_mode m ≡ true → next_mode q.framed q.room m x ≡ Past
    by_mode Done e = refl
    by_mode _ e = absurd (cc e)

one_end : (own rest b c : List ℕ) → IsChunked own b → IsChunked (own ++ rest) c → rest ≡ []
unfolding run
one_end own [] b c h k = refl
one_end own (x ∷ rest) b c h k =
    let p = start Chunked (length b + length c) in
    let first = (takes_chunked p own b refl h (omega arith)).0 in
    let last = (takes_chunked p (own ++ x ∷ rest) c refl k (omega arith)).0 in
    let q = run p own in
    absurd (not_done_past (run (step q x) rest).mode (past_mode rest (step q x) (past_after q x first))
    (sym (ap is_done (run-append p own (x ∷ rest))) ∙ last))

nil_append : (m r : List ℕ) → m ++ r ≡ [] → m ≡ []
nil_append [] r e = refl
nil_append (x ∷ m) r e = absurd (cc e)

-- a chunked body that is whole within a text which breaks, or begins another, isn't
breaks_not_ended : (t : List ℕ) (at : ℕ) (own rest b : List ℕ) → BreaksAt t at → t ≡ own ++ rest → IsChunked own b → ⊥
breaks_not_ended t at own rest b k split h = by_split (split_or own k.prefix k.byte rest k.rest (sym split ∙ k.split))
  where
    by_split : ((m : List ℕ) × (k.prefix ≡ own ++ m)) ⊎ ((m : List ℕ) × (own ≡ k.prefix ++ k.byte ∷ m)) → ⊥
    by_split (inr f) = k.breaks f.0 b (subst (λ l. IsChunked l b) f.1 h)
    by_split (inl f) =
        let all : k.prefix ++ k.begins.rest ≡ own ++ (f.0 ++ k.begins.rest) =
        ap (λ l. l ++ k.begins.rest) f.1 ∙ append_assoc own f.0 k.begins.rest in
        let none = one_end own (f.0 ++ k.begins.rest) b k.begins.body h
        (subst (λ l. IsChunked l k.begins.body) all k.begins.whole) in
        let same : k.prefix ≡ own =
        f.1 ∙ ap (λ l. own ++ l) (nil_append f.0 k.begins.rest none) ∙ append-nil own in
        k.begins.none b (subst (λ l. IsChunked l b) (sym same) h)

begins_not_ended : (t own rest b : List ℕ) → Begins t → t ≡ own ++ rest → IsChunked own b → ⊥
begins_not_ended t own rest b k split h =
    let all : t ++ k.rest ≡ own ++ (rest ++ k.rest) = ap (λ l. l ++ k.rest) split ∙ append_assoc own rest k.rest in
    let none = one_end own (rest ++ k.rest) b k.body h (subst (λ l. IsChunked l k.body) all k.whole) in
    let same : t ≡ own = split ∙ ap (λ l. own ++ l) (nil_append rest k.rest none) ∙ append-nil own in
    k.none b (subst (λ l. IsChunked l b) (sym same) h)

begins_not_broken : (t : List ℕ) (at : ℕ) → Begins t → BreaksAt t at → ⊥
begins_not_broken t at h k =
    k.breaks (k.rest ++ h.rest) h.body
    (subst (λ l. IsChunked l h.body)
    (ap (λ l. l ++ h.rest) k.split ∙ append_assoc k.prefix (k.byte ∷ k.rest) h.rest) h.whole)

one_break : (t : List ℕ) (at to : ℕ) → BreaksAt t at → BreaksAt t to → at ≡ to
one_break t at to h k =
    h.count ∙ ap (λ l. min (length l) (2 ^ 64 - 1)) (same (split_order h.prefix k.prefix h.byte k.byte h.rest k.rest (sym h.split ∙ k.split)))
    ∙ sym k.count
  where
    same : (h.prefix ≡ k.prefix)
        ⊎ (((m : List ℕ) × (k.prefix ≡ h.prefix ++ h.byte ∷ m)) ⊎ ((m : List ℕ) × (h.prefix ≡ k.prefix ++ k.byte ∷ m)))
        → h.prefix ≡ k.prefix
    same (inl e) = e
    same (inr (inl f)) =
        absurd (h.breaks (f.0 ++ k.begins.rest) k.begins.body
        (subst (λ l. IsChunked l k.begins.body)
        (ap (λ l. l ++ k.begins.rest) f.1 ∙ append_assoc h.prefix (h.byte ∷ f.0) k.begins.rest) k.begins.whole))
    same (inr (inr f)) =
        absurd (k.breaks (f.0 ++ h.begins.rest) h.begins.body
        (subst (λ l. IsChunked l h.begins.body)
        (ap (λ l. l ++ h.begins.rest) f.1 ∙ append_assoc k.prefix (k.byte ∷ f.0) h.begins.rest) h.begins.whole))

-- ---- what a place in a chunked body means

module _ (limit : ℕ) (t : List ℕ) where
  abbrev place : Place
  place = run (start Chunked limit) t

  bad_of : (at : ℕ) → fault_of place ≡ Some (BadChunk at) → Breaks Chunked limit t at
  bad_of at f = (breaks_at limit at t f, λ o. absurd (cc (over_fault limit t o, f)))

  fault_means : (x : BodyFault) → fault_of place ≡ Some x → IsRefused Chunked limit t x
  fault_means TooLarge f = fault_over limit t f
  fault_means (BadChunk at) f = bad_of at f

  ended_chunked : Ended (start Chunked limit) t
      → (own : List ℕ) × (rest : List ℕ) × (t ≡ own ++ rest) × IsChunked own (emitted (start Chunked limit) own)
  ended_chunked e = (e.own, e.rest, e.split, only_chunked (start Chunked limit) e.own refl e.done)

  state : (is_open place ≡ true) ⊎ (((x : BodyFault) × (fault_of place ≡ Some x)) ⊎ Ended (start Chunked limit) t)
  state = by_open (either (is_open place)) (fault_or place)
    where
      by_open : (is_open place ≡ true) ⊎ (is_open place ≡ false)
          → ((x : BodyFault) × (fault_of place ≡ Some x)) ⊎ (fault_of place ≡ None)
          → (is_open place ≡ true) ⊎ (((x : BodyFault) × (fault_of place ≡ Some x)) ⊎ Ended (start Chunked limit) t)
      by_open (inl o) f = inl o
      by_open (inr c) (inl f) = inr (inl f)
      by_open (inr c) (inr n) = inr (inr (ended t (start Chunked limit) (start_sound limit) c n))

  part_open : Begins t → ¬ (IsOver limit t) → is_open place ≡ true
  part_open h none = by_state state
    where
      by_state : (is_open place ≡ true)
          ⊎ (((x : BodyFault) × (fault_of place ≡ Some x)) ⊎ Ended (start Chunked limit) t) → is_open place ≡ true
      by_state (inl o) = o
      by_state (inr (inl (TooLarge, f))) = absurd (none (fault_over limit t f))
      by_state (inr (inl (BadChunk at, f))) = absurd (begins_not_broken t at h (breaks_at limit at t f))
      by_state (inr (inr e)) =
          let c = ended_chunked e in
          absurd (begins_not_ended t c.0 c.1 (emitted (start Chunked limit) c.0) h c.2 c.3)

  breaks_fault : (at : ℕ) → BreaksAt t at → ¬ (IsOver limit t) → fault_of place ≡ Some (BadChunk at)
  breaks_fault at h none = by_state state
    where
      by_state : (is_open place ≡ true)
          ⊎ (((x : BodyFault) × (fault_of place ≡ Some x)) ⊎ Ended (start Chunked limit) t)
          → fault_of place ≡ Some (BadChunk at)
      by_state (inl o) = absurd (begins_not_broken t at (awaits_begins limit t o) h)
      by_state (inr (inl (TooLarge, f))) = absurd (none (fault_over limit t f))
      by_state (inr (inl (BadChunk to, f))) =
          f ∙ ap (λ k. Some (BadChunk k)) (one_break t to at (breaks_at limit to t f) h)
      by_state (inr (inr e)) =
          let c = ended_chunked e in
          absurd (breaks_not_ended t at c.0 c.1 (emitted (start Chunked limit) c.0) h c.2 c.3)

  refused_fault : (x : BodyFault) → IsRefused Chunked limit t x → fault_of place ≡ Some x
  refused_fault TooLarge h = over_fault limit t h
  refused_fault (BadChunk at) h = breaks_fault at h.0 h.1

  chunked_body : is_done place ≡ true → IsBody Chunked limit t (emitted (start Chunked limit) t)
  chunked_body d =
      let room = room_run t (start Chunked limit) (λ o. start_sound limit) in
      (only_chunked (start Chunked limit) t refl d, omega (arith, room))

  chunked_means : Means Chunked limit t (run (start Chunked limit) t).mode (emitted (start Chunked limit) t)
  chunked_means = record {
    done = λ d. (chunked_body d, refl);
    ends = λ h. chunked_body (ends_done place.mode (chunk_run t (start Chunked limit) refl) h);
    whole = λ b h.
        let k = takes_chunked (start Chunked limit) t b refl h.0 h.1 in
        (done_ends place.mode k.0, k.1);
    itself = λ b h i. (takes_chunked (start Chunked limit) t b refl h.0 h.1).0;
    broken = fault_means;
    refused = refused_fault;
    awaits = λ o. (awaits_begins limit t o, λ h. open_no_fault place.mode TooLarge o (over_fault limit t h));
    part = λ h. part_open h.0 h.1;
  }

-- ---- each frame

pub means : (f : Frame) (limit : ℕ) (t : List ℕ) → Means f limit t (run (start f limit) t).mode (emitted (start f limit) t)
means NoBody limit t = none_means limit t _ _ (done_sized t (start NoBody limit) refl) refl refl
means (Length n) limit t = length_means n limit t
means Chunked limit t = chunked_means limit t
means Close limit t = close_means limit t _ _ (open_unsized t (start Close limit) refl) refl refl
