-- Where a chunked body breaks.
use Rattle.std.proofs.Common.{◌≡◌, ℕ, ◌+◌, ◌-◌, ◌^◌, ◌≤◌, ◌⊎◌, inl, inr, ◌∷◌, [], ◌++◌, List, length, min, Bool, append_assoc}
use Rattle.std.proofs.Common.{true, false, Some, None, ◌==◌, cond, refl, sym, ap, ◌∙◌, subst, arith}
use Rattle.std.specs.Prelude.{IsTrue, nat_lt, nat_le}
use Rattle.std.proofs.lemmas.Bool.Decides.{nat_tests}
use Rattle.body_frames.specs.declared.frame.BodyFault.{BodyFault}
use Rattle.body_frames.specs.declared.frame.BodyFault.TheVariants.{BadChunk, TooLarge}
use Rattle.body_frames.specs.declared.frame.Frame.TheVariants.{Chunked}
use Rattle.body_frames.specs.declared.place.Mode.{Mode}
use Rattle.body_frames.specs.declared.place.Mode.TheVariants.{Whole, Open, Digits, Blank, Extension, LineFeed, Data}
use Rattle.body_frames.specs.declared.place.Mode.TheVariants.{DataReturn, DataFeed, LastReturn, LastFeed, Done, Past}
use Rattle.body_frames.specs.declared.place.Mode.TheVariants.{Broken}
use Rattle.body_frames.specs.declared.place.Place.{Place}
use Rattle.body_frames.specs.Machine.{start, step, run, is_data_mode, next_mode, fault_of, fault_mode}
use Rattle.body_frames.specs.Machine.{is_done_mode, is_open, is_open_mode, is_sound}
use Rattle.body_frames.specs.Chunks.{IsChunked, Begins, BreaksAt}
use Rattle.body_frames.proofs.MachineLemmas.{run-append, broken_run, sound_step}
use Rattle.body_frames.proofs.ChunkLemmas.{takes_chunked}
use Rattle.body_frames.proofs.ChunkSound.{either, begins_open}

-- ---- the bytes are counted

framed_run : (xs : List ℕ) (p : Place) → p.framed ≤ 2 ^ 64 - 1
    → (run p xs).framed ≡ min (p.framed + length xs) (2 ^ 64 - 1)
unfolding run
framed_run [] p h = omega (arith, h)
framed_run (b ∷ xs) p h = let e = framed_run xs (step p b) (omega arith) in omega (arith, e)

bad_at : (framed room : ℕ) (m : Mode) (b at : ℕ) → is_open_mode m ≡ true
    → fault_mode (next_mode framed room m b) ≡ Some (BadChunk at) → at ≡ framed
bad_at framed room (Whole n) b at o e = grind (arith, nat_tests)
bad_at framed room Open b at o e = grind (arith, nat_tests)
bad_at framed room (Digits l s) b at o e = grind (arith, nat_tests)
bad_at framed room (Blank l s) b at o e = grind (arith, nat_tests)
bad_at framed room (Extension l s) b at o e = grind (arith, nat_tests)
bad_at framed room (LineFeed s) b at o e = grind (arith, nat_tests)
bad_at framed room (Data n) b at o e = grind (arith, nat_tests)
bad_at framed room DataReturn b at o e = grind (arith, nat_tests)
bad_at framed room DataFeed b at o e = grind (arith, nat_tests)
bad_at framed room LastReturn b at o e = grind (arith, nat_tests)
bad_at framed room LastFeed b at o e = grind (arith, nat_tests)
bad_at framed room Done b at o e = absurd (cc o)
bad_at framed room Past b at o e = absurd (cc o)
bad_at framed room (Broken f) b at o e = absurd (cc o)

-- ---- the byte that breaks it

pub record FirstBreak (p : Place) (xs : List ℕ) (f : BodyFault) : Type 0 where
  pub front : List ℕ
  pub byte : ℕ
  pub rest : List ℕ
  pub split : xs ≡ front ++ byte ∷ rest
  pub sound : IsTrue (is_sound (run p front))
  pub awaits : is_open (run p front) ≡ true
  pub fault : fault_of (step (run p front) byte) ≡ Some f

-- nothing breaks after an end
pub none_past : (xs : List ℕ) (p : Place) (f : BodyFault) → is_open p ≡ false → fault_of p ≡ None
    → fault_of (run p xs) ≡ None
unfolding run
none_past [] p f o e = e
none_past (b ∷ xs) p f o e = let n = by_mode p.framed p.room p.mode o e in none_past xs (step p b) f n.0 n.1
  where
    by_mode : (framed room : ℕ) (m : Mode) → is_open_mode m ≡ false → fault_mode m ≡ None
        → (is_open_mode (next_mode framed room m b) ≡ false) × (fault_mode (next_mode framed room m b) ≡ None)
    by_mode framed room Done o e = (refl, refl)
    by_mode framed room Past o e = (refl, refl)
    by_mode framed room _ o e = absurd (cc (o, e))

pub fault_or : (p : Place) → ((g : BodyFault) × (fault_of p ≡ Some g)) ⊎ (fault_of p ≡ None)
fault_or p = by_mode p.mode
  where
    by_mode : (m : Mode) → ((g : BodyFault) × (fault_mode m ≡ Some g)) ⊎ (fault_mode m ≡ None)
    by_mode (Broken g) = inl (g, refl)
    by_mode (Whole n) = inr refl
    by_mode Open = inr refl
    by_mode (Digits l s) = inr refl
    by_mode (Blank l s) = inr refl
    by_mode (Extension l s) = inr refl
    by_mode (LineFeed s) = inr refl
    by_mode (Data n) = inr refl
    by_mode DataReturn = inr refl
    by_mode DataFeed = inr refl
    by_mode LastReturn = inr refl
    by_mode LastFeed = inr refl
    by_mode Done = inr refl
    by_mode Past = inr refl

pub open_whole : (m : Mode) (f : BodyFault) → is_open_mode m ≡ true → fault_mode m ≡ Some f → ⊥
open_whole (Broken g) f o e = absurd (cc o)
open_whole _ f o e = absurd (cc e)

some_same : (f g : BodyFault) → Some g ≡ Some f → g ≡ f
some_same f g e = cc e

pub first_break : (xs : List ℕ) (p : Place) (f : BodyFault) → IsTrue (is_sound p) → is_open p ≡ true
    → fault_of (run p xs) ≡ Some f → FirstBreak p xs f
unfolding run
first_break [] p f s o e = absurd (open_whole p.mode f o e)
first_break (b ∷ xs) p f s o e =
    by_next (either (is_open (step p b))) (λ more. first_break xs (step p b) f (sound_step p b s o) more e)
  where
    by_fault : is_open (step p b) ≡ false
        → ((g : BodyFault) × (fault_of (step p b) ≡ Some g)) ⊎ (fault_of (step p b) ≡ None) → FirstBreak p (b ∷ xs) f
    by_fault closed (inr none) = absurd (cc (none_past xs (step p b) f closed none, e))
    by_fault closed (inl g) =
        let same = some_same f g.0 (sym (broken_run xs (step p b) g.0 g.1) ∙ e) in
        record { front = []; byte = b; rest = xs; split = refl; sound = s; awaits = o; fault = g.1 ∙ ap Some same }

    by_next : (is_open (step p b) ≡ true) ⊎ (is_open (step p b) ≡ false)
        → (is_open (step p b) ≡ true → FirstBreak (step p b) xs f) → FirstBreak p (b ∷ xs) f
    by_next (inr closed) next = by_fault closed (fault_or (step p b))
    by_next (inl more) next =
        let n = next more in
        record {
          front = b ∷ n.front;
          byte = n.byte;
          rest = n.rest;
          split = ap (λ l. b ∷ l) n.split;
          sound =
              n.sound;
          awaits = n.awaits;
          fault = n.fault;
        }

-- ---- more room changes no mode before the body is too large

MoreRoom : (framed r s : ℕ) (m : Mode) (b : ℕ) → Type 0
MoreRoom framed r s m b =
    ((next_mode framed s m b ≡ next_mode framed r m b) × (is_data_mode s m ≡ is_data_mode r m))
    ⊎ (fault_mode (next_mode framed r m b) ≡ Some TooLarge)

more_room : (framed r s : ℕ) (m : Mode) (b : ℕ) → r ≤ s → MoreRoom framed r s m b
unfolding MoreRoom
more_room framed r s (Whole n) b h = inl (refl, refl)
more_room framed r s Open b h = by_some (either (nat_lt 0 r))
  where
    by_some : (nat_lt 0 r ≡ true) ⊎ (nat_lt 0 r ≡ false) → MoreRoom framed r s Open b
    by_some (inl k) =
        let more : nat_lt 0 s ≡ true = grind (arith, nat_tests) in
        inl (rw (more, k) refl, rw (more, k) refl)
    by_some (inr k) = inr (rw k refl)
more_room framed r s (Digits l n) b h = inl (refl, refl)
more_room framed r s (Blank l n) b h = inl (refl, refl)
more_room framed r s (Extension l n) b h = inl (refl, refl)
more_room framed r s (LineFeed n) b h = by_some (either (nat_le n r))
  where
    by_some : (nat_le n r ≡ true) ⊎ (nat_le n r ≡ false) → MoreRoom framed r s (LineFeed n) b
    by_some (inl k) =
        let more : nat_le n s ≡ true = grind (arith, nat_tests) in
        inl (rw (more, k) refl, refl)
    by_some (inr k) = by_last (either (b == 10)) (either (n == 0))
      where
        by_last : ((b == 10) ≡ true) ⊎ ((b == 10) ≡ false) → ((n == 0) ≡ true) ⊎ ((n == 0) ≡ false)
            → MoreRoom framed r s (LineFeed n) b
        by_last (inr e) _ = inl (rw e refl, refl)
        by_last (inl e) (inl f) = inl (rw (e, f) refl, refl)
        by_last (inl e) (inr f) = inr (rw (e, f, k) refl)
more_room framed r s (Data n) b h = inl (refl, refl)
more_room framed r s DataReturn b h = inl (refl, refl)
more_room framed r s DataFeed b h = inl (refl, refl)
more_room framed r s LastReturn b h = inl (refl, refl)
more_room framed r s LastFeed b h = inl (refl, refl)
more_room framed r s Done b h = inl (refl, refl)
more_room framed r s Past b h = inl (refl, refl)
more_room framed r s (Broken f) b h = inl (refl, refl)

-- a place with more room is in the same mode after any bytes, or the body is too large for the other
alike : (xs : List ℕ) (p q : Place) → q.mode ≡ p.mode → q.framed ≡ p.framed → p.room ≤ q.room
    → ((run q xs).mode ≡ (run p xs).mode) ⊎ (fault_of (run p xs) ≡ Some TooLarge)
unfolding run MoreRoom
alike [] p q m f r = inl m
alike (b ∷ xs) p q m f r =
    by_room (more_room p.framed p.room q.room p.mode b r)
    (λ mode framed room. alike xs (step p b) (step q b) mode framed room)
  where
    less : (t : Bool) (x y : ℕ) → x ≤ y → cond t (x - 1) x ≤ cond t (y - 1) y
    less true x y h = omega (arith, h)
    less false x y h = h

    by_room : MoreRoom p.framed p.room q.room p.mode b
        → ((step q b).mode ≡ (step p b).mode → (step q b).framed ≡ (step p b).framed
        → (step p b).room ≤ (step q b).room
        → ((run (step q b) xs).mode ≡ (run (step p b) xs).mode) ⊎ (fault_of (run (step p b) xs) ≡ Some TooLarge))
        → ((run (step q b) xs).mode ≡ (run (step p b) xs).mode) ⊎ (fault_of (run (step p b) xs) ≡ Some TooLarge)
    by_room (inr k) next = inr (broken_run xs (step p b) TooLarge k)
    by_room (inl k) next =
        let mode : (step q b).mode ≡ (step p b).mode =
        ap (λ t. next_mode t q.room q.mode b) f ∙ ap (λ t. next_mode p.framed q.room t b) m ∙ k.0 in
        let same : is_data_mode q.room q.mode ≡ is_data_mode p.room p.mode = ap (is_data_mode q.room) m ∙ k.1 in
        next mode (ap (λ t. min (t + 1) (2 ^ 64 - 1)) f)
        (subst (λ t. cond (is_data_mode p.room p.mode) (p.room - 1) p.room ≤ cond t (q.room - 1) q.room) (sym same)
        (less (is_data_mode p.room p.mode) p.room q.room r))

broken_alike : (xs : List ℕ) (p q : Place) (at : ℕ) → q.mode ≡ p.mode → q.framed ≡ p.framed → p.room ≤ q.room
    → fault_of (run p xs) ≡ Some (BadChunk at) → fault_of (run q xs) ≡ Some (BadChunk at)
broken_alike xs p q at m f r e = by_mode (alike xs p q m f r)
  where
    by_mode : ((run q xs).mode ≡ (run p xs).mode) ⊎ (fault_of (run p xs) ≡ Some TooLarge)
        → fault_of (run q xs) ≡ Some (BadChunk at)
    by_mode (inl k) = ap fault_mode k ∙ e
    by_mode (inr k) = absurd (cc (k, e))

-- where more is awaited, the text is no whole body
pub open_not_chunked : (limit : ℕ) (text own : List ℕ) → is_open (run (start Chunked limit) text) ≡ true
    → IsChunked text own → ⊥
open_not_chunked limit text own o h =
    let q = start Chunked (limit + length own) in
    let done = (takes_chunked q text own refl h (omega arith)).0 in
    by_mode done (alike text (start Chunked limit) q refl refl (omega arith))
  where
    not_both : (m : Mode) → is_done_mode m ≡ true → is_open_mode m ≡ true → ⊥
    not_both Done d f = absurd (cc f)
    not_both _ d f = absurd (cc d)

    by_mode : is_done_mode (run (start Chunked (limit + length own)) text).mode ≡ true
        → ((run (start Chunked (limit + length own)) text).mode ≡ (run (start Chunked limit) text).mode)
        ⊎ (fault_of (run (start Chunked limit) text) ≡ Some TooLarge) → ⊥
    by_mode d (inl k) = not_both (run (start Chunked limit) text).mode (ap is_done_mode (sym k) ∙ d) o
    by_mode d (inr k) = open_whole (run (start Chunked limit) text).mode TooLarge o k

-- ---- both

lost : (text rest body : List ℕ) (limit at : ℕ) → fault_of (run (start Chunked limit) text) ≡ Some (BadChunk at)
    → IsChunked (text ++ rest) body → length body ≤ limit → ⊥
lost text rest body limit at e h fits =
    let done = (takes_chunked (start Chunked limit) (text ++ rest) body refl h fits).0 in
    let broken = ap fault_of (run-append (start Chunked limit) text rest)
    ∙ broken_run rest (run (start Chunked limit) text) (BadChunk at) e in
    not_both (run (start Chunked limit) (text ++ rest)).mode done broken
  where
    not_both : (m : Mode) → is_done_mode m ≡ true → fault_mode m ≡ Some (BadChunk at) → ⊥
    not_both Done d f = absurd (cc f)
    not_both _ d f = absurd (cc d)

pub no_more : (text rest body : List ℕ) (limit at : ℕ) → fault_of (run (start Chunked limit) text) ≡ Some (BadChunk at)
    → IsChunked (text ++ rest) body → ⊥
no_more text rest body limit at e h = by_size (either (nat_le (length body) limit))
  where
    by_size : (nat_le (length body) limit ≡ true) ⊎ (nat_le (length body) limit ≡ false) → ⊥
    by_size (inl k) = lost text rest body limit at e h (grind (arith, nat_tests))
    by_size (inr k) =
        let more : limit ≤ length body = grind (arith, nat_tests) in
        lost text rest body (length body) at
        (broken_alike text (start Chunked limit) (start Chunked (length body)) at refl refl more e) h (omega arith)

pub start_sound : (limit : ℕ) → IsTrue (is_sound (start Chunked limit))
start_sound limit = grind (arith, nat_tests)

pub closed_stays : (ys : List ℕ) (q : Place) → is_open q ≡ false → is_open (run q ys) ≡ false
unfolding run
closed_stays [] q c = c
closed_stays (b ∷ ys) q c = closed_stays ys (step q b) (by_mode q.framed q.room q.mode c)
  where
    by_mode : (framed room : ℕ) (m : Mode) → is_open_mode m ≡ false → is_open_mode (next_mode framed room m b) ≡ false
    by_mode framed room Done c = refl
    by_mode framed room Past c = refl
    by_mode framed room (Broken f) c = refl
    by_mode framed room _ c = absurd (cc c)

pub sound_run : (xs : List ℕ) (p : Place) → IsTrue (is_sound p) → is_open (run p xs) ≡ true → IsTrue (is_sound (run p xs))
unfolding run
sound_run [] p s o = s
sound_run (b ∷ xs) p s o = by_open (either (is_open p)) (λ k. sound_run xs (step p b) (sound_step p b s k) o)
  where
    by_open : (is_open p ≡ true) ⊎ (is_open p ≡ false) → (is_open p ≡ true → IsTrue (is_sound (run (step p b) xs)))
        → IsTrue (is_sound (run (step p b) xs))
    by_open (inl k) next = next k
    by_open (inr k) next = absurd (cc (closed_stays (b ∷ xs) p k, o))

begins_sound : (p : Place) (text : List ℕ) → IsTrue (is_sound (run p text)) → is_open (run p text) ≡ true
    → p.mode ≡ Digits 0 0 → ((own : List ℕ) → IsChunked text own → ⊥) → Begins text
begins_sound p text s o m none =
    let e = begins_open p text m s o in
    record { rest = e.0; body = e.1; whole = e.2; none = none }

pub awaits_begins : (limit : ℕ) (text : List ℕ) → is_open (run (start Chunked limit) text) ≡ true → Begins text
awaits_begins limit text o =
    begins_sound (start Chunked limit) text (sound_run text (start Chunked limit) (start_sound limit) o) o refl
    (λ own h. open_not_chunked limit text own o h)

pub breaks_at : (limit at : ℕ) (text : List ℕ) → fault_of (run (start Chunked limit) text) ≡ Some (BadChunk at)
    → BreaksAt text at
unfolding run
breaks_at limit at text e =
    let p = start Chunked limit in
    let n = first_break text p (BadChunk at) (start_sound limit) refl e in
    let here = bad_at (run p n.front).framed (run p n.front).room (run p n.front).mode n.byte at n.awaits n.fault in
    let count = framed_run n.front p (omega arith) in
    let one : fault_of (run p (n.front ++ n.byte ∷ [])) ≡ Some (BadChunk at) =
    ap fault_of (run-append p n.front (n.byte ∷ [])) ∙ n.fault in
    record {
      prefix = n.front;
      byte = n.byte;
      rest = n.rest;
      split = n.split;
      count = omega (arith, here, count);
      begins = awaits_begins limit n.front n.awaits;
      breaks = λ more body h.
          no_more (n.front ++ n.byte ∷ []) more body limit at one
          (subst (λ l. IsChunked l body) (sym (append_assoc n.front (n.byte ∷ []) more)) h);
    }
