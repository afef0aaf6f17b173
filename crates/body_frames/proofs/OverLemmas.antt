-- When a chunked body is too large.
use Rattle.std.proofs.Common.{suc, zero, ◌≡◌, ℕ, ◌-◌, ◌<◌, ◌≤◌, ◌⊎◌, inl, inr, ◌==◌, ◌∷◌, [], ◌++◌, List, length}
use Rattle.std.proofs.Common.{Bool, true, false, Some, None, refl, sym, ap, ◌∙◌, subst, arith, append_assoc}
use Rattle.std.specs.Prelude.{IsTrue, nat_lt, nat_le}
use Rattle.std.specs.List.{flat_map}
use Rattle.std.proofs.lemmas.List.{length-append}
use Rattle.std.proofs.lemmas.Bool.Decides.{nat_tests}
use Rattle.body_frames.specs.declared.frame.BodyFault.TheVariants.{BadChunk, TooLarge}
use Rattle.body_frames.specs.declared.frame.Frame.TheVariants.{Chunked}
use Rattle.body_frames.specs.declared.place.Mode.{Mode}
use Rattle.body_frames.specs.declared.place.Mode.TheVariants.{Digits, Blank, Extension, LineFeed, Data}
use Rattle.body_frames.specs.declared.place.Mode.TheVariants.{DataReturn, DataFeed, LastReturn, LastFeed, Done, Past}
use Rattle.body_frames.specs.declared.place.Mode.TheVariants.{Broken}
use Rattle.body_frames.specs.declared.place.Place.{Place}
use Rattle.body_frames.specs.Machine.{start, step, run, is_data, is_data_mode, next_mode, after_line, after_digits}
use Rattle.body_frames.specs.Machine.{fault_of, fault_mode, is_open_mode, is_sound, is_sound_mode}
use Rattle.body_frames.specs.Chunks.{Line, Chunk, print_line, print_chunk, IsLine}
use Rattle.body_frames.specs.Body.{IsOver, chunk_bytes}
use Rattle.body_frames.proofs.MachineLemmas.{run-append, broken_run, sound_step}
use Rattle.body_frames.proofs.ChunkLemmas.{passes_append, pass_line, pass_chunks}
use Rattle.body_frames.proofs.SizeLines.{InLine, GoodLine, line_of, back_tail, back_digits}
use Rattle.body_frames.proofs.SizeLines.{back_extension, in_line, line_next, same_byte}
use Rattle.body_frames.proofs.ChunkSound.{either}

-- ---- a size line that exceeds the limit is refused

exceeds_limit : (room size : ℕ) → room < size → fault_mode (after_line room size) ≡ Some TooLarge
exceeds_limit room size h =
    let some : size == 0 ≡ false = grind (arith, nat_tests) in
    let over : nat_le size room ≡ false = grind (arith, nat_tests) in
    rw (some, over) refl

pub over_fault : (limit : ℕ) (text : List ℕ) → IsOver limit text
    → fault_of (run (start Chunked limit) text) ≡ Some TooLarge
over_fault limit text h =
    let p = start Chunked limit in
    let left = limit - length (chunk_bytes h.chunks) in
    let chunks = pass_chunks h.chunks limit left h.each h.fits refl in
    let line = pass_line h.line h.size left h.line_is in
    let both =
    passes_append (Digits 0 0) (Digits 0 0) (after_line left h.size) limit left left
    (flat_map print_chunk h.chunks) (print_line h.line) (chunk_bytes h.chunks) [] chunks line in
    let over : left < h.size = omega (arith, h.over, h.fits) in
    let xs = flat_map print_chunk h.chunks ++ print_line h.line in
    let fault : fault_of (run p xs) ≡ Some TooLarge =
    ap fault_mode (both p refl refl).mode ∙ exceeds_limit left h.size over in
    let split : text ≡ xs ++ h.rest = h.text_is ∙ sym (append_assoc (flat_map print_chunk h.chunks) (print_line h.line) h.rest) in
    ap (λ l. fault_of (run p l)) split ∙ ap fault_of (run-append p xs h.rest) ∙ broken_run h.rest (run p xs) TooLarge fault

-- ---- and nothing else is

-- after a size line, what makes the body too large
record OverAfter (room size : ℕ) (rest body : List ℕ) : Type 0 where
  q : Place
  mode : q.mode ≡ after_line room size
  left : q.room ≡ room
  fault : fault_of (run q rest) ≡ Some TooLarge

no_fault : (m : Mode) → fault_mode m ≡ Some TooLarge → in_line m ≡ true → ⊥
no_fault (Broken (BadChunk at)) e l = absurd (cc e)
no_fault (Broken TooLarge) e l = absurd (cc l)
no_fault _ e l = absurd (cc e)

-- another fault stays
bad_stays : (xs : List ℕ) (q : Place) (at : ℕ) → q.mode ≡ Broken (BadChunk at) → fault_of (run q xs) ≡ Some TooLarge → ⊥
bad_stays xs q at m e = absurd (cc (broken_run xs q (BadChunk at) (ap fault_mode m), e))

room_same : (p : Place) (b : ℕ) → is_data p ≡ false → (step p b).room ≡ p.room
room_same p b e = rw e refl

at_least : (room : ℕ) (m n : Mode) → n ≡ m → IsTrue (is_sound_mode room n) → IsTrue (is_sound_mode room m)
at_least room m n e h = subst (λ k. IsTrue (is_sound_mode room k)) e h

over_line : (xs : List ℕ) (p : Place) (m : Mode) → p.mode ≡ m → in_line m ≡ true → IsTrue (is_sound p)
    → fault_of (run p xs) ≡ Some TooLarge → InLine (OverAfter p.room) m xs []
unfolding run
over_line [] p m e l s f = absurd (no_fault m (ap fault_mode (sym e) ∙ f) l)
over_line (b ∷ xs) p (Digits line size) e l s f =
    let same = room_same p b (ap (is_data_mode p.room) e) in
    let ih =
    over_line xs (step p b) (next_mode p.framed p.room (Digits line size) b)
    (ap (λ m. next_mode p.framed p.room m b) e) (line_next p.framed p.room (Digits line size) b refl)
    (sound_step p b s (ap is_open_mode e)) f in
    let sound : IsTrue (is_sound_mode p.room (Digits line size)) = at_least p.room (Digits line size) p.mode e s in
    back_digits (OverAfter p.room) p.framed p.room line size b xs [] (grind (arith, nat_tests))
    (subst (λ r. InLine (OverAfter r) (next_mode p.framed p.room (Digits line size) b) xs []) same ih)
over_line (b ∷ xs) p (Blank line size) e l s f =
    let same = room_same p b (ap (is_data_mode p.room) e) in
    let ih =
    over_line xs (step p b) (after_digits p.framed line size b)
    (ap (λ m. next_mode p.framed p.room m b) e) (line_next p.framed p.room (Blank line size) b refl)
    (sound_step p b s (ap is_open_mode e)) f in
    let sound : IsTrue (is_sound_mode p.room (Blank line size)) = at_least p.room (Blank line size) p.mode e s in
    back_tail (OverAfter p.room) p.framed line size b xs [] (grind (arith, nat_tests))
    (subst (λ r. InLine (OverAfter r) (after_digits p.framed line size b) xs []) same ih)
over_line (b ∷ xs) p (Extension line size) e l s f =
    let same = room_same p b (ap (is_data_mode p.room) e) in
    let ih =
    over_line xs (step p b) (next_mode p.framed p.room (Extension line size) b)
    (ap (λ m. next_mode p.framed p.room m b) e) (line_next p.framed p.room (Extension line size) b refl)
    (sound_step p b s (ap is_open_mode e)) f in
    let sound : IsTrue (is_sound_mode p.room (Extension line size)) =
    at_least p.room (Extension line size) p.mode e s in
    back_extension (OverAfter p.room) p.framed p.room line size b xs [] (grind (arith, nat_tests))
    (subst (λ r. InLine (OverAfter r) (next_mode p.framed p.room (Extension line size) b) xs []) same ih)
over_line (b ∷ xs) p (LineFeed size) e l s f = by_feed (either (b == 10))
  where
    cons : (a c : ℕ) → a ≡ c → a ∷ xs ≡ c ∷ xs
    cons a c e = cc

    by_feed : ((b == 10) ≡ true) ⊎ ((b == 10) ≡ false) → InLine (OverAfter p.room) (LineFeed size) (b ∷ xs) []
    by_feed (inl k) = (
      xs,
      cons b 10 (same_byte b 10 k),
      record {
        q = step p b;
        mode = ap (λ m. next_mode p.framed p.room m b) e ∙ rw k refl;
        left = room_same p b (ap (is_data_mode p.room) e);
        fault = f;
      },
    )
    by_feed (inr k) =
        absurd (bad_stays xs (step p b) p.framed (ap (λ m. next_mode p.framed p.room m b) e ∙ rw k refl) f)
over_line (b ∷ xs) p (Broken (BadChunk at)) e l s f =
    absurd (bad_stays xs (step p b) at (ap (λ m. next_mode p.framed p.room m b) e) f)
over_line (b ∷ xs) p _ e l s f = absurd (cc l)

-- the end of a chunk, and a place at the begin of the next one
record OverNext (room : ℕ) (more : List ℕ) : Type 0 where
  q : Place
  mode : q.mode ≡ Digits 0 0
  left : q.room ≡ room
  fault : fault_of (run q more) ≡ Some TooLarge

no_mode : (p : Place) (m : Mode) → p.mode ≡ m → fault_mode m ≡ None → fault_of p ≡ Some TooLarge → ⊥
no_mode p m e n f = absurd (cc (ap fault_mode e, n, f))

over_feed : (xs : List ℕ) (p : Place) → p.mode ≡ DataFeed → fault_of (run p xs) ≡ Some TooLarge
    → (more : List ℕ) × (xs ≡ 10 ∷ more) × OverNext p.room more
unfolding run
over_feed [] p e f = absurd (no_mode p DataFeed e refl f)
over_feed (b ∷ xs) p e f = by_byte (either (b == 10))
  where
    cons : (a c : ℕ) → a ≡ c → a ∷ xs ≡ c ∷ xs
    cons a c e = cc

    by_byte : ((b == 10) ≡ true) ⊎ ((b == 10) ≡ false)
        → (more : List ℕ) × (b ∷ xs ≡ 10 ∷ more) × OverNext p.room more
    by_byte (inl k) = (
      xs,
      cons b 10 (same_byte b 10 k),
      record {
        q = step p b;
        mode = ap (λ m. next_mode p.framed p.room m b) e ∙ rw k refl;
        left = room_same p b (ap (is_data_mode p.room) e);
        fault = f;
      },
    )
    by_byte (inr k) =
        absurd (bad_stays xs (step p b) p.framed (ap (λ m. next_mode p.framed p.room m b) e ∙ rw k refl) f)

over_return : (xs : List ℕ) (p : Place) → p.mode ≡ DataReturn → fault_of (run p xs) ≡ Some TooLarge
    → (more : List ℕ) × (xs ≡ 13 ∷ 10 ∷ more) × OverNext p.room more
unfolding run
over_return [] p e f = absurd (no_mode p DataReturn e refl f)
over_return (b ∷ xs) p e f = by_byte (either (b == 13))
  where
    cons : (a c : ℕ) (k l : List ℕ) → a ≡ c → k ≡ l → a ∷ k ≡ c ∷ l
    cons a c k l e f = cc

    by_byte : ((b == 13) ≡ true) ⊎ ((b == 13) ≡ false)
        → (more : List ℕ) × (b ∷ xs ≡ 13 ∷ 10 ∷ more) × OverNext p.room more
    by_byte (inl k) =
        let same = room_same p b (ap (is_data_mode p.room) e) in
        let n = over_feed xs (step p b) (ap (λ m. next_mode p.framed p.room m b) e ∙ rw k refl) f in
        (n.0, cons b 13 xs (10 ∷ n.0) (same_byte b 13 k) n.1, subst (λ r. OverNext r n.0) same n.2)
    by_byte (inr k) =
        absurd (bad_stays xs (step p b) p.framed (ap (λ m. next_mode p.framed p.room m b) e ∙ rw k refl) f)

record OverData (n room : ℕ) (xs : List ℕ) : Type 0 where
  bytes : List ℕ
  more : List ℕ
  size : length bytes ≡ n
  split : xs ≡ bytes ++ 13 ∷ 10 ∷ more
  next : OverNext (room - n) more

over_data : (xs : List ℕ) (n : ℕ) (p : Place) → p.mode ≡ Data n → 0 < n → fault_of (run p xs) ≡ Some TooLarge
    → OverData n p.room xs
unfolding run
over_data [] n p e h f = absurd (no_mode p (Data n) e refl f)
over_data (b ∷ xs) zero p e h f = absurd (omega (arith, h))
over_data (b ∷ xs) (suc zero) p e h f =
    let room : (step p b).room ≡ p.room - 1 = rw (ap (is_data_mode p.room) e) refl in
    let n = over_return xs (step p b) (ap (λ m. next_mode p.framed p.room m b) e) f in
    record {
      bytes = b ∷ [];
      more = n.0;
      size = omega arith;
      split = ap (λ l. b ∷ l) n.1;
      next = subst (λ r. OverNext r n.0) room n.2;
    }
over_data (b ∷ xs) (suc (suc k)) p e h f =
    let room : (step p b).room ≡ p.room - 1 = rw (ap (is_data_mode p.room) e) refl in
    let more : nat_lt 1 (suc (suc k)) ≡ true = grind (arith, nat_tests) in
    let one : suc (suc k) - 1 ≡ suc k = omega arith in
    let next : (step p b).mode ≡ Data (suc k) =
    ap (λ m. next_mode p.framed p.room m b) e ∙ rw more (ap Data one) in
    let d = over_data xs (suc k) (step p b) next (omega arith) f in
    let left : (step p b).room - suc k ≡ p.room - suc (suc k) = omega (arith, room) in
    record {
      bytes = b ∷ d.bytes;
      more = d.more;
      size = omega (arith, d.size);
      split = ap (λ l. b ∷ l) d.split;
      next = subst (λ r. OverNext r d.more) left d.next;
    }

-- nothing is too large after the last size line
abbrev in_last : Mode → Bool
in_last LastReturn = true
in_last LastFeed = true
in_last Done = true
in_last Past = true
in_last (Broken (BadChunk at)) = true
in_last _ = false

last_next : (framed room : ℕ) (m : Mode) (b : ℕ) → in_last m ≡ true → in_last (next_mode framed room m b) ≡ true
last_next framed room LastReturn b e = grind (arith, nat_tests)
last_next framed room LastFeed b e = grind (arith, nat_tests)
last_next framed room Done b e = refl
last_next framed room Past b e = refl
last_next framed room (Broken (BadChunk at)) b e = refl
last_next framed room _ b e = absurd (cc e)

over_last : (xs : List ℕ) (p : Place) → in_last p.mode ≡ true → fault_of (run p xs) ≡ Some TooLarge → ⊥
unfolding run
over_last [] p e f = by_mode p.mode e f
  where
    by_mode : (m : Mode) → in_last m ≡ true → fault_mode m ≡ Some TooLarge → ⊥
    by_mode (Broken (BadChunk at)) e f = absurd (cc f)
    by_mode (Broken TooLarge) e f = absurd (cc e)
    by_mode _ e f = absurd (cc f)
over_last (b ∷ xs) p e f = over_last xs (step p b) (last_next p.framed p.room p.mode b e) f

-- a chunk within the limit, before what is over the rest of it
over_cons : (line : Line) (bytes more xs : List ℕ) (size room : ℕ) → IsLine line size → 0 < size → size ≤ room
    → length bytes ≡ size → xs ≡ print_line line ++ (bytes ++ 13 ∷ 10 ∷ more) → IsOver (room - size) more → IsOver room xs
over_cons line bytes more xs size room l some low e split o =
    let c : Chunk = record { line = line; bytes = bytes } in
    let count = length-append bytes (chunk_bytes o.chunks) in
    record {
      chunks = c ∷ o.chunks;
      line = o.line;
      size = o.size;
      rest = o.rest;
      each = (subst (λ n. IsLine line n) (sym e) l, subst (λ n. 0 < n) (sym e) some, o.each);
      line_is = o.line_is;
      text_is = split ∙ ap (λ r. print_line line ++ (bytes ++ 13 ∷ 10 ∷ r)) o.text_is
          ∙ regroup (print_line line) bytes (flat_map print_chunk o.chunks) (print_line o.line ++ o.rest);
      fits = omega (arith, count, e, low, o.fits);
      over = omega (arith, count, e, low, o.over);
    }
  where
    regroup : (l d t r : List ℕ) → l ++ (d ++ 13 ∷ 10 ∷ (t ++ r)) ≡ ((l ++ (d ++ 13 ∷ 10 ∷ [])) ++ t) ++ r
    regroup l d t r = simp append_assoc

over_all : (fuel : ℕ) (xs : List ℕ) (p : Place) → length xs < fuel → p.mode ≡ Digits 0 0
    → fault_of (run p xs) ≡ Some TooLarge → IsOver p.room xs
over_all zero xs p h m f = absurd (omega (arith, h))
over_all (suc fuel) xs p h m f =
    by_line (line_of (OverAfter p.room) xs [] (over_line xs p (Digits 0 0) m refl sound f))
    (λ more q few mode fault. over_all fuel more q few mode fault)
  where
    sound : IsTrue (is_sound p)
    sound = subst (λ k. IsTrue (is_sound_mode p.room k)) (sym m) (at_begin p.room)
      where
        at_begin : (room : ℕ) → IsTrue (is_sound_mode room (Digits 0 0))
        at_begin room = grind (arith, nat_tests)

    shorter : (a b rest more : List ℕ) → xs ≡ a ++ rest → rest ≡ b ++ 13 ∷ 10 ∷ more → length more < fuel
    shorter a b rest more e g =
        let l = ap length e in
        let k = ap length g in
        let x = length-append a rest in
        let y = length-append b (13 ∷ 10 ∷ more) in
        omega (arith, h, l, k, x, y)

    by_line : (size : ℕ) × (rest : List ℕ) × GoodLine size xs rest × OverAfter p.room size rest []
        → ((more : List ℕ) (q : Place) → length more < fuel → q.mode ≡ Digits 0 0
        → fault_of (run q more) ≡ Some TooLarge → IsOver q.room more) → IsOver p.room xs
    by_line (size, rest, g, o) others = by_size (either (size == 0)) (either (nat_le size p.room))
      where
        chunk : 0 < size → size ≤ p.room → OverData size o.q.room rest → IsOver p.room xs
        chunk some low d =
            let room : d.next.q.room ≡ p.room - size = d.next.left ∙ ap (λ r. r - size) o.left in
            let ih =
            others d.more d.next.q (shorter (print_line g.line) d.bytes rest d.more g.split d.split)
            d.next.mode d.next.fault in
            over_cons g.line d.bytes d.more xs size p.room g.is some low d.size
            (g.split ∙ ap (λ r. print_line g.line ++ r) d.split) (subst (λ r. IsOver r d.more) room ih)

        by_size : ((size == 0) ≡ true) ⊎ ((size == 0) ≡ false) → (nat_le size p.room ≡ true) ⊎ (nat_le size p.room ≡ false)
            → IsOver p.room xs
        by_size (inl z) k =
            let last : o.q.mode ≡ LastReturn = o.mode ∙ rw z refl in
            absurd (over_last rest o.q (ap in_last last) o.fault)
        by_size (inr z) (inl k) =
            let some : 0 < size = grind (arith, nat_tests, z) in
            let low : size ≤ p.room = grind (arith, nat_tests, k) in
            chunk some low (over_data rest size o.q (o.mode ∙ rw (z, k) refl) some o.fault)
        by_size (inr z) (inr k) =
            let over : p.room < size = grind (arith, nat_tests, k) in
            record {
              chunks = [];
              line = g.line;
              size = size;
              rest = rest;
              each = tt;
              line_is = g.is;
              text_is = g.split;
              fits = omega arith;
              over = omega (arith, over);
            }

pub fault_over : (limit : ℕ) (text : List ℕ) → fault_of (run (start Chunked limit) text) ≡ Some TooLarge
    → IsOver limit text
fault_over limit text f = over_all (suc (length text)) text (start Chunked limit) (omega arith) refl f
