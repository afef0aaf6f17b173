-- What the machine takes to its end is a text of the grammar.
use Rattle.std.proofs.Common.{suc, zero, ◌≡◌, ℕ, ◌+◌, ◌-◌, ◌*◌, ◌<◌, ◌≤◌, ◌⊎◌, inl, inr, ◌==◌, ◌∷◌, [], ◌++◌}
use Rattle.std.proofs.Common.{List, length, Bool, true, false, nat_lt, refl, sym, ap, ◌∙◌, subst, arith}
use Rattle.std.proofs.Common.{append_assoc, append-nil, cond}
use Rattle.std.specs.Prelude.{IsTrue, nat_le}
use Rattle.std.specs.List.{flat_map}
use Rattle.std.proofs.lemmas.Bool.Decides.{nat_tests}
use Rattle.body_frames.specs.declared.frame.BodyFault.TheVariants.{BadChunk, TooLarge}
use Rattle.body_frames.specs.declared.place.Mode.{Mode}
use Rattle.body_frames.specs.declared.place.Mode.TheVariants.{Whole, Open, Digits, Blank, Extension, LineFeed, Data}
use Rattle.body_frames.specs.declared.place.Mode.TheVariants.{DataReturn, DataFeed, LastReturn, LastFeed, Done, Past}
use Rattle.body_frames.specs.declared.place.Mode.TheVariants.{Broken}
use Rattle.body_frames.specs.declared.place.Place.{Place}
use Rattle.body_frames.specs.Machine.{step, run, emitted, is_data, is_data_mode, next_mode, after_digits, after_line}
use Rattle.body_frames.specs.Machine.{is_done, is_done_mode, is_open, is_open_mode, is_sound}
use Rattle.body_frames.specs.Machine.{is_sound_mode}
use Rattle.body_frames.specs.Chunks.{digit_value, print_line, IsLine}
use Rattle.body_frames.specs.Chunks.{Chunk, print_chunk, IsChunked, last_text}
use Rattle.body_frames.proofs.MachineLemmas.{sound_step}
use Rattle.body_frames.proofs.SizeLines.{GoodExtension, GoodTail, GoodDigits, InLine, GoodLine, line_of, back_tail}
use Rattle.body_frames.proofs.SizeLines.{back_digits, back_extension, in_line, line_next, same_byte, lower}

record GoodData (n : ℕ) (xs body : List ℕ) : Type 0 where
  bytes : List ℕ
  more : List ℕ
  after : List ℕ
  size : length bytes ≡ n
  split : xs ≡ bytes ++ 13 ∷ 10 ∷ more
  body_is : body ≡ bytes ++ after
  chunked : IsChunked more after

abbrev GoodAfter : ℕ → List ℕ → List ℕ → Type 0
GoodAfter size xs body = ((size ≡ 0) × (xs ≡ 13 ∷ 10 ∷ []) × (body ≡ [])) ⊎ ((0 < size) × GoodData size xs body)

abbrev Good : Mode → List ℕ → List ℕ → Type 0
Good (Digits line size) xs body = GoodDigits GoodAfter line size xs body
Good (Blank line size) xs body = GoodTail GoodAfter line size xs body
Good (Extension line size) xs body = GoodExtension GoodAfter line size xs body
Good (LineFeed size) xs body = (rest : List ℕ) × (xs ≡ 10 ∷ rest) × GoodAfter size rest body
Good (Data n) xs body = GoodData n xs body
Good DataReturn xs body = (more : List ℕ) × (xs ≡ 13 ∷ 10 ∷ more) × IsChunked more body
Good DataFeed xs body = (more : List ℕ) × (xs ≡ 10 ∷ more) × IsChunked more body
Good LastReturn xs body = (xs ≡ 13 ∷ 10 ∷ []) × (body ≡ [])
Good LastFeed xs body = (xs ≡ 10 ∷ []) × (body ≡ [])
Good Done xs body = (xs ≡ []) × (body ≡ [])
Good (Whole n) xs body = Unit {0}
Good Open xs body = Unit {0}
Good _ xs body = ⊥

which : (t : Bool) (m n : Mode) (xs body : List ℕ) → Good (cond t m n) xs body
    → ((t ≡ true) × Good m xs body) ⊎ ((t ≡ false) × Good n xs body)
which true m n xs body h = inl (refl, h)
which false m n xs body h = inr (refl, h)

chunked_of : (xs body : List ℕ) → GoodDigits GoodAfter 0 0 xs body → IsChunked xs body
chunked_of xs body h = by_after (line_of GoodAfter xs body h)
  where
    regroup : (l d t r : List ℕ) → l ++ (d ++ 13 ∷ 10 ∷ (t ++ r)) ≡ ((l ++ (d ++ 13 ∷ 10 ∷ [])) ++ t) ++ r
    regroup l d t r = simp append_assoc

    by_after : (size : ℕ) × (rest : List ℕ) × GoodLine size xs rest × GoodAfter size rest body → IsChunked xs body
    by_after (size, rest, g, inl a) = record {
      chunks = [];
      last = g.line;
      each = tt;
      end = subst (λ n. IsLine g.line n) a.0 g.is;
      text_is = g.split ∙ ap (λ r. print_line g.line ++ r) a.1;
      body_is = a.2;
    }
    by_after (size, rest, g, inr a) =
        let d = a.1 in
        let c : Chunk = record { line = g.line; bytes = d.bytes } in
        record {
          chunks = c ∷ d.chunked.chunks;
          last = d.chunked.last;
          each =
              (subst (λ n. IsLine g.line n) (sym d.size) g.is, subst (λ n. 0 < n) (sym d.size) a.0, d.chunked.each);
          end = d.chunked.end;
          text_is = g.split
              ∙ ap (λ r. print_line g.line ++ r) (d.split ∙ ap (λ r. d.bytes ++ 13 ∷ 10 ∷ r) d.chunked.text_is)
              ∙ regroup (print_line g.line) d.bytes (flat_map print_chunk d.chunked.chunks)
              (print_line d.chunked.last ++ 13 ∷ 10 ∷ []);
          body_is = d.body_is ∙ ap (λ r. d.bytes ++ r) d.chunked.body_is;
        }

back_after : (room size : ℕ) (xs body : List ℕ) → Good (after_line room size) xs body → GoodAfter size xs body
back_after room size xs body h = by_first (which (size == 0) LastReturn _ xs body h)
  where
    by_second : (size == 0 ≡ false)
        → ((nat_le size room ≡ true) × GoodData size xs body) ⊎ ((nat_le size room ≡ false) × ⊥)
        → GoodAfter size xs body
    by_second f (inl k) = let some : 0 < size = grind (arith, nat_tests, f) in inr (some, k.1)
    by_second f (inr k) = absurd k.1

    by_first : ((size == 0 ≡ true) × Good LastReturn xs body)
        ⊎ ((size == 0 ≡ false) × Good (cond (nat_le size room) (Data size) (Broken TooLarge)) xs body)
        → GoodAfter size xs body
    by_first (inl k) = inl (same_byte size 0 k.0, k.1.0, k.1.1)
    by_first (inr k) = by_second k.0 (which (nat_le size room) (Data size) (Broken TooLarge) xs body k.1)

-- a byte that had to come
back_expect : (framed wanted b : ℕ) (next : Mode) (xs body : List ℕ)
    → Good (cond (b == wanted) next (Broken (BadChunk framed))) xs body → (b ≡ wanted) × Good next xs body
back_expect framed wanted b next xs body h = by_first (which (b == wanted) next (Broken (BadChunk framed)) xs body h)
  where
    by_first : ((b == wanted ≡ true) × Good next xs body) ⊎ ((b == wanted ≡ false) × ⊥)
        → (b ≡ wanted) × Good next xs body
    by_first (inl k) = (same_byte b wanted k.0, k.1)
    by_first (inr k) = absurd k.1

-- a mode within a size line, or broken there, and what it is in `Good`
to_line : (m : Mode) (xs body : List ℕ) → in_line m ≡ true → Good m xs body → InLine GoodAfter m xs body
to_line (Digits line size) xs body e h = h
to_line (Blank line size) xs body e h = h
to_line (Extension line size) xs body e h = h
to_line (LineFeed size) xs body e h = h
to_line (Broken f) xs body e h = h
to_line _ xs body e h = absurd (cc e)

cons_same : (a c : ℕ) (k l : List ℕ) → a ≡ c → k ≡ l → a ∷ k ≡ c ∷ l
cons_same a c k l e f = cc

back : (framed room : ℕ) (m : Mode) (b : ℕ) (xs out : List ℕ) → IsTrue (is_sound_mode room m)
    → Good (next_mode framed room m b) xs out → Good m (b ∷ xs) ((cond (is_data_mode room m) (b ∷ []) []) ++ out)
back framed room (Digits line size) b xs out s h =
    back_digits GoodAfter framed room line size b xs out (grind (arith, nat_tests))
    (to_line (next_mode framed room (Digits line size) b) xs out (line_next framed room (Digits line size) b refl) h)
back framed room (Blank line size) b xs out s h =
    back_tail GoodAfter framed line size b xs out (grind (arith, nat_tests))
    (to_line (after_digits framed line size b) xs out (line_next framed room (Blank line size) b refl) h)
back framed room (Extension line size) b xs out s h =
    back_extension GoodAfter framed room line size b xs out (grind (arith, nat_tests))
    (to_line (next_mode framed room (Extension line size) b) xs out (line_next framed room (Extension line size) b refl) h)
back framed room (LineFeed size) b xs out s h =
    let k = back_expect framed 10 b (after_line room size) xs out h in
    (xs, cons_same b 10 xs xs k.0 refl, back_after room size xs out k.1)
back framed room (Data n) b xs out s h = by_first (which (nat_lt 1 n) (Data (n - 1)) DataReturn xs out h)
  where
    by_first : ((nat_lt 1 n ≡ true) × GoodData (n - 1) xs out) ⊎ ((nat_lt 1 n ≡ false) × Good DataReturn xs out)
        → GoodData n (b ∷ xs) ((b ∷ []) ++ out)
    by_first (inl k) =
        let more : 1 < n = lower 1 n k.0 in
        record {
          bytes = b ∷ k.1.bytes;
          more = k.1.more;
          after = k.1.after;
          size = omega (arith, k.1.size);
          split = ap (λ l. b ∷ l) k.1.split;
          body_is = ap (λ l. b ∷ l) k.1.body_is;
          chunked = k.1.chunked;
        }
    by_first (inr k) =
        let one : 1 ≡ n = grind (arith, nat_tests, k.0) in
        record {
          bytes = b ∷ [];
          more = k.1.0;
          after = out;
          size = one;
          split = ap (λ l. b ∷ l) k.1.1;
          body_is =
              refl;
          chunked = k.1.2;
        }
back framed room DataReturn b xs out s h =
    let k = back_expect framed 13 b DataFeed xs out h in
    (k.1.0, cons_same b 13 xs (10 ∷ k.1.0) k.0 k.1.1, k.1.2)
back framed room DataFeed b xs out s h =
    let k = back_expect framed 10 b (Digits 0 0) xs out h in
    (xs, cons_same b 10 xs xs k.0 refl, chunked_of xs out k.1)
back framed room LastReturn b xs out s h =
    let k = back_expect framed 13 b LastFeed xs out h in
    (cons_same b 13 xs (10 ∷ []) k.0 k.1.0, k.1.1)
back framed room LastFeed b xs out s h =
    let k = back_expect framed 10 b Done xs out h in
    (cons_same b 10 xs [] k.0 k.1.0, k.1.1)
back framed room (Whole n) b xs out s h = tt
back framed room Open b xs out s h = tt
back framed room Done b xs out s h = absurd h
back framed room Past b xs out s h = absurd h
back framed room (Broken f) b xs out s h = absurd h

dead : Mode → Bool
dead Past = true
dead (Broken f) = true
dead _ = false

dead_after : (framed room b : ℕ) (m : Mode) → is_open_mode m ≡ false → dead (next_mode framed room m b) ≡ true
unfolding dead
dead_after framed room b Done o = refl
dead_after framed room b Past o = refl
dead_after framed room b (Broken f) o = refl
dead_after framed room b _ o = absurd (cc o)

dead_stays : (framed room b : ℕ) (m : Mode) → dead m ≡ true → dead (next_mode framed room m b) ≡ true
unfolding dead
dead_stays framed room b Past o = refl
dead_stays framed room b (Broken f) o = refl
dead_stays framed room b _ o = absurd (cc o)

dead_not_good : (m : Mode) (xs out : List ℕ) → dead m ≡ true → Good m xs out → ⊥
unfolding dead
dead_not_good Past xs out o h = h
dead_not_good (Broken f) xs out o h = h
dead_not_good _ xs out o h = absurd (cc o)

lost : (ys : List ℕ) (q : Place) (xs out : List ℕ) → dead q.mode ≡ true → Good (run q ys).mode xs out → ⊥
unfolding run
lost [] q xs out d h = dead_not_good q.mode xs out d h
lost (c ∷ ys) q xs out d h = lost ys (step q c) xs out (dead_stays q.framed q.room c q.mode d) h

pub either : (t : Bool) → (t ≡ true) ⊎ (t ≡ false)
either true = inl refl
either false = inr refl

-- what may follow after some bytes, with the bytes before it, may follow before them
good_before : (xs : List ℕ) (p : Place) (rest out : List ℕ) → IsTrue (is_sound p) → Good (run p xs).mode rest out
    → Good p.mode (xs ++ rest) (emitted p xs ++ out)
unfolding run emitted
good_before [] p rest out s h = h
good_before (b ∷ xs) p rest out s h = by_open (either (is_open p)) (λ t. good_before xs (step p b) rest out t h)
  where
    by_open : (is_open p ≡ true) ⊎ (is_open p ≡ false)
        → (IsTrue (is_sound (step p b))
        → Good (next_mode p.framed p.room p.mode b) (xs ++ rest) (emitted (step p b) xs ++ out))
        → Good p.mode (b ∷ (xs ++ rest)) (((cond (is_data p) (b ∷ []) []) ++ emitted (step p b) xs) ++ out)
    by_open (inl o) next =
        subst (λ l. Good p.mode (b ∷ (xs ++ rest)) l)
        (sym (append_assoc (cond (is_data p) (b ∷ []) []) (emitted (step p b) xs) out))
        (back p.framed p.room p.mode b (xs ++ rest) (emitted (step p b) xs ++ out) s (next (sound_step p b s o)))
    by_open (inr o) next = absurd (lost xs (step p b) rest out (dead_after p.framed p.room b p.mode o) h)

-- the text of a chunked body, from its begin
chunked_before : (p : Place) (text rest out : List ℕ) → p.mode ≡ Digits 0 0 → Good (run p text).mode rest out
    → IsChunked (text ++ rest) (emitted p text ++ out)
chunked_before p text rest out m h =
    let s : IsTrue (is_sound p) = subst (λ k. IsTrue (is_sound_mode p.room k)) (sym m) (start_sound p.room) in
    chunked_of (text ++ rest) (emitted p text ++ out)
    (subst (λ k. Good k (text ++ rest) (emitted p text ++ out)) m (good_before text p rest out s h))
  where
    start_sound : (room : ℕ) → IsTrue (is_sound_mode room (Digits 0 0))
    start_sound room = grind (arith, nat_tests)

at_end : (m : Mode) → is_done_mode m ≡ true → Good m [] []
at_end Done e = (refl, refl)
at_end _ e = absurd (cc e)

pub only_chunked : (p : Place) (text : List ℕ) → p.mode ≡ Digits 0 0 → is_done (run p text) ≡ true
    → IsChunked text (emitted p text)
only_chunked p text m e =
    subst (λ l. IsChunked l (emitted p text)) (append-nil text)
    (subst (λ l. IsChunked (text ++ []) l) (append-nil (emitted p text))
    (chunked_before p text [] [] m (at_end (run p text).mode e)))

-- ---- what ends a body from a mode in which bytes are awaited

record Ends (m : Mode) : Type 0 where
  rest : List ℕ
  out : List ℕ
  good : Good m rest out

zeros : (n : ℕ) → (l : List ℕ) × (length l ≡ n)
zeros zero = ([], refl)
zeros (suc n) = let l = zeros n in (0 ∷ l.0, omega (arith, l.1))

pub no_chunk : IsChunked last_text []
unfolding digit_value
no_chunk = record {
  chunks = [];
  last = record { digits = 48 ∷ []; blanks = []; extension = [] };
  each = tt;
  end =
      record {
        some = omega arith;
        few = omega arith;
        hex = refl;
        gap = refl;
        extension = tt;
        short =
            omega arith;
        value = refl;
      };
  text_is = refl;
  body_is = refl;
}

data_ends : (n : ℕ) → Ends (Data n)
data_ends n = let l = zeros n in record {
  rest = l.0 ++ 13 ∷ 10 ∷ last_text;
  out = l.0 ++ [];
  good =
      record {
        bytes = l.0;
        more = last_text;
        after = [];
        size = l.1;
        split = refl;
        body_is = refl;
        chunked =
            no_chunk;
      };
}

record AfterEnds (size : ℕ) : Type 0 where
  rest : List ℕ
  out : List ℕ
  good : GoodAfter size rest out

after_ends : (size : ℕ) → AfterEnds size
after_ends zero = record { rest = 13 ∷ 10 ∷ []; out = []; good = inl (refl, refl, refl) }
after_ends (suc n) = let d = data_ends (suc n) in
    record { rest = d.rest; out = d.out; good = inr (omega arith, d.good) }

tail_ends : (line size : ℕ) → line ≤ 254 → (rest : List ℕ) × (out : List ℕ) × GoodTail GoodAfter line size rest out
tail_ends line size h = let a = after_ends size in (
  13 ∷ 10 ∷ a.rest,
  a.out,
  record {
    blanks = [];
    extension = [];
    rest = a.rest;
    gap = refl;
    ext = tt;
    short = omega (arith, h);
    split =
        refl;
    good = a.good;
  },
)

digits_end : (line size : ℕ) → line ≤ 16 → Ends (Digits line size)
unfolding digit_value
digits_end zero size h =
    let t = tail_ends 1 (size * 16 + 0) (omega arith) in
    record {
      rest = 48 ∷ t.0;
      out = t.1;
      good =
          record {
            digits = 48 ∷ [];
            after = t.0;
            some = omega arith;
            few = omega arith;
            hex = refl;
            split =
                refl;
            tail = t.2;
          };
    }
digits_end (suc line) size h =
    let t = tail_ends (suc line) size (omega (arith, h)) in
    let same : suc line + 0 ≡ suc line = omega arith in
    record {
      rest = t.0;
      out = t.1;
      good =
          record {
            digits = [];
            after = t.0;
            some = omega arith;
            few = omega (arith, h);
            hex = refl;
            split =
                refl;
            tail = subst (λ n. GoodTail GoodAfter n size t.0 t.1) (sym same) t.2;
          };
    }

ends : (room : ℕ) (m : Mode) → IsTrue (is_sound_mode room m) → is_open_mode m ≡ true → Ends m
ends room (Whole n) s o = record { rest = []; out = []; good = tt }
ends room Open s o = record { rest = []; out = []; good = tt }
ends room (Digits l n) s o = digits_end l n (grind (arith, nat_tests))
ends room (Blank l n) s o = let t = tail_ends l n (grind (arith, nat_tests)) in
    record { rest = t.0; out = t.1; good = t.2 }
ends room (Extension l n) s o =
    let short : l ≤ 254 = grind (arith, nat_tests) in
    let a = after_ends n in
    record {
      rest = 13 ∷ 10 ∷ a.rest;
      out = a.out;
      good =
          record { bytes = []; rest = a.rest; ok = refl; short = omega (arith, short); split = refl; good = a.good };
    }
ends room (LineFeed n) s o = let a = after_ends n in
    record { rest = 10 ∷ a.rest; out = a.out; good = (a.rest, refl, a.good) }
ends room (Data n) s o = data_ends n
ends room DataReturn s o = record { rest = 13 ∷ 10 ∷ last_text; out = []; good = (last_text, refl, no_chunk) }
ends room DataFeed s o = record { rest = 10 ∷ last_text; out = []; good = (last_text, refl, no_chunk) }
ends room LastReturn s o = record { rest = 13 ∷ 10 ∷ []; out = []; good = (refl, refl) }
ends room LastFeed s o = record { rest = 10 ∷ []; out = []; good = (refl, refl) }
ends room Done s o = absurd (cc o)
ends room Past s o = absurd (cc o)
ends room (Broken f) s o = absurd (cc o)

-- where bytes are awaited, some make a text of the grammar
pub begins_open : (p : Place) (text : List ℕ) → p.mode ≡ Digits 0 0 → IsTrue (is_sound (run p text))
    → is_open (run p text) ≡ true → (rest : List ℕ) × (body : List ℕ) × IsChunked (text ++ rest) body
begins_open p text m s o =
    let e = ends (run p text).room (run p text).mode s o in
    (e.rest, emitted p text ++ e.out, chunked_before p text e.rest e.out m e.good)
