-- What the machine does over bytes one after another.
use Rattle.std.proofs.Common.{suc, zero, Some, None, not, ◌^◌, lit<, ◌≡◌, ℕ, ◌+◌, ◌-◌, ◌*◌, ◌<◌, ◌≤◌, ◌∷◌, [], ◌++◌}
use Rattle.std.proofs.Common.{List, length, take, drop, Bool, true, false, refl, sym, ap, ◌∙◌, subst, arith}
use Rattle.std.proofs.Common.{get_or, append_assoc}
use Rattle.std.specs.Prelude.{IsTrue, if◌then◌else◌, nat_lt, ◌&&◌}
use Rattle.std.proofs.lemmas.List.{append-nil, take_more, length-take-le}
use Rattle.std.proofs.lemmas.Bool.Decides.{nat_tests}
use Rattle.std.proofs.lemmas.Grind.{pow_more}
use Rattle.std.proofs.Math.Nat.{pow-le-pow_right}
use Rattle.std.proofs.Math.Seq.{take-add}
use Rattle.body_frames.specs.declared.frame.BodyFault.{BodyFault}
use Rattle.body_frames.specs.declared.place.Mode.{Mode}
use Rattle.body_frames.specs.declared.place.Mode.TheVariants.{Whole, Open, Digits, Blank, Extension, LineFeed, Data}
use Rattle.body_frames.specs.declared.place.Mode.TheVariants.{DataReturn, DataFeed, LastReturn, LastFeed, Done, Past}
use Rattle.body_frames.specs.declared.place.Mode.TheVariants.{Broken}
use Rattle.body_frames.specs.declared.place.Place.{Place}
use Rattle.body_frames.specs.Machine.{step, run, emitted, is_data, is_open, is_open_mode, is_framing, is_sound}
use Rattle.body_frames.specs.Machine.{is_sound_mode, most_left, framing_left, next_mode, is_data_mode, after_digits}
use Rattle.body_frames.specs.Machine.{after_line, fault_of, fault_mode, is_done, is_done_mode, data_left}
use Rattle.body_frames.specs.Machine.{data_left_mode, jump, jump_mode}
use Rattle.body_frames.specs.Chunks.{digit_value}

pub run-append : (p : Place) (xs ys : List ℕ) → run p (xs ++ ys) ≡ run (run p xs) ys
unfolding run
run-append p [] ys = refl
run-append p (b ∷ bs) ys = run-append (step p b) bs ys

pub emitted-append : (p : Place) (xs ys : List ℕ) → emitted p (xs ++ ys) ≡ emitted p xs ++ emitted (run p xs) ys
unfolding run emitted
emitted-append p [] ys = refl
emitted-append p (b ∷ bs) ys =
    let front = if is_data p then b ∷ [] else [] in
    ap (λ l. front ++ l) (emitted-append (step p b) bs ys)
    ∙ sym (append_assoc front (emitted (step p b) bs) (emitted (run (step p b) bs) ys))

run_one : (p : Place) (b : ℕ) → run p (b ∷ []) ≡ step p b
unfolding run
run_one p b = refl

emitted_one : (p : Place) (b : ℕ) → emitted p (b ∷ []) ≡ (if is_data p then b ∷ [] else [])
unfolding emitted
emitted_one p b = append-nil _

-- one byte more
pub run_more : (p : Place) (piece : List ℕ) (i : ℕ) → i < length piece
    → run p (take (i + 1) piece) ≡ step (run p (take i piece)) (get_or piece i 0)
run_more p piece i within =
    ap (run p) (take_more piece i 0 within) ∙ run-append p (take i piece) (get_or piece i 0 ∷ [])
    ∙ run_one (run p (take i piece)) (get_or piece i 0)

pub emitted_more : (p : Place) (piece : List ℕ) (i : ℕ) → i < length piece
    → emitted p (take (i + 1) piece) ≡ emitted p (take i piece) ++
    (if is_data (run p (take i piece)) then get_or piece i 0 ∷ [] else [])
emitted_more p piece i within =
    ap (emitted p) (take_more piece i 0 within) ∙ emitted-append p (take i piece) (get_or piece i 0 ∷ [])
    ∙ ap (λ l. emitted p (take i piece) ++ l) (emitted_one (run p (take i piece)) (get_or piece i 0))

-- ---- what a byte keeps

pub size_more : (line size d : ℕ) → size < 16 ^ line → d < 16 → size * 16 + d < 16 ^ (line + 1)
size_more line size d small low =
    let e = pow_more 16 line in
    omega (arith, e)

pub size_fits : (line : ℕ) → line ≤ 16 → 16 ^ line ≤ 2 ^ 64
size_fits line small = pow-le-pow_right {n = 16} (lit< tt) small

sound_after : (room framed line size b : ℕ) → line ≤ 254
    → IsTrue (is_sound_mode room (after_digits framed line size b))
sound_after room framed line size b small = grind (arith, nat_tests)

sound_line : (room size : ℕ) → IsTrue (is_sound_mode room (after_line room size))
sound_line room size = grind (arith, nat_tests)

sound_digits : (room framed line size b : ℕ) → line ≤ 16 → size < 16 ^ line
    → IsTrue (is_sound_mode room (next_mode framed room (Digits line size) b))
sound_digits room framed line size b short small =
    let more = size_more line size (digit_value b) small in
    let other = sound_after room framed line size b (omega arith) in
    grind (arith, nat_tests)

pub sound_next : (framed room : ℕ) (mode : Mode) (b : ℕ) → IsTrue (is_sound_mode room mode) → is_open_mode mode ≡ true
    → IsTrue (is_sound_mode (if is_data_mode room mode then room - 1 else room) (next_mode framed room mode b))
sound_next framed room (Whole n) b h o = grind (arith, nat_tests)
sound_next framed room Open b h o = grind (arith, nat_tests)
sound_next framed room (Digits line size) b h o =
    sound_digits room framed line size b (grind (arith, nat_tests)) (grind (arith, nat_tests))
sound_next framed room (Blank line size) b h o = sound_after room framed line size b (grind (arith, nat_tests))
sound_next framed room (Extension line size) b h o = grind (arith, nat_tests)
sound_next framed room (LineFeed size) b h o = grind (arith, nat_tests)
sound_next framed room (Data n) b h o = grind (arith, nat_tests)
sound_next framed room DataReturn b h o = grind (arith, nat_tests)
sound_next framed room DataFeed b h o = grind (arith, nat_tests)
sound_next framed room LastReturn b h o = grind (arith, nat_tests)
sound_next framed room LastFeed b h o = grind (arith, nat_tests)
sound_next framed room Done b h o = absurd (cc o)
sound_next framed room Past b h o = absurd (cc o)
sound_next framed room (Broken fault) b h o = absurd (cc o)

left_after : (framed line size b : ℕ) → line ≤ 254 → framing_left (after_digits framed line size b) < 300 - line
left_after framed line size b small = grind (arith, nat_tests)

left_digits : (room framed line size b : ℕ) → line ≤ 16
    → framing_left (next_mode framed room (Digits line size) b) < 300 - line
left_digits room framed line size b short =
    let other = left_after framed line size b (omega arith) in
    grind (arith, nat_tests)

pub falls_next : (framed room : ℕ) (mode : Mode) (b : ℕ) → IsTrue (is_sound_mode room mode) → is_open_mode mode ≡ true
    → (if is_data_mode room mode then room - 1 else room) * 1000 + framing_left
    (next_mode framed room mode b) < room * 1000 + framing_left mode
falls_next framed room (Whole n) b h o = grind (arith, nat_tests)
falls_next framed room Open b h o = grind (arith, nat_tests)
falls_next framed room (Digits line size) b h o =
    let less = left_digits room framed line size b (grind (arith, nat_tests)) in
    omega arith
falls_next framed room (Blank line size) b h o =
    let less = left_after framed line size b (grind (arith, nat_tests)) in
    omega arith
falls_next framed room (Extension line size) b h o = grind (arith, nat_tests)
falls_next framed room (LineFeed size) b h o = grind (arith, nat_tests)
falls_next framed room (Data n) b h o = grind (arith, nat_tests)
falls_next framed room DataReturn b h o = grind (arith, nat_tests)
falls_next framed room DataFeed b h o = grind (arith, nat_tests)
falls_next framed room LastReturn b h o = grind (arith, nat_tests)
falls_next framed room LastFeed b h o = grind (arith, nat_tests)
falls_next framed room Done b h o = absurd (cc o)
falls_next framed room Past b h o = absurd (cc o)
falls_next framed room (Broken fault) b h o = absurd (cc o)

pub sound_step : (p : Place) (b : ℕ) → IsTrue (is_sound p) → is_open p ≡ true → IsTrue (is_sound (step p b))
sound_step p b h o = sound_next p.framed p.room p.mode b h o

pub falls_step : (p : Place) (b : ℕ) → IsTrue (is_sound p) → is_open p ≡ true → most_left (step p b) < most_left p
falls_step p b h o = falls_next p.framed p.room p.mode b h o

-- ---- a byte of the framing, and a byte of the body

pub framing_open : (p : Place) → is_framing p ≡ true → is_open p ≡ true
framing_open p h = grind (arith)

pub framing_not_data : (p : Place) → is_framing p ≡ true → is_data p ≡ false
framing_not_data p h = both (is_open p) (is_data p) h
  where
    both : (a b : Bool) → a && not b ≡ true → b ≡ false
    both true false e = refl
    both true true e = absurd (cc e)
    both false b e = absurd (cc e)

pub data_open : (p : Place) → is_data p ≡ true → is_open p ≡ true
data_open p h = by_mode p.room p.mode h
  where
    by_mode : (room : ℕ) (m : Mode) → is_data_mode room m ≡ true → is_open_mode m ≡ true
    by_mode room (Whole n) e = refl
    by_mode room Open e = refl
    by_mode room (Data n) e = refl
    by_mode room (Digits l s) e = refl
    by_mode room (Blank l s) e = refl
    by_mode room (Extension l s) e = refl
    by_mode room (LineFeed s) e = refl
    by_mode room DataReturn e = refl
    by_mode room DataFeed e = refl
    by_mode room LastReturn e = refl
    by_mode room LastFeed e = refl
    by_mode room Done e = absurd (cc e)
    by_mode room Past e = absurd (cc e)
    by_mode room (Broken f) e = absurd (cc e)

pub framing_emits : (p : Place) (piece : List ℕ) (i : ℕ) → i < length piece → emitted p (take i piece) ≡ []
    → is_framing (run p (take i piece)) ≡ true → emitted p (take (i + 1) piece) ≡ []
framing_emits p piece i within nothing framing =
    emitted_more p piece i within ∙ rw (nothing, framing_not_data (run p (take i piece)) framing) refl

pub data_emits : (p : Place) (piece : List ℕ) (i : ℕ) → i < length piece → emitted p (take i piece) ≡ take i piece
    → is_data (run p (take i piece)) ≡ true → emitted p (take (i + 1) piece) ≡ take (i + 1) piece
data_emits p piece i within same is =
    emitted_more p piece i within ∙ rw (same, is) (sym (take_more piece i 0 within))

pub data_whole : (p : Place) (b : ℕ) → is_data p ≡ true → fault_of (step p b) ≡ None
data_whole p b h = by_mode p.framed p.room p.mode h
  where
    by_mode : (framed room : ℕ) (m : Mode) → is_data_mode room m ≡ true
        → fault_mode (next_mode framed room m b) ≡ None
    by_mode framed room (Whole n) e = grind (arith, nat_tests)
    by_mode framed room Open e = rw (e) refl
    by_mode framed room (Data n) e = grind (arith, nat_tests)
    by_mode framed room (Digits l s) e = absurd (cc e)
    by_mode framed room (Blank l s) e = absurd (cc e)
    by_mode framed room (Extension l s) e = absurd (cc e)
    by_mode framed room (LineFeed s) e = absurd (cc e)
    by_mode framed room DataReturn e = absurd (cc e)
    by_mode framed room DataFeed e = absurd (cc e)
    by_mode framed room LastReturn e = absurd (cc e)
    by_mode framed room LastFeed e = absurd (cc e)
    by_mode framed room Done e = absurd (cc e)
    by_mode framed room Past e = absurd (cc e)
    by_mode framed room (Broken f) e = absurd (cc e)

pub take_both : (xs : List ℕ) (n m : ℕ) → take (n + m) xs ≡ take n xs ++ take m (drop n xs)
take_both xs n m = take-add n m xs

pub run_nothing : (p : Place) → p ≡ run p []
unfolding run
run_nothing p = refl

pub emitted_nothing : (p : Place) → emitted p [] ≡ []
unfolding emitted
emitted_nothing p = refl

pub step_run : (p q r : Place) (piece : List ℕ) (i : ℕ) → i < length piece → q ≡ run p (take i piece)
    → r ≡ step q (get_or piece i 0) → r ≡ run p (take (i + 1) piece)
step_run p q r piece i within e f = f ∙ ap (λ s. step s (get_or piece i 0)) e ∙ sym (run_more p piece i within)

-- two parts of a piece, one after the other
pub run_parts : (p q r : Place) (piece : List ℕ) (n m : ℕ) → q ≡ run p (take n piece)
    → r ≡ run q (take m (drop n piece)) → r ≡ run p (take (n + m) piece)
run_parts p q r piece n m e f =
    f ∙ ap (λ s. run s (take m (drop n piece))) e ∙ sym (run-append p (take n piece) (take m (drop n piece)))
    ∙ ap (run p) (sym (take-add n m piece))

pub emitted_parts : (p q : Place) (piece : List ℕ) (n m : ℕ) → q ≡ run p (take n piece)
    → emitted p (take n piece) ≡ [] → emitted q (take m (drop n piece)) ≡ take m (drop n piece)
    → emitted p (take (n + m) piece) ≡ take (n + m - n) (drop n piece)
emitted_parts p q piece n m e f g =
    let size : n + m - n ≡ m = omega arith in
    let at : emitted (run p (take n piece)) (take m (drop n piece)) ≡ take m (drop n piece) = rw (← e) g in
    ap (emitted p) (take-add n m piece) ∙ emitted-append p (take n piece) (take m (drop n piece))
    ∙ rw (f, at, size) refl

none_taken : (p q r : Place) → is_open p ≡ true → q ≡ p → is_framing q ≡ false → r ≡ q → is_data r ≡ false → ⊥
none_taken p q r awaits e stops f ends =
    let framing : is_framing p ≡ false = subst (λ s. is_framing s ≡ false) e stops in
    let is : is_data p ≡ false = subst (λ s. is_data s ≡ false) (f ∙ e) ends in
    let both : is_framing p ≡ true = rw (awaits, is) refl in
    cc

pub some_taken : (p q r : Place) (piece : List ℕ) (n m : ℕ) → 0 < length piece → is_open p ≡ true
    → q ≡ run p (take n piece) → (n < length piece → is_framing q ≡ false)
    → r ≡ run q (take m (drop n piece)) → (m < length (drop n piece) → is_data r ≡ false) → 0 < n + m
some_taken p q r piece (suc n) m more awaits e stops f ends = omega arith
some_taken p q r piece zero (suc m) more awaits e stops f ends = omega arith
some_taken p q r piece zero zero more awaits e stops f ends =
    absurd (none_taken p q r awaits (e ∙ sym (run_nothing p)) (stops more) (f ∙ sym (run_nothing q)) (ends more))

pub open_or_done : (p : Place) → IsTrue (is_sound p) → fault_of p ≡ None → is_open p ≡ not (is_done p)
open_or_done p h e = by_mode p.room p.mode h e
  where
    by_mode : (room : ℕ) (m : Mode) → IsTrue (is_sound_mode room m) → fault_mode m ≡ None
        → is_open_mode m ≡ not (is_done_mode m)
    by_mode room (Whole n) h e = refl
    by_mode room Open h e = refl
    by_mode room (Data n) h e = refl
    by_mode room (Digits l s) h e = refl
    by_mode room (Blank l s) h e = refl
    by_mode room (Extension l s) h e = refl
    by_mode room (LineFeed s) h e = refl
    by_mode room DataReturn h e = refl
    by_mode room DataFeed h e = refl
    by_mode room LastReturn h e = refl
    by_mode room LastFeed h e = refl
    by_mode room Done h e = refl
    by_mode room Past h e = absurd (grind (arith, nat_tests))
    by_mode room (Broken f) h e = absurd (cc e)

-- ---- bytes of the body in one range

-- a byte of the body, and how many are left after it
record OneLess (framed room : ℕ) (m : Mode) (b : ℕ) : Type 0 where
  is : is_data_mode room m ≡ true
  left : data_left_mode (room - 1) (next_mode framed room m b) ≡ data_left_mode room m - 1
  moved : next_mode framed room m b ≡ jump_mode m 1

one_less : (framed room : ℕ) (m : Mode) (b : ℕ) → 0 < data_left_mode room m → OneLess framed room m b
one_less framed room (Whole n) b h =
    record { is = refl; left = grind (arith, nat_tests); moved = grind (arith, nat_tests) }
one_less framed room Open b h =
    let some : nat_lt 0 room ≡ true = grind (arith, nat_tests) in
    record { is = some; left = rw some refl; moved = rw some refl }
one_less framed room (Data n) b h =
    record { is = refl; left = grind (arith, nat_tests); moved = grind (arith, nat_tests) }
one_less framed room (Digits l s) b h = absurd (omega (arith, h))
one_less framed room (Blank l s) b h = absurd (omega (arith, h))
one_less framed room (Extension l s) b h = absurd (omega (arith, h))
one_less framed room (LineFeed s) b h = absurd (omega (arith, h))
one_less framed room DataReturn b h = absurd (omega (arith, h))
one_less framed room DataFeed b h = absurd (omega (arith, h))
one_less framed room LastReturn b h = absurd (omega (arith, h))
one_less framed room LastFeed b h = absurd (omega (arith, h))
one_less framed room Done b h = absurd (omega (arith, h))
one_less framed room Past b h = absurd (omega (arith, h))
one_less framed room (Broken f) b h = absurd (omega (arith, h))

jump_more : (room : ℕ) (m : Mode) (k : ℕ) → 0 < k → k + 1 ≤ data_left_mode room m
    → jump_mode (jump_mode m 1) k ≡ jump_mode m (k + 1)
jump_more room (Whole n) k h f = grind (arith, nat_tests)
jump_more room Open k h f = refl
jump_more room (Data n) k h f = grind (arith, nat_tests)
jump_more room (Digits l s) k h f = refl
jump_more room (Blank l s) k h f = refl
jump_more room (Extension l s) k h f = refl
jump_more room (LineFeed s) k h f = refl
jump_more room DataReturn k h f = refl
jump_more room DataFeed k h f = refl
jump_more room LastReturn k h f = refl
jump_more room LastFeed k h f = refl
jump_more room Done k h f = refl
jump_more room Past k h f = refl
jump_more room (Broken g) k h f = refl

abbrev place_at : Mode → ℕ → ℕ → Place
place_at m f r = record { mode = m; framed = f; room = r }

place_same : (m n : Mode) (f g r s : ℕ) → m ≡ n → f ≡ g → r ≡ s → place_at m f r ≡ place_at n g s
place_same m n f g r s a b c = cc

jump_step : (p : Place) (b k : ℕ) → 0 < k → k + 1 ≤ data_left p → jump (step p b) k ≡ jump p (k + 1)
jump_step p b k some few =
    let one = one_less p.framed p.room p.mode b (omega (arith, few)) in
    let mode : jump_mode (step p b).mode k ≡ jump_mode p.mode (k + 1) =
    ap (λ m. jump_mode m k) one.moved ∙ jump_more p.room p.mode k some few in
    let room : (step p b).room ≡ p.room - 1 = rw one.is refl in
    place_same _ _ _ _ _ _ mode (omega arith) (omega (arith, room))

record Jumps (p : Place) (xs : List ℕ) : Type 0 where
  moved : run p xs ≡ jump p (length xs)
  body : emitted p xs ≡ xs

jumps : (xs : List ℕ) (p : Place) (b : ℕ) → length (b ∷ xs) ≤ data_left p → Jumps p (b ∷ xs)
unfolding run emitted
jumps [] p b h =
    let one = one_less p.framed p.room p.mode b (omega (arith, h)) in
    record { moved = rw (one.is, one.moved) refl; body = rw one.is refl }
jumps (c ∷ xs) p b h =
    let one = one_less p.framed p.room p.mode b (omega (arith, h)) in
    let room : (step p b).room ≡ p.room - 1 = rw one.is refl in
    let more : data_left (step p b) ≡ data_left p - 1 = ap (λ r. data_left_mode r (step p b).mode) room ∙ one.left in
    let rest = jumps xs (step p b) c (omega (arith, h, more)) in
    let size : length (c ∷ xs) + 1 ≡ length (b ∷ c ∷ xs) = omega arith in
    record {
      moved = rest.moved ∙ jump_step p b (length (c ∷ xs)) (omega arith) (omega (arith, h)) ∙ ap (jump p) size;
      body = ap (λ t. (if t then b ∷ [] else []) ++ emitted (step p b) (c ∷ xs)) one.is ∙ ap (λ l. b ∷ l) rest.body;
    }

jumps_all : (xs : List ℕ) (p : Place) → 0 < length xs → length xs ≤ data_left p → Jumps p xs
jumps_all [] p h f = absurd (omega (arith, h))
jumps_all (b ∷ xs) p h f = jumps xs p b f

-- a range of the body's bytes at the begin of a piece
pub record Passed (p q : Place) (xs : List ℕ) : Type 0 where
  pub moved : q ≡ run p xs
  pub body : emitted p xs ≡ xs

pub range_passed : (p q : Place) (piece : List ℕ) (n : ℕ) → 0 < n → n ≤ length piece → n ≤ data_left p → q ≡ jump p n
    → Passed p q (take n piece)
range_passed p q piece n some within few is =
    let size : length (take n piece) ≡ n = length-take-le n piece within in
    let j = jumps_all (take n piece) p (omega (arith, size, some)) (omega (arith, size, few)) in
    record { moved = is ∙ sym (j.moved ∙ ap (jump p) size); body = j.body }

pub nothing_passed : (p : Place) (piece : List ℕ) (n : ℕ) → n ≡ 0 → Passed p p (take n piece)
unfolding run emitted
nothing_passed p piece zero e = record { moved = refl; body = refl }
nothing_passed p piece (suc n) e = absurd (omega (arith, e))

-- where no byte of the framing is awaited, none was passed
pub none_passed : (p q : Place) (piece : List ℕ) (n : ℕ) → q ≡ run p (take n piece) → (is_framing p ≡ false → n ≡ 0)
    → is_framing q ≡ true → is_framing p ≡ false → ⊥
none_passed p q piece n e h is none =
    let same : q ≡ p = e ∙ ap (λ k. run p (take k piece)) (h none) ∙ sym (run_nothing p) in
    cc (is, ap is_framing same, none)

pub broken_closed : (p : Place) (f : BodyFault) → fault_of p ≡ Some f → is_framing p ≡ false
broken_closed p f e = by_mode p.room p.mode e
  where
    by_mode : (room : ℕ) (m : Mode) → fault_mode m ≡ Some f → is_open_mode m && not (is_data_mode room m) ≡ false
    by_mode room (Broken g) e = refl
    by_mode room _ e = absurd (cc e)

pub broken_same : (p q : Place) (piece : List ℕ) (n : ℕ) (f : BodyFault) → fault_of p ≡ Some f
    → q ≡ run p (take n piece) → (is_framing p ≡ false → n ≡ 0) → q ≡ p
broken_same p q piece n f broken e h =
    e ∙ ap (λ k. run p (take k piece)) (h (broken_closed p f broken)) ∙ sym (run_nothing p)

-- a fault stays
pub broken_run : (xs : List ℕ) (p : Place) (f : BodyFault) → fault_of p ≡ Some f → fault_of (run p xs) ≡ Some f
unfolding run
broken_run [] p f e = e
broken_run (b ∷ xs) p f e = broken_run xs (step p b) f (by_mode p.framed p.room p.mode e)
  where
    by_mode : (framed room : ℕ) (m : Mode) → fault_mode m ≡ Some f → fault_mode (next_mode framed room m b) ≡ Some f
    by_mode framed room (Broken g) e = e
    by_mode framed room _ e = absurd (cc e)
