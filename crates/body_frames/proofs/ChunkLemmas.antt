-- The machine takes each text of the grammar.
use Rattle.std.proofs.Common.{◌≡◌, ℕ, ◌+◌, ◌-◌, ◌*◌, ◌<◌, ◌≤◌, ◌==◌, ◌∷◌, [], ◌++◌, List, length}
use Rattle.std.proofs.Common.{Bool, true, false, ◌&&◌, nat_lt, refl, sym, ap, ◌∙◌, subst, arith, append_assoc}
use Rattle.std.proofs.Common.{append-nil}
use Rattle.std.specs.Prelude.{nat_le}
use Rattle.std.specs.List.{list_all, flat_map}
use Rattle.std.proofs.lemmas.List.{length-append}
use Rattle.std.proofs.lemmas.Bool.Decides.{nat_tests}
use Rattle.body_frames.specs.declared.place.Mode.{Mode}
use Rattle.body_frames.specs.declared.place.Mode.TheVariants.{Digits, Blank, Extension, LineFeed, Data}
use Rattle.body_frames.specs.declared.place.Mode.TheVariants.{DataReturn, DataFeed, LastReturn, LastFeed, Done}
use Rattle.body_frames.specs.declared.place.Place.{Place}
use Rattle.body_frames.specs.Machine.{run, emitted, is_data, is_data_mode, next_mode, after_digits, after_line}
use Rattle.body_frames.specs.Machine.{is_done, is_done_mode}
use Rattle.body_frames.specs.Chunks.{digit_value, is_blank}
use Rattle.body_frames.specs.Chunks.{is_hex, value_of, is_extension_byte, IsExtension, Line, print_line, IsLine}
use Rattle.body_frames.specs.Chunks.{Chunk, print_chunk, AreChunks, IsChunked}
use Rattle.body_frames.proofs.MachineLemmas.{run-append, emitted-append, run_nothing, emitted_nothing}

-- from a mode with so much room the bytes lead to another, with these of the body
pub record Leads (p : Place) (xs : List ℕ) (m : Mode) (room : ℕ) (out : List ℕ) : Type 0 where
  pub mode : (run p xs).mode ≡ m
  pub left : (run p xs).room ≡ room
  pub body : emitted p xs ≡ out

abbrev pub Passes : Mode → ℕ → List ℕ → Mode → ℕ → List ℕ → Type 0
Passes m r xs n s out = (p : Place) → p.mode ≡ m → p.room ≡ r → Leads p xs n s out

passes_nil : (m : Mode) (r : ℕ) → Passes m r [] m r []
passes_nil m r p e f =
    record {
      mode = ap (λ q. q.mode) (sym (run_nothing p)) ∙ e;
      left = ap (λ q. q.room) (sym (run_nothing p))
          ∙ f;
      body = emitted_nothing p;
    }

pub passes_append : (m n k : Mode) (r s t : ℕ) (xs ys o u : List ℕ) → Passes m r xs n s o → Passes n s ys k t u
    → Passes m r (xs ++ ys) k t (o ++ u)
passes_append m n k r s t xs ys o u a b p e f =
    let x = a p e f in
    let y = b (run p xs) x.mode x.left in
    record {
      mode = ap (λ q. q.mode) (run-append p xs ys) ∙ y.mode;
      left = ap (λ q. q.room) (run-append p xs ys) ∙ y.left;
      body = emitted-append p xs ys ∙ ap (λ l. l ++ emitted (run p xs) ys) x.body ∙ ap (λ l. o ++ l) y.body;
    }

-- one byte of the framing
passes_one : (m n : Mode) (r b : ℕ) → is_data_mode r m ≡ false → ((framed : ℕ) → next_mode framed r m b ≡ n)
    → Passes m r (b ∷ []) n r []
unfolding run emitted
passes_one m n r b e f p g h =
    let off : is_data p ≡ false = ap (λ k. is_data_mode p.room k) g ∙ ap (λ k. is_data_mode k m) h ∙ e in
    record {
      mode = ap (λ k. next_mode p.framed p.room k b) g ∙ ap (λ k. next_mode p.framed k m b) h ∙ f p.framed;
      left = rw off h;
      body = rw off refl;
    }

-- one byte of the body
passes_data : (m n : Mode) (r b : ℕ) → is_data_mode r m ≡ true → ((framed : ℕ) → next_mode framed r m b ≡ n)
    → Passes m r (b ∷ []) n (r - 1) (b ∷ [])
unfolding run emitted
passes_data m n r b e f p g h =
    let on : is_data p ≡ true = ap (λ k. is_data_mode p.room k) g ∙ ap (λ k. is_data_mode k m) h ∙ e in
    record {
      mode = ap (λ k. next_mode p.framed p.room k b) g ∙ ap (λ k. next_mode p.framed k m b) h ∙ f p.framed;
      left = rw on (ap (λ k. k - 1) h);
      body = rw on refl;
    }

-- ---- a size line

digit_next : (framed room line size b : ℕ) → is_hex b ≡ true → line < 16
    → next_mode framed room (Digits line size) b ≡ Digits (line + 1) (size * 16 + digit_value b)
digit_next framed room line size b e h =
    let few : nat_lt line 16 ≡ true = grind (arith, nat_tests) in
    rw (e, few) refl

list_all_cons : (t u : Bool) → t && u ≡ true → (t ≡ true) × (u ≡ true)
list_all_cons true u e = (refl, e)
list_all_cons false u e = absurd (cc e)

pass_digits : (ds : List ℕ) (line end size room : ℕ) → list_all is_hex ds ≡ true → end ≡ line + length ds → end ≤ 16
    → Passes (Digits line size) room ds (Digits end (value_of size ds)) room []
pass_digits [] line end size room h e f =
    let same : end ≡ line = omega arith in
    subst (λ k. Passes (Digits line size) room [] (Digits k size) room []) (sym same)
    (passes_nil (Digits line size) room)
pass_digits (d ∷ ds) line end size room h e f =
    let both = list_all_cons (is_hex d) (list_all is_hex ds) h in
    let low : line < 16 = omega arith in
    passes_append (Digits line size) (Digits (line + 1) (size * 16 + digit_value d))
    (Digits end (value_of size (d ∷ ds))) room room room (d ∷ []) ds [] []
    (passes_one (Digits line size) (Digits (line + 1) (size * 16 + digit_value d)) room d refl
    (λ framed. digit_next framed room line size d both.0 low))
    (pass_digits ds (line + 1) end (size * 16 + digit_value d) room both.1 (omega arith) f)

-- a mode after the digits of a size line
record IsTail (m : Mode) (line size : ℕ) : Type 0 where
  framing : (room : ℕ) → is_data_mode room m ≡ false
  next : (framed room b : ℕ) → is_hex b ≡ false → next_mode framed room m b ≡ after_digits framed line size b

blank_tail : (line size : ℕ) → IsTail (Blank line size) line size
blank_tail line size = record { framing = λ room. refl; next = λ framed room b e. refl }

digits_tail : (line size : ℕ) → 0 < line → IsTail (Digits line size) line size
digits_tail line size h = record {
  framing = λ room. refl;
  next = λ framed room b e.
      let some : line == 0 ≡ false = grind (arith, nat_tests) in
      rw (e, some) refl;
}

blank_no_hex : (b : ℕ) → is_blank b ≡ true → is_hex b ≡ false
unfolding digit_value
blank_no_hex b h = grind (arith, nat_tests)

return_no_hex : is_hex 13 ≡ false
unfolding digit_value
return_no_hex = refl

semicolon_no_hex : is_hex 59 ≡ false
unfolding digit_value
semicolon_no_hex = refl

blank_next : (framed line size b : ℕ) → is_blank b ≡ true → line < 254
    → after_digits framed line size b ≡ Blank (line + 1) size
blank_next framed line size b e h =
    let few : nat_lt line 254 ≡ true = grind (arith, nat_tests) in
    let other : b == 13 ≡ false = grind (arith, nat_tests) in
    rw (other, e, few) refl

semicolon_next : (framed line size : ℕ) → line < 254 → after_digits framed line size 59 ≡ Extension (line + 1) size
semicolon_next framed line size h =
    let few : nat_lt line 254 ≡ true = grind (arith, nat_tests) in
    rw few refl

extension_next : (framed room line size b : ℕ) → is_extension_byte b ≡ true → line < 254
    → next_mode framed room (Extension line size) b ≡ Extension (line + 1) size
extension_next framed room line size b e h =
    let few : nat_lt line 254 ≡ true = grind (arith, nat_tests) in
    let other : b == 13 ≡ false = grind (arith, nat_tests) in
    let more : b == 10 ≡ false = grind (arith, nat_tests) in
    rw (other, more, few) refl

record BlanksPass (m : Mode) (end size room : ℕ) (bs : List ℕ) : Type 0 where
  to : Mode
  tail : IsTail to end size
  pass : Passes m room bs to room []

pass_blanks : (bs : List ℕ) (m : Mode) (line end size room : ℕ) → IsTail m line size → list_all is_blank bs ≡ true
    → end ≡ line + length bs → end ≤ 254 → BlanksPass m end size room bs
pass_blanks [] m line end size room t h e f =
    let same : end ≡ line = omega arith in
    record { to = m; tail = subst (λ k. IsTail m k size) (sym same) t; pass = passes_nil m room }
pass_blanks (b ∷ bs) m line end size room t h e f =
    let both = list_all_cons (is_blank b) (list_all is_blank bs) h in
    let low : line < 254 = omega arith in
    let ih =
    pass_blanks bs (Blank (line + 1) size) (line + 1) end size room (blank_tail (line + 1) size) both.1
    (omega arith) f in
    record {
      to = ih.to;
      tail = ih.tail;
      pass = passes_append m (Blank (line + 1) size) ih.to room room room (b ∷ []) bs [] []
          (passes_one m (Blank (line + 1) size) room b (t.framing room)
          (λ framed. t.next framed room b (blank_no_hex b both.0) ∙ blank_next framed line size b both.0 low))
          ih.pass;
    }

pass_extension : (bs : List ℕ) (line end size room : ℕ) → list_all is_extension_byte bs ≡ true
    → end ≡ line + length bs → end ≤ 254 → Passes (Extension line size) room bs (Extension end size) room []
pass_extension [] line end size room h e f =
    let same : end ≡ line = omega arith in
    subst (λ k. Passes (Extension line size) room [] (Extension k size) room []) (sym same)
    (passes_nil (Extension line size) room)
pass_extension (b ∷ bs) line end size room h e f =
    let both = list_all_cons (is_extension_byte b) (list_all is_extension_byte bs) h in
    let low : line < 254 = omega arith in
    passes_append (Extension line size) (Extension (line + 1) size) (Extension end size) room room room
    (b ∷ []) bs [] []
    (passes_one (Extension line size) (Extension (line + 1) size) room b refl
    (λ framed. extension_next framed room line size b both.0 low))
    (pass_extension bs (line + 1) end size room both.1 (omega arith) f)

pass_tail : (ext : List ℕ) (m : Mode) (line size room : ℕ) → IsTail m line size → IsExtension ext
    → line + length ext ≤ 254 → Passes m room (ext ++ 13 ∷ []) (LineFeed size) room []
pass_tail [] m line size room t h f =
    passes_one m (LineFeed size) room 13 (t.framing room) (λ framed. t.next framed room 13 return_no_hex)
pass_tail (b ∷ bs) m line size room t h f =
    let low : line < 254 = omega arith in
    let first : Passes m room (59 ∷ []) (Extension (line + 1) size) room [] =
    passes_one m (Extension (line + 1) size) room 59 (t.framing room)
    (λ framed. t.next framed room 59 semicolon_no_hex ∙ semicolon_next framed line size low) in
    let more = pass_extension bs (line + 1) (line + 1 + length bs) size room h.1 refl (omega arith) in
    let last = passes_one (Extension (line + 1 + length bs) size) (LineFeed size) room 13 refl (λ framed. refl) in
    let rest =
    passes_append (Extension (line + 1) size) (Extension (line + 1 + length bs) size)
    (LineFeed size) room room room bs (13 ∷ []) [] [] more last in
    subst (λ k. Passes m room (k ∷ (bs ++ 13 ∷ [])) (LineFeed size) room []) (sym h.0)
    (passes_append m (Extension (line + 1) size) (LineFeed size) room room room (59 ∷ [])
    (bs ++ 13 ∷ []) [] [] first rest)

pub pass_line : (l : Line) (size room : ℕ) → IsLine l size
    → Passes (Digits 0 0) room (print_line l) (after_line room size) room []
pass_line l size room h =
    let n = length l.digits in
    let digits = pass_digits l.digits 0 n 0 room h.hex (omega arith) h.few in
    let value = subst (λ k. Passes (Digits 0 0) room l.digits (Digits n k) room []) h.value digits in
    let gap =
    pass_blanks l.blanks (Digits n size) n (n + length l.blanks) size room (digits_tail n size h.some) h.gap refl
    (omega (arith, h.short)) in
    let tail = pass_tail l.extension gap.to (n + length l.blanks) size room gap.tail h.extension h.short in
    let feed = passes_one (LineFeed size) (after_line room size) room 10 refl (λ framed. refl) in
    let end =
    subst (λ k. Passes gap.to room k (after_line room size) room [])
    (append_assoc l.extension (13 ∷ []) (10 ∷ []))
    (passes_append gap.to (LineFeed size) (after_line room size) room room room (l.extension ++ 13 ∷ [])
    (10 ∷ []) [] [] tail feed) in
    passes_append (Digits 0 0) (Digits n size) (after_line room size) room room room l.digits
    (l.blanks ++ (l.extension ++ 13 ∷ 10 ∷ [])) [] [] value
    (passes_append (Digits n size) gap.to (after_line room size) room room room l.blanks
    (l.extension ++ 13 ∷ 10 ∷ []) [] [] gap.pass end)

-- ---- data

data_last : (framed room b : ℕ) → next_mode framed room (Data 1) b ≡ DataReturn
data_last framed room b = refl

data_next : (framed room n b : ℕ) → 1 < n → next_mode framed room (Data n) b ≡ Data (n - 1)
data_next framed room n b h =
    let more : nat_lt 1 n ≡ true = grind (arith, nat_tests) in
    rw more refl

pass_bytes : (b : ℕ) (bs : List ℕ) (n room left : ℕ) → n ≡ length bs + 1 → left ≡ room - n
    → Passes (Data n) room (b ∷ bs) DataReturn left (b ∷ bs)
pass_bytes b [] n room left e f =
    let one : n ≡ 1 = omega arith in
    let rest : left ≡ room - 1 = omega arith in
    subst (λ k. Passes (Data k) room (b ∷ []) DataReturn left (b ∷ [])) (sym one)
    (subst (λ k. Passes (Data 1) room (b ∷ []) DataReturn k (b ∷ [])) (sym rest)
    (passes_data (Data 1) DataReturn room b refl (λ framed. data_last framed room b)))
pass_bytes b (c ∷ bs) n room left e f =
    passes_append (Data n) (Data (n - 1)) DataReturn room (room - 1) left (b ∷ []) (c ∷ bs) (b ∷ []) (c ∷ bs)
    (passes_data (Data n) (Data (n - 1)) room b refl (λ framed. data_next framed room n b (omega arith)))
    (pass_bytes c bs (n - 1) (room - 1) left (omega arith) (omega arith))

line_to_data : (room n : ℕ) → 0 < n → n ≤ room → after_line room n ≡ Data n
line_to_data room n h k =
    let some : n == 0 ≡ false = grind (arith, nat_tests) in
    let fits : nat_le n room ≡ true = grind (arith, nat_tests) in
    rw (some, fits) refl

pass_chunk : (l : Line) (bytes : List ℕ) (room left : ℕ) → IsLine l (length bytes) → 0 < length bytes
    → length bytes ≤ room → left ≡ room - length bytes
    → Passes (Digits 0 0) room (print_line l ++ (bytes ++ 13 ∷ 10 ∷ [])) (Digits 0 0) left bytes
pass_chunk l [] room left h some fits e = absurd (omega arith)
pass_chunk l (b ∷ bs) room left h some fits e =
    let n = length (b ∷ bs) in
    let line =
    subst (λ m. Passes (Digits 0 0) room (print_line l) m room []) (line_to_data room n some fits)
    (pass_line l n room h) in
    let bytes = pass_bytes b bs n room left (omega arith) e in
    let cr = passes_one DataReturn DataFeed left 13 refl (λ framed. refl) in
    let lf = passes_one DataFeed (Digits 0 0) left 10 refl (λ framed. refl) in
    let ends = passes_append DataReturn DataFeed (Digits 0 0) left left left (13 ∷ []) (10 ∷ []) [] [] cr lf in
    let both_parts =
    passes_append (Data n) DataReturn (Digits 0 0) room left left (b ∷ bs) (13 ∷ 10 ∷ [])
    (b ∷ bs) [] bytes ends in
    subst (λ o. Passes (Digits 0 0) room (print_line l ++ ((b ∷ bs) ++ 13 ∷ 10 ∷ [])) (Digits 0 0) left o)
    (append-nil (b ∷ bs))
    (passes_append (Digits 0 0) (Data n) (Digits 0 0) room room left (print_line l) ((b ∷ bs) ++ 13 ∷ 10 ∷ []) []
    ((b ∷ bs) ++ []) line both_parts)

bytes_of : List Chunk → List ℕ
bytes_of cs = flat_map (λ c. c.bytes) cs

pub pass_chunks : (cs : List Chunk) (room left : ℕ) → AreChunks cs → length (flat_map (λ c. c.bytes) cs) ≤ room
    → left ≡ room - length (flat_map (λ c. c.bytes) cs)
    → Passes (Digits 0 0) room (flat_map print_chunk cs) (Digits 0 0) left (flat_map (λ c. c.bytes) cs)
pass_chunks [] room left h fits e =
    let same : left ≡ room = omega arith in
    subst (λ k. Passes (Digits 0 0) room [] (Digits 0 0) k []) (sym same) (passes_nil (Digits 0 0) room)
pass_chunks (c ∷ cs) room left h fits e =
    let size = length-append c.bytes (flat_map (λ k. k.bytes) cs) in
    let one = pass_chunk c.line c.bytes room (room - length c.bytes) h.0 h.1 (omega (arith, size, fits)) refl in
    let more =
    pass_chunks cs (room - length c.bytes) left h.2 (omega (arith, size, fits)) (omega (arith, size, fits, e)) in
    passes_append (Digits 0 0) (Digits 0 0) (Digits 0 0) room (room - length c.bytes) left (print_chunk c)
    (flat_map print_chunk cs) c.bytes (flat_map (λ k. k.bytes) cs) one more

pub takes_chunked : (p : Place) (text body : List ℕ) → p.mode ≡ Digits 0 0 → IsChunked text body
    → length body ≤ p.room → (is_done (run p text) ≡ true) × (emitted p text ≡ body)
takes_chunked p text body m h fits =
    let cs = h.chunks in
    let low : length (flat_map (λ c. c.bytes) cs) ≤ p.room = subst (λ l. length l ≤ p.room) h.body_is fits in
    let left = p.room - length (flat_map (λ c. c.bytes) cs) in
    let chunks = pass_chunks cs p.room left h.each low refl in
    let line = pass_line h.last 0 left h.end in
    let cr = passes_one LastReturn LastFeed left 13 refl (λ framed. refl) in
    let lf = passes_one LastFeed Done left 10 refl (λ framed. refl) in
    let ends = passes_append LastReturn LastFeed Done left left left (13 ∷ []) (10 ∷ []) [] [] cr lf in
    let last =
    passes_append (Digits 0 0) LastReturn Done left left left (print_line h.last)
    (13 ∷ 10 ∷ []) [] [] line ends in
    let all =
    passes_append (Digits 0 0) (Digits 0 0) Done p.room left left (flat_map print_chunk cs)
    (print_line h.last ++ 13 ∷ 10 ∷ []) (flat_map (λ c. c.bytes) cs) [] chunks last in
    let leads = all p m refl in (
      ap (λ l. is_done (run p l)) h.text_is ∙ ap is_done_mode leads.mode,
      ap (emitted p) h.text_is ∙ leads.body ∙ append-nil (flat_map (λ c. c.bytes) cs) ∙ sym h.body_is,
    )
