-- The block ends after the first empty line.
use Rattle.std.proofs.Common.{◌≡◌, ◌≢◌, ℕ, ◌+◌, ◌-◌, ◌<◌, ◌≤◌, ◌⊎◌, ◌++◌, ◌==◌, ◌&&◌, nat_le, List, [], ◌∷◌, length}
use Rattle.std.proofs.Common.{take, drop, Some, Bool, true, false, cond, suc, refl, sym, ap, ◌∙◌, subst, arith, inl, inr, append_assoc}
use Rattle.std.specs.List.{All}
use Rattle.std.proofs.lemmas.List.{drop_at, length-append, take-append-drop}
use Rattle.std.proofs.lemmas.List.Elements.{All-nil, All-cons, All-head, All-tail}
use Rattle.std.proofs.lemmas.Bool.Decides.{nat_tests}
use Rattle.std.proofs.Math.Seq.{take-append-add}
use Rattle.http_head.specs.Block.{is_text, is_lf, run_len, end_size, end_from, block_len, block_in}
use Rattle.http_head.specs.EmptyLine.{IsLineByte, IsLineEnd, EndsEmptyLine, EndsFirstEmptyLine}
use Rattle.http_head.specs.declared.block.TheConstants.{MOST_HEAD_BYTES}
use Rattle.http_head.proofs.StreamLemmas.{end_size-none, end_here, end_next, end_past, end_nil, run_text, run_break, run_nil}

-- an LF and an empty line's end stand somewhere, and end after n bytes
record EndsAt (s : List ℕ) (n : ℕ) : Type 0 where
  line : List ℕ
  empty : List ℕ
  after : List ℕ
  are : s ≡ line ++ (10 ∷ (empty ++ after))
  ends : IsLineEnd empty
  size : n ≡ length line + (length empty + 1)

-- ---- what `end_size` sees

record BeginsWithEnd (s : List ℕ) : Type 0 where
  empty : List ℕ
  after : List ℕ
  are : s ≡ empty ++ after
  ends : IsLineEnd empty
  size : end_size s ≡ length empty

size_is : (s : List ℕ) → 0 < end_size s → BeginsWithEnd s
size_is [] h = absurd (omega arith)
size_is (b ∷ []) h = by_lf (b == 10) refl h
  where
    by_lf : (t : Bool) → (b == 10) ≡ t → 0 < cond t 1 0 → BeginsWithEnd (b ∷ [])
    by_lf false e h = absurd (omega arith)
    by_lf true e h =
        let lf : b ≡ 10 = grind (arith, nat_tests, e) in
        record { empty = 10 ∷ []; after = []; are = ap (λ x. x ∷ []) lf; ends = inl refl; size = rw e refl }
size_is (b ∷ c ∷ rest) h = by_lf (b == 10) refl h
  where
    by_cr : (t : Bool) → (b == 13 && c == 10) ≡ t → (b == 10) ≡ false → 0 < cond t 2 0 → BeginsWithEnd (b ∷ c ∷ rest)
    by_cr false e f h = absurd (omega arith)
    by_cr true e f h =
        let cr : b ≡ 13 = grind (arith, nat_tests, e) in
        let lf : c ≡ 10 = grind (arith, nat_tests, e) in
        record { empty = 13 ∷ 10 ∷ []; after = rest; are = ap (λ x. x ∷ c ∷ rest) cr ∙ ap (λ x. 13 ∷ x ∷ rest) lf; ends = inr refl; size = rw (f, e) refl }

    by_lf : (t : Bool) → (b == 10) ≡ t → 0 < cond t 1 (cond (b == 13 && c == 10) 2 0) → BeginsWithEnd (b ∷ c ∷ rest)
    by_lf true e h =
        let lf : b ≡ 10 = grind (arith, nat_tests, e) in
        record { empty = 10 ∷ []; after = c ∷ rest; are = ap (λ x. x ∷ c ∷ rest) lf; ends = inl refl; size = rw e refl }
    by_lf false e h = by_cr (b == 13 && c == 10) refl e h

size_of : (empty after : List ℕ) → IsLineEnd empty → end_size (empty ++ after) ≡ length empty
size_of empty after (inl e) = rw e (one after)
  where
    one : (s : List ℕ) → end_size (10 ∷ s) ≡ 1
    one [] = refl
    one (c ∷ s) = refl
size_of empty after (inr e) = rw e refl

end_length : (empty : List ℕ) → IsLineEnd empty → 1 ≤ length empty
end_length empty (inl e) = rw e (omega arith)
end_length empty (inr e) = rw e (omega arith)

size_small : (s : List ℕ) → end_size s ≤ 2
size_small [] = omega arith
size_small (b ∷ []) = by_lf (b == 10)
  where
    by_lf : (t : Bool) → cond t 1 0 ≤ 2
    by_lf true = omega arith
    by_lf false = omega arith
size_small (b ∷ c ∷ rest) = by_lf (b == 10) (b == 13 && c == 10)
  where
    by_lf : (t u : Bool) → cond t 1 (cond u 2 0) ≤ 2
    by_lf true u = omega arith
    by_lf false true = omega arith
    by_lf false false = omega arith

-- ---- what `end_from` finds

record Found (at : ℕ) (s : List ℕ) (end : ℕ) : Type 0 where
  n : ℕ
  is : end ≡ at + n
  there : EndsAt s n

found_later : (at b : ℕ) (s : List ℕ) (end : ℕ) → Found (at + 1) s end → Found at (b ∷ s) end
found_later at b s end f =
    record {
      n = f.n + 1;
      is = omega (arith, f.is);
      there = record {
        line = b ∷ f.there.line;
        empty = f.there.empty;
        after = f.there.after;
        are = ap (λ x. b ∷ x) f.there.are;
        ends = f.there.ends;
        size = omega (arith, f.there.size);
      };
    }

found_here : (at b : ℕ) (s : List ℕ) → is_lf b ≡ true → BeginsWithEnd s → Found at (b ∷ s) (at + 1 + end_size s)
found_here at b s lf e =
    let same : b ≡ 10 = grind (arith, nat_tests, lf) in
    record {
      n = 1 + end_size s;
      is = omega arith;
      there = record {
        line = [];
        empty = e.empty;
        after = e.after;
        are = ap (λ x. x ∷ s) same ∙ ap (λ x. 10 ∷ x) e.are;
        ends = e.ends;
        size = omega (arith, e.size);
      };
    }

found : (at end : ℕ) (s : List ℕ) → end_from at s ≡ Some end → Found at s end
found at end [] e = absurd (cc (e, end_nil at))
found at end (b ∷ s) e = by_lf (is_lf b) refl (λ d. found (at + 1) end s d)
  where
    by_size : is_lf b ≡ true → (end_from (at + 1) s ≡ Some end → Found (at + 1) s end)
        → (end_size s ≡ 0) ⊎ (0 < end_size s) → Found at (b ∷ s) end
    by_size lf next (inl none) = found_later at b s end (next (sym (end_past at b s none) ∙ e))
    by_size lf next (inr some) =
        let same : at + 1 + end_size s ≡ end = cc (end_here at b s lf some, e) in
        subst (λ k. Found at (b ∷ s) k) same (found_here at b s lf (size_is s some))

    by_lf : (t : Bool) → is_lf b ≡ t → (end_from (at + 1) s ≡ Some end → Found (at + 1) s end) → Found at (b ∷ s) end
    by_lf true lf next = by_size lf next (end_size-none s)
    by_lf false lf next = found_later at b s end (next (sym (end_next at b s lf) ∙ e))

-- the first end is no later than any
record Finds (at : ℕ) (s : List ℕ) (n : ℕ) : Type 0 where
  end : ℕ
  is : end_from at s ≡ Some end
  first : end ≤ at + n

finds_line : (line empty after : List ℕ) (at : ℕ) → IsLineEnd empty
    → Finds at (line ++ (10 ∷ (empty ++ after))) (length line + (length empty + 1))
finds_line [] empty after at ends =
    let size = size_of empty after ends in
    let some = end_length empty ends in
    record {
      end = at + 1 + end_size (empty ++ after);
      is = end_here at 10 (empty ++ after) refl (omega (arith, size, some));
      first = omega (arith, size);
    }
finds_line (b ∷ line) empty after at ends = by_lf (is_lf b) refl (finds_line line empty after (at + 1) ends)
  where
    s : List ℕ
    s = line ++ (10 ∷ (empty ++ after))

    n : ℕ
    n = length line + (length empty + 1)

    more : ℕ
    more = suc (length line) + (length empty + 1)

    later : end_from at (b ∷ s) ≡ end_from (at + 1) s → Finds (at + 1) s n → Finds at (b ∷ s) more
    later e f = record { end = f.end; is = e ∙ f.is; first = omega (arith, f.first) }

    by_size : is_lf b ≡ true → Finds (at + 1) s n → (end_size s ≡ 0) ⊎ (0 < end_size s) → Finds at (b ∷ s) more
    by_size lf next (inl none) = later (end_past at b s none) next
    by_size lf next (inr some) =
        let small = size_small s in
        let one = end_length empty ends in
        record { end = at + 1 + end_size s; is = end_here at b s lf some; first = omega (arith, small, one) }

    by_lf : (t : Bool) → is_lf b ≡ t → Finds (at + 1) s n → Finds at (b ∷ s) more
    by_lf true lf next = by_size lf next (end_size-none s)
    by_lf false lf next = later (end_next at b s lf) next

-- ---- the leading run

text_is : (b : ℕ) → is_text b ≡ true → (b ≢ 13) × (b ≢ 10)
text_is b e = (λ cr. grind (arith, nat_tests, e, cr), λ lf. grind (arith, nat_tests, e, lf))

line_byte_is : (b : ℕ) → is_text b ≡ false → IsLineByte b
line_byte_is b e = by_lf (b == 10) refl
  where
    by_lf : (t : Bool) → (b == 10) ≡ t → IsLineByte b
    by_lf true f = inr (grind (arith, nat_tests, f))
    by_lf false f = inl (grind (arith, nat_tests, e, f))

is_line_byte : (b : ℕ) → IsLineByte b → is_text b ≡ false
is_line_byte b (inl e) = rw e refl
is_line_byte b (inr e) = rw e refl

is_text_byte : (b : ℕ) → (b ≢ 13) × (b ≢ 10) → is_text b ≡ true
is_text_byte b h = by_text (is_text b) refl
  where
    by_text : (t : Bool) → is_text b ≡ t → is_text b ≡ true
    by_text true e = e
    by_text false e = elim (line_byte_is b e) as (λ o. is_text b ≡ true) [ inl cr ↦ absurd (h.0 cr) | inr lf ↦ absurd (h.1 lf) ]

-- the leading run, and what follows it
record Parts (s : List ℕ) : Type 0 where
  skipped : List ℕ
  rest : List ℕ
  are : s ≡ skipped ++ rest
  blank : All IsLineByte skipped
  run : run_len s ≡ length skipped
  begins : (b : ℕ) (more : List ℕ) → rest ≡ b ∷ more → is_text b ≡ true

parts_of : (s : List ℕ) → Parts s
parts_of [] = record { skipped = []; rest = []; are = refl; blank = All-nil IsLineByte; run = run_nil; begins = λ b more e. absurd (cc e) }
parts_of (b ∷ s) = by_text (is_text b) refl (parts_of s)
  where
    by_text : (t : Bool) → is_text b ≡ t → Parts s → Parts (b ∷ s)
    by_text true e p = record {
      skipped = [];
      rest = b ∷ s;
      are = refl;
      blank = All-nil IsLineByte;
      run = run_text b s e;
      begins = λ c more f. let same : c ≡ b = cc f in ap is_text same ∙ e;
    }
    by_text false e p = record {
      skipped = b ∷ p.skipped;
      rest = p.rest;
      are = ap (λ x. b ∷ x) p.are;
      blank = All-cons IsLineByte b p.skipped (line_byte_is b e) p.blank;
      run = omega (arith, run_break b s e, p.run);
      begins = p.begins;
    }

run_of : (skipped : List ℕ) (first : ℕ) (rest : List ℕ) → All IsLineByte skipped → is_text first ≡ true
    → run_len (skipped ++ (first ∷ rest)) ≡ length skipped
run_of [] first rest blank text = run_text first rest text
run_of (b ∷ skipped) first rest blank text =
    let one = run_break b (skipped ++ (first ∷ rest)) (is_line_byte b (All-head IsLineByte b skipped blank)) in
    let ih = run_of skipped first rest (All-tail IsLineByte b skipped blank) text in
    omega (arith, one, ih)

-- ---- the block of some bytes

after_run : (s : List ℕ) (p : Parts s) → drop (run_len s) s ≡ p.rest
after_run s p = ap (λ x. drop (run_len s) x) p.are ∙ drop_at p.skipped p.rest (run_len s) (sym p.run)

block_ends : (s : List ℕ) (len : ℕ) → block_len s ≡ Some len → EndsEmptyLine s len
block_ends s len e = with_parts (parts_of s)
  where
    with_line : (p : Parts s) (f : Found (run_len s) p.rest len) (line : List ℕ) → f.there.line ≡ line → EndsEmptyLine s len
    with_line p f [] l =
        let rest : p.rest ≡ 10 ∷ (f.there.empty ++ f.there.after) = f.there.are ∙ ap (λ x. x ++ (10 ∷ (f.there.empty ++ f.there.after))) l in
        absurd (cc (p.begins 10 (f.there.empty ++ f.there.after) rest))
    with_line p f (b ∷ text) l =
        let rest : p.rest ≡ b ∷ (text ++ (10 ∷ (f.there.empty ++ f.there.after))) = f.there.are ∙ ap (λ x. x ++ (10 ∷ (f.there.empty ++ f.there.after))) l in
        let long : length f.there.line ≡ suc (length text) = ap length l in
        record {
          skipped = p.skipped;
          first = b;
          text = text;
          empty = f.there.empty;
          after = f.there.after;
          are = p.are ∙ ap (λ x. p.skipped ++ x) rest;
          blank = p.blank;
          begins = text_is b (p.begins b _ rest);
          ends = f.there.ends;
          size = omega (arith, f.is, f.there.size, long, p.run);
        }

    with_parts : Parts s → EndsEmptyLine s len
    with_parts p =
        let f = found (run_len s) len p.rest (sym (ap (λ x. end_from (run_len s) x) (after_run s p)) ∙ e) in
        with_line p f f.there.line refl

-- where an empty line ends, the block does no later
record BlockBy (s : List ℕ) (n : ℕ) : Type 0 where
  len : ℕ
  is : block_len s ≡ Some len
  first : len ≤ n

block_by : (s : List ℕ) (n : ℕ) → EndsEmptyLine s n → BlockBy s n
block_by s n e =
    let rest : List ℕ = e.first ∷ (e.text ++ (10 ∷ (e.empty ++ e.after))) in
    let run : run_len s ≡ length e.skipped = ap run_len e.are ∙ run_of e.skipped e.first _ e.blank (is_text_byte e.first e.begins) in
    let there : drop (run_len s) s ≡ rest = ap (λ x. drop (run_len s) x) e.are ∙ drop_at e.skipped rest (run_len s) (sym run) in
    let f = finds_line (e.first ∷ e.text) e.empty e.after (run_len s) e.ends in
    record {
      len = f.end;
      is = ap (λ x. end_from (run_len s) x) there ∙ f.is;
      first = omega (arith, f.first, run, e.size);
    }

-- ---- more bytes, and fewer

regroup : (skipped text empty after : List ℕ) (first : ℕ)
    → (skipped ++ (first ∷ (text ++ (10 ∷ empty)))) ++ after ≡ skipped ++ (first ∷ (text ++ (10 ∷ (empty ++ after))))
regroup skipped text empty after first =
    append_assoc skipped (first ∷ (text ++ (10 ∷ empty))) after
    ∙ ap (λ x. skipped ++ (first ∷ x)) (append_assoc text (10 ∷ empty) after)

ends_more : (s more : List ℕ) (n : ℕ) → EndsEmptyLine s n → EndsEmptyLine (s ++ more) n
ends_more s more n e = record {
  skipped = e.skipped;
  first = e.first;
  text = e.text;
  empty = e.empty;
  after = e.after ++ more;
  are =
      ap (λ x. x ++ more) (e.are ∙ sym (regroup e.skipped e.text e.empty e.after e.first))
      ∙ append_assoc (e.skipped ++ (e.first ∷ (e.text ++ (10 ∷ e.empty)))) e.after more
      ∙ regroup e.skipped e.text e.empty (e.after ++ more) e.first;
  blank = e.blank;
  begins = e.begins;
  ends = e.ends;
  size = e.size;
}

head_size : (skipped text empty : List ℕ) (first : ℕ)
    → length (skipped ++ (first ∷ (text ++ (10 ∷ empty)))) ≡ length skipped + (length text + (length empty + 2))
head_size skipped text empty first =
    let a = length-append skipped (first ∷ (text ++ (10 ∷ empty))) in
    let b = length-append text (10 ∷ empty) in
    omega (arith, a, b)

ends_within : (k : ℕ) (s : List ℕ) (n : ℕ) → n ≤ k → EndsEmptyLine s n → EndsEmptyLine (take k s) n
ends_within k s n h e =
    let head : List ℕ = e.skipped ++ (e.first ∷ (e.text ++ (10 ∷ e.empty))) in
    let long : length head ≡ n = head_size e.skipped e.text e.empty e.first ∙ sym e.size in
    let room : k ≡ length head + (k - n) = omega (arith, long, h) in
    record {
      skipped = e.skipped;
      first = e.first;
      text = e.text;
      empty = e.empty;
      after = take (k - n) e.after;
      are =
          ap (λ x. take k x) (e.are ∙ sym (regroup e.skipped e.text e.empty e.after e.first))
          ∙ ap (λ x. take x (head ++ e.after)) room
          ∙ take-append-add head e.after (k - n)
          ∙ regroup e.skipped e.text e.empty (take (k - n) e.after) e.first;
      blank = e.blank;
      begins = e.begins;
      ends = e.ends;
      size = e.size;
    }

-- ---- the law, for any limit

ends_whole : (k : ℕ) (s : List ℕ) (n : ℕ) → EndsEmptyLine (take k s) n → EndsEmptyLine s n
ends_whole k s n e = subst (λ x. EndsEmptyLine x n) (take-append-drop k s) (ends_more (take k s) (drop k s) n e)

first_within : (k : ℕ) (s : List ℕ) (len : ℕ) → len ≤ k → block_len (take k s) ≡ Some len → EndsFirstEmptyLine s len
first_within k s len h e = record {
  here = ends_whole k s len (block_ends (take k s) len e);
  first = λ other o. by_size other o (nat_le other k) refl;
}
  where
    by_size : (other : ℕ) → EndsEmptyLine s other → (t : Bool) → nat_le other k ≡ t → len ≤ other
    by_size other o true f =
        let low : other ≤ k = grind (arith, nat_tests, f) in
        let b = block_by (take k s) other (ends_within k s other low o) in
        let same : b.len ≡ len = cc (b.is, e) in
        omega (arith, same, b.first)
    by_size other o false f =
        let high : k < other = grind (arith, nat_tests, f) in
        omega (arith, high, h)

first_is_block : (k : ℕ) (s : List ℕ) (len : ℕ) → len ≤ k → EndsFirstEmptyLine s len → block_len (take k s) ≡ Some len
first_is_block k s len h e =
    let b = block_by (take k s) len (ends_within k s len h e.here) in
    let low = e.first b.len (ends_whole k s b.len (block_ends (take k s) b.len b.is)) in
    let same : b.len ≡ len = omega (arith, low, b.first) in
    b.is ∙ ap (λ x. Some x) same

pub block_ends_first : (s : List ℕ) (len : ℕ) → len ≤ MOST_HEAD_BYTES → block_in s ≡ Some len → EndsFirstEmptyLine s len
block_ends_first s len h e = first_within MOST_HEAD_BYTES s len h e

pub first_ends_block : (s : List ℕ) (len : ℕ) → len ≤ MOST_HEAD_BYTES → EndsFirstEmptyLine s len → block_in s ≡ Some len
first_ends_block s len h e = first_is_block MOST_HEAD_BYTES s len h e
