-- Lines of bytes, by the places of line feeds.
use Rattle.std.proofs.Common.{◌≡◌, ◌≢◌, ◌<◌, ◌≤◌, ◌+◌, ◌-◌, ⊎_elim, ℕ, suc, Bool, true, false, if◌then◌else◌, nat_le, List, [], ◌∷◌, ◌++◌, length, take, drop, get_or, Option, Some, None, Ok, Err, IfOk, IfErr, refl, sym, ap, ◌∙◌, subst, arith, drop-cons, append_assoc, length-drop}
use Rattle.std.proofs.lemmas.Bool.Decides.{nat_tests}
use Rattle.std.proofs.lemmas.Bool.{cases_lt}
use Rattle.std.proofs.lemmas.Grind.{common_steps}
use Rattle.std.proofs.lemmas.List.{get_or_append_left, get_or-drop, take-append-drop}
use Rattle.std.proofs.KnownBytes.{Consumes-trans}
use Rattle.memchr.specs.Find.{Nowhere, Passes, is_byte}
use Rattle.front_base.specs.declared.line.TheConstants.{MOST_LINE_BYTES}
use Rattle.front_ports.specs.Cause.{Rose}
use Rattle.log_lines.specs.Lines.{HasNoFeed, NoFeedIn, IsFeedFrom, StartsWithLine, ReadsLines, StartsTooLong, HoldsLine, NoLine, ended_at}
use Rattle.log_lines.specs.Seen.{Seen, NotRead}
use Rattle.log_lines.specs.declared.buffer.ReadStop.{ReadStop}
use Rattle.log_lines.specs.declared.buffer.ReadStop.TheVariants as read_stop
use Rattle.log_lines.specs.declared.next.LineStop.TheVariants as line_stop

-- ---- one list of lines

first_is : (b : ℕ) (bs : List ℕ) → HasNoFeed (b ∷ bs) → b ≢ 10
first_is b bs p = p 0 0 (omega arith)

rest_is : (b : ℕ) (bs : List ℕ) → HasNoFeed (b ∷ bs) → HasNoFeed bs
rest_is b bs p k d h = p (suc k) d (omega (arith, h))

one_line : (a b x y : List ℕ) → HasNoFeed a → HasNoFeed b → a ++ 10 ∷ x ≡ b ++ 10 ∷ y → (a ≡ b) × (x ≡ y)
one_line [] [] x y p q e = (refl, cc e)
one_line [] (c ∷ cs) x y p q e = absurd (first_is c cs q (cc e))
one_line (c ∷ cs) [] x y p q e = absurd (first_is c cs p (cc e))
one_line (c ∷ cs) (d ∷ ds) x y p q e =
    let h : c ≡ d = cc e in
    let t : cs ++ 10 ∷ x ≡ ds ++ 10 ∷ y = cc e in
    let r = one_line cs ds x y (rest_is c cs p) (rest_is d ds q) t in
    (cc (h, r.0), r.1)

no_line : (rest line after : List ℕ) → HasNoFeed rest → rest ≡ line ++ 10 ∷ after → ⊥
no_line [] [] after p e = cc e
no_line [] (c ∷ cs) after p e = cc e
no_line (b ∷ bs) [] after p e = first_is b bs p (cc e)
no_line (b ∷ bs) (c ∷ cs) after p e = no_line bs cs after (rest_is b bs p) (cc e)

pub one_list : (bytes : List ℕ) (lines others : List (List ℕ)) (rest other : List ℕ) → HasNoFeed rest → HasNoFeed other
    → ReadsLines bytes lines rest → ReadsLines bytes others other → (lines ≡ others) × (rest ≡ other)
one_list bytes [] [] rest other p q r s = (refl, sym r ∙ s)
one_list bytes [] (k ∷ ks) rest other p q r s = absurd (no_line rest k s.0 p (sym r ∙ s.1.split))
one_list bytes (l ∷ ls) [] rest other p q r s = absurd (no_line other l r.0 q (sym s ∙ r.1.split))
one_list bytes (l ∷ ls) (k ∷ ks) rest other p q r s =
    let e = one_line l k r.0 s.0 r.1.plain s.1.plain (sym r.1.split ∙ s.1.split) in
    let t = one_list r.0 ls ks rest other p q r.2 (subst (λ z. ReadsLines z ks other) (sym e.1) s.2) in
    (cc (e.0, t.0), t.1)

-- ---- the first line feed

-- no byte of the first n is a line feed
pub none_taken : (bytes : List ℕ) (n : ℕ) → NoFeedIn bytes 0 n → HasNoFeed (take n bytes)
none_taken bytes n f k d h w =
    f k (omega arith) (grind (arith, common_steps, h)) (grind (arith, common_steps, h, w))

pub none_in : (bytes : List ℕ) → NoFeedIn bytes 0 (length bytes) → HasNoFeed bytes
none_in bytes f k d h w = f k (omega arith) h (grind (arith, common_steps, h, w))

-- the first line feed ends a line
pub line_at : (bytes : List ℕ) (n : ℕ) → n < length bytes → get_or bytes n 0 ≡ 10 → NoFeedIn bytes 0 n
    → StartsWithLine bytes (take n bytes) (drop (suc n) bytes)
line_at bytes n h w f = record {
  split = sym (take-append-drop n bytes) ∙ (ap (λ l. take n bytes ++ l) (drop-cons bytes n 0 h) ∙ ap (λ b. take n bytes ++ b ∷ drop (suc n) bytes) w);
  plain = none_taken bytes n f;
}

-- what was searched stays so
pub still_none : (held bytes more : List ℕ) → bytes ≡ held ++ more → NoFeedIn held 0 (length held) → NoFeedIn bytes 0 (length held)
still_none held bytes more e f k low high w = f k low high (sym (get_or_append_left held more 0 k high) ∙ (ap (λ l. get_or l k 0) (sym e) ∙ w))

pub joined : (bytes : List ℕ) (i j l : ℕ) → NoFeedIn bytes i j → NoFeedIn bytes j l → NoFeedIn bytes i l
joined bytes i j l f g k low high w = ⊎_elim (λ (h : k < j). f k low h w) (λ (h : j ≤ k). g k h high w) (cases_lt k j)

-- ---- what a search of a piece found

piece_is : (held : List ℕ) (from : ℕ) → take (length held - from) (drop from held) ≡ drop from held
piece_is held from = grind (arith, common_steps)

at_piece : (held : List ℕ) (from k : ℕ) → get_or (take (length held - from) (drop from held)) k 0 ≡ get_or held (from + k) 0
at_piece held from k = ap (λ l. get_or l k 0) (piece_is held from) ∙ get_or-drop from held k 0

is_feed : (b : ℕ) → is_byte 10 b ≡ true → b ≡ 10
is_feed b e = grind (arith, nat_tests, e)

feed_is : (b : ℕ) → b ≡ 10 → is_byte 10 b ≡ true
feed_is b e = grind (arith, nat_tests, e)

pub none_between : (held : List ℕ) (from n : ℕ) → from ≤ length held
    → Nowhere (Passes (is_byte 10) (take (length held - from) (drop from held))) 0 n → NoFeedIn held from (from + n)
none_between held from n h f k low high w =
    let j = k - from in
    let e : from + j ≡ k = omega (arith, low) in
    f j (omega arith) (omega (arith, low, high))
    (feed_is _ (at_piece held from j ∙ (ap (λ i. get_or held i 0) e ∙ w)))

pub found_from : (held : List ℕ) (from n : ℕ) → from ≤ length held → n < length (take (length held - from) (drop from held))
    → Nowhere (Passes (is_byte 10) (take (length held - from) (drop from held))) 0 n
    → Passes (is_byte 10) (take (length held - from) (drop from held)) n → IsFeedFrom held from (Some (from + n))
found_from held from n h high f w = (
  omega arith,
  omega (arith, h, high, ap length (piece_is held from), length-drop from held),
  sym (at_piece held from n) ∙ is_feed _ w,
  none_between held from n h f,
)

pub not_found : (held : List ℕ) (from : ℕ) → from ≤ length held
    → Nowhere (Passes (is_byte 10) (take (length held - from) (drop from held))) 0 (length (take (length held - from) (drop from held)))
    → IsFeedFrom held from None
not_found held from h f k low high =
    none_between held from _ h f k low (omega (arith, h, high, ap length (piece_is held from), length-drop from held))

-- ---- what a call gives

pub feed_at : (bytes held : List ℕ) (from : ℕ) (r : Option ℕ) → bytes ≡ held → IsFeedFrom bytes from r → IsFeedFrom held from r
feed_at bytes held from r e h = subst (λ l. IsFeedFrom l from r) e h

seen_join : (a b c : Option (List ℕ)) (x y z : List ℕ) → Seen a b x y → Seen b c y z → Seen a c x z
seen_join a b c x y z p q = record {
  taken = p.taken ++ q.taken;
  consumed = Consumes-trans a b c p.taken q.taken p.consumed q.consumed;
  all = q.all ∙ (ap (λ l. l ++ q.taken) p.all ∙ append_assoc x p.taken q.taken);
}

-- no line feed among more bytes than a line may have
too_long : (held : List ℕ) (n : ℕ) → MOST_LINE_BYTES < n → n ≤ length held → NoFeedIn held 0 n → StartsTooLong held
too_long held n h w f = record {
  many = omega (arith, h, w);
  plain = none_taken held (MOST_LINE_BYTES + 1) (λ k low high. f k low (omega (arith, h, high)));
}

module _ (left0 left : Option (List ℕ)) (held0 held : List ℕ) where
  pub line_held : (n : ℕ) → Seen left0 left held0 held → n < length held → get_or held n 0 ≡ 10 → NoFeedIn held 0 n
      → IfOk (ended_at n) (λ len. HoldsLine left0 left held0 held len)
  line_held n s h w f = by (nat_le n MOST_LINE_BYTES) refl
    where
      by : (b : Bool) → nat_le n MOST_LINE_BYTES ≡ b → IfOk (if b then Ok n else Err line_stop.TooLong) (λ len. HoldsLine left0 left held0 held len)
      by true e = record {
        seen = s;
        line = take n held;
        after = drop (suc n) held;
        starts = line_at held n h w f;
        length_is = grind (arith, common_steps, h);
        short = grind (arith, nat_tests, e);
      }
      by false e = tt

  pub line_too_long : (rose : Type 0) (n : ℕ) → Seen left0 left held0 held → n < length held → NoFeedIn held 0 n
      → IfErr (ended_at n) (λ stop. NoLine left0 left held0 held rose stop)
  line_too_long rose n s h f = by (nat_le n MOST_LINE_BYTES) refl
    where
      by : (b : Bool) → nat_le n MOST_LINE_BYTES ≡ b → IfErr (if b then Ok n else Err line_stop.TooLong) (λ stop. NoLine left0 left held0 held rose stop)
      by true e = tt
      by false e = (s, too_long held n (grind (arith, nat_tests, e)) (omega (arith, h)) f)

  pub all_too_long : Seen left0 left held0 held → MOST_LINE_BYTES < length held → NoFeedIn held 0 (length held)
      → Seen left0 left held0 held × StartsTooLong held
  all_too_long s h f = (s, too_long held (length held) h (omega arith) f)

pub not_read : (a b c : Option (List ℕ)) (x y z : List ℕ) (rose0 rose : Type 0) (stop : ReadStop) → (rose0 → rose) → Seen a b x y
    → NoFeedIn y 0 (length y) → NotRead b c y z rose0 stop → NoLine a c x z rose (line_stop.Input stop)
not_read a b c x y z rose0 rose read_stop.AtEnd g s f r =
    (seen_join a b c x y z s r.0.seen, subst HasNoFeed (sym r.0.same) (none_in y f), r.1)
not_read a b c x y z rose0 rose read_stop.ReadFault g s f r =
    (seen_join a b c x y z s r.0.seen, subst HasNoFeed (sym r.0.same) (none_in y f), g r.1)
not_read a b c x y z rose0 rose read_stop.NoMemory g s f r = tt

pub rose_earlier : (a b c : ℕ) → a ≤ b → Rose b c → Rose a c
rose_earlier a b c h r = omega arith
