-- The requests of an input are one list, with one end.
use Rattle.std.proofs.Common.{suc, zero, ◌≡◌, ℕ, ◌<◌, ◌≤◌, ◌⊎◌, ◌++◌, ◌==◌, List, [], ◌∷◌, length, take, drop, map}
use Rattle.std.proofs.Common.{Option, Some, None, Bool, true, false, cond, refl, sym, ap, ◌∙◌, subst, arith}
use Rattle.std.proofs.Common.{inl, inr, nat_lt}
use Rattle.std.proofs.lemmas.List.{length-append, length-drop}
use Rattle.std.proofs.lemmas.Bool.Decides.{nat_tests}
use Rattle.http_head.specs.Answer.{AwaitsBlock, IsBlock, IsTooLarge}
use Rattle.http_head.specs.Block.{block_in, line_count}
use Rattle.http_head.specs.EmptyLine.{EndsFirstEmptyLine}
use Rattle.http_head.specs.declared.block.TheConstants.{MOST_HEAD_BYTES, MOST_LINES}
use Rattle.http_head.specs.declared.header.Header.{Header}
use Rattle.http_head.specs.declared.request.Head.{Head}
use Rattle.http_head.specs.Request.{IsHeadOf, IsRequest, header_view}
use Rattle.httparse.specs.Grammar.{RequestHead, Field}
use Rattle.httparse.specs.Spans.{name_and_value}
use Rattle.body_frames.specs.declared.frame.BodyFault.{BodyFault}
use Rattle.body_frames.specs.declared.frame.BodyFault.TheVariants.{BadChunk, TooLarge}
use Rattle.body_frames.specs.declared.frame.Frame.{Frame}
use Rattle.body_frames.specs.Body.{First, whole, refused, part, StandsFirst, StartsWithBody}
use Rattle.http_edge.specs.declared.TheConstants.{MOST_BODY_BYTES}
use Rattle.http_edge.specs.declared.request.Request.{Request}
use Rattle.http_edge.specs.declared.request.End.{End}
use Rattle.http_edge.specs.declared.request.End.TheVariants as end
use Rattle.http_edge.specs.Requests.{frame_of, StartsWithHead, StartsWith, StartsBroken, StartsUnframed}
use Rattle.http_edge.specs.Requests.{StartsWithNoHead, StartsUnfinished, IsUnfinished, is_blank, IsStop, end_of}
use Rattle.http_edge.specs.Requests.{IsRequests, asks, on_asks}

one_number : (o : Option ℕ) (n m : ℕ) → o ≡ Some n → o ≡ Some m → n ≡ m
one_number o n m e f = cc

-- a block is one head
abbrev pub OneHead : Type 0
OneHead = (block : List ℕ) (h k : Head) → IsHeadOf block h → IsHeadOf block k → h ≡ k

-- one thing stands first where a body begins
abbrev pub OneFirst : Type 0
OneFirst = (f : Frame) (limit : ℕ) (bytes : List ℕ) (v w : First) → StandsFirst f limit bytes v
    → StandsFirst f limit bytes w → v ≡ w

one_head : OneHead → (bytes y z : List ℕ) (h k : Head) → StartsWithHead bytes h y → StartsWithHead bytes k z
    → (h ≡ k) × (y ≡ z)
one_head law bytes y z h k a b =
    let same : a.len ≡ b.len = one_number (block_in bytes) a.len b.len a.block.found b.block.found in (
      law (take b.len bytes) h k (subst (λ n. IsHeadOf (take n bytes) h) same a.is) b.is,
      a.rest ∙ ap (λ n. drop n bytes) same ∙ sym b.rest,
    )

whole_parts : (b c y z : List ℕ) → whole b y ≡ whole c z → (b ≡ c) × (y ≡ z)
whole_parts b c y z e = (cc e, cc e)

same_request : (h k : Head) (b c : List ℕ) → h ≡ k → b ≡ c
    → ◌≡◌ {A = Request} (record { head = h; body = b }) (record { head = k; body = c })
same_request h k b c e f = cc

one_request : OneHead → OneFirst → (bytes y z : List ℕ) (r q : Request) → StartsWith bytes r y → StartsWith bytes q z
    → (r ≡ q) × (y ≡ z)
one_request law first bytes y z r q a b =
    let heads = one_head law bytes a.middle b.middle r.head q.head a.head_is b.head_is in
    let frames : a.frame ≡ b.frame =
    one_frame (frame_of q.head) (sym (ap frame_of heads.0) ∙ a.frame_is) b.frame_is in
    let here =
    subst (λ f. StartsWithBody f MOST_BODY_BYTES b.middle r.body y) frames
    (subst (λ l. StartsWithBody a.frame MOST_BODY_BYTES l r.body y) heads.1 a.body_is) in
    let bodies =
    whole_parts r.body q.body y z
    (first b.frame MOST_BODY_BYTES b.middle (whole r.body y) (whole q.body z) here b.body_is) in
    (same_request r.head q.head r.body q.body heads.0 bodies.0, bodies.1)
  where
    one_frame : (o : Option Frame) → o ≡ Some a.frame → o ≡ Some b.frame → a.frame ≡ b.frame
    one_frame o e f = cc

-- ---- what stands first, as a number: 0 to 4, and 5 for a request

IsHeadOption : List ℕ → Option (Head × List ℕ) → Type 0
IsHeadOption bytes None = (h : Head) (y : List ℕ) → StartsWithHead bytes h y → ⊥
IsHeadOption bytes (Some p) = StartsWithHead bytes p.0 p.1

-- what stands first after a head, where it is framed
IsFramed : List ℕ → First → Option Frame → Type 0
IsFramed middle v None = v ≡ part
IsFramed middle v (Some f) = StandsFirst f MOST_BODY_BYTES middle v

IsAfter : First → Option (Head × List ℕ) → Type 0
IsAfter v None = v ≡ part
IsAfter v (Some p) = IsFramed p.1 v (frame_of p.0)

fault_tag : BodyFault → ℕ
fault_tag (BadChunk at) = 3
fault_tag TooLarge = 4

tag_first : First → ℕ
tag_first (whole body after) = 5
tag_first (refused fault) = fault_tag fault
tag_first part = 0

tag_frame : First → Option Frame → ℕ
tag_frame v None = 3
tag_frame v (Some frame) = tag_first v

tag_head : First → Option (Head × List ℕ) → ℕ
tag_head v None = 2
tag_head v (Some p) = tag_frame v (frame_of p.0)

tag_block : List ℕ → First → Option (Head × List ℕ) → Option ℕ → ℕ
tag_block bytes v o None = cond (nat_lt (length bytes) MOST_HEAD_BYTES) 0 1
tag_block bytes v o (Some n) = cond (nat_lt MOST_LINES (line_count (take n bytes))) 1 (tag_head v o)

record Tagged (bytes : List ℕ) (t : ℕ) : Type 0 where
  o : Option (Head × List ℕ)
  is : IsHeadOption bytes o
  v : First
  after : IsAfter v o
  tag : tag_block bytes v o (block_in bytes) ≡ t

one_option : OneHead → (bytes : List ℕ) (o q : Option (Head × List ℕ)) → IsHeadOption bytes o → IsHeadOption bytes q
    → o ≡ q
unfolding IsHeadOption
one_option law bytes None None a b = refl
one_option law bytes None (Some p) a b = absurd (a p.0 p.1 b)
one_option law bytes (Some p) None a b = absurd (b p.0 p.1 a)
one_option law bytes (Some p) (Some q) a b =
    let e = one_head law bytes p.1 q.1 p.0 q.0 a b in
    pair_same p.0 q.0 p.1 q.1 e.0 e.1
  where
    pair_same : (h k : Head) (y z : List ℕ) → h ≡ k → y ≡ z
        → ◌≡◌ {A = Option (Head × List ℕ)} (Some (h, y)) (Some (k, z))
    pair_same h k y z e f = cc

one_after : OneFirst → (o : Option (Head × List ℕ)) (v w : First) → IsAfter v o → IsAfter w o → v ≡ w
unfolding IsAfter IsFramed
one_after law None v w a b = a ∙ sym b
one_after law (Some p) v w a b = by_frame (frame_of p.0) a b
  where
    by_frame : (f : Option Frame) → IsFramed p.1 v f → IsFramed p.1 w f → v ≡ w
    by_frame None a b = a ∙ sym b
    by_frame (Some f) a b = law f MOST_BODY_BYTES p.1 v w a b

one_tag : OneHead → OneFirst → (bytes : List ℕ) (t u : ℕ) → Tagged bytes t → Tagged bytes u → t ≡ u
one_tag law first bytes t u a b =
    let o = one_option law bytes a.o b.o a.is b.is in
    let v = one_after first b.o a.v b.v (subst (λ k. IsAfter a.v k) o a.after) b.after in
    sym a.tag ∙ ap (λ k. tag_block bytes a.v k (block_in bytes)) o
    ∙ ap (λ k. tag_block bytes k b.o (block_in bytes)) v ∙ b.tag

small : (m n : ℕ) → n ≤ m → nat_lt m n ≡ false
small m n h = grind (arith, nat_tests)

large : (m n : ℕ) → m < n → nat_lt m n ≡ true
large m n h = grind (arith, nat_tests)

head_lines : (bytes y : List ℕ) (h : Head) (t : ℕ) (v : First) → StartsWithHead bytes h y
    → IsFramed y v (frame_of h) → tag_frame v (frame_of h) ≡ t → Tagged bytes t
unfolding IsHeadOption IsAfter tag_block tag_head
head_lines bytes y h t v s a e =
    let few = small MOST_LINES (line_count (take s.len bytes)) s.block.few in
    record {
      o = Some (h, y);
      is = s;
      v = v;
      after = a;
      tag = ap (tag_block bytes v (Some (h, y))) s.block.found ∙ rw few e;
    }

framed_lines : (bytes y : List ℕ) (h : Head) (f : Frame) (v : First) → StartsWithHead bytes h y
    → frame_of h ≡ Some f → StandsFirst f MOST_BODY_BYTES y v → Tagged bytes (tag_first v)
unfolding IsFramed tag_frame
framed_lines bytes y h f v s e a =
    head_lines bytes y h (tag_first v) v s (subst (λ k. IsFramed y v k) (sym e) a) (ap (tag_frame v) e)

request_tag : (bytes y : List ℕ) (r : Request) → StartsWith bytes r y → Tagged bytes 5
unfolding tag_first
request_tag bytes y r s =
    framed_lines bytes s.middle r.head s.frame (whole r.body y) s.head_is s.frame_is s.body_is

unframed_tag : (bytes : List ℕ) → StartsUnframed bytes → Tagged bytes 3
unfolding IsFramed tag_frame
unframed_tag bytes s =
    head_lines bytes s.middle s.head 3 part s.head_is
    (subst (λ k. IsFramed s.middle part k) (sym s.frame_is) refl) (ap (tag_frame part) s.frame_is)

broken_starts_tag : (bytes : List ℕ) (e : End) → (s : StartsBroken bytes e) → Tagged bytes (fault_tag s.fault)
unfolding tag_first
broken_starts_tag bytes e s =
    framed_lines bytes s.middle s.head s.frame (refused s.fault) s.head_is s.frame_is s.body_is

unfinished_tag : (bytes : List ℕ) → StartsUnfinished bytes → Tagged bytes 0
unfolding tag_first
unfinished_tag bytes s = framed_lines bytes s.middle s.head s.frame part s.head_is s.frame_is s.part

no_option : (bytes : List ℕ) → block_in bytes ≡ None → IsHeadOption bytes None
unfolding IsHeadOption
no_option bytes e = λ h y s. clash (block_in bytes) s.len e s.block.found
  where
    clash : (o : Option ℕ) (n : ℕ) → o ≡ None → o ≡ Some n → ⊥
    clash o n e f = absurd (cc (e, f))

no_tag : (bytes : List ℕ) (t : ℕ) → IsHeadOption bytes None → tag_block bytes part None (block_in bytes) ≡ t
    → Tagged bytes t
unfolding IsAfter
no_tag bytes t is e = record { o = None; is = is; v = part; after = refl; tag = e }

awaits_tag : (bytes : List ℕ) → AwaitsBlock bytes → Tagged bytes 0
unfolding tag_block
awaits_tag bytes h =
    let low = large (length bytes) MOST_HEAD_BYTES h.1 in
    no_tag bytes 0 (no_option bytes h.0) (ap (tag_block bytes part None) h.0 ∙ rw low refl)

too_large_tag : (bytes : List ℕ) → IsTooLarge bytes → Tagged bytes 1
unfolding tag_block IsHeadOption
too_large_tag bytes (inl s) =
    let high = small (length bytes) MOST_HEAD_BYTES s.1 in
    no_tag bytes 1 (no_option bytes s.0) (ap (tag_block bytes part None) s.0 ∙ rw high refl)
too_large_tag bytes (inr s) =
    let high = large MOST_LINES (line_count (take s.0 bytes)) s.2 in
    no_tag bytes 1 (λ h y k. many h y k) (ap (tag_block bytes part None) s.1 ∙ rw high refl)
  where
    low : (m n k : ℕ) → n ≡ k → m < n → k ≤ m → ⊥
    low m n k e f g = omega arith

    many : (h : Head) (y : List ℕ) → StartsWithHead bytes h y → ⊥
    many h y k =
        low MOST_LINES (line_count (take s.0 bytes)) (line_count (take k.len bytes))
        (ap (λ n. line_count (take n bytes)) (one_number (block_in bytes) s.0 k.len s.1 k.block.found)) s.2 k.block.few

no_head_tag : (bytes : List ℕ) → StartsWithNoHead bytes → Tagged bytes 2
unfolding tag_block tag_head IsHeadOption
no_head_tag bytes s =
    let few = small MOST_LINES (line_count (take s.len bytes)) s.block.few in
    no_tag bytes 2 (λ h y k. none h y k) (ap (tag_block bytes part None) s.block.found ∙ rw few refl)
  where
    none : (h : Head) (y : List ℕ) → StartsWithHead bytes h y → ⊥
    none h y k =
        let moved : IsHeadOf (take s.len bytes) h =
        subst (λ n. IsHeadOf (take n bytes) h) (one_number (block_in bytes) k.len s.len k.block.found s.block.found) k.is in
        s.none moved.0 moved.1

end_of_tag : Bool → ℕ → End
end_of_tag blank t =
    cond (t == 0) (cond blank end.Ended end.CutShort)
    (cond (t == 1) end.HeadTooLarge (cond (t == 2) end.BadHead (cond (t == 3) end.BadFraming end.BodyTooLarge)))

record StopTag (bytes : List ℕ) (e : End) : Type 0 where
  t : ℕ
  is : Tagged bytes t
  low : t < 5
  end_is : e ≡ end_of_tag (is_blank bytes) t

awaits_any : (bytes : List ℕ) → IsUnfinished bytes → Tagged bytes 0
awaits_any bytes (inl s) = awaits_tag bytes s
awaits_any bytes (inr s) = unfinished_tag bytes s

fault_end : (bytes : List ℕ) (e : End) (f : BodyFault) (b : Bool) → e ≡ end_of f
    → (fault_tag f < 5) × (e ≡ end_of_tag b (fault_tag f))
unfolding fault_tag end_of_tag
fault_end bytes e (BadChunk at) b h = (omega arith, h)
fault_end bytes e TooLarge b h = (omega arith, h)

broken_stop : (bytes : List ℕ) (e : End) → StartsBroken bytes e → StopTag bytes e
broken_stop bytes e s =
    let f = fault_end bytes e s.fault (is_blank bytes) s.end_is in
    record { t = fault_tag s.fault; is = broken_starts_tag bytes e s; low = f.0; end_is = f.1 }

not_true : (t : Bool) → ¬ (t ≡ true) → t ≡ false
not_true true h = absurd (h refl)
not_true false h = refl

stop_tag : (bytes : List ℕ) (e : End) → IsStop bytes e → StopTag bytes e
unfolding end_of_tag
stop_tag bytes end.Ended s = record { t = 0; is = awaits_any bytes s.0; low = omega arith; end_is = rw s.1 refl }
stop_tag bytes end.CutShort s =
    record { t = 0; is = awaits_any bytes s.0; low = omega arith; end_is = rw (not_true (is_blank bytes) s.1) refl }
stop_tag bytes end.Asked s = absurd s
stop_tag bytes end.BadHead s = record { t = 2; is = no_head_tag bytes s; low = omega arith; end_is = refl }
stop_tag bytes end.HeadTooLarge s = record { t = 1; is = too_large_tag bytes s; low = omega arith; end_is = refl }
stop_tag bytes end.BadFraming (inl s) = record { t = 3; is = unframed_tag bytes s; low = omega arith; end_is = refl }
stop_tag bytes end.BadFraming (inr s) = broken_stop bytes end.BadFraming s
stop_tag bytes end.BodyTooLarge s = broken_stop bytes end.BodyTooLarge s

one_stop : OneHead → OneFirst → (bytes : List ℕ) (e f : End) → IsStop bytes e → IsStop bytes f → e ≡ f
one_stop law first bytes e f a b =
    let s = stop_tag bytes e a in
    let t = stop_tag bytes f b in
    s.end_is ∙ ap (end_of_tag (is_blank bytes)) (one_tag law first bytes s.t t.t s.is t.is) ∙ sym t.end_is

no_stop : OneHead → OneFirst → (bytes y : List ℕ) (e : End) (r : Request) → IsStop bytes e → StartsWith bytes r y → ⊥
no_stop law first bytes y e r a b =
    let s = stop_tag bytes e a in
    let same : s.t ≡ 5 = one_tag law first bytes s.t 5 s.is (request_tag bytes y r b) in
    over s.t s.low same
  where
    over : (t : ℕ) → t < 5 → t ≡ 5 → ⊥
    over t h e = omega arith

pub one_list : OneHead → OneFirst → (bytes : List ℕ) (rs qs : List Request) (e f : End) → IsRequests bytes rs e
    → IsRequests bytes qs f → (rs ≡ qs) × (e ≡ f)
one_list law first bytes [] [] e f a b = (refl, one_stop law first bytes e f a b)
one_list law first bytes [] (q ∷ qs) e f a b = absurd (no_stop law first bytes b.0 e q a b.1)
one_list law first bytes (r ∷ rs) [] e f a b = absurd (no_stop law first bytes a.0 f r b a.1)
one_list law first bytes (r ∷ rs) (q ∷ qs) e f a b =
    let one = one_request law first bytes a.0 b.0 r q a.1 b.1 in
    let next = subst (λ t. on_asks t ((qs ≡ []) × (f ≡ end.Asked)) (IsRequests b.0 qs f)) (sym (ap asks one.0)) b.2 in
    let both =
    by_asks (asks r) a.2 next
    (λ h k. one_list law first a.0 rs qs e f h (subst (λ l. IsRequests l qs f) (sym one.1) k)) in
    (cons_same r q rs qs one.0 both.0, both.1)
  where
    cons_same : (x y : Request) (xs ys : List Request) → x ≡ y → xs ≡ ys → x ∷ xs ≡ y ∷ ys
    cons_same x y xs ys h k = cc

    by_asks : (t : Bool) → on_asks t ((rs ≡ []) × (e ≡ end.Asked)) (IsRequests a.0 rs e)
        → on_asks t ((qs ≡ []) × (f ≡ end.Asked)) (IsRequests b.0 qs f)
        → (IsRequests a.0 rs e → IsRequests b.0 qs f → (rs ≡ qs) × (e ≡ f)) → (rs ≡ qs) × (e ≡ f)
    by_asks true h k next = (h.0 ∙ sym k.0, h.1 ∙ sym k.1)
    by_asks false h k next = next h k

-- ---- an input isn't without a list

-- a head of the grammar is the head of its block
head_of : (block : List ℕ) (read : RequestHead) → IsRequest block read → (h : Head) × IsHeadOf block h
head_of block read is = (
  record { method = read.method; target = read.target; minor = read.minor; headers = map header read.fields },
  (read, is, record { method = refl; target = refl; minor = refl; headers = same read.fields }),
)
  where
    header : Field → Header
    header f = record { name = (name_and_value f).0; value = (name_and_value f).1 }

    same : (l : List Field) → map header_view (map header l) ≡ map name_and_value l
    same [] = refl
    same (f ∷ l) = ap (λ k. name_and_value f ∷ k) (same l)

abbrev pub SomeFirst : Type 0
SomeFirst = (f : Frame) (limit : ℕ) (bytes : List ℕ) → (v : First) × StandsFirst f limit bytes v

abbrev pub EmptyLines : Type 0
EmptyLines = (bytes : List ℕ) (len : ℕ) → block_in bytes ≡ Some len → EndsFirstEmptyLine bytes len

abbrev pub Bounds : Type 0
Bounds = (bytes : List ℕ) (len : ℕ) → block_in bytes ≡ Some len → (len ≤ length bytes) × (len ≤ MOST_HEAD_BYTES)

lower : (a b : ℕ) → nat_lt a b ≡ true → a < b
lower a b k = grind (arith, nat_tests)

upper : (a b : ℕ) → nat_lt a b ≡ false → b ≤ a
upper a b k = grind (arith, nat_tests)

either : (t : Bool) → (t ≡ true) ⊎ (t ≡ false)
either true = inl refl
either false = inr refl

option_case : (o : Option ℕ) → (o ≡ None) ⊎ ((n : ℕ) × (o ≡ Some n))
option_case None = inl refl
option_case (Some n) = inr (n, refl)

frame_case : (o : Option Frame) → (o ≡ None) ⊎ ((f : Frame) × (o ≡ Some f))
frame_case None = inl refl
frame_case (Some f) = inr (f, refl)

-- the bytes have no end that is a stop
abbrev NoStop : List ℕ → Type 0
NoStop bytes = (e : End) → IsStop bytes e → ⊥

unfinished_stops : (bytes : List ℕ) → NoStop bytes → IsUnfinished bytes → ⊥
unfinished_stops bytes none h = by_blank (either (is_blank bytes))
  where
    by_blank : (is_blank bytes ≡ true) ⊎ (is_blank bytes ≡ false) → ⊥
    by_blank (inl e) = none end.Ended (h, e)
    by_blank (inr e) = none end.CutShort (h, λ k. absurd (cc (e, k)))

-- a request stands first where no stop is
record Request1 (bytes : List ℕ) : Type 0 where
  r : Request
  after : List ℕ
  starts : StartsWith bytes r after
  less : length after < length bytes

framed_request : SomeFirst → (bytes middle : List ℕ) (h : Head) (f : Frame) → StartsWithHead bytes h middle
    → frame_of h ≡ Some f → length middle < length bytes → NoStop bytes → (Request1 bytes → ⊥) → ⊥
framed_request law bytes middle h f s e low none next = by_first (law f MOST_BODY_BYTES middle)
  where
    shorter : (a b : List ℕ) → middle ≡ a ++ b → length b < length bytes
    shorter a b k = let l = ap length k in let n = length-append a b in omega (arith, low, l, n)

    by_first : (v : First) × StandsFirst f MOST_BODY_BYTES middle v → ⊥
    by_first (whole body after, b) =
        next (record {
          r = record { head = h; body = body };
          after = after;
          starts = record { middle = middle; frame = f; head_is = s; frame_is = e; body_is = b };
          less = shorter b.text after b.split;
        })
    by_first (refused (BadChunk at), b) =
        none end.BadFraming (inr (record {
          head = h;
          middle = middle;
          frame = f;
          fault = BadChunk at;
          head_is = s;
          frame_is = e;
          body_is = b;
          end_is = refl;
        }))
    by_first (refused TooLarge, b) =
        none end.BodyTooLarge (record {
          head = h;
          middle = middle;
          frame = f;
          fault = TooLarge;
          head_is = s;
          frame_is = e;
          body_is = b;
          end_is = refl;
        })
    by_first (part, b) =
        unfinished_stops bytes none
        (inr (record { head = h; middle = middle; frame = f; head_is = s; frame_is = e; part = b }))

block_request : SomeFirst → EmptyLines → (bytes : List ℕ) (len : ℕ) → IsBlock bytes len → NoStop bytes
    → (Request1 bytes → ⊥) → ⊥
block_request law lines bytes len block none next =
    none end.BadHead (record { len = len; block = block; none = λ read is. by_head (head_of (take len bytes) read is) })
  where
    less : length (drop len bytes) < length bytes
    less =
        let line = (lines bytes len block.found).here in
        omega (arith, line.size, block.within, length-drop len bytes)

    by_frame : (h : Head) → StartsWithHead bytes h (drop len bytes)
        → (frame_of h ≡ None) ⊎ ((f : Frame) × (frame_of h ≡ Some f)) → ⊥
    by_frame h s (inl e) =
        none end.BadFraming (inl (record { head = h; middle = drop len bytes; head_is = s; frame_is = e }))
    by_frame h s (inr f) = framed_request law bytes (drop len bytes) h f.0 s f.1 less none next

    by_head : (h : Head) × IsHeadOf (take len bytes) h → ⊥
    by_head (h, is) =
        by_frame h (record { len = len; block = block; is = is; rest = refl }) (frame_case (frame_of h))

first_request : SomeFirst → EmptyLines → Bounds → (bytes : List ℕ) → NoStop bytes → (Request1 bytes → ⊥) → ⊥
first_request law lines bounds bytes none next = by_block (option_case (block_in bytes))
  where
    by_size : block_in bytes ≡ None → (m : ℕ) → m ≡ MOST_HEAD_BYTES
        → (nat_lt (length bytes) m ≡ true) ⊎ (nat_lt (length bytes) m ≡ false) → ⊥
    by_size e m same (inl k) =
        unfinished_stops bytes none (inl (e, subst (λ n. length bytes < n) same (lower (length bytes) m k)))
    by_size e m same (inr k) =
        none end.HeadTooLarge (inl (e, subst (λ n. n ≤ length bytes) same (upper (length bytes) m k)))

    by_lines : (len : ℕ) → block_in bytes ≡ Some len → (m : ℕ) → m ≡ MOST_LINES
        → (nat_lt m (line_count (take len bytes)) ≡ true) ⊎ (nat_lt m (line_count (take len bytes)) ≡ false) → ⊥
    by_lines len e m same (inl k) =
        none end.HeadTooLarge (inr (
          len,
          e,
          subst (λ n. n < line_count (take len bytes)) same (lower m (line_count (take len bytes)) k),
        ))
    by_lines len e m same (inr k) =
        block_request law lines bytes len
        (record {
          found = e;
          few = subst (λ n. line_count (take len bytes) ≤ n) same (upper m (line_count (take len bytes)) k);
          within = (bounds bytes len e).0;
        }) none next

    by_block : (block_in bytes ≡ None) ⊎ ((n : ℕ) × (block_in bytes ≡ Some n)) → ⊥
    by_block (inl e) = by_size e MOST_HEAD_BYTES refl (either (nat_lt (length bytes) MOST_HEAD_BYTES))
    by_block (inr n) =
        by_lines n.0 n.1 MOST_LINES refl (either (nat_lt MOST_LINES (line_count (take n.0 bytes))))

list_in : SomeFirst → EmptyLines → Bounds → (fuel : ℕ) (bytes : List ℕ) → length bytes < fuel
    → ((rs : List Request) (e : End) → IsRequests bytes rs e → ⊥) → ⊥
list_in law lines bounds zero bytes h none = omega (arith, h)
list_in law lines bounds (suc fuel) bytes h none =
    first_request law lines bounds bytes (λ e s. none [] e s)
    (λ q. by_asks q (either (asks q.r)) (λ low others. list_in law lines bounds fuel q.after low others))
  where
    none_left : List Request
    none_left = []

    by_asks : (q : Request1 bytes) → (asks q.r ≡ true) ⊎ (asks q.r ≡ false)
        → (length q.after < fuel → ((rs : List Request) (e : End) → IsRequests q.after rs e → ⊥) → ⊥) → ⊥
    by_asks q (inl a) next =
        none (q.r ∷ []) end.Asked (
          q.after,
          q.starts,
          subst (λ t. on_asks t ((none_left ≡ []) × (end.Asked ≡ end.Asked)) (IsRequests q.after [] end.Asked)) (sym a)
              (refl, refl),
        )
    by_asks q (inr a) next =
        next (omega (arith, h, q.less)) (λ rs e k.
        none (q.r ∷ rs) e
        (q.after, q.starts, subst (λ t. on_asks t ((rs ≡ []) × (e ≡ end.Asked)) (IsRequests q.after rs e)) (sym a) k))

pub some_list : SomeFirst → EmptyLines → Bounds → (bytes : List ℕ)
    → ((rs : List Request) (e : End) → IsRequests bytes rs e → ⊥) → ⊥
some_list law lines bounds bytes none = list_in law lines bounds (suc (length bytes)) bytes (omega arith) none
