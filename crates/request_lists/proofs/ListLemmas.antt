-- Every input has a list of requests, and an end.
use Rattle.std.proofs.Common.{◌≡◌, ℕ, zero, suc, ◌+◌, ◌<◌, ◌⊎◌, inl, inr, true, false, List, [], ◌∷◌, ◌++◌, length, take, drop, Option, None, Some, refl, sym, ap, subst, arith, length-append, length-drop}
use Rattle.httparse.specs.Grammar.{RequestHead}
use Rattle.http_head.specs.Answer.{IsBlock}
use Rattle.http_head.specs.Block.{block_in}
use Rattle.http_head.specs.EmptyLine.{EndsFirstEmptyLine}
use Rattle.http_head.specs.Request.{IsRequest, IsHeadOf}
use Rattle.http_head.specs.declared.request.Head.{Head}
use Rattle.body_frames.specs.Body.{First, whole, refused, part, StandsFirst}
use Rattle.body_frames.specs.declared.frame.BodyFault.TheVariants.{BadChunk, TooLarge}
use Rattle.body_frames.specs.declared.frame.Frame.{Frame}
use Rattle.http_edge.specs.Requests.{frame_of, StartsWithHead, StartsWith, IsUnfinished, is_blank, IsStop, IsRequests, asks, on_asks}
use Rattle.http_edge.specs.declared.TheConstants.{MOST_BODY_BYTES}
use Rattle.http_edge.specs.declared.request.End.{End}
use Rattle.http_edge.specs.declared.request.End.TheVariants as end
use Rattle.http_edge.specs.declared.request.Request.{Request}
use Rattle.request_lists.proofs.AnswerLemmas.{Bounds, Blocked, DecidesBlocks, blocked, request-head}
use Rattle.request_lists.proofs.PieceLemmas.{either}

-- what the crates below say: something stands first where a body begins, and a block isn't empty
abbrev pub SomeFirst : Type 0
SomeFirst = (f : Frame) (limit : ℕ) (bytes : List ℕ) → (v : First) × StandsFirst f limit bytes v

abbrev pub EmptyLines : Type 0
EmptyLines = (bytes : List ℕ) (len : ℕ) → block_in bytes ≡ Some len → EndsFirstEmptyLine bytes len

-- ---- what stands first: a reason to stop, or a request, after which fewer bytes stand

record FirstRequest (bytes : List ℕ) : Type 0 where
  request : Request
  after : List ℕ
  starts : StartsWith bytes request after
  less : length after < length bytes

abbrev Stops : List ℕ → Type 0
Stops bytes = (e : End) × IsStop bytes e

abbrev Starts : List ℕ → Type 0
Starts bytes = Stops bytes ⊎ FirstRequest bytes

unfinished : (bytes : List ℕ) → IsUnfinished bytes → Stops bytes
unfinished bytes h = by_blank (either (is_blank bytes))
  where
    by_blank : (is_blank bytes ≡ true) ⊎ (is_blank bytes ≡ false) → Stops bytes
    by_blank (inl e) = (end.Ended, (h, e))
    by_blank (inr e) = (end.CutShort, (h, λ k. absurd (cc (e, k))))

after_head : SomeFirst → (bytes middle : List ℕ) (h : Head) (f : Frame) → StartsWithHead bytes h middle → frame_of h ≡ Some f
    → length middle < length bytes → Starts bytes
after_head law bytes middle h f s e low = by_first (law f MOST_BODY_BYTES middle)
  where
    shorter : (a b : List ℕ) → middle ≡ a ++ b → length b < length bytes
    shorter a b k = let l = ap length k in let n = length-append a b in omega (arith, low, l, n)

    by_first : (v : First) × StandsFirst f MOST_BODY_BYTES middle v → Starts bytes
    by_first (whole body after, b) =
        inr (record {
          request = record { head = h; body = body };
          after = after;
          starts = record { middle = middle; frame = f; head_is = s; frame_is = e; body_is = b };
          less = shorter b.text after b.split;
        })
    by_first (refused (BadChunk at), b) =
        inl (
          end.BadFraming,
          inr (record {
            head = h;
            middle = middle;
            frame = f;
            fault = BadChunk at;
            head_is = s;
            frame_is = e;
            body_is = b;
            end_is = refl;
          }),
        )
    by_first (refused TooLarge, b) =
        inl (
          end.BodyTooLarge,
          record {
            head = h;
            middle = middle;
            frame = f;
            fault = TooLarge;
            head_is = s;
            frame_is = e;
            body_is = b;
            end_is = refl;
          },
        )
    by_first (part, b) =
        inl (unfinished bytes (inr (record { head = h; middle = middle; frame = f; head_is = s; frame_is = e; part = b })))

frame_case : (o : Option Frame) → (o ≡ None) ⊎ ((f : Frame) × (o ≡ Some f))
frame_case None = inl refl
frame_case (Some f) = inr (f, refl)

at_block : SomeFirst → EmptyLines → DecidesBlocks IsRequest → (bytes : List ℕ) (len : ℕ) → IsBlock bytes len → Starts bytes
at_block law lines decides bytes len block = by_read (decides (take len bytes))
  where
    less : length (drop len bytes) < length bytes
    less =
        let line = (lines bytes len block.found).here in
        omega (arith, line.size, block.within, length-drop len bytes)

    by_frame : (h : Head) → StartsWithHead bytes h (drop len bytes) → (frame_of h ≡ None) ⊎ ((f : Frame) × (frame_of h ≡ Some f)) → Starts bytes
    by_frame h s (inl e) =
        inl (end.BadFraming, inl (record { head = h; middle = drop len bytes; head_is = s; frame_is = e }))
    by_frame h s (inr f) = after_head law bytes (drop len bytes) h f.0 s f.1 less

    by_head : (h : Head) × IsHeadOf (take len bytes) h → Starts bytes
    by_head (h, is) = by_frame h (record { len = len; block = block; is = is; rest = refl }) (frame_case (frame_of h))

    by_read : ((read : RequestHead) × IsRequest (take len bytes) read) ⊎ ((read : RequestHead) → IsRequest (take len bytes) read → ⊥) → Starts bytes
    by_read (inl read) = by_head (request-head (take len bytes) read.0 read.1)
    by_read (inr none) = inl (end.BadHead, record { len = len; block = block; none = none })

stands_first : SomeFirst → EmptyLines → DecidesBlocks IsRequest → (bytes : List ℕ) → Blocked bytes → Starts bytes
stands_first law lines decides bytes (inl more) = inl (unfinished bytes (inl more))
stands_first law lines decides bytes (inr (inl large)) = inl (end.HeadTooLarge, large)
stands_first law lines decides bytes (inr (inr block)) = at_block law lines decides bytes block.0 block.1

-- ---- the list

abbrev pub HasRequests : List ℕ → Type 0
HasRequests bytes = (rs : List Request) × (e : End) × IsRequests bytes rs e

list_in : SomeFirst → EmptyLines → Bounds → DecidesBlocks IsRequest → (fuel : ℕ) (bytes : List ℕ) → length bytes < fuel → HasRequests bytes
list_in law lines bounds decides zero bytes h = absurd (omega (arith, h))
list_in law lines bounds decides (suc fuel) bytes h =
    by_start (stands_first law lines decides bytes (blocked bounds bytes)) (λ rest low. list_in law lines bounds decides fuel rest low)
  where
    none_left : List Request
    none_left = []

    by_asks : (q : FirstRequest bytes) → (asks q.request ≡ true) ⊎ (asks q.request ≡ false) → (length q.after < fuel → HasRequests q.after) → HasRequests bytes
    by_asks q (inl a) next = (
      q.request ∷ [],
      end.Asked,
      (
        q.after,
        q.starts,
        subst (λ t. on_asks t ((none_left ≡ []) × (end.Asked ≡ end.Asked)) (IsRequests q.after [] end.Asked)) (sym a)
            (refl, refl),
      ),
    )
    by_asks q (inr a) next =
        let more = next (omega (arith, h, q.less)) in (
          q.request ∷ more.0,
          more.1,
          (
            q.after,
            q.starts,
            subst (λ t. on_asks t ((more.0 ≡ []) × (more.1 ≡ end.Asked)) (IsRequests q.after more.0 more.1)) (sym a) more.2,
          ),
        )

    by_start : Starts bytes → ((rest : List ℕ) → length rest < fuel → HasRequests rest) → HasRequests bytes
    by_start (inl s) next = ([], s.0, s.1)
    by_start (inr q) next = by_asks q (either (asks q.request)) (next q.after)

pub has-requests : SomeFirst → EmptyLines → Bounds → DecidesBlocks IsRequest → (bytes : List ℕ) → HasRequests bytes
has-requests law lines bounds decides bytes = list_in law lines bounds decides (length bytes + 1) bytes (omega arith)
