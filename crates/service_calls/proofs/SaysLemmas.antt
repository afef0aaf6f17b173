-- What the bytes of a link say goes on with more bytes, where a reply streams.
use Rattle.std.proofs.Common.{◌≡◌, ℕ, zero, suc, ◌≤◌, nat_le, Bool, true, false, if◌then◌else◌, List, ◌++◌, length, take, drop, Option, None, Some, sym, ap, subst, ◌∙◌}
use Rattle.std.proofs.Math.Seq.{take-append-le}
use Rattle.std.proofs.lemmas.List.{drop-append-le}
use Rattle.body_frames.specs.declared.frame.Frame.{Frame}
use Rattle.forward_link.specs.Kinds.{kind_of, whole_size}
use Rattle.forward_link.specs.Says.{Said, stream, whole, bad, cut, said_of, KindSays, AnswerSays, FirstSays, Says}
use Rattle.forward_link.specs.declared.kind.HeadKind.{HeadKind}
use Rattle.forward_link.specs.declared.kind.HeadKind.TheVariants.{Interim, Refused, Final}
use Rattle.http_head.specs.Block.{block_in, line_count}
use Rattle.http_head.specs.Reply.{IsReplyAnswer, IsReply, HasReplyParts}
use Rattle.http_head.specs.declared.answer.HeadAnswer.{HeadAnswer}
use Rattle.http_head.specs.declared.answer.HeadAnswer.TheVariants as head_case
use Rattle.http_head.specs.declared.block.TheConstants.{MOST_HEAD_BYTES, MOST_LINES}
use Rattle.http_head.specs.declared.reply.ReplyHead.{ReplyHead}

abbrev pub BlocksStay : Type 0
BlocksStay = (bytes more : List ℕ) (len : ℕ) → block_in bytes ≡ Some len → block_in (bytes ++ more) ≡ Some len

abbrev pub BlocksEnd : Type 0
BlocksEnd = (bytes : List ℕ) (len : ℕ) → block_in bytes ≡ Some len → (len ≤ length bytes) × (len ≤ MOST_HEAD_BYTES)

same_rest : (h k : ReplyHead) (f g : Frame) (x y : List ℕ) → stream h f x ≡ stream k g y → x ≡ y
same_rest h k f g x y e = cc

same_head : (h k : ReplyHead) (f g : Frame) (x y : List ℕ) → stream h f x ≡ stream k g y → h ≡ k
same_head h k f g x y e = cc

same_frame : (h k : ReplyHead) (f g : Frame) (x y : List ℕ) → stream h f x ≡ stream k g y → f ≡ g
same_frame h k f g x y e = cc

not_by : (b : Bool) (h k : ReplyHead) (f : Frame) (x body : List ℕ) → stream h f x ≡ (if b then whole k body else cut) → ⊥
not_by true h k f x body e = absurd (cc e)
not_by false h k f x body e = absurd (cc e)

said_more : (size : Option ℕ) (frame f : Frame) (head h : ReplyHead) (after x more : List ℕ) → stream h f x ≡ said_of size frame head after
    → stream h f (x ++ more) ≡ said_of size frame head (after ++ more)
said_more None frame f head h after x more e =
    ap (λ l. stream h f (l ++ more)) (same_rest h head f frame x after e)
    ∙ ap (λ k. stream k f (after ++ more)) (same_head h head f frame x after e)
    ∙ ap (λ g. stream head g (after ++ more)) (same_frame h head f frame x after e)
said_more (Some size) frame f head h after x more e = absurd (not_by (nat_le size (length after)) h head f x (take size after) e)

kind_more : (streamed : Bool) (kind : HeadKind) (head h : ReplyHead) (f : Frame) (after x more : List ℕ) (others those : Said → Type 0)
    → (others (stream h f x) → those (stream h f (x ++ more))) → KindSays streamed kind head after others (stream h f x)
    → KindSays streamed kind head (after ++ more) those (stream h f (x ++ more))
kind_more streamed Interim head h f after x more others those go s = go s
kind_more streamed Refused head h f after x more others those go s = absurd (cc s)
kind_more streamed (Final frame) head h f after x more others those go s = said_more (whole_size streamed frame) frame f head h after x more s

module _ (stay : BlocksStay) (ends : BlocksEnd) (is_head streamed : Bool) (h : ReplyHead) (f : Frame) (x more : List ℕ) where
  first_by : (answer : HeadAnswer ReplyHead) (bytes : List ℕ) (others those : List ℕ → Said → Type 0)
      → ((rest : List ℕ) → others rest (stream h f x) → those (rest ++ more) (stream h f (x ++ more)))
      → IsReplyAnswer bytes answer → AnswerSays is_head streamed answer bytes others (stream h f x)
      → FirstSays is_head streamed those (bytes ++ more) (stream h f (x ++ more))
  first_by (head_case.Whole head len) bytes others those go is says =
      let within = (ends bytes len is.0).0 in
      let front : take len (bytes ++ more) ≡ take len bytes = take-append-le len bytes more within in
      let back : drop len (bytes ++ more) ≡ drop len bytes ++ more = drop-append-le len bytes more within in
      record {
        answer = head_case.Whole head len;
        is = (
          stay bytes more len is.0,
          subst (λ l. line_count l ≤ MOST_LINES) (sym front) is.1,
          subst (λ l. (read : _) × IsReply l read × HasReplyParts head read) (sym front) is.2,
        );
        says = subst (λ l. KindSays streamed (kind_of is_head head) head l (those l) (stream h f (x ++ more))) (sym back)
            (kind_more streamed (kind_of is_head head) head h f (drop len bytes) x more (others (drop len bytes)) (those (drop len bytes ++ more))
            (go (drop len bytes)) says);
      }
  first_by head_case.More bytes others those go is says = absurd (cc says)
  first_by head_case.BadHead bytes others those go is says = absurd (cc says)
  first_by head_case.TooLarge bytes others those go is says = absurd (cc says)

  first_more : (bytes : List ℕ) (others those : List ℕ → Said → Type 0)
      → ((rest : List ℕ) → others rest (stream h f x) → those (rest ++ more) (stream h f (x ++ more)))
      → FirstSays is_head streamed others bytes (stream h f x) → FirstSays is_head streamed those (bytes ++ more) (stream h f (x ++ more))
  first_more bytes others those go s = first_by s.answer bytes others those go s.is s.says

  pub says_more : (n : ℕ) (bytes : List ℕ) → Says is_head streamed n bytes (stream h f x)
      → Says is_head streamed n (bytes ++ more) (stream h f (x ++ more))
  unfolding Says
  says_more zero bytes s =
      first_more bytes (λ rest said. said ≡ bad) (λ rest said. said ≡ bad) (λ rest e. absurd (cc e)) s
  says_more (suc n) bytes s =
      first_more bytes (Says is_head streamed n) (Says is_head streamed n) (λ rest e. says_more n rest e) s
