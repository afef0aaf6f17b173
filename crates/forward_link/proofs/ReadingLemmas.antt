-- What was taken from a link so far.
use Rattle.std.proofs.Common.{◌≡◌, ℕ, zero, suc, ◌<◌, ◌≤◌, ◌-◌, min, Bool, true, false, nat_le, List, [], ◌∷◌, ◌++◌, length, take, drop, Option, None, Some, MatchOption, take_all, take-append-drop, refl, sym, ap, subst, ◌∙◌, arith, append_assoc, append-nil}
use Rattle.std.proofs.lemmas.List.{length-take-le}
use Rattle.std.proofs.KnownBytes.{Consumes-nil, Consumes-trans}
use Rattle.std.specs.Io.KnownBytes.{Consumes, IsAtEnd}
use Rattle.front_ports.specs.Cause.{Rose}
use Rattle.body_frames.specs.declared.frame.Frame.{Frame}
use Rattle.http_head.specs.Answer.{IsBlock, IsTooLarge}
use Rattle.http_head.specs.Block.{line_count}
use Rattle.http_head.specs.declared.block.TheConstants.{MOST_LINES}
use Rattle.http_head.specs.Reply.{IsNoReply, IsReplyOf, IsReplyAnswer}
use Rattle.http_head.specs.declared.answer.HeadAnswer.{HeadAnswer}
use Rattle.http_head.specs.declared.answer.HeadAnswer.TheVariants as head
use Rattle.http_head.specs.declared.reply.ReplyHead.{ReplyHead}
use Rattle.wire_intake.specs.Seen.{Seen, NotRead}
use Rattle.wire_intake.specs.Blocks.{NoBlock}
use Rattle.wire_intake.specs.declared.block.BlockStop.{BlockStop}
use Rattle.wire_intake.specs.declared.block.BlockStop.TheVariants as block_stop
use Rattle.wire_intake.specs.declared.intake.ReadStop.{ReadStop}
use Rattle.wire_intake.specs.declared.intake.ReadStop.TheVariants as read_stop
use Rattle.forward_link.specs.declared.kind.HeadKind.TheVariants.{Interim, Refused, Final}
use Rattle.forward_link.specs.declared.kind.TheConstants.{MOST_INTERIM}
use Rattle.forward_link.specs.declared.reply.FinalHead.{FinalHead}
use Rattle.forward_link.specs.declared.reply.ReplyStop.{ReplyStop}
use Rattle.forward_link.specs.declared.reply.ReplyStop.TheVariants as reply_stop
use Rattle.forward_link.specs.Kinds.{kind_of, whole_size}
use Rattle.forward_link.specs.Says.{Said, bad, cut, said_of, Says, Got}
use Rattle.forward_link.specs.Reading.{stop_of, rest_of, is_bad, GotHead, NoneTaken, NoHead, Passed, GotFinal, Came, NoFinal, GotBytes, NoBytes}
use Rattle.forward_link.proofs.SaysLemmas.{BlockLaws, Others, head_says, bad_says, cut_says, all_at_end}

pub rose_same : (a b c : ℕ) → b ≡ a → Rose b c → Rose a c
rose_same a b c e r = subst (λ n. Rose n c) e r

-- ---- one head

no_block_by : (a b : Option (List ℕ)) (x y : List ℕ) (rose : Type 0) (stop : BlockStop) → NoBlock a b x y rose stop
    → NoHead a b x y rose (stop_of stop)
no_block_by a b x y rose block_stop.TooLarge k = record { answer = head.TooLarge; seen = k.0; is = k.1; bad = refl }
no_block_by a b x y rose (block_stop.Input read_stop.AtEnd) k = k
no_block_by a b x y rose (block_stop.Input read_stop.ReadFault) k = k.2
no_block_by a b x y rose (block_stop.Input read_stop.NoMemory) k = tt

pub no_block : (a b : Option (List ℕ)) (x y : List ℕ) (rose : Type 0) (from : BlockStop) (stop : ReplyStop) → stop ≡ stop_of from
    → NoBlock a b x y rose from → NoHead a b x y rose stop
no_block a b x y rose from stop e k = subst (NoHead a b x y rose) (sym e) (no_block_by a b x y rose from k)

pub no_reply : (a b : Option (List ℕ)) (x y : List ℕ) (len : ℕ) → Seen a b x y → IsBlock y len → IsNoReply (take len y) → NoneTaken a b x y
no_reply a b x y len s k none = record { answer = head.BadHead; seen = s; is = (len, k.found, k.few, none); bad = refl }

pub got_head : (a b : Option (List ℕ)) (x y held : List ℕ) (len : ℕ) (h : ReplyHead) → Seen a b x y → IsBlock y len → IsReplyOf (take len y) h
    → held ≡ drop len y → GotHead a b x held h
got_head a b x y held len h s k r e = record { bytes = y; len = len; seen = s; is = (k.found, k.few, r); rest = e }

-- ---- heads one after another

pub passed_none : (is_head : Bool) (a : Option (List ℕ)) (held : List ℕ) → held ≡ [] → Passed is_head a a held MOST_INTERIM
passed_none is_head a held e = record {
  taken = [];
  consumed = Consumes-nil a;
  says = λ streamed rest said r. subst (λ z. Got is_head streamed (z ++ rest) said) e r;
}

module _ (laws : BlockLaws) (is_head : Bool) (a b c : Option (List ℕ)) (held0 bytes : List ℕ) (more : ℕ)
    (p : Passed is_head a b held0 more) (s : Seen b c held0 bytes) where
  abbrev taken_all : List ℕ
  taken_all = p.taken ++ s.taken

  consumed : Consumes a c taken_all
  consumed = Consumes-trans a b c p.taken s.taken p.consumed s.consumed

  -- what the bytes say from here on, they say in all
  from_here : (streamed : Bool) (rest : List ℕ) (said : Said) → Says is_head streamed more (bytes ++ rest) said → Got is_head streamed (taken_all ++ rest) said
  from_here streamed rest said r =
      let t = s.taken in
      let e : held0 ++ (t ++ rest) ≡ bytes ++ rest = sym (append_assoc held0 t rest) ∙ ap (λ z. z ++ rest) (sym s.all) in
      subst (λ z. Got is_head streamed z said) (sym (append_assoc p.taken t rest))
      (p.says streamed (t ++ rest) said (subst (λ z. Says is_head streamed more z said) (sym e) r))

  came : (streamed : Bool) (said : Said) → Says is_head streamed more (bytes ++ rest_of c) said → Came is_head streamed a c said
  came streamed said r = record { taken = taken_all; consumed = consumed; got = from_here streamed (rest_of c) said r }

  came_bad : (streamed : Bool) (answer : HeadAnswer ReplyHead) → IsReplyAnswer bytes answer → is_bad answer ≡ true → Came is_head streamed a c bad
  came_bad streamed answer i e = came streamed bad (bad_says laws is_head streamed more bytes (rest_of c) answer e i)

  came_cut : (streamed : Bool) → IsReplyAnswer bytes head.More → IsAtEnd c → Came is_head streamed a c cut
  came_cut streamed i end =
      came streamed cut (subst (λ z. Says is_head streamed more z cut) (sym (all_at_end bytes c end)) (cut_says is_head streamed more bytes i))

module _ (laws : BlockLaws) (is_head : Bool) (a b c : Option (List ℕ)) (held0 held : List ℕ) (more : ℕ) (h : ReplyHead)
    (p : Passed is_head a b held0 more) (g : GotHead b c held0 held h) where
  pub passed_more : (m : ℕ) → more ≡ suc m → kind_of is_head h ≡ Interim → Passed is_head a c held m
  passed_more m e k = record {
    taken = p.taken ++ g.seen.taken;
    consumed = consumed laws is_head a b c held0 g.bytes more p g.seen;
    says = λ streamed rest said r. from_here laws is_head a b c held0 g.bytes more p g.seen streamed rest said
        (subst (λ n. Says is_head streamed n (g.bytes ++ rest) said) (sym e)
        (head_says laws is_head streamed (suc m) g.bytes rest h g.len Interim said g.is k
        (subst (λ z. Says is_head streamed m (z ++ rest) said) g.rest r)));
  }

  pub came_refused : kind_of is_head h ≡ Refused → (streamed : Bool) → Came is_head streamed a c bad
  came_refused k streamed =
      came laws is_head a b c held0 g.bytes more p g.seen streamed bad
      (head_says laws is_head streamed more g.bytes (rest_of c) h g.len Refused bad g.is k refl)

  pub came_ninth : more ≡ 0 → kind_of is_head h ≡ Interim → (streamed : Bool) → Came is_head streamed a c bad
  came_ninth e k streamed =
      came laws is_head a b c held0 g.bytes more p g.seen streamed bad
      (subst (λ n. Says is_head streamed n (g.bytes ++ rest_of c) bad) (sym e)
      (head_says laws is_head streamed 0 g.bytes (rest_of c) h g.len Interim bad g.is k refl))

  pub got_final : (frame : Frame) → kind_of is_head h ≡ Final frame → GotFinal is_head a c held (record { head = h; frame = frame })
  got_final frame k = record {
    taken = p.taken ++ g.seen.taken;
    consumed = consumed laws is_head a b c held0 g.bytes more p g.seen;
    kind = k;
    says = λ streamed rest. from_here laws is_head a b c held0 g.bytes more p g.seen streamed rest
        (said_of (whole_size streamed frame) frame h (held ++ rest))
        (head_says laws is_head streamed more g.bytes rest h g.len (Final frame) (said_of (whole_size streamed frame) frame h (held ++ rest)) g.is k
        (ap (λ z. said_of (whole_size streamed frame) frame h (z ++ rest)) g.rest));
  }

pub no_final : (laws : BlockLaws) (is_head : Bool) (a b c : Option (List ℕ)) (held0 held : List ℕ) (more : ℕ) (rose0 rose : Type 0) (stop : ReplyStop)
    → (rose0 → rose) → Passed is_head a b held0 more → NoHead b c held0 held rose0 stop → NoFinal is_head a c rose stop
no_final laws is_head a b c held0 held more rose0 rose reply_stop.BadReply f p k =
    λ streamed. came_bad laws is_head a b c held0 held more p k.seen streamed k.answer k.is k.bad
no_final laws is_head a b c held0 held more rose0 rose (reply_stop.Input read_stop.AtEnd) f p k =
    λ streamed. came_cut laws is_head a b c held0 held more p k.0 streamed k.1 k.2
no_final laws is_head a b c held0 held more rose0 rose (reply_stop.Input read_stop.ReadFault) f p k = f k
no_final laws is_head a b c held0 held more rose0 rose (reply_stop.Input read_stop.NoMemory) f p k = tt

-- ---- a body that is read whole

pub seen_none : (a : Option (List ℕ)) (x : List ℕ) → Seen a a x x
seen_none a x = record { taken = []; consumed = Consumes-nil a; all = sym (append-nil x) }

pub seen_join : (a b c : Option (List ℕ)) (x y z : List ℕ) → Seen a b x y → Seen b c y z → Seen a c x z
seen_join a b c x y z p q = record {
  taken = p.taken ++ q.taken;
  consumed = Consumes-trans a b c p.taken q.taken p.consumed q.consumed;
  all = q.all ∙ ap (λ l. l ++ q.taken) p.all ∙ append_assoc x p.taken q.taken;
}

pub not_enough : (a b c : Option (List ℕ)) (x y z : List ℕ) (size : ℕ) (rose0 rose : Type 0) (stop : ReadStop) → (rose0 → rose) → Seen a b x y
    → length y < size → NotRead b c y z rose0 stop → NoBytes a c x size rose stop
not_enough a b c x y z size rose0 rose read_stop.AtEnd f s few k =
    let t = seen_join a b c x y z s k.0.seen in (
      t.taken,
      t.consumed,
      subst (λ l. length l < size) t.all (subst (λ l. length l < size) (sym k.0.same) few),
      k.1,
    )
not_enough a b c x y z size rose0 rose read_stop.ReadFault f s few k = f k.1
not_enough a b c x y z size rose0 rose read_stop.NoMemory f s few k = tt

none_of : {A : Type 0} (o : Option A) (N : Type 0) (S : A → Type 0) → MatchOption o N S → o ≡ None → N
none_of None N S m e = m
none_of (Some x) N S m e = absurd (cc e)

some_of : {A : Type 0} (o : Option A) (x : A) (N : Type 0) (S : A → Type 0) → MatchOption o N S → o ≡ Some x → S x
some_of None x N S m e = absurd (cc e)
some_of (Some y) x N S m e = let f : y ≡ x = cc in subst S f m

-- what a block is, where the slice has the bytes that are held
pub is_none : (o : Option ReplyHead) (slice held : List ℕ) (len : ℕ) → slice ≡ held
    → MatchOption o (IsNoReply (take len slice)) (IsReplyOf (take len slice)) → o ≡ None → IsNoReply (take len held)
is_none o slice held len e m f =
    subst (λ l. IsNoReply (take len l)) e (none_of o (IsNoReply (take len slice)) (IsReplyOf (take len slice)) m f)

pub is_reply : (o : Option ReplyHead) (h : ReplyHead) (slice held : List ℕ) (len : ℕ) → slice ≡ held
    → MatchOption o (IsNoReply (take len slice)) (IsReplyOf (take len slice)) → o ≡ Some h → IsReplyOf (take len held) h
is_reply o h slice held len e m f =
    subst (λ l. IsReplyOf (take len l) h) e (some_of o h (IsNoReply (take len slice)) (IsReplyOf (take len slice)) m f)

pub few_lines : (slice held : List ℕ) (len : ℕ) → slice ≡ held → IsBlock held len → line_count (take len slice) ≤ MOST_LINES
few_lines slice held len e k = subst (λ l. line_count (take len l) ≤ MOST_LINES) (sym e) k.few

-- a body that is held whole
pub got_held : (a : Option (List ℕ)) (held none body : List ℕ) (first size : ℕ) → first ≡ min (length held) size → none ≡ []
    → body ≡ none ++ take first held → first ≡ size → GotBytes a a held size body
got_held a held none body first size m n e f =
    let is : body ≡ take first held = e ∙ ap (λ l. l ++ take first held) n in
    record {
      taken = [];
      consumed = Consumes-nil a;
      extra = drop first held;
      size_is = ap length is ∙ length-take-le first held (omega (arith, m)) ∙ f;
      split = append-nil held ∙ sym (take-append-drop first held) ∙ ap (λ l. l ++ drop first held) (sym is);
    }

start_is : (held none start : List ℕ) (first size : ℕ) → first ≡ min (length held) size → none ≡ [] → start ≡ none ++ take first held
    → (first ≡ size → ⊥) → start ≡ held
start_is held none start first size m n e f = e ∙ ap (λ l. l ++ take first held) n ∙ take_all first held (omega (arith, m, f))

-- one that is held in part
pub got_read : (a b : Option (List ℕ)) (held none start body : List ℕ) (first size : ℕ) → first ≡ min (length held) size → none ≡ []
    → start ≡ none ++ take first held → (first ≡ size → ⊥) → Seen a b start body → length body ≡ size → GotBytes a b held size body
got_read a b held none start body first size m n e f s l =
    let all = start_is held none start first size m n e f in
    record {
      taken = s.taken;
      consumed = s.consumed;
      extra = [];
      size_is = l;
      split = ap (λ z. z ++ s.taken) (sym all) ∙ sym s.all ∙ sym (append-nil body);
    }

pub not_read : (a b : Option (List ℕ)) (held none start : List ℕ) (first size : ℕ) (rose : Type 0) (stop : ReadStop) → first ≡ min (length held) size
    → none ≡ [] → start ≡ none ++ take first held → (first ≡ size → ⊥) → NoBytes a b start size rose stop → NoBytes a b held size rose stop
not_read a b held none start first size rose stop m n e f k =
    subst (λ z. NoBytes a b z size rose stop) (start_is held none start first size m n e f) k
