-- What is said over a link.
use Rattle.std.proofs.Common.{◌≡◌, ℕ, ◌+◌, ◌<◌, ◌≤◌, min, ◌||◌, ◌==◌, nat_lt, nat_le, Bool, true, false, cond, List, [], ◌∷◌, ◌++◌, length, take, drop, Option, None, Some, IfSome, Result, Ok, Err, IfOk, OnErr, refl, sym, ap, subst, ◌∙◌, arith, append_assoc, append-nil}
use Rattle.std.proofs.Math.Seq.{take-append-le, take-append-add, take-append_seam, take-length}
use Rattle.std.proofs.lemmas.Bool.{le-leb, lt-leb, ltb-false}
use Rattle.std.proofs.lemmas.List.{take_min}
use Rattle.std.proofs.KnownBytes.{Appends-trans, Consumes-trans}
use Rattle.std.specs.Io.KnownBytes.{Appends, Consumes, IsAtEnd}
use Rattle.body_frames.specs.declared.frame.Frame.{Frame}
use Rattle.front_ports.specs.Cause.{Rose}
use Rattle.front_ports.specs.Side.{Side}
use Rattle.front_ports.specs.Written.{AppendsFront}
use Rattle.http_head.specs.Framing.{framing}
use Rattle.http_head.specs.declared.reply.ReplyHead.{ReplyHead}
use Rattle.wire_intake.specs.declared.intake.ReadStop.{ReadStop}
use Rattle.wire_intake.specs.declared.intake.ReadStop.TheVariants as read_stop
use Rattle.forward_link.specs.declared.kind.HeadKind.{HeadKind}
use Rattle.forward_link.specs.declared.kind.HeadKind.TheVariants.{Interim, Refused, Final}
use Rattle.forward_link.specs.declared.kind.TheConstants.{MOST_INTERIM}
use Rattle.forward_link.specs.declared.reply.FinalHead.{FinalHead}
use Rattle.forward_link.specs.declared.reply.ReplyStop.{ReplyStop}
use Rattle.forward_link.specs.declared.reply.ReplyStop.TheVariants as reply_stop
use Rattle.forward_link.specs.declared.talk.Talk.{Talk}
use Rattle.forward_link.specs.declared.talk.Talk.TheVariants as talk
use Rattle.forward_link.specs.Kinds.{kind_of, whole_size, final_kind, is_bare, frame_by}
use Rattle.forward_link.specs.Says.{Said, whole, stream, bad, cut, said_of, Got}
use Rattle.forward_link.specs.Reading.{rest_of, GotFinal, Came, NoFinal, GotBytes, NoBytes}
use Rattle.forward_link.specs.Exchange.{IsFinal, said_by, ReadsBy, TalksBy, is_reply, TalksFinal, StopsAs}
use Rattle.forward_link.proofs.SaysLemmas.{all_at_end}

-- ---- one object told in two ways

pub same_told : (a b : Side) → a ≡ b → a.told ≡ b.told
same_told a b e = ap (λ (s : Side). s.told) e

pub same_faults : (a b : Side) → a ≡ b → a.faults ≡ b.faults
same_faults a b e = ap (λ (s : Side). s.faults) e

pub same_number : (a b : Side) (m n : ℕ) → a ≡ b → a.mark ≡ m ∷ [] → b.mark ≡ n ∷ [] → m ≡ n
same_number a b m n e f g = let h : m ∷ [] ≡ n ∷ [] = sym f ∙ ap (λ (s : Side). s.mark) e ∙ g in cc

pub rose_some : (a b : ℕ) → Rose a b → 0 < b
rose_some a b r = omega arith

pub on_err : {T E : Type 0} (r : Result T E) (P : Type 0) → P → OnErr r P
on_err (Ok v) P p = tt
on_err (Err e) P p = p

-- ---- what is written

-- a front of the first text is one of both
pub front_of_first : (w0 w : Option (List ℕ)) (head body : List ℕ) → AppendsFront w0 w head → AppendsFront w0 w (head ++ body)
front_of_first w0 w head body p =
    let k = min p.0 (length head) in
    let e : take k (head ++ body) ≡ take p.0 head = take-append-le k head body (omega arith) ∙ take_min p.0 head in
    (k, subst (λ l. Appends w0 w l) (sym e) p.1)

-- the first text and a front of the second are a front of both
pub front_of_second : (w0 w v : Option (List ℕ)) (head body : List ℕ) → Appends w0 w head → AppendsFront w v body
    → AppendsFront w0 v (head ++ body)
front_of_second w0 w v head body p q = (
  length head + q.0,
  subst (λ l. Appends w0 v l) (sym (take-append-add head body q.0)) (Appends-trans w0 w v head (take q.0 body) p q.1),
)

-- a whole text is a front of it
pub front_of_all : (w0 w : Option (List ℕ)) (text : List ℕ) → Appends w0 w text → AppendsFront w0 w text
front_of_all w0 w text p = (length text, subst (λ l. Appends w0 w l) (sym (take-length text)) p)

-- ---- a final head

not_low : (t : Bool) (k : HeadKind) (frame : Frame) → cond t Refused k ≡ Final frame → (t ≡ false) × (k ≡ Final frame)
not_low true k frame e = absurd (cc e)
not_low false k frame e = (refl, e)

not_interim : (t : Bool) (k : HeadKind) (frame : Frame) → cond t Interim k ≡ Final frame → t ≡ false
not_interim true k frame e = absurd (cc e)
not_interim false k frame e = refl

or_parts : (a b c : Bool) → (a || (b || c)) ≡ false → c ≡ false
or_parts false false c e = e
or_parts true b c e = absurd (cc e)
or_parts false true c e = absurd (cc e)

pub final_status : (is_head : Bool) (head : ReplyHead) (frame : Frame) → kind_of is_head head ≡ Final frame → IsFinal head
final_status is_head head frame e =
    let last = final_kind (is_bare is_head head.status) (frame_by (framing head.headers head.minor)) in
    let low = nat_lt head.status 100 || (head.status == 101 || nat_lt 999 head.status) in
    let p = not_low low (cond (nat_lt head.status 200) Interim last) frame e in
    let q = not_interim (nat_lt head.status 200) last frame p.1 in
    let high = or_parts (nat_lt head.status 100) (head.status == 101) (nat_lt 999 head.status) p.0 in
    let a : 200 ≤ head.status = ltb-false head.status 200 q in
    let b : head.status ≤ 999 = ltb-false 999 head.status high in
    (a, omega (arith, b))

-- ---- what was read

pub came_stream : (is_head streamed : Bool) (a b : Option (List ℕ)) (held rest : List ℕ) (final : FinalHead) → GotFinal is_head a b held final
    → whole_size streamed final.frame ≡ None → rest ≡ held → Came is_head streamed a b (stream final.head final.frame (rest ++ rest_of b))
came_stream is_head streamed a b held rest final g e f = record {
  taken = g.taken;
  consumed = g.consumed;
  got = subst (λ l. Got is_head streamed (g.taken ++ rest_of b) (stream final.head final.frame (l ++ rest_of b))) (sym f)
      (subst (λ s. Got is_head streamed (g.taken ++ rest_of b) (said_of s final.frame final.head (held ++ rest_of b))) e (g.says streamed (rest_of b)));
}

length-both : (xs ys : List ℕ) → length xs ≤ length (xs ++ ys)
length-both [] ys = omega arith
length-both (x ∷ xs) ys = let ih = length-both xs ys in omega (arith, ih)

said_whole : (size : ℕ) (frame : Frame) (head : ReplyHead) (after body more : List ℕ) → length body ≡ size → after ≡ body ++ more
    → said_of (Some size) frame head after ≡ whole head body
said_whole size frame head after body more e f =
    let fits : nat_le (length body) (length (body ++ more)) ≡ true = le-leb (length body) (length (body ++ more)) (length-both body more) in
    ap (λ n. said_of (Some n) frame head after) (sym e) ∙ ap (λ l. said_of (Some (length body)) frame head l) f
    ∙ ap (λ t. cond t (whole head (take (length body) (body ++ more))) cut) fits ∙ ap (λ l. whole head l) (take-append_seam body more)

said_cut : (size : ℕ) (frame : Frame) (head : ReplyHead) (after : List ℕ) → length after < size → said_of (Some size) frame head after ≡ cut
said_cut size frame head after l =
    ap (λ t. cond t (whole head (take size after)) cut) (lt-leb size (length after) l)

module _ (is_head streamed : Bool) (a b c : Option (List ℕ)) (held slice : List ℕ) (final : FinalHead) (size : ℕ)
    (g : GotFinal is_head a b held final) (e : whole_size streamed final.frame ≡ Some size) (s : slice ≡ held) where
  -- what all bytes say, where these were taken after the head
  came_after : (taken : List ℕ) (said : Said) → Consumes b c taken
      → said_of (Some size) final.frame final.head (slice ++ (taken ++ rest_of c)) ≡ said → Came is_head streamed a c said
  came_after taken said k f = record {
    taken = g.taken ++ taken;
    consumed = Consumes-trans a b c g.taken taken g.consumed k;
    got =
        subst (λ l. Got is_head streamed l said) (sym (append_assoc g.taken taken (rest_of c)))
        (subst (Got is_head streamed (g.taken ++ (taken ++ rest_of c))) f
        (subst (λ l. Got is_head streamed (g.taken ++ (taken ++ rest_of c)) (said_of (Some size) final.frame final.head (l ++ (taken ++ rest_of c)))) (sym s)
        (subst (λ o. Got is_head streamed (g.taken ++ (taken ++ rest_of c)) (said_of o final.frame final.head (held ++ (taken ++ rest_of c)))) e
        (g.says streamed (taken ++ rest_of c)))));
  }

  pub came_whole : (body v : List ℕ) → v ≡ body → GotBytes b c slice size body → Came is_head streamed a c (whole final.head v)
  came_whole body v same k =
      subst (λ l. Came is_head streamed a c (whole final.head l)) (sym same)
      (came_after k.taken (whole final.head body) k.consumed
      (said_whole size final.frame final.head (slice ++ (k.taken ++ rest_of c)) body (k.extra ++ rest_of c) k.size_is
      (sym (append_assoc slice k.taken (rest_of c)) ∙ ap (λ l. l ++ rest_of c) k.split ∙ append_assoc body k.extra (rest_of c))))

  came_short : (taken : List ℕ) → Consumes b c taken → length (slice ++ taken) < size → IsAtEnd c → Came is_head streamed a c cut
  came_short taken k few end =
      let all : taken ++ rest_of c ≡ taken = all_at_end taken c end in
      came_after taken cut k
      (ap (λ l. said_of (Some size) final.frame final.head (slice ++ l)) all ∙ said_cut size final.frame final.head (slice ++ taken) few)

  pub body_stops : (rose0 rose : Type 0) (stop : ReadStop) (t : Talk) → (rose0 → rose) → NoBytes b c slice size rose0 stop → StopsAs (reply_stop.Input stop) t
      → ReadsBy is_head streamed a c rose (said_by c t)
  body_stops rose0 rose read_stop.AtEnd t f k z =
      subst (λ x. ReadsBy is_head streamed a c rose (said_by c x)) (sym z) (came_short k.0 k.1 k.2 k.3)
  body_stops rose0 rose read_stop.ReadFault t f k z = subst (λ x. ReadsBy is_head streamed a c rose (said_by c x)) (sym z) (f k)
  body_stops rose0 rose read_stop.NoMemory t f k z = absurd z

pub head_stops : (is_head streamed : Bool) (a b : Option (List ℕ)) (rose : Type 0) (stop : ReplyStop) (t : Talk) → NoFinal is_head a b rose stop
    → StopsAs stop t → ReadsBy is_head streamed a b rose (said_by b t)
head_stops is_head streamed a b rose reply_stop.BadReply t k z = subst (λ x. ReadsBy is_head streamed a b rose (said_by b x)) (sym z) (k streamed)
head_stops is_head streamed a b rose (reply_stop.Input read_stop.AtEnd) t k z =
    subst (λ x. ReadsBy is_head streamed a b rose (said_by b x)) (sym z) (k streamed)
head_stops is_head streamed a b rose (reply_stop.Input read_stop.ReadFault) t k z =
    subst (λ x. ReadsBy is_head streamed a b rose (said_by b x)) (sym z) k
head_stops is_head streamed a b rose (reply_stop.Input read_stop.NoMemory) t k z = absurd z

pub stops_status : (stop : ReplyStop) (t : Talk) → StopsAs stop t → TalksFinal t
stops_status reply_stop.BadReply t z = subst TalksFinal (sym z) tt
stops_status (reply_stop.Input read_stop.AtEnd) t z = subst TalksFinal (sym z) tt
stops_status (reply_stop.Input read_stop.ReadFault) t z = subst TalksFinal (sym z) tt
stops_status (reply_stop.Input read_stop.NoMemory) t z = absurd z

pub stops_reply : (P : Type 0) (stop : ReplyStop) (t : Talk) → StopsAs stop t → is_reply t ≡ true → P
stops_reply P reply_stop.BadReply t z e = let f : false ≡ true = ap is_reply (sym z) ∙ e in absurd (cc f)
stops_reply P (reply_stop.Input read_stop.AtEnd) t z e = let f : false ≡ true = ap is_reply (sym z) ∙ e in absurd (cc f)
stops_reply P (reply_stop.Input read_stop.ReadFault) t z e = let f : false ≡ true = ap is_reply (sym z) ∙ e in absurd (cc f)
stops_reply P (reply_stop.Input read_stop.NoMemory) t z e = absurd z

-- ---- both

pub talks_by : (is_head streamed : Bool) (a0 a b w0 w v : Option (List ℕ)) (text : List ℕ) (rose faulty : Type 0) (s : Option Said) → a ≡ a0 → v ≡ w
    → (rose → faulty) → Appends w0 w text → ReadsBy is_head streamed a b rose s → TalksBy is_head streamed a0 b w0 v text faulty s
talks_by is_head streamed a0 a b w0 w v text rose faulty (Some said) e f r p k =
    (subst (λ o. Appends w0 o text) (sym f) p, subst (λ o. Came is_head streamed o b said) e k)
talks_by is_head streamed a0 a b w0 w v text rose faulty None e f r p k =
    (front_of_all w0 v text (subst (λ o. Appends w0 o text) (sym f) p), r k)

pub appends_to : (w0 w v : Option (List ℕ)) (text : List ℕ) → v ≡ w → Appends w0 w text → Appends w0 v text
appends_to w0 w v text f p = subst (λ o. Appends w0 o text) (sym f) p
