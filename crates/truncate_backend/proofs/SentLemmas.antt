-- What the port of a sink was given, over tries.
use Rattle.std.proofs.Common.{◌≡◌, ℕ, List, [], ◌∷◌, ◌++◌, length, take, drop, Option, Some, None, refl, sym, ap, ◌∙◌, append_assoc, append-nil, subst}
use Rattle.std.proofs.Math.Seq.{take-length}
use Rattle.std.proofs.lemmas.List.{take-append-drop}
use Rattle.std.proofs.lemmas.List.Elements.{All-append, All-cons, All-nil, All-head, All-tail}
use Rattle.std.specs.Prelude.{Result, ⊤, All, IfSome}
use Rattle.front_base.specs.Line.{Line}
use Rattle.front_ports.specs.Told.{Grows}
use Rattle.truncate_backend.proofs.TryLemmas.{joined-twice}
use Rattle.truncate_backend.specs.Lanes.{SinkStays}
use Rattle.truncate_backend.specs.Told.{Joined, JoinedEach}
use Rattle.truncate_backend.specs.Tries.{Try, SinkTells, Sends, SentAfter, KeepsSent, IsNoted, IsSingle, IsDone, SentFor, SentBy, BytesFor, Tried, answer_of, sent_bytes, texts_of, try_of}
use Rattle.truncate_backend.specs.declared.tries.SinkFault.{SinkFault}
use Rattle.truncate_backend.specs.declared.tries.TryAnswer.{TryAnswer}
use Rattle.truncate_backend.specs.declared.tries.TryAnswer.TheVariants as answers

sent_append : (text : List Line → List ℕ) (ts us : List Try) → sent_bytes text (ts ++ us) ≡ sent_bytes text ts ++ sent_bytes text us
sent_append text [] us = refl
sent_append text (t ∷ ts) us =
    let now = take t.note.sent (text t.lines) in
    ap (λ l. now ++ l) (sent_append text ts us) ∙ sym (append_assoc now (sent_bytes text ts) (sent_bytes text us))

-- one try more, and the bytes of it
one_more : (before : List ℕ) (text : List Line → List ℕ) (a b : Option (Option (List ℕ))) (ts us : Option (List Try)) (t : Try)
    → Sends a (take t.note.sent (text t.lines)) b → Grows ts us (t ∷ []) → SentAfter before text a ts → SentAfter before text b us
one_more before text None b ts us t s g h = absurd h
one_more before text (Some None) b ts us t s g h = subst (λ (z : Option (Option (List ℕ))). SentAfter before text z us) (sym s) tt
one_more before text (Some (Some x)) None ts us t s g h = absurd s
one_more before text (Some (Some x)) (Some None) ts us t s g h = tt
one_more before text (Some (Some x)) (Some (Some y)) None us t s g h =
    subst (λ (z : Option (List Try)). SentAfter before text (Some (Some y)) z) (sym g) tt
one_more before text (Some (Some x)) (Some (Some y)) (Some ts) None t s g h = tt
one_more before text (Some (Some x)) (Some (Some y)) (Some ts) (Some us) t s g h =
    let now = take t.note.sent (text t.lines) in
    let all : sent_bytes text us ≡ sent_bytes text ts ++ now =
    ap (sent_bytes text) g ∙ sent_append text ts (t ∷ []) ∙ ap (λ z. sent_bytes text ts ++ z) (append-nil now) in
    s ∙ ap (λ z. z ++ now) h ∙ append_assoc before (sent_bytes text ts) now ∙ ap (λ z. before ++ z) (sym all)

joined_none : {T : Type 0} (a : Option (List T)) → Joined a [] a
joined_none None = record { grows = refl }
joined_none (Some xs) = record { grows = sym (append-nil xs) }

each_none : {T : Type 0} (P : T → Type 0) (a : Option (List T)) → JoinedEach P a a
each_none P a = record { more = []; joined = joined_none a; each = All-nil P }

each_one : {T : Type 0} (P : T → Type 0) (a b : Option (List T)) (x : T) → Joined a (x ∷ []) b → P x → JoinedEach P a b
each_one P a b x j p = record { more = x ∷ []; joined = j; each = All-cons P x [] p (All-nil P) }

each_join : {T : Type 0} (P : T → Type 0) (a b c : Option (List T)) → JoinedEach P a b → JoinedEach P b c → JoinedEach P a c
each_join P a b c h k = record {
  more = h.more ++ k.more;
  joined = joined-twice a b c h.more k.more h.joined k.joined;
  each = All-append P h.more k.more h.each k.each;
}

first_each : {T : Type 0} (P : T → Type 0) (xs ys more : List T) → xs ≡ [] → ys ≡ xs ++ more → All P more → All P ys
first_each P xs ys more e f h = subst (All P) (sym (f ∙ ap (λ (z : List _). z ++ more) e)) h

all_joined : {T : Type 0} (P : T → Type 0) (a b : Option (List T)) → IfSome a (λ ts. ts ≡ []) → JoinedEach P a b → IfSome b (All P)
all_joined P a None e j = tt
all_joined P None (Some ys) e j = let g = j.joined.grows in absurd cc
all_joined P (Some xs) (Some ys) e j = first_each P xs ys j.more e j.joined.grows j.each

pub keeps-one : (m n : SinkTells) (lines : List Line) (result : Result ⊤ SinkFault) → Tried m lines result n → KeepsSent m n
keeps-one m n lines result t = record {
  text_is = t.is.text_is;
  follows = λ before h.
      subst (λ (text : List Line → List ℕ). SentAfter before text n.sent n.tries) (sym t.is.text_is)
      (one_more before m.text m.sent n.sent m.tries n.tries (try_of lines t.sent (answer_of result)) t.is.bytes t.is.tries.grows h);
  noted = each_one (IsNoted m.text) m.tries n.tries _ t.is.tries (record { lines = refl; sent = t.is.whole });
}

pub keeps-none : (m : SinkTells) → KeepsSent m m
keeps-none m = record { text_is = refl; follows = λ before h. h; noted = each_none (IsNoted m.text) m.tries }

pub keeps-join : (a b c : SinkTells) → KeepsSent a b → KeepsSent b c → KeepsSent a c
keeps-join a b c h k = record {
  text_is = k.text_is ∙ h.text_is;
  follows = λ before s. k.follows before (h.follows before s);
  noted = each_join (IsNoted a.text) a.tries b.tries c.tries h.noted
      (subst (λ (text : List Line → List ℕ). JoinedEach (IsNoted text) b.tries c.tries) h.text_is k.noted);
}

-- ---- the sink of a lane's own

pub single-one : (m n : SinkTells) (x : Line) (result : Result ⊤ SinkFault) → Tried m (x ∷ []) result n → JoinedEach IsSingle m.tries n.tries
single-one m n x result t = each_one IsSingle m.tries n.tries _ t.is.tries refl

pub stays-none : (a : Option SinkTells) → SinkStays a a
stays-none None = refl
stays-none (Some m) = (keeps-none m, each_none IsSingle m.tries)

pub stays-join : (a b c : Option SinkTells) → SinkStays a b → SinkStays b c → SinkStays a c
stays-join None b c h k = subst (λ (z : Option SinkTells). SinkStays z c) h k
stays-join (Some m) None c h k = absurd h
stays-join (Some m) (Some l) None h k = absurd k
stays-join (Some m) (Some l) (Some n) h k = (keeps-join m l n h.0 k.0, each_join IsSingle m.tries l.tries n.tries h.1 k.1)

pub all-noted : (text : List Line → List ℕ) (a b : Option (List Try)) → IfSome a (λ ts. ts ≡ []) → JoinedEach (IsNoted text) a b
    → IfSome b (All (IsNoted text))
all-noted text a b e j = all_joined (IsNoted text) a b e j

pub all-single : (a b : Option (List Try)) → IfSome a (λ ts. ts ≡ []) → JoinedEach IsSingle a b → IfSome b (All IsSingle)
all-single a b e j = all_joined IsSingle a b e j

-- ---- the texts of tries

whole_taken : (sent : ℕ) (text : List ℕ) → sent ≡ length text → take sent text ≡ text
whole_taken sent text e = ap (λ n. take n text) e ∙ take-length text

bytes_for : (answer : TryAnswer) (sent : ℕ) (text : List ℕ) → SentFor answer sent (length text) → BytesFor answer text (take sent text)
bytes_for answers.Port sent text h = (drop sent text, sym (take-append-drop sent text))
bytes_for answers.Done sent text h = whole_taken sent text h
bytes_for (answers.Refused code) sent text h = whole_taken sent text h
bytes_for answers.BadAnswer sent text h = whole_taken sent text h

pub texts-sent : (text : List Line → List ℕ) (ts : List Try) → All (IsNoted text) ts → SentBy text ts (sent_bytes text ts)
texts-sent text [] h = refl
texts-sent text (t ∷ ts) h =
    let own = take t.note.sent (text t.lines) in (
      own,
      sent_bytes text ts,
      refl,
      bytes_for t.note.answer t.note.sent (text t.lines) (All-head (IsNoted text) t ts h).sent,
      texts-sent text ts (All-tail (IsNoted text) t ts h),
    )

done_whole : (answer : TryAnswer) (text bytes : List ℕ) → answer ≡ answers.Done → BytesFor answer text bytes → bytes ≡ text
done_whole answers.Port text bytes e h = absurd cc
done_whole answers.Done text bytes e h = h
done_whole (answers.Refused code) text bytes e h = h
done_whole answers.BadAnswer text bytes e h = h

pub texts-done : (text : List Line → List ℕ) (ts : List Try) → All (IsNoted text) ts → All IsDone ts → sent_bytes text ts ≡ texts_of text ts
texts-done text [] h d = refl
texts-done text (t ∷ ts) h d =
    let own = bytes_for t.note.answer t.note.sent (text t.lines) (All-head (IsNoted text) t ts h).sent in
    ap (λ (z : List ℕ). z ++ sent_bytes text ts) (done_whole t.note.answer (text t.lines) _ (All-head IsDone t ts d) own)
    ∙ ap (λ (z : List ℕ). text t.lines ++ z) (texts-done text ts (All-tail (IsNoted text) t ts h) (All-tail IsDone t ts d))
