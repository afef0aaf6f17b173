-- What a dial notes of one exchange.
use Rattle.std.proofs.Common.{◌≡◌, ℕ, ◌<◌, inr, List, [], ◌∷◌, ◌++◌, length, take, Option, None, Some, IfSome, refl, sym, ap, subst, ◌∙◌, arith}
use Rattle.std.proofs.Math.Seq.{take-length}
use Rattle.std.specs.Io.KnownBytes.{Appends, Consumes}
use Rattle.front_base.specs.declared.address.Address.{Address}
use Rattle.front_ports.specs.Cause.{Rose}
use Rattle.front_ports.specs.Dials.{NotesCall, NotesSent}
use Rattle.front_ports.specs.Side.{Side}
use Rattle.front_ports.specs.declared.dial.Call.{Call}
use Rattle.webhook_sink.specs.Replies.{Came, rest_of}
use Rattle.webhook_sink.specs.Exchanges.{EndsBy, ExchangedBy, NotesOne}
use Rattle.webhook_sink.specs.declared.reply.Reply.{Reply}

-- ---- one object told in two ways

pub same_told : (a b : Side) → a ≡ b → a.told ≡ b.told
same_told a b e = ap (λ (s : Side). s.told) e

pub same_number : (a b : Side) (m n : ℕ) → a ≡ b → a.mark ≡ m ∷ [] → b.mark ≡ n ∷ [] → m ≡ n
same_number a b m n e f g = let h : m ∷ [] ≡ n ∷ [] = sym f ∙ ap (λ (s : Side). s.mark) e ∙ g in cc

pub rose_some : (a b : ℕ) → Rose a b → 0 < b
rose_some a b r = omega arith

pub rose_same : (a b c : ℕ) → b ≡ a → Rose b c → Rose a c
rose_same a b c e r = subst (λ n. Rose n c) e r

-- ---- over the link

pub ends-answered : (a0 a b w0 w v : Option (List ℕ)) (text : List ℕ) (faulty : Type 0) (sent : ℕ) (reply : Reply) → a ≡ a0 → v ≡ w
    → (sent ≡ length text) × Appends w0 w (take sent text) → Came a b reply → EndsBy a0 b w0 v text faulty sent (Some reply)
ends-answered a0 a b w0 w v text faulty sent reply e f s k =
    (s.0, subst (λ o. Appends w0 o (take sent text)) (sym f) s.1, subst (λ o. Came o b reply) e k)

pub ends-broken : (a0 b w0 w v : Option (List ℕ)) (text : List ℕ) (faulty : Type 0) (sent : ℕ) → v ≡ w
    → (sent ≡ length text) × Appends w0 w (take sent text) → faulty → EndsBy a0 b w0 v text faulty sent None
ends-broken a0 b w0 w v text faulty sent f s k =
    let e = s.0 in (omega arith, subst (λ o. Appends w0 o (take sent text)) (sym f) s.1, k)

-- ---- what the dial notes

all_taken : (left0 left : Option (List ℕ)) (taken : List ℕ) → Consumes left0 left taken → IfSome left0 (λ held. taken ++ rest_of left ≡ held)
all_taken None left taken c = tt
all_taken (Some held) None taken c = absurd c
all_taken (Some held) (Some rest) taken c = sym c

all_left : (left0 : Option (List ℕ)) → IfSome left0 (λ held. rest_of left0 ≡ held)
all_left None = tt
all_left (Some held) = refl

told_held : (left0 : Option (List ℕ)) (pick held : List ℕ) → IfSome left0 (λ h. pick ≡ h) → left0 ≡ Some held → pick ≡ held
told_held None pick held p e = absurd (cc e)
told_held (Some h) pick held p e = let f : h ≡ held = cc in p ∙ f

told_sent : (written0 written : Option (List ℕ)) (sent text : List ℕ) → written0 ≡ Some [] → written ≡ Some sent → Appends written0 written text → sent ≡ text
told_sent written0 written sent text e f p =
    let q : Appends (Some []) (Some sent) text = subst (λ o. Appends (Some []) o text) f (subst (λ o. Appends o written text) e p) in q

noted : (calls0 calls1 calls2 : Option (List Call)) (to : Address) (m n : ℕ) (left0 written0 written : Option (List ℕ)) (text pick : List ℕ)
    → NotesCall calls0 calls1 to m left0 written0 → n ≡ m → Appends written0 written text → NotesSent calls1 calls2 n written
    → IfSome left0 (λ held. pick ≡ held) → NotesOne calls0 calls2 to text pick
noted None calls1 calls2 to m n left0 written0 written text pick c e p d h = subst (λ o. NotesSent o calls2 n written) c d
noted (Some calls) calls1 calls2 to m n left0 written0 written text pick c e p d h =
    let held = c.0 in
    let call : Call = record { to = to; sent = []; held = held } in
    let last : NotesSent (Some (calls ++ call ∷ [])) calls2 n written = subst (λ o. NotesSent o calls2 n written) c.4 d in
    let sent : last.0 ≡ text = told_sent written0 written last.0 text c.2 last.1 p in
    let same : pick ≡ held = told_held left0 pick held h c.1 in
    let two : calls2 ≡ Some (calls ++ record call { sent = last.0 } ∷ []) = last.3 calls [] call refl (sym (e ∙ c.3)) in
    two ∙ ap (λ s. Some (calls ++ record call { sent = s } ∷ [])) sent
    ∙ ap (λ b. let x : Call = record { to = to; sent = text; held = b } in Some (calls ++ x ∷ [])) (sym same)

pub exchanged : (calls0 calls1 calls2 : Option (List Call)) (to : Address) (m n : ℕ) (left0 left written0 written : Option (List ℕ)) (text : List ℕ)
    (dial_rose link_rose faulty : Type 0) (sent : ℕ) (reply : Option Reply)
    → NotesCall calls0 calls1 to m left0 written0 → n ≡ m → NotesSent calls1 calls2 n written → (faulty → link_rose)
    → EndsBy left0 left written0 written text faulty sent reply → ExchangedBy calls0 calls2 to text dial_rose link_rose sent reply
exchanged calls0 calls1 calls2 to m n left0 left written0 written text dial_rose link_rose faulty sent (Some reply) c e d f t =
    let came = t.2 in
    let whole : take sent text ≡ text = ap (λ k. take k text) t.0 ∙ take-length text in
    record {
      held = came.taken ++ rest_of left;
      all = t.0;
      noted = noted calls0 calls1 calls2 to m n left0 written0 written text (came.taken ++ rest_of left) c e
          (subst (λ z. Appends written0 written z) whole t.1) d (all_taken left0 left came.taken came.consumed);
      replies = came.is;
    }
exchanged calls0 calls1 calls2 to m n left0 left written0 written text dial_rose link_rose faulty sent None c e d f t =
    inr (record {
      held = rest_of left0;
      within = t.0;
      noted = noted calls0 calls1 calls2 to m n left0 written0 written (take sent text) (rest_of left0) c e t.1 d (all_left left0);
      rose = f t.2;
    })
