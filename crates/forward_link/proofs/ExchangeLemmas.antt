-- What a dial notes of one exchange.
use Rattle.std.proofs.Common.{◌≡◌, ℕ, ◌+◌, ◌<◌, Bool, List, [], ◌∷◌, ◌++◌, length, take, Option, None, Some, IfSome, refl, sym, ap, subst, ◌∙◌, arith}
use Rattle.std.specs.Io.KnownBytes.{Appends, Consumes}
use Rattle.body_frames.specs.declared.frame.Frame.{Frame}
use Rattle.front_base.specs.declared.address.Address.{Address}
use Rattle.front_ports.specs.Dials.{NotesCall, NotesSent}
use Rattle.front_ports.specs.Written.{AppendsFront}
use Rattle.front_ports.specs.declared.dial.Call.{Call}
use Rattle.http_head.specs.declared.reply.ReplyHead.{ReplyHead}
use Rattle.forward_link.specs.Says.{Said, stream, Got}
use Rattle.forward_link.specs.Reading.{rest_of, Came}
use Rattle.forward_link.specs.Exchange.{NotesOne, Answered, HandedBack, LinkState, NotesOpen, Opened, TalksBy}

all_taken : (left0 left : Option (List ℕ)) (taken : List ℕ) → Consumes left0 left taken → IfSome left0 (λ held. taken ++ rest_of left ≡ held)
all_taken None left taken c = tt
all_taken (Some held) None taken c = absurd c
all_taken (Some held) (Some rest) taken c = sym c

all_left : (left0 : Option (List ℕ)) → IfSome left0 (λ held. rest_of left0 ≡ held)
all_left None = tt
all_left (Some held) = refl

told_held : (left0 : Option (List ℕ)) (pick held : List ℕ) → IfSome left0 (λ h. pick ≡ h) → left0 ≡ Some held → pick ≡ held
told_held None pick held p e = absurd (cc e)
told_held (Some h) pick held p e = let f : h ≡ held = cc in p ∙ f

told_sent : (written0 written : Option (List ℕ)) (sent text : List ℕ) → written0 ≡ Some [] → written ≡ Some sent → Appends written0 written text → sent ≡ text
told_sent written0 written sent text e f p =
    let q : Appends (Some []) (Some sent) text = subst (λ o. Appends (Some []) o text) f (subst (λ o. Appends o written text) e p) in q

noted : (calls0 calls1 calls2 : Option (List Call)) (to : Address) (m n : ℕ) (left0 written0 written : Option (List ℕ)) (text pick : List ℕ)
    → NotesCall calls0 calls1 to m left0 written0 → n ≡ m → Appends written0 written text → NotesSent calls1 calls2 n written
    → IfSome left0 (λ held. pick ≡ held) → NotesOne calls0 calls2 to text pick
noted None calls1 calls2 to m n left0 written0 written text pick c e p d h = subst (λ o. NotesSent o calls2 n written) c d
noted (Some calls) calls1 calls2 to m n left0 written0 written text pick c e p d h =
    let held = c.0 in
    let call : Call = record { to = to; sent = []; held = held } in
    let last : NotesSent (Some (calls ++ call ∷ [])) calls2 n written = subst (λ o. NotesSent o calls2 n written) c.4 d in
    let sent : last.0 ≡ text = told_sent written0 written last.0 text c.2 last.1 p in
    let same : pick ≡ held = told_held left0 pick held h c.1 in
    let two : calls2 ≡ Some (calls ++ record call { sent = last.0 } ∷ []) = last.3 calls [] call refl (sym (e ∙ c.3)) in
    two ∙ ap (λ s. Some (calls ++ record call { sent = s } ∷ [])) sent
    ∙ ap (λ b. let x : Call = record { to = to; sent = text; held = b } in Some (calls ++ x ∷ [])) (sym same)

-- ---- a link that was handed back

module _ (is_head streamed : Bool) (calls0 calls1 calls2 : Option (List Call)) (to : Address) (m n : ℕ)
    (left0 left written0 written : Option (List ℕ)) (text : List ℕ) (faulty : Type 0) (s : Option Said)
    (c : NotesCall calls0 calls1 to m left0 written0) (e : n ≡ m) (d : NotesSent calls1 calls2 n written) where
  pub handed : AppendsFront written0 written text → HandedBack calls0 calls2 to text
  handed p = record {
    count = p.0;
    held = rest_of left0;
    noted = noted calls0 calls1 calls2 to m n left0 written0 written (take p.0 text) (rest_of left0) c e p.1 d (all_left left0);
  }

  pub answered : (said : Said) → s ≡ Some said → TalksBy is_head streamed left0 left written0 written text faulty s
      → Answered is_head streamed calls0 calls2 to text said
  answered said f t =
      let p : TalksBy is_head streamed left0 left written0 written text faulty (Some said) = subst (TalksBy is_head streamed left0 left written0 written text faulty) f t in
      record {
        held = p.1.taken ++ rest_of left;
        noted = noted calls0 calls1 calls2 to m n left0 written0 written text (p.1.taken ++ rest_of left) c e p.0 d (all_taken left0 left p.1.taken p.1.consumed);
        got = p.1.got;
      }

  pub faulted : (link_rose : Type 0) → (faulty → link_rose) → s ≡ None → TalksBy is_head streamed left0 left written0 written text faulty s
      → HandedBack calls0 calls2 to text × link_rose
  faulted link_rose r f t =
      let p : TalksBy is_head streamed left0 left written0 written text faulty None = subst (TalksBy is_head streamed left0 left written0 written text faulty) f t in
      (handed p.0, r p.1)

-- ---- a link that is still open

told_left : (left0 left : Option (List ℕ)) (held taken : List ℕ) → left0 ≡ Some held → Consumes left0 left taken → left ≡ Some (rest_of left)
told_left None left held taken e c = absurd (cc e)
told_left (Some h) None held taken e c = absurd c
told_left (Some h) (Some rest) held taken e c = refl

told_written : (written0 written : Option (List ℕ)) (text : List ℕ) → written0 ≡ Some [] → Appends written0 written text → written ≡ Some text
told_written None written text e p = absurd (cc e)
told_written (Some xs) None text e p = absurd p
told_written (Some xs) (Some ys) text e p = let f : xs ≡ [] = cc in ap (λ l. Some l) (p ∙ ap (λ l. l ++ text) f)

notes_open : (calls0 calls1 : Option (List Call)) (to : Address) (m : ℕ) (left0 written0 : Option (List ℕ)) (text taken : List ℕ) (link : LinkState)
    → NotesCall calls0 calls1 to m left0 written0 → link.number ≡ m → Appends written0 link.written text → Consumes left0 link.left taken
    → NotesOpen calls0 calls1 to text (taken ++ rest_of link.left) link
notes_open None calls1 to m left0 written0 text taken link c e p k = c
notes_open (Some calls) calls1 to m left0 written0 text taken link c e p k =
    let same : taken ++ rest_of link.left ≡ c.0 = told_held left0 (taken ++ rest_of link.left) c.0 (all_taken left0 link.left taken k) c.1 in (
      c.4 ∙ ap (λ b. let x : Call = record { to = to; sent = []; held = b } in Some (calls ++ x ∷ [])) (sym same),
      e ∙ c.3,
      told_written written0 link.written text c.2 p,
      told_left left0 link.left c.0 taken c.1 k,
    )

pub opened : (is_head streamed : Bool) (calls0 calls1 : Option (List Call)) (to : Address) (m : ℕ) (left0 written0 : Option (List ℕ)) (text : List ℕ)
    (faulty : Type 0) (s : Option Said) (head : ReplyHead) (frame : Frame) (rest : List ℕ) (link : LinkState)
    → NotesCall calls0 calls1 to m left0 written0 → link.number ≡ m → link.faults ≡ 0 → s ≡ Some (stream head frame (rest ++ rest_of link.left))
    → TalksBy is_head streamed left0 link.left written0 link.written text faulty s
    → Opened is_head streamed calls0 calls1 to text head frame rest link
opened is_head streamed calls0 calls1 to m left0 written0 text faulty s head frame rest link c e z f t =
    let p : TalksBy is_head streamed left0 link.left written0 link.written text faulty (Some (stream head frame (rest ++ rest_of link.left))) =
    subst (TalksBy is_head streamed left0 link.left written0 link.written text faulty) f t in
    record {
      held = p.1.taken ++ rest_of link.left;
      noted = notes_open calls0 calls1 to m left0 written0 text p.1.taken link c e p.0 p.1.consumed;
      got = p.1.got;
      calm = z;
    }
