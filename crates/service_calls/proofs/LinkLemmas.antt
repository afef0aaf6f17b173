-- A link that is handed back.
use Rattle.std.proofs.Common.{◌≡◌, ℕ, ◌⊎◌, false, List, [], ◌∷◌, ◌++◌, Option, None, Some, refl, sym, ap, subst, ◌∙◌, append_assoc, append-nil, inl, inr}
use Rattle.std.specs.Io.KnownBytes.{Consumes}
use Rattle.body_frames.specs.declared.frame.Frame.{Frame}
use Rattle.service_calls.specs.Calls.{DialState}
use Rattle.service_calls.specs.Fetched.{Closes}
use Rattle.forward_link.specs.Exchange.{NotesOpen, NotesOne, LinkState}
use Rattle.forward_link.specs.Reading.{rest_of}
use Rattle.forward_link.specs.Says.{stream, Got}
use Rattle.forward_link.specs.declared.kind.TheConstants.{MOST_INTERIM}
use Rattle.front_base.specs.declared.address.Address.{Address}
use Rattle.front_ports.specs.Dials.{NotesSent}
use Rattle.front_ports.specs.Side.{Side}
use Rattle.front_ports.specs.declared.dial.Call.{Call}
use Rattle.http_head.specs.declared.reply.ReplyHead.{ReplyHead}
use Rattle.wire_intake.specs.Seen.{Seen}
use Rattle.service_calls.proofs.SaysLemmas.{BlocksStay, BlocksEnd, says_more}

same_some : (a b : List ℕ) → Some a ≡ Some b → a ≡ b
same_some a b e = cc

-- what was open is noted whole once it is handed back
pub noted : (calls0 calls new : Option (List Call)) (to : Address) (text held : List ℕ) (link : LinkState)
    → NotesOpen calls0 calls to text held link → NotesSent calls new link.number link.written → NotesOne calls0 new to text held
noted None calls new to text held link h s = subst (λ o. NotesSent o new link.number link.written) h s
noted (Some before) calls new to text held link h s =
    let own : Call = record { to = to; sent = []; held = held } in
    let k = subst (λ o. NotesSent o new link.number link.written) h.0 s in
    let is : k.0 ≡ text = same_some k.0 text (sym k.1 ∙ h.2) in
    k.3 before [] own refl (sym h.1) ∙ ap (λ (t : List ℕ). Some (before ++ record { to = to; sent = t; held = held } ∷ [])) is

-- ---- what came after the head

-- more than the link told came only where it doesn't tell what is left
pub record After (left0 left : Option (List ℕ)) (rest seen : List ℕ) : Type 0 where
  pub more : List ℕ
  pub all : seen ++ rest_of left ≡ (rest ++ rest_of left0) ++ more
  pub told : (left0 ≡ None) ⊎ (more ≡ [])

after_by : (left0 left : Option (List ℕ)) (rest seen taken : List ℕ) → Consumes left0 left taken → seen ≡ rest ++ taken → After left0 left rest seen
after_by None left rest seen taken c e = record {
  more = taken ++ rest_of left;
  all = ap (λ l. l ++ rest_of left) e ∙ append_assoc rest taken (rest_of left)
      ∙ ap (λ l. l ++ (taken ++ rest_of left)) (sym (append-nil rest));
  told = inl refl;
}
after_by (Some bytes) None rest seen taken c e = absurd c
after_by (Some bytes) (Some left) rest seen taken c e = record {
  more = [];
  all = ap (λ l. l ++ left) e ∙ append_assoc rest taken left ∙ ap (λ l. rest ++ l) (sym c) ∙ sym (append-nil (rest ++ bytes));
  told = inr refl;
}

noted_by : (calls0 calls new : Option (List Call)) (to : Address) (text held more : List ℕ) (link : LinkState) → link.left ≡ None
    → NotesOpen calls0 calls to text held link → NotesSent calls new link.number link.written → NotesOne calls0 new to text (held ++ more)
noted_by None calls new to text held more link e h s = subst (λ o. NotesSent o new link.number link.written) h s
noted_by (Some before) calls new to text held more link e h s = let f = h.3 in absurd (cc (e, f))

noted_after : (calls0 calls new : Option (List Call)) (to : Address) (text held more : List ℕ) (link : LinkState) → (link.left ≡ None) ⊎ (more ≡ [])
    → NotesOpen calls0 calls to text held link → NotesSent calls new link.number link.written → NotesOne calls0 new to text (held ++ more)
noted_after calls0 calls new to text held more link (inl e) h s = noted_by calls0 calls new to text held more link e h s
noted_after calls0 calls new to text held more link (inr e) h s =
    subst (λ l. NotesOne calls0 new to text l) (sym (append-nil held) ∙ ap (λ l. held ++ l) (sym e))
    (noted calls0 calls new to text held link h s)

pub closes : BlocksStay → BlocksEnd → (head : ReplyHead) (frame : Frame) (rest seen : List ℕ) (link : LinkState) (left : Option (List ℕ))
    (k n : DialState) → Seen link.left left rest seen → NotesSent k.calls n.calls link.number link.written
    → Closes head frame rest link k n (seen ++ rest_of left)
closes stay ends head frame rest seen link left k n t s calls to text h =
    let a = after_by link.left left rest seen t.taken t.consumed t.all in
    record {
      held = h.held ++ a.more;
      noted = noted_after calls k.calls n.calls to text h.held a.more link a.told h.noted s;
      got = subst (λ l. Got false false (h.held ++ a.more) (stream head frame l)) (sym a.all)
          (says_more stay ends false false head frame (rest ++ rest_of link.left) a.more MOST_INTERIM h.held h.got);
    }

-- ---- a link that was only read

pub told_kept : (a b : Side) → a ≡ b → a.told ≡ b.told
told_kept a b e = ap (λ (s : Side). s.told) e

pub mark_kept : (a b : Side) → a ≡ b → a.mark ≡ b.mark
mark_kept a b e = ap (λ (s : Side). s.mark) e

same_number : (a b : ℕ) → a ∷ [] ≡ b ∷ [] → a ≡ b
same_number a b e = cc

pub sent_same : (calls new : Option (List Call)) (number0 number : ℕ) (written0 written : Option (List ℕ)) → written ≡ written0
    → number ∷ [] ≡ number0 ∷ [] → NotesSent calls new number written → NotesSent calls new number0 written0
sent_same calls new number0 number written0 written ew en s =
    subst (λ w. NotesSent calls new number0 w) ew (subst (λ i. NotesSent calls new i written) (same_number number number0 en) s)
