-- What is known of one call, by what came of its exchange.
use Rattle.std.proofs.Common.{◌≡◌, ℕ, ◌≤◌, true, false, List, [], ◌∷◌, ◌++◌, take, Option, None, Some, refl, sym, ap, subst, ◌∙◌, arith}
use Rattle.forward_link.specs.Exchange.{Answered, HandedBack, LinkState, NotesOne, NotesOpen, Opened}
use Rattle.forward_link.specs.Reading.{rest_of}
use Rattle.forward_link.specs.Says.{Said, stream, Got}
use Rattle.front_base.specs.declared.address.Address.{Address}
use Rattle.front_ports.specs.Cause.{Rose}
use Rattle.front_ports.specs.Dials.{NotesSent, failed_call}
use Rattle.front_ports.specs.Told.{Adds, Grows}
use Rattle.front_ports.specs.declared.dial.Call.{Call}
use Rattle.http_head.specs.declared.reply.ReplyHead.{ReplyHead}
use Rattle.service_calls.specs.Calls.{DialState, Due}
use Rattle.service_calls.specs.Contacts.{Asks, Joined, LeavesOff, answered, broken, not_dialed, status_in}
use Rattle.service_calls.proofs.LinkLemmas.{noted}

pub joined_adds : (a b : Option (List Call)) (more : List Call) → Adds a b more → Joined true a b more
joined_adds None b more h = h
joined_adds (Some xs) b more h = subst (λ o. Joined true (Some xs) o more) (sym h) refl

joined_grows : (a b : Option (List Call)) (more : List Call) → Grows a b more → Joined false a b more
joined_grows None b more h = h
joined_grows (Some xs) None more h = refl
joined_grows (Some xs) (Some ys) more h = h

-- counts that don't fall
abbrev Later : DialState → DialState → Type 0
Later p q = (p.faults ≤ q.faults) × (p.link_faults ≤ q.link_faults)

module _ (due : Due) (p q : DialState) (text : List ℕ) (same : text ≡ due.text) (later : Later p q) where
  asks_said : (said : Said) (held : List ℕ) → NotesOne p.calls q.calls due.to text held → Got false true held said
      → Asks due (status_in said) p q
  asks_said said held noted got = record {
    contact = record { due = due; sent = due.text; held = held; went = answered; answer = status_in said };
    due_is = refl;
    answer_is = refl;
    makes = record {
      each = ((refl, record { said = said; got = got; answer_is = refl }), tt);
      calls = joined_adds p.calls q.calls _ (subst (λ t. NotesOne p.calls q.calls due.to t held) same noted);
      dials = omega (arith, later.0);
      links = omega (arith, later.1);
    };
  }

  pub asks_answered : (said : Said) → Answered false true p.calls q.calls due.to text said → Asks due (status_in said) p q
  asks_answered said a = asks_said said a.held a.noted a.got

  pub asks_streamed : (between : Option (List Call)) (head : ReplyHead) (frame : _) (rest : List ℕ) (link : LinkState)
      → Opened false true p.calls between due.to text head frame rest link → NotesSent between q.calls link.number link.written
      → Asks due (Some head.status) p q
  asks_streamed between head frame rest link o s =
      asks_said (stream head frame (rest ++ rest_of link.left)) o.held
      (noted p.calls between q.calls due.to text o.held link o.noted s) o.got

  pub asks_broken : HandedBack p.calls q.calls due.to text → Rose p.link_faults q.link_faults → Asks due None p q
  asks_broken h rose = record {
    contact = record { due = due; sent = take h.count due.text; held = h.held; went = broken; answer = None };
    due_is = refl;
    answer_is = refl;
    makes = record {
      each = ((refl, (h.count, refl)), tt);
      calls = joined_adds p.calls q.calls _ (subst (λ t. NotesOne p.calls q.calls due.to (take h.count t) h.held) same h.noted);
      dials = omega (arith, later.0);
      links = rose;
    };
  }

  pub leaves_off : HandedBack p.calls q.calls due.to text → LeavesOff due p q
  leaves_off h = record {
    left = record { due = due; sent = take h.count due.text; held = h.held };
    due_is = refl;
    makes = record {
      each = tt;
      last = (h.count, refl);
      calls = joined_adds p.calls q.calls _ (subst (λ t. NotesOne p.calls q.calls due.to (take h.count t) h.held) same h.noted);
      dials = omega (arith, later.0);
      links = omega (arith, later.1);
    };
  }

pub asks_not_dialed : (due : Due) (p q : DialState) → Grows p.calls q.calls (failed_call due.to ∷ []) → Rose p.faults q.faults
    → p.link_faults ≤ q.link_faults → Asks due None p q
asks_not_dialed due p q grows rose later = record {
  contact = record { due = due; sent = []; held = []; went = not_dialed; answer = None };
  due_is = refl;
  answer_is = refl;
  makes = record {
    each = ((refl, refl, refl), tt);
    calls = joined_grows p.calls q.calls _ grows;
    dials = rose;
    links = omega (arith, later);
  };
}
