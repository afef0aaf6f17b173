-- Links that failed.
use Rattle.std.proofs.Common.{◌≡◌, Bool, Option, None, Some, sym, ap, ◌∙◌}
use Rattle.audit_core.specs.declared.link_note.LinkNote.{LinkNote}
use Rattle.audit_core.specs.declared.link_note.LinkNote.TheVariants as note
use Rattle.exchange_replies.specs.Sent.{DialState, Reaches, Sent, note_of}
use Rattle.exchange_replies.specs.Streams.{Came, once, streamed, Comes, link_of}
use Rattle.exchange_replies.specs.declared.reached.Reached.{Reached}
use Rattle.exchange_replies.specs.declared.reached.Reached.TheVariants as reached
use Rattle.front_ports.specs.Cause.{Rose}

not_used : (came : Reached) (own : LinkNote) → came ≡ reached.NotUsed → note_of came ≡ own → note.NotUsed ≡ own
not_used came own e f = sym (ap note_of e) ∙ f

reach_dial : (is_head long : Bool) (own : Option Sent) (m n : DialState) (came : Reached) → Reaches is_head long own m n came
    → note_of came ≡ note.DialFailed → Rose m.faults n.faults
reach_dial is_head long None m n came h e = let z = not_used came note.DialFailed h.0 e in absurd (cc)
reach_dial is_head long (Some own) m n reached.NotUsed h e = absurd h
reach_dial is_head long (Some own) m n (reached.Whole head body) h e = absurd (cc)
reach_dial is_head long (Some own) m n reached.DialFailed h e = h.1
reach_dial is_head long (Some own) m n reached.BadReply h e = absurd (cc)
reach_dial is_head long (Some own) m n reached.Cut h e = absurd (cc)
reach_dial is_head long (Some own) m n reached.LinkFault h e = absurd (cc)

reach_link : (is_head long : Bool) (own : Option Sent) (m n : DialState) (came : Reached) → Reaches is_head long own m n came
    → note_of came ≡ note.LinkFault → Rose m.link_faults n.link_faults
reach_link is_head long None m n came h e = let z = not_used came note.LinkFault h.0 e in absurd (cc)
reach_link is_head long (Some own) m n reached.NotUsed h e = absurd h
reach_link is_head long (Some own) m n (reached.Whole head body) h e = absurd (cc)
reach_link is_head long (Some own) m n reached.DialFailed h e = absurd (cc)
reach_link is_head long (Some own) m n reached.BadReply h e = absurd (cc)
reach_link is_head long (Some own) m n reached.Cut h e = absurd (cc)
reach_link is_head long (Some own) m n reached.LinkFault h e = h.1

pub dial_counted : (is_head long : Bool) (own : Option Sent) (m n : DialState) (came : Came) → Comes is_head long own m n came
    → link_of came ≡ note.DialFailed → Rose m.faults n.faults
dial_counted is_head long own m n (once came) h e = reach_dial is_head long own m n came h e
dial_counted is_head long own m n (streamed head frame after) h e = absurd (cc)

pub link_counted : (is_head long : Bool) (own : Option Sent) (m n : DialState) (came : Came) → Comes is_head long own m n came
    → link_of came ≡ note.LinkFault → Rose m.link_faults n.link_faults
link_counted is_head long own m n (once came) h e = reach_link is_head long own m n came h e
link_counted is_head long own m n (streamed head frame after) h e = absurd (cc)
