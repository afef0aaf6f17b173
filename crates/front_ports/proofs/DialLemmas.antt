-- The bytes sent are noted at the call whose link is handed back.
use Rattle.std.proofs.Common.{◌≡◌, ℕ, ◌<◌, Bool, true, false, if◌then◌else◌, List, ◌∷◌, ◌++◌, length, get_or, set, Some, None, arith, refl, ap, ◌∙◌}
use Rattle.std.proofs.Math.Seq.{set-append_seam, get_or-append_seam}
use Rattle.front_ports.specs.Dials.{NotesSent}
use Rattle.front_ports.specs.declared.dial.Call.{Call}

sent_at : (before after : List Call) (call found : Call) (sent : List ℕ) → found ≡ get_or (before ++ call ∷ after) (length before) found → set (before ++ call ∷ after) (length before) (record found { sent = sent }) ≡ before ++ record call { sent = sent } ∷ after
sent_at before after call found sent is =
    let same : found ≡ call = is ∙ get_or-append_seam before call after found in
    rw same (set-append_seam before call after (record call { sent = sent }))

pub sent_noted : (past : Bool) (calls : List Call) (place number : ℕ) (found : Call) (bytes sent : List ℕ) → place < length calls → place ≡ number → found ≡ get_or calls place found → bytes ≡ sent → NotesSent (if past then None else Some calls) (if past then None else Some (set calls place (record found { sent = bytes }))) number (Some sent)
sent_noted true calls place number found bytes sent within here is same = refl
sent_noted false calls place number found bytes sent within here is same = (
  sent,
  refl,
  λ beyond. absurd (omega arith),
  λ before after call e at.
      let seam : place ≡ length before = omega arith in
      rw (same, e, seam) (ap (λ cs. Some cs) (sent_at before after call found sent (rw (e, seam) at is))),
)
