-- What is due to bays, by the doors that were made for them.
use Rattle.std.proofs.Common.{◌≡◌, ◌<◌, ℕ, List, [], ◌∷◌, ◌++◌, length, slice_get, IfSome, Option, All, subst, sym, ap, ◌∙◌, arith}
use Rattle.std.specs.Prelude.{option_map}
use Rattle.std.proofs.lemmas.List.Elements.{All-append, All-cons, All-nil}
use Rattle.front_ports.specs.Memory.{MemConn}
use Rattle.front_ports.specs.MemoryDoor.{door_left}
use Rattle.front_ports.specs.declared.mem_door.MemDoor.{MemDoor}
use Rattle.rehearse_plan.proofs.Places.{places_more, some_place}
use Rattle.rehearse_setting.specs.Sent.{AreSent, IsDue, IsSent}

pub all_more : {A : Type 0} (P : A → Type 0) (xs ys : List A) (x : A) → ys ≡ xs ++ x ∷ [] → All P xs → P x → All P ys
all_more P xs ys x e h p = subst (All P) (sym e) (All-append P xs (x ∷ []) h (All-cons P x [] p (All-nil P)))

pub more_sent : (start count bays : ℕ) (xs ys : List MemDoor) (x : MemDoor) → ys ≡ xs ++ x ∷ [] → AreSent start count bays xs
    → IsSent start count bays (length xs) (door_left x) → AreSent start count bays ys
more_sent start count bays xs ys x e h p =
    subst (AreSent start count bays) (sym e) (places_more (λ bay door. IsSent start count bays bay (door_left door)) xs x h p)

pub is_due : (start count bays : ℕ) (doors : List MemDoor) (due : ℕ → Option (List MemConn)) → length doors ≡ bays
    → AreSent start count bays doors → ((bay : ℕ) → due bay ≡ option_map door_left (slice_get doors bay))
    → IsDue start count bays due
is_due start count bays doors due e h d bay lt =
    let s = some_place doors bay (omega (arith, lt, e)) in (
      door_left s.0,
      (d bay ∙ ap (option_map door_left) s.1),
      subst (λ o. IfSome o (λ door. IsSent start count bays bay (door_left door))) s.1 (h bay),
    )
