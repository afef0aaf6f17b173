-- What it means that a whole log conforms.
use Rattle.std.proofs.Common.{◌≡◌, ℕ, List, [], ◌∷◌, ◌++◌, refl, sym, ap, ◌∙◌, subst, append_assoc, append-nil}
use Rattle.std.specs.List.{AllByRecursion}
use Rattle.policy_rules.specs.declared.policy.Policy.{Policy}
use Rattle.stage_event.specs.declared.event.Event.{Event}
use Rattle.audit_check.specs.Conforms.{Conforms, AllConform}
use Rattle.audit_check.specs.Lines.{IsLine, IsNext}
use Rattle.audit_check.specs.Logs.{MayStand}
use Rattle.audit_check.proofs.LineLemmas.{OneEvent, one_event}

-- the stages of lines rise, after others
abbrev RiseAfter : List (List ℕ) → List (List ℕ) → Type 0
RiseAfter prior lines =
    (before after : List (List ℕ)) (text : List ℕ) (e : Event) → lines ≡ before ++ text ∷ after → IsLine e text → IsNext (prior ++ before) e.id e.stage

pub each_stands : (policy : Policy) (prior lines : List (List ℕ)) → AllConform policy prior lines → AllByRecursion (MayStand policy) lines
each_stands policy prior [] h = tt
each_stands policy prior (text ∷ lines) h =
    (record { event = h.0.event; line = h.0.line; in_place = h.0.in_place; decided = h.0.decided }, each_stands policy (prior ++ text ∷ []) lines h.1)

heads : (x y : List ℕ) (xs ys : List (List ℕ)) → x ∷ xs ≡ y ∷ ys → x ≡ y
heads x y xs ys e = cc

tails : (x y : List ℕ) (xs ys : List (List ℕ)) → x ∷ xs ≡ y ∷ ys → xs ≡ ys
tails x y xs ys e = cc

next_of : OneEvent → (policy : Policy) (prior : List (List ℕ)) (own text : List ℕ) (e : Event) → Conforms policy prior own → own ≡ text → IsLine e text → IsNext prior e.id e.stage
next_of law policy prior own text e h same line =
    let is : h.event ≡ e = one_event law h.event e text (subst (IsLine h.event) same h.line) line in
    subst (λ (x : Event). IsNext prior x.id x.stage) is h.next

pub rise_after : OneEvent → (policy : Policy) (prior lines : List (List ℕ)) → AllConform policy prior lines → RiseAfter prior lines
rise_after law policy prior [] h [] after text e is line = absurd (cc is)
rise_after law policy prior [] h (x ∷ before) after text e is line = absurd (cc is)
rise_after law policy prior (own ∷ lines) h [] after text e is line =
    subst (λ (ls : List (List ℕ)). IsNext ls e.id e.stage) (sym (append-nil prior)) (next_of law policy prior own text e h.0 (heads own text lines after is) line)
rise_after law policy prior (own ∷ lines) h (x ∷ before) after text e is line =
    let deeper : IsNext ((prior ++ own ∷ []) ++ before) e.id e.stage = rise_after law policy (prior ++ own ∷ []) lines h.1 before after text e (tails own x lines (before ++ text ∷ after) is) line in
    let first : own ≡ x = heads own x lines (before ++ text ∷ after) is in
    subst (λ (ls : List (List ℕ)). IsNext ls e.id e.stage) (append_assoc prior (own ∷ []) before ∙ ap (λ (y : List ℕ). prior ++ y ∷ before) first) deeper

pub all_conform : (policy : Policy) (prior lines : List (List ℕ)) → AllByRecursion (MayStand policy) lines → RiseAfter prior lines → AllConform policy prior lines
all_conform policy prior [] stand rise = tt
all_conform policy prior (text ∷ lines) stand rise =
    let own = stand.0 in
    let next : IsNext prior own.event.id own.event.stage = subst (λ (ls : List (List ℕ)). IsNext ls own.event.id own.event.stage) (append-nil prior) (rise [] lines text own.event refl own.line) in
    let later : RiseAfter (prior ++ text ∷ []) lines = λ before after line e is of.
    subst (λ (ls : List (List ℕ)). IsNext ls e.id e.stage) (sym (append_assoc prior (text ∷ []) before)) (rise (text ∷ before) after line e (ap (λ (ls : List (List ℕ)). text ∷ ls) is) of) in
    (record { event = own.event; line = own.line; in_place = own.in_place; decided = own.decided; next = next }, all_conform policy (prior ++ text ∷ []) lines stand.1 later)
