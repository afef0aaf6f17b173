-- A part of a log, and logs one after another.
use Rattle.std.proofs.Common.{◌≡◌, ℕ, ◌<◌, List, [], ◌∷◌, ◌++◌, length, get_or, inl, inr, ⊎_elim, refl, sym, ap, ◌∙◌, arith, subst, append_assoc, append-nil}
use Rattle.std.specs.List.{AllByRecursion, Contains}
use Rattle.std.proofs.lemmas.List.Elements.{Contains-append_cases, Contains-append_left, Contains-append_right}
use Rattle.audit_check.specs.Conforms.{AllConform}
use Rattle.audit_check.specs.Lines.{IsLine, HasStage}
use Rattle.bay_logs.specs.Woven.{IsPart}
use Rattle.front_base.specs.AuditId.{AuditId}
use Rattle.front_base.specs.declared.stage.Stage.{Stage}
use Rattle.policy_rules.specs.declared.policy.Policy.{Policy}

-- ---- parts of lists

part_later : (part lines : List (List ℕ)) (line : List ℕ) → IsPart part lines → IsPart part (line ∷ lines)
part_later [] lines line h = tt
part_later (first ∷ part) lines line h = inr h

pub part_whole : (lines : List (List ℕ)) → IsPart lines lines
part_whole [] = tt
part_whole (line ∷ lines) = inl (refl, part_whole lines)

pub part_append : (a b c d : List (List ℕ)) → IsPart a c → IsPart b d → IsPart (a ++ b) (c ++ d)
part_append [] b [] d h k = k
part_append [] b (line ∷ c) d h k = part_later b (c ++ d) line (part_append [] b c d tt k)
part_append (x ∷ a) b [] d h k = absurd h
part_append (x ∷ a) b (line ∷ c) d (inl h) k = inl (h.0, part_append a b c d h.1 k)
part_append (x ∷ a) b (line ∷ c) d (inr h) k = inr (part_append (x ∷ a) b c d h k)

pub part_trans : (a b c : List (List ℕ)) → IsPart a b → IsPart b c → IsPart a c
part_trans [] b c h k = tt
part_trans (x ∷ a) [] c h k = absurd h
part_trans (x ∷ a) (y ∷ b) [] h k = absurd k
part_trans (x ∷ a) (y ∷ b) (z ∷ c) h (inr k) = inr (part_trans (x ∷ a) (y ∷ b) c h k)
part_trans (x ∷ a) (y ∷ b) (z ∷ c) (inl h) (inl k) = inl (h.0 ∙ k.0, part_trans a b c h.1 k.1)
part_trans (x ∷ a) (y ∷ b) (z ∷ c) (inr h) (inl k) = inr (part_trans (x ∷ a) b c h k.1)

pub all_part : (P : List ℕ → Type 0) (part lines : List (List ℕ)) → AllByRecursion P lines → IsPart part lines → AllByRecursion P part
all_part P [] lines h k = tt
all_part P (x ∷ part) [] h k = absurd k
all_part P (x ∷ part) (line ∷ lines) h (inl k) = (subst P (sym k.0) h.0, all_part P part lines h.1 k.1)
all_part P (x ∷ part) (line ∷ lines) h (inr k) = all_part P (x ∷ part) lines h.1 k

-- ---- elements

only_one : (x y : List ℕ) → Contains (x ∷ []) y → y ≡ x
only_one x y h = first h.0 h.1 h.2
  where
    first : (k : ℕ) → k < length (x ∷ []) → get_or (x ∷ []) k y ≡ y → y ≡ x
    first k small e = let none : k ≡ 0 = omega arith in sym e ∙ ap (λ i. get_or (x ∷ []) i y) none

contains_self : (x : List ℕ) → Contains (x ∷ []) x
contains_self x = (0, omega arith, refl)

pub all_at : (P : List ℕ → Type 0) (lines : List (List ℕ)) (text : List ℕ) → AllByRecursion P lines → Contains lines text → P text
all_at P [] text h has = let small = has.1 in absurd (omega arith)
all_at P (line ∷ lines) text h has =
    ⊎_elim
    (λ (first : Contains (line ∷ []) text). subst P (sym (only_one line text first)) h.0)
    (λ (later : Contains lines text). all_at P lines text h.1 later)
    (Contains-append_cases (line ∷ []) lines text has)

-- a stage of one line more
pub stage_old : (lines : List (List ℕ)) (text : List ℕ) (id : AuditId) (stage : Stage) → HasStage lines id stage → HasStage (lines ++ text ∷ []) id stage
stage_old lines text id stage h =
    record { event = h.event; text = h.text; contained = Contains-append_left lines (text ∷ []) h.text h.contained; line = h.line; of_it = h.of_it; at_it = h.at_it }

-- that of the line itself, where it is this one
abbrev pub IsOwnStage : List ℕ → AuditId → Stage → Type 0
IsOwnStage text id stage = HasStage (text ∷ []) id stage

pub stage_new : (lines : List (List ℕ)) (text : List ℕ) (id : AuditId) (stage : Stage) → IsOwnStage text id stage → HasStage (lines ++ text ∷ []) id stage
stage_new lines text id stage h =
    record { event = h.event; text = h.text; contained = Contains-append_right lines (text ∷ []) h.text h.contained; line = h.line; of_it = h.of_it; at_it = h.at_it }

pub stage_cases : (A : Type 0) (lines more : List (List ℕ)) (id : AuditId) (stage : Stage) → HasStage (lines ++ more) id stage
    → (HasStage lines id stage → A) → (HasStage more id stage → A) → A
stage_cases A lines more id stage h old new =
    ⊎_elim
    (λ (in_old : Contains lines h.text). old (record { event = h.event; text = h.text; contained = in_old; line = h.line; of_it = h.of_it; at_it = h.at_it }))
    (λ (in_new : Contains more h.text). new (record { event = h.event; text = h.text; contained = in_new; line = h.line; of_it = h.of_it; at_it = h.at_it }))
    (Contains-append_cases lines more h.text h.contained)

pub own_text : (text : List ℕ) (id : AuditId) (stage : Stage) (h : IsOwnStage text id stage) → IsLine h.event text
own_text text id stage h = subst (IsLine h.event) (only_one text h.text h.contained) h.line

-- ---- a part of a log that conforms

-- the first lines have no stage that the others don't
abbrev HasFewer : List (List ℕ) → List (List ℕ) → Type 0
HasFewer fewer lines = (id : AuditId) (stage : Stage) → HasStage fewer id stage → HasStage lines id stage

fewer_line : (fewer lines : List (List ℕ)) (x line : List ℕ) → HasFewer fewer lines → x ≡ line → HasFewer (fewer ++ x ∷ []) (lines ++ line ∷ [])
fewer_line fewer lines x line h e = λ id stage has.
    stage_cases (HasStage (lines ++ line ∷ []) id stage) fewer (x ∷ []) id stage has
    (λ old. stage_old lines line id stage (h id stage old))
    (λ new. stage_new lines line id stage (subst (λ t. IsOwnStage t id stage) e new))

pub part_after : (policy : Policy) (fewer before part lines : List (List ℕ)) → HasFewer fewer before → AllConform policy before lines → IsPart part lines
    → AllConform policy fewer part
part_after policy fewer before [] lines few h k = tt
part_after policy fewer before (x ∷ part) [] few h k = absurd k
part_after policy fewer before (x ∷ part) (line ∷ lines) few h (inl k) =
    let own = h.0 in (
      record {
        event = own.event;
        line = subst (IsLine own.event) (sym k.0) own.line;
        in_place = own.in_place;
        decided = own.decided;
        next = λ earlier has. own.next earlier (few own.event.id earlier has);
      },
      part_after policy (fewer ++ x ∷ []) (before ++ line ∷ []) part lines (fewer_line fewer before x line few k.0) h.1 k.1,
    )
part_after policy fewer before (x ∷ part) (line ∷ lines) few h (inr k) =
    part_after policy fewer (before ++ line ∷ []) (x ∷ part) lines (λ id stage has. stage_old before line id stage (few id stage has)) h.1 k

pub part_conforms : (policy : Policy) (part lines : List (List ℕ)) → AllConform policy [] lines → IsPart part lines → AllConform policy [] part
part_conforms policy part lines h k = part_after policy [] [] part lines (λ id stage has. has) h k

-- ---- one log after another

pub both_conform : (policy : Policy) (before a b : List (List ℕ)) → AllConform policy before a → AllConform policy (before ++ a) b → AllConform policy before (a ++ b)
both_conform policy before [] b h k = subst (λ (ls : List (List ℕ)). AllConform policy ls b) (append-nil before) k
both_conform policy before (line ∷ a) b h k =
    (h.0, both_conform policy (before ++ line ∷ []) a b h.1 (subst (λ (ls : List (List ℕ)). AllConform policy ls b) (sym (append_assoc before (line ∷ []) a)) k))
