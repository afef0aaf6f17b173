-- What fits, and the members of lines that do.
use Rattle.std.proofs.Common.{◌≡◌, ℕ, ◌<◌, ◌≤◌, List, [], ◌∷◌, ◌++◌, length, Bool, true, false, nat_le, if◌then◌else◌, refl, sym, ap, ◌∙◌, append_assoc, append-nil, length-append, arith}
use Rattle.std.proofs.lemmas.Bool.{leb-true, leb-false}
use Rattle.event_text.specs.Line.{line_text, stripped, event_members, request_members, reply_members, status_members, time_members, truncated_members}
use Rattle.event_text.specs.Members.{joined, object}
use Rattle.stage_event.specs.declared.event.Event.{Event}
use Rattle.truncate_backend.specs.declared.fitted.Fit.{Fit}
use Rattle.truncate_backend.specs.declared.fitted.Fit.TheVariants.{Whole, Stripped, TooLarge}
use Rattle.truncate_backend.specs.Fits.{fitted, before_objects, objects, after_objects, annotation}

-- ---- which of the three it is

chosen_whole : (b c : Bool) (whole cut line : List ℕ) (size : ℕ) →
    ◌≡◌ {A = Fit} (if b then Whole whole else (if c then Stripped cut else TooLarge size)) (Whole line) → (b ≡ true) × (line ≡ whole)
chosen_whole true c whole cut line size h = (refl, cc)
chosen_whole false true whole cut line size h = cc
chosen_whole false false whole cut line size h = cc

chosen_stripped : (b c : Bool) (whole cut line : List ℕ) (size : ℕ) →
    ◌≡◌ {A = Fit} (if b then Whole whole else (if c then Stripped cut else TooLarge size)) (Stripped line) →
    (b ≡ false) × (c ≡ true) × (line ≡ cut)
chosen_stripped true c whole cut line size h = cc
chosen_stripped false true whole cut line size h = (refl, refl, cc)
chosen_stripped false false whole cut line size h = cc

chosen_none : (b c : Bool) (whole cut : List ℕ) (size n : ℕ) →
    ◌≡◌ {A = Fit} (if b then Whole whole else (if c then Stripped cut else TooLarge size)) (TooLarge n) →
    (b ≡ false) × (c ≡ false) × (n ≡ size)
chosen_none true c whole cut size n h = cc
chosen_none false true whole cut size n h = cc
chosen_none false false whole cut size n h = (refl, refl, cc)

pub fit-whole : (e : Event) (max : ℕ) (line : List ℕ) → fitted e max ≡ Whole line →
    (line ≡ line_text e) × (length line ≤ max)
fit-whole e max line h =
    let whole = line_text e in
    let cut = line_text (stripped e) in
    let c = chosen_whole (nat_le (length whole) max) (nat_le (length cut) max) whole cut line (length cut) h in
    let a = leb-true (length whole) max c.0 in
    let b = ap length c.1 in
    (c.1, omega arith)

pub fit-stripped : (e : Event) (max : ℕ) (line : List ℕ) → fitted e max ≡ Stripped line →
    (line ≡ line_text (stripped e)) × (length line ≤ max) × (max < length (line_text e))
fit-stripped e max line h =
    let whole = line_text e in
    let cut = line_text (stripped e) in
    let c = chosen_stripped (nat_le (length whole) max) (nat_le (length cut) max) whole cut line (length cut) h in
    let a = leb-false (length whole) max c.0 in
    let d = leb-true (length cut) max c.1 in
    let b = ap length c.2 in
    (c.2, omega arith, omega arith)

pub fit-none : (e : Event) (max size : ℕ) → fitted e max ≡ TooLarge size →
    (size ≡ length (line_text (stripped e))) × (max < size) × (max < length (line_text e))
fit-none e max size h =
    let whole = line_text e in
    let cut = line_text (stripped e) in
    let c = chosen_none (nat_le (length whole) max) (nat_le (length cut) max) whole cut (length cut) size h in
    let a = leb-false (length whole) max c.0 in
    let d = leb-false (length cut) max c.1 in
    let b = c.2 in
    (c.2, omega arith, omega arith)

-- ---- the members of lines

regroup : (a b s o t : List (List ℕ)) → a ++ (b ++ ((s ++ o) ++ t)) ≡ (a ++ (b ++ s)) ++ (o ++ t)
regroup a b s o t =
    ap (λ l. a ++ (b ++ l)) (append_assoc s o t)
    ∙ ap (λ l. a ++ l) (sym (append_assoc b s (o ++ t)))
    ∙ sym (append_assoc a (b ++ s) (o ++ t))

whole_members : (e : Event) → line_text e ≡ object (before_objects e ++ (objects e ++ time_members e))
unfolding line_text reply_members
whole_members e = ap object (regroup (event_members e) (request_members e) (status_members e.code) (objects e) (time_members e))

times_end : (e : Event) → time_members e ≡ after_objects e ++ truncated_members e.truncated
unfolding time_members
times_end e = refl

same_before : (e : Event) → before_objects (stripped e) ≡ before_objects e
unfolding event_members request_members
same_before e = refl

same_after : (e : Event) → after_objects (stripped e) ≡ after_objects e
unfolding time_members
same_after e = refl

pub members-whole : (e : Event) → line_text e ≡ object (before_objects e ++ (objects e ++ (after_objects e ++ truncated_members e.truncated)))
members-whole e = whole_members e ∙ ap (λ t. object (before_objects e ++ (objects e ++ t))) (times_end e)

pub members-stripped : (e : Event) → line_text (stripped e) ≡ object (before_objects e ++ (after_objects e ++ annotation ∷ []))
members-stripped e =
    members-whole (stripped e)
    ∙ ap (λ b. object (b ++ (after_objects (stripped e) ++ annotation ∷ []))) (same_before e)
    ∙ ap (λ a. object (before_objects e ++ (a ++ annotation ∷ []))) (same_after e)

pub members-plain : (e : Event) → e.truncated ≡ false → line_text e ≡ object (before_objects e ++ (objects e ++ after_objects e))
members-plain e h =
    members-whole e
    ∙ ap (λ b. object (before_objects e ++ (objects e ++ (after_objects e ++ truncated_members b)))) h
    ∙ ap (λ a. object (before_objects e ++ (objects e ++ a))) (append-nil (after_objects e))

-- ---- one member more makes no line shorter

joined_longer : (xs : List (List ℕ)) (m : List ℕ) → length (joined xs) ≤ length (joined (xs ++ m ∷ []))
joined_longer [] m = omega arith
joined_longer (x ∷ []) m = let a = length-append x (44 ∷ m) in omega arith
joined_longer (x ∷ y ∷ ys) m =
    let i = joined_longer (y ∷ ys) m in
    let a = length-append x (44 ∷ joined (y ∷ ys)) in
    let b = length-append x (44 ∷ joined ((y ∷ ys) ++ m ∷ [])) in
    omega arith

object_longer : (xs : List (List ℕ)) (m : List ℕ) → length (object xs) ≤ length (object (xs ++ m ∷ []))
object_longer xs m =
    let i = joined_longer xs m in
    let a = length-append (joined xs) (125 ∷ []) in
    let b = length-append (joined (xs ++ m ∷ [])) (125 ∷ []) in
    omega arith

-- a line without objects has no more bytes than the one that says so
no_longer : (t : Bool) (before after : List (List ℕ)) →
    length (object (before ++ (after ++ truncated_members t))) ≤ length (object (before ++ (after ++ annotation ∷ [])))
no_longer true before after = omega arith
no_longer false before after =
    let p : before ++ (after ++ []) ≡ before ++ after = ap (λ l. before ++ l) (append-nil after) in
    let a = ap (λ l. length (object l)) p in
    let b = ap (λ l. length (object l)) (append_assoc before after (annotation ∷ [])) in
    let c = object_longer (before ++ after) annotation in
    omega arith

pub never-stripped : (e : Event) (max : ℕ) (line : List ℕ) → objects e ≡ [] → fitted e max ≡ Stripped line → ⊥
never-stripped e max line none h =
    let f = fit-stripped e max line h in
    let a = ap length f.0 in
    let b = ap length (members-stripped e) in
    let w = ap length (members-whole e ∙ ap (λ o. object (before_objects e ++ (o ++ (after_objects e ++ truncated_members e.truncated)))) none) in
    let n = no_longer e.truncated (before_objects e) (after_objects e) in
    let x = f.1 in
    let y = f.2 in
    omega arith
