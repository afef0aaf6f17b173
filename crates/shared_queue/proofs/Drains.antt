-- What pops of an end, one after another, come to.
use Rattle.std.proofs.Common.{◌≡◌, ◌≢◌, not, ◌==◌, ℕ, zero, suc, ◌+◌, ◌≤◌, ◌<◌, List, [], ◌∷◌, ◌++◌, length, get_or, All, sym, refl, ap, ◌∙◌, subst, ⊎_elim, append_assoc, append-nil, arith, IfSome, Option, Some, None}
use Rattle.std.proofs.lemmas.List.Filters.{length-filter_both}
use Rattle.std.proofs.lemmas.Bool.Decides.{nat_tests}
use native.Mathlib.Decide.{ℕ_discrete}
use Rattle.front_base.specs.Line.{Line}
use Rattle.front_ports.specs.Told.{Grows}
use Rattle.truncate_backend.specs.Outlets.{OutletTells, TakesOne, TakesFrom, Popped}
use Rattle.shared_queue.specs.Bays.{of_bay}
use Rattle.shared_queue.specs.Ends.{EndParts, TellsParts}
use Rattle.shared_queue.proofs.Steps.{of_same, of_other, below_or}
use Rattle.shared_queue.proofs.Ends.{of_first, of_skip, get_past, fewer_left}

get_mid : (before after : List (List Line)) (y : List Line) → get_or (before ++ y ∷ after) (length before) [] ≡ y
get_mid [] after y = refl
get_mid (b ∷ before) after y = get_mid before after y

get_beside : (before after : List (List Line)) (y z : List Line) (k : ℕ) → k ≢ length before → get_or (before ++ y ∷ after) k [] ≡ get_or (before ++ z ∷ after) k []
get_beside [] after y z zero n = absurd (n refl)
get_beside [] after y z (suc k) n = refl
get_beside (b ∷ before) after y z zero n = refl
get_beside (b ∷ before) after y z (suc k) n = get_beside before after y z k (λ e. n (ap suc e))

same_length : (before after : List (List Line)) (y z : List Line) → length (before ++ y ∷ after) ≡ length (before ++ z ∷ after)
same_length [] after y z = refl
same_length (b ∷ before) after y z = ap suc (same_length before after y z)

-- a list of one bay's lines begins with a line of that bay
own_bay : (bay : ℕ) (x : Line) (rest : List Line) → of_bay bay (x ∷ rest) ≡ x ∷ rest → (x.bay ≡ bay) × (of_bay bay rest ≡ rest)
own_bay bay x rest e = elim (ℕ_discrete x.bay bay) [
  | yes is ↦ let f = of_first bay x rest is in let g : x ∷ of_bay bay rest ≡ x ∷ rest = sym f ∙ e in let t : of_bay bay rest ≡ rest = cc in (is, t)
  | no other ↦ let both = length-filter_both (λ (x : Line). x.bay == bay) (λ (x : Line). not (x.bay == bay)) (λ x. refl) rest in
      let l : length (of_bay bay rest) ≡ suc (length rest) = ap length (sym (of_skip bay x rest other) ∙ e) in
      absurd (omega (arith, both, l))
]

pub popped_parts : (accepted : List (List Line)) (taken : List Line) (left new : List (List Line)) (x : Line) (capacity : ℕ) → EndParts accepted taken left capacity → TakesOne left x new → EndParts accepted (taken ++ x ∷ []) new capacity
popped_parts accepted taken left new x capacity p t =
    let j : ℕ = length t.before in
    let was : get_or left j [] ≡ x ∷ t.rest = ap (λ ls. get_or ls j []) t.was ∙ get_mid t.before t.after (x ∷ t.rest) in
    let is : get_or new j [] ≡ t.rest = ap (λ ls. get_or ls j []) t.is ∙ get_mid t.before t.after t.rest in
    let o = own_bay j x t.rest (ap (λ ys. of_bay j ys) (sym was) ∙ (p.own j ∙ was)) in
    let beside : (bay : ℕ) → bay ≢ j → get_or left bay [] ≡ get_or new bay [] = λ bay other.
    ap (λ ls. get_or ls bay []) t.was ∙ (get_beside t.before t.after (x ∷ t.rest) t.rest bay other ∙ sym (ap (λ ls. get_or ls bay []) t.is)) in
    let few = fewer_left left new x t in
    let most = p.within in
    record {
      count = (ap length t.is ∙ (same_length t.before t.after t.rest (x ∷ t.rest) ∙ sym (ap length t.was))) ∙ p.count;
      parts = λ bay. elim (ℕ_discrete bay j) [
        | yes e ↦ subst (λ b. get_or accepted b [] ≡ of_bay b (taken ++ x ∷ []) ++ get_or new b []) (sym e)
            (p.parts j ∙ (ap (λ ys. of_bay j taken ++ ys) was ∙ (sym (append_assoc (of_bay j taken) (x ∷ []) t.rest)
            ∙ (ap (λ (ys : List Line). ys ++ t.rest) (sym (of_same j taken x o.0)) ∙ ap (λ ys. of_bay j (taken ++ x ∷ []) ++ ys) (sym is)))))
        | no other ↦ p.parts bay ∙ (ap (λ ys. of_bay bay taken ++ ys) (beside bay other)
            ∙ ap (λ (ys : List Line). ys ++ get_or new bay []) (sym (of_other bay taken x (λ e. other (sym e ∙ o.0)))))
      ];
      own = λ bay. elim (ℕ_discrete bay j) [
        | yes e ↦ subst (λ b. of_bay b (get_or new b []) ≡ get_or new b []) (sym e) (ap (λ ys. of_bay j ys) is ∙ (o.1 ∙ sym is))
        | no other ↦ let b = beside bay other in ap (λ ys. of_bay bay ys) (sym b) ∙ (p.own bay ∙ b)
      ];
      within = omega (arith, few, most);
    }

some_told : (accepted : List (List Line)) (capacity : ℕ) (t u : Option (List Line)) (l k : Option (List (List Line))) (x : Line)
    → IfSome t (λ taken. IfSome l (λ left. EndParts accepted taken left capacity)) → Grows t u (x ∷ []) → TakesFrom l x k
    → IfSome u (λ taken. IfSome k (λ left. EndParts accepted taken left capacity))
some_told accepted capacity t None l k x h g f = tt
some_told accepted capacity None (Some u) l k x h g f = absurd cc
some_told accepted capacity (Some t) (Some u) None k x h g f = subst (λ z. IfSome z (λ left. EndParts accepted u left capacity)) (sym f) tt
some_told accepted capacity (Some t) (Some u) (Some l) None x h g f = absurd f
some_told accepted capacity (Some t) (Some u) (Some l) (Some k) x h g f = subst (λ ys. EndParts accepted ys k capacity) (sym g) (popped_parts accepted t l k x capacity h f)

pub pop_keeps : (accepted : List (List Line)) (capacity : ℕ) (m n : OutletTells) (line : Option Line) → TellsParts accepted capacity m → Popped m line n → TellsParts accepted capacity n
pop_keeps accepted capacity m n None h p =
    subst (λ (z : Option (List Line) × Option (List (List Line))). IfSome z.0 (λ taken. IfSome z.1 (λ left. EndParts accepted taken left capacity))) (λ i. (sym p.0 i, sym p.3 i)) h
pop_keeps accepted capacity m n (Some x) h p = some_told accepted capacity m.taken n.taken m.left n.left x h p.0.grows p.2

pub all_taken : (accepted : List (List Line)) (taken : List Line) (left : List (List Line)) (capacity : ℕ) → EndParts accepted taken left capacity → All (λ ls. ls ≡ []) left → (bay : ℕ) → get_or accepted bay [] ≡ of_bay bay taken
all_taken accepted taken left capacity p none bay =
    let gone : get_or left bay [] ≡ [] = ⊎_elim (λ (lt : bay < length left). none bay [] lt) (λ (le : length left ≤ bay). get_past left bay le) (below_or bay (length left)) in
    p.parts bay ∙ (ap (λ ys. of_bay bay taken ++ ys) gone ∙ append-nil (of_bay bay taken))
