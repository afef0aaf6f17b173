-- Members that a path leaves out leave no trace.
use Rattle.std.proofs.Common.{◌≡◌, ℕ, zero, suc, ◌∷◌, [], List, Bool, true, false, cond, codes, refl, sym, ap, ◌∙◌}
use Rattle.std.specs.Prelude.{bytes_eq}
use Rattle.std.proofs.lemmas.Slice.Eq.{bytes_eq-Decides}
use Rattle.json_span.specs.Value.{Value, token, array, object, Items, no_items, item, Members, no_members, member}
use Rattle.json_span.specs.Member.{in_quotes}
use Rattle.json_prune.specs.Prune.{Path, dropped, at_name, at_each, star, prune, own_fields, fields_of_items, fields_of_rows, is_table, rows_pruned, managed, put_at, with_member}
use Rattle.json_prune.proofs.PruneLemmas.{prune_comm}
use Rattle.json_prune.proofs.TableLemmas.{both_pruned, rows_last, put_table}

dropped_new : (k : ℕ) (name : List ℕ) (x : Value) (ms : Members) → dropped name (put_at k (in_quotes name) x ms) ≡ dropped name ms
dropped_new zero name x ms =
    ap (λ c. cond c (dropped name ms) (member (in_quotes name) x (dropped name ms))) ((bytes_eq-Decides (in_quotes name) (in_quotes name)).1 refl)
dropped_new (suc k) name x no_members =
    ap (λ c. cond c no_members (member (in_quotes name) x no_members)) ((bytes_eq-Decides (in_quotes name) (in_quotes name)).1 refl)
dropped_new (suc k) name x (member m v ms) = ap (λ l. cond (bytes_eq m (in_quotes name)) l (member m v l)) (dropped_new k name x ms)

named_again : (f g : Value → Value) (name : List ℕ) (ms : Members) → ((v : Value) → f (g v) ≡ f v) → at_name f name (at_name g name ms) ≡ at_name f name ms
named_again f g name no_members h = refl
named_again f g name (member m v ms) h = by_name (bytes_eq m (in_quotes name)) (named_again f g name ms h)
  where
    by_name : (c : Bool) → at_name f name (at_name g name ms) ≡ at_name f name ms → member m (cond c (f (cond c (g v) v)) (cond c (g v) v)) (at_name f name (at_name g name ms)) ≡ member m (cond c (f v) v) (at_name f name ms)
    by_name true e = ap (λ w. member m w (at_name f name (at_name g name ms))) (h v) ∙ ap (member m (f v)) e
    by_name false e = ap (member m v) e

each_again : (f g : Value → Value) (vs : Items) → ((v : Value) → f (g v) ≡ f v) → at_each f (at_each g vs) ≡ at_each f vs
each_again f g no_items h = refl
each_again f g (item v vs) h = ap (λ w. item w (at_each f (at_each g vs))) (h v) ∙ ap (item (f v)) (each_again f g vs h)

pub no_trace : (path : Path) (k : ℕ) (x v : Value) → prune path (with_member path k x v) ≡ prune path v
no_trace [] k x v = refl
no_trace (name ∷ []) k x (token t) = refl
no_trace (name ∷ []) k x (array vs) = refl
no_trace (name ∷ []) k x (object ms) = ap object (dropped_new k name x ms)
no_trace (name ∷ next ∷ path) k x (token t) = refl
no_trace (name ∷ next ∷ path) k x (object ms) = ap object (named_again (prune (next ∷ path)) (with_member (next ∷ path) k x) name ms (λ w. no_trace (next ∷ path) k x w))
no_trace (name ∷ next ∷ path) k x (array vs) = by_star (bytes_eq star name) refl (each_again (prune (next ∷ path)) (with_member (next ∷ path) k x) vs (λ w. no_trace (next ∷ path) k x w))
  where
    by_star : (c : Bool) → bytes_eq star name ≡ c → at_each (prune (next ∷ path)) (at_each (with_member (next ∷ path) k x) vs) ≡ at_each (prune (next ∷ path)) vs
        → prune (name ∷ next ∷ path) (cond c (array (at_each (with_member (next ∷ path) k x) vs)) (array vs)) ≡ cond c (array (at_each (prune (next ∷ path)) vs)) (array vs)
    by_star true e h = ap (λ c. cond c (array (at_each (prune (next ∷ path)) (at_each (with_member (next ∷ path) k x) vs))) (array (at_each (with_member (next ∷ path) k x) vs))) e ∙ ap array h
    by_star false e h = ap (λ c. cond c (array (at_each (prune (next ∷ path)) vs)) (array vs)) e

pub own_hide : (k : ℕ) (x v : Value) → managed (with_member own_fields k x v) ≡ managed v
unfolding managed
own_hide k x v =
    sym (rows_last (with_member own_fields k x v))
    ∙ (ap (λ w. rows_pruned (prune fields_of_items w)) (no_trace own_fields k x v) ∙ rows_last v)

pub items_hide : (k : ℕ) (x v : Value) → managed (with_member fields_of_items k x v) ≡ managed v
unfolding managed
items_hide k x v =
    sym (rows_last (with_member fields_of_items k x v))
    ∙ (ap rows_pruned
    (prune_comm own_fields fields_of_items (with_member fields_of_items k x v)
    ∙ (ap (prune own_fields) (no_trace fields_of_items k x v) ∙ prune_comm fields_of_items own_fields v))
    ∙ rows_last v)

pub rows_hide : (k : ℕ) (x v : Value) → is_table v ≡ true → managed (with_member fields_of_rows k x v) ≡ managed v
unfolding managed
rows_hide k x v is =
    ap both_pruned
    (ap (λ c. cond c (prune fields_of_rows (with_member fields_of_rows k x v)) (with_member fields_of_rows k x v))
    (put_table (codes "rows") star (codes "object" ∷ own_fields) k x v ∙ is)
    ∙ (no_trace fields_of_rows k x v ∙ sym (ap (λ c. cond c (prune fields_of_rows v) v) is)))

pub others_stay : (v : Value) → is_table v ≡ false → managed v ≡ prune fields_of_items (prune own_fields v)
unfolding managed
others_stay v is = ap (λ c. both_pruned (cond c (prune fields_of_rows v) v)) is
