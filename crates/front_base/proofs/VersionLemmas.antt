-- The order of versions is total, since it is made of total orders.
use Rattle.std.proofs.Common.{◌≡◌, ◌↔◌, ℕ, List, sym, ap, subst, ◌∙◌}
use Rattle.std.specs.Cmp.{IsTotalOrder}
use Rattle.std.specs.Cmp.Lexicographic.{slice_cmp}
use Rattle.std.specs.Ordering.{nat_cmp, ordering_then, is_eq}
use Rattle.std.specs.declared.cmp.Ordering.{Ordering}
use Rattle.std.specs.declared.cmp.Ordering.TheVariants.{Less, Equal, Greater}
use Rattle.std.proofs.lemmas.Cmp.{nat_cmp_total, nat_list_cmp_total, on_total, then_total, back_total, tied_itself}
use Rattle.std.proofs.lemmas.Map.Text.{is_eq-slice_cmp}
use Rattle.std.proofs.lemmas.Slice.Eq.{bytes_eq-Decides}
use Rattle.front_base.specs.Version.{version_order, key_of, rank}

pub version_total : IsTotalOrder version_order
version_total =
    then_total (on_total (λ text. rank (key_of text).maturity) nat_cmp_total)
    (then_total (on_total (λ text. (key_of text).major) (back_total nat_cmp_total))
    (then_total (on_total (λ text. (key_of text).minor) (back_total nat_cmp_total)) nat_list_cmp_total))

-- where a chain of orders ties, its last one does
last_equal : (o p q r : Ordering) → ordering_then o (ordering_then p (ordering_then q r)) ≡ Equal → r ≡ Equal
last_equal Equal Equal Equal r e = e
last_equal Equal Equal Less r e = absurd (cc e)
last_equal Equal Equal Greater r e = absurd (cc e)
last_equal Equal Less q r e = absurd (cc e)
last_equal Equal Greater q r e = absurd (cc e)
last_equal Less p q r e = absurd (cc e)
last_equal Greater p q r e = absurd (cc e)

same_texts : (a b : List ℕ) → slice_cmp nat_cmp a b ≡ Equal → a ≡ b
same_texts a b e = (bytes_eq-Decides a b).0 (sym (is_eq-slice_cmp a b) ∙ ap is_eq e)

pub equal_versions : (a b : List ℕ) → version_order a b ≡ Equal ↔ a ≡ b
equal_versions a b = (
  (λ e. same_texts a b (last_equal
      (nat_cmp (rank (key_of a).maturity) (rank (key_of b).maturity))
      (nat_cmp (key_of b).major (key_of a).major) (nat_cmp (key_of b).minor (key_of a).minor)
      (slice_cmp nat_cmp a b) e)),
  (λ e. subst (λ y. version_order a y ≡ Equal) e (tied_itself version_total a)),
)
