-- Metrics one after another.
use Rattle.std.proofs.Common.{◌≡◌, ℕ, List, [], ◌∷◌, ◌++◌, Result, Ok, Err, IfOk, refl}
use Rattle.std.proofs.lemmas.List.{append-nil}
use Rattle.metrics_text.specs.Exposition.{Metric, metric_text, metrics_text, groups_text}

three_are : (t a b c : List ℕ) (l m n : Metric) → a ≡ metric_text l → b ≡ metric_text m → c ≡ metric_text n → t ≡ a ++ (b ++ c)
    → t ≡ metrics_text (l ∷ m ∷ n ∷ [])
unfolding metrics_text
three_are t a b c l m n x y z w = rw (w, x, y, z, append-nil (metric_text n)) refl

four_are : (t a b c d : List ℕ) (k l m n : Metric) → a ≡ metric_text k → b ≡ metric_text l → c ≡ metric_text m → d ≡ metric_text n
    → t ≡ a ++ (b ++ (c ++ d)) → t ≡ metrics_text (k ∷ l ∷ m ∷ n ∷ [])
unfolding metrics_text
four_are t a b c d k l m n v x y z w = rw (w, v, x, y, z, append-nil (metric_text n)) refl

five_are : (t a b c d e : List ℕ) (k l m n o : List Metric) → a ≡ metrics_text k → b ≡ metrics_text l → c ≡ metrics_text m → d ≡ metrics_text n
    → e ≡ metrics_text o → t ≡ a ++ (b ++ (c ++ (d ++ e))) → t ≡ groups_text (k ∷ l ∷ m ∷ n ∷ o ∷ [])
unfolding metrics_text groups_text
five_are t a b c d e k l m n o u v x y z w = rw (w, u, v, x, y, z, append-nil (metrics_text o)) refl

module _ {S E : Type 0} (text : S → List ℕ) where
  pub three : (r : Result S E) (a b c : List ℕ) (l m n : Metric) → a ≡ metric_text l → b ≡ metric_text m → c ≡ metric_text n
      → IfOk r (λ t. text t ≡ a ++ (b ++ c)) → IfOk r (λ t. text t ≡ metrics_text (l ∷ m ∷ n ∷ []))
  three (Ok t) a b c l m n x y z w = three_are (text t) a b c l m n x y z w
  three (Err e) a b c l m n x y z w = w

  pub four : (r : Result S E) (a b c d : List ℕ) (k l m n : Metric) → a ≡ metric_text k → b ≡ metric_text l → c ≡ metric_text m → d ≡ metric_text n
      → IfOk r (λ t. text t ≡ a ++ (b ++ (c ++ d))) → IfOk r (λ t. text t ≡ metrics_text (k ∷ l ∷ m ∷ n ∷ []))
  four (Ok t) a b c d k l m n v x y z w = four_are (text t) a b c d k l m n v x y z w
  four (Err e) a b c d k l m n v x y z w = w

  pub five : (r : Result S E) (a b c d e : List ℕ) (k l m n o : List Metric) → a ≡ metrics_text k → b ≡ metrics_text l → c ≡ metrics_text m
      → d ≡ metrics_text n → e ≡ metrics_text o → IfOk r (λ t. text t ≡ a ++ (b ++ (c ++ (d ++ e))))
      → IfOk r (λ t. text t ≡ groups_text (k ∷ l ∷ m ∷ n ∷ o ∷ []))
  five (Ok t) a b c d e k l m n o u v x y z w = five_are (text t) a b c d e k l m n o u v x y z w
  five (Err f) a b c d e k l m n o u v x y z w = w
