-- Prometheus' text format, version 0.0.4 (prometheus.io/docs/instrumenting/exposition_formats).
use Rattle.std.specs.Prelude.{ℕ, List, [], ◌∷◌, ◌++◌, codes}
use Rattle.std.specs.Fmt.{decimal}

-- one value of a metric, and its labels as they are written: nothing where it has none
pub record Sample : Type 0 where
  pub labels : List ℕ
  pub value : ℕ

-- a metric: its name, what it measures, its type and its samples
pub record Metric : Type 0 where
  pub name : List ℕ
  pub help : List ℕ
  pub type : List ℕ
  pub samples : List Sample

-- a line for each sample
unfoldable pub samples_text : List ℕ → List Sample → List ℕ
samples_text name [] = []
samples_text name (s ∷ ss) = name ++ (s.labels ++ (codes " " ++ (decimal s.value ++ (codes "\n" ++ samples_text name ss))))

-- a line with what it measures, one with its type, and its samples
abbrev pub metric_text : Metric → List ℕ
metric_text m =
    codes "# HELP " ++ (m.name ++ (codes " " ++ (m.help ++ (codes "\n# TYPE " ++ (m.name ++ (codes " " ++ (m.type ++ (codes "\n"
    ++ samples_text m.name m.samples))))))))

-- metrics one after another
unfoldable pub metrics_text : List Metric → List ℕ
metrics_text [] = []
metrics_text (m ∷ ms) = metric_text m ++ metrics_text ms

-- groups of metrics one after another
unfoldable pub groups_text : List (List Metric) → List ℕ
groups_text [] = []
groups_text (g ∷ gs) = metrics_text g ++ groups_text gs
