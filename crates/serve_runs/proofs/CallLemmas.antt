-- Some of the calls of a run.
use Rattle.std.proofs.Common.{◌≡◌, ℕ, List, [], ◌∷◌, ◌++◌, length, Option}
use Rattle.std.specs.Prelude.{replicate, Result, Ok, Err, OnErr}
use Rattle.std.proofs.lemmas.List.{length-replicate}
use Rattle.audit_core.specs.declared.settings.Settings.{Settings}
use Rattle.front_plants.specs.declared.call.PlantCall.{PlantCall}
use Rattle.front_plants.specs.declared.call.PlantCall.TheVariants.{Boot, Log, Hook}
use Rattle.serve_bays.specs.LaneCalls.{CallsPart, CalledFor, CalledInPart, sink_calls}
use Rattle.serve_bays.specs.declared.options.RunOptions.{RunOptions}
use Rattle.serve_bays.specs.BayCalls.{bays_calls}
use Rattle.serve_runs.specs.Made.{RunCallsPart}
use Rattle.truncate_backend.specs.Told.{Joined}

-- as the law of `serve_bays` states it
pub record PartLaws : Type 0 where
  pub none : (a : Option (List PlantCall)) (xs : List PlantCall) → CallsPart xs a a
  pub whole : (a b : Option (List PlantCall)) (xs : List PlantCall) → Joined a xs b → CallsPart xs a b
  pub less : (a b : Option (List PlantCall)) (xs ys : List PlantCall) → CallsPart xs a b → CallsPart (xs ++ ys) a b
  pub more : (a b c : Option (List PlantCall)) (xs ys : List PlantCall) → Joined a xs b → CallsPart ys b c → CallsPart (xs ++ ys) a c

module _ (law : PartLaws) (set : Settings) (options : RunOptions) where
  abbrev no_allots : List ℕ
  no_allots = replicate options.bays 0

  abbrev log_calls : List ℕ → List PlantCall
  log_calls allots = sink_calls (Log options.log_path) options.bays allots set.log

  abbrev hook_calls : List ℕ → List PlantCall
  hook_calls allots = sink_calls (Hook options.hook_url) options.bays allots set.hook

  abbrev last_calls : List PlantCall
  last_calls = bays_calls options.listen options.connections 0 options.bays

  part_by : (boot : ℕ) (logs hooks : List ℕ) (a b : Option (List PlantCall)) → length logs ≡ options.bays → length hooks ≡ options.bays
      → CallsPart (Boot boot ∷ (log_calls logs ++ (hook_calls hooks ++ last_calls))) a b → RunCallsPart set options a b
  part_by boot logs hooks a b n m p = record { boot = boot; log_allots = logs; hook_allots = hooks; allotted = (n, m); part = p }

  none_allotted : length no_allots ≡ options.bays
  none_allotted = length-replicate options.bays 0

  pub no_calls : (a : Option (List PlantCall)) → RunCallsPart set options a a
  no_calls a = part_by 0 no_allots no_allots a a none_allotted none_allotted (law.none a _)

  pub boot_calls : (boot : ℕ) (a b : Option (List PlantCall)) → Joined a (Boot boot ∷ []) b → RunCallsPart set options a b
  boot_calls boot a b p =
      part_by boot no_allots no_allots a b none_allotted none_allotted
      (law.less a b (Boot boot ∷ []) (log_calls no_allots ++ (hook_calls no_allots ++ last_calls)) (law.whole a b (Boot boot ∷ []) p))

  pub log_part : (boot : ℕ) (a b c : Option (List PlantCall)) → Joined a (Boot boot ∷ []) b
      → CalledInPart (Log options.log_path) options.bays set.log b c → RunCallsPart set options a c
  log_part boot a b c p q =
      part_by boot q.allots no_allots a c q.count none_allotted
      (law.more a b c (Boot boot ∷ []) (log_calls q.allots ++ (hook_calls no_allots ++ last_calls)) p
      (law.less b c (log_calls q.allots) (hook_calls no_allots ++ last_calls) q.part))

  pub hook_part : (boot : ℕ) (logs : List ℕ) (a b c d : Option (List PlantCall)) → Joined a (Boot boot ∷ []) b
      → CalledFor (Log options.log_path) options.bays logs set.log b c
      → CalledInPart (Hook options.hook_url) options.bays set.hook c d → RunCallsPart set options a d
  hook_part boot logs a b c d p q r =
      part_by boot logs r.allots a d q.count r.count
      (law.more a b d (Boot boot ∷ []) (log_calls logs ++ (hook_calls r.allots ++ last_calls)) p
      (law.more b c d (log_calls logs) (hook_calls r.allots ++ last_calls) q.made
      (law.less c d (hook_calls r.allots) last_calls r.part)))

  pub bays_part : (boot : ℕ) (logs hooks : List ℕ) (a b c d e : Option (List PlantCall)) → Joined a (Boot boot ∷ []) b
      → CalledFor (Log options.log_path) options.bays logs set.log b c
      → CalledFor (Hook options.hook_url) options.bays hooks set.hook c d
      → CallsPart last_calls d e → RunCallsPart set options a e
  bays_part boot logs hooks a b c d e p q r s =
      part_by boot logs hooks a e q.count r.count
      (law.more a b e (Boot boot ∷ []) (log_calls logs ++ (hook_calls hooks ++ last_calls)) p
      (law.more b c e (log_calls logs) (hook_calls hooks ++ last_calls) q.made
      (law.more c d e (hook_calls hooks) last_calls r.made s)))

pub on_err : {A E : Type 0} (r : Result A E) (P : Type 0) → P → OnErr r P
on_err (Ok x) P p = tt
on_err (Err x) P p = p
