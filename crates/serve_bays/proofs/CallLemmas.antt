-- Calls one after another.
use Rattle.std.proofs.Common.{◌≡◌, ◌≤◌, ◌+◌, ◌-◌, ℕ, zero, suc, List, [], ◌∷◌, ◌++◌, length, Option, Some, None, refl, sym, ap, subst, ◌∙◌, append_assoc, append-nil, arith, ◌⊎◌, inl, inr}
use Rattle.std.specs.Prelude.{replicate, Result, Ok, Err, OnErr}
use Rattle.std.proofs.lemmas.List.{length-replicate}
use Rattle.audit_core.specs.declared.sinks.SinkMode.{SinkMode}
use Rattle.audit_core.specs.declared.sinks.SinkMode.TheVariants.{Off, Batch, Blocking, Strict}
use Rattle.front_plants.specs.declared.call.PlantCall.{PlantCall}
use Rattle.front_plants.specs.declared.call.PlantCall.TheVariants.{Allot, Clock}
use Rattle.front_ports.specs.Told.{Grows}
use Rattle.serve_bays.specs.LaneCalls.{allot_calls, sink_calls, CalledFor, CallsPart, CalledInPart}
use Rattle.truncate_backend.specs.Told.{Joined}

module _ {T : Type 0} where
  grows_join : (a b c : Option (List T)) (xs ys : List T) → Grows a b xs → Grows b c ys → Grows a c (xs ++ ys)
  grows_join None b c xs ys p q = subst (λ z. Grows z c ys) p q
  grows_join (Some w) None c xs ys p q = subst (λ z. Grows (Some w) z (xs ++ ys)) (sym q) tt
  grows_join (Some w) (Some v) None xs ys p q = tt
  grows_join (Some w) (Some v) (Some u) xs ys p q = q ∙ (ap (λ l. l ++ ys) p ∙ append_assoc w xs ys)

  grows_none : (a : Option (List T)) → Grows a a []
  grows_none None = refl
  grows_none (Some w) = sym (append-nil w)

  pub joins : (a b c : Option (List T)) (xs ys : List T) → Joined a xs b → Joined b ys c → Joined a (xs ++ ys) c
  joins a b c xs ys p q = record { grows = grows_join a b c xs ys p.grows q.grows }

  pub joins_none : (a : Option (List T)) → Joined a [] a
  joins_none a = record { grows = grows_none a }

  -- one more
  pub joins_as : (a b c : Option (List T)) (xs ys zs : List T) → Joined a xs b → Joined b ys c → zs ≡ xs ++ ys → Joined a zs c
  joins_as a b c xs ys zs p q e = subst (λ l. Joined a l c) (sym e) (joins a b c xs ys p q)

pub allot_more : (bay m : ℕ) (xs : List ℕ) (n : ℕ) → m ≡ bay + length xs
    → allot_calls bay (xs ++ n ∷ []) ≡ allot_calls bay xs ++ Allot m n ∷ []
allot_more bay m [] n e = let f : m ≡ bay = omega arith in ap (λ k. Allot k n ∷ []) (sym f)
allot_more bay m (x ∷ xs) n e = ap (λ l. Allot bay x ∷ l) (allot_more (suc bay) m xs n (omega arith))

pub replicate_more : {T : Type 0} (n : ℕ) (x : T) → replicate (suc n) x ≡ replicate n x ++ x ∷ []
replicate_more zero x = refl
replicate_more (suc n) x = ap (λ l. x ∷ l) (replicate_more n x)

pub replicate_next : {T : Type 0} (n : ℕ) (x : T) → replicate (n + 1) x ≡ replicate n x ++ x ∷ []
replicate_next n x = let e : n + 1 ≡ suc n = omega arith in ap (λ m. replicate m x) e ∙ replicate_more n x

-- ---- by the sink's mode

pub called_none : (opens : PlantCall) (bays : ℕ) (mode : SinkMode) (a : Option (List PlantCall)) → mode ≡ Off → CalledFor opens bays (replicate bays 0) mode a a
called_none opens bays mode a e = record {
  count = length-replicate bays 0;
  made = subst (λ m. Joined a (sink_calls opens bays (replicate bays 0) m) a) (sym e) (joins_none a);
}

pub called_batch : (opens : PlantCall) (bays : ℕ) (mode : SinkMode) (allots : List ℕ) (a b c d : Option (List PlantCall)) → mode ≡ Batch
    → length allots ≡ bays → Joined a (allot_calls 0 allots) b → Joined b (opens ∷ []) c → Joined c (Clock ∷ []) d
    → CalledFor opens bays allots mode a d
called_batch opens bays mode allots a b c d e n p q r = record {
  count = n;
  made = subst (λ m. Joined a (sink_calls opens bays allots m) d) (sym e)
      (joins a b d (allot_calls 0 allots) (opens ∷ Clock ∷ []) p (joins b c d (opens ∷ []) (Clock ∷ []) q r));
}

pub called_own : (opens : PlantCall) (bays : ℕ) (mode : SinkMode) (a b : Option (List PlantCall)) → (mode ≡ Blocking) ⊎ (mode ≡ Strict)
    → Joined a (replicate bays opens) b → CalledFor opens bays (replicate bays 0) mode a b
called_own opens bays mode a b (inl e) p = record {
  count = length-replicate bays 0;
  made = subst (λ m. Joined a (sink_calls opens bays (replicate bays 0) m) b) (sym e) p;
}
called_own opens bays mode a b (inr e) p = record {
  count = length-replicate bays 0;
  made = subst (λ m. Joined a (sink_calls opens bays (replicate bays 0) m) b) (sym e) p;
}

-- ---- some of the calls

pub part_none : (a : Option (List PlantCall)) (xs : List PlantCall) → CallsPart xs a a
part_none a xs = record { front = []; rest = xs; is = refl; made = joins_none a }

pub part_whole : (a b : Option (List PlantCall)) (xs : List PlantCall) → Joined a xs b → CallsPart xs a b
part_whole a b xs p = record { front = xs; rest = []; is = sym (append-nil xs); made = p }

pub part_less : (a b : Option (List PlantCall)) (xs ys : List PlantCall) → CallsPart xs a b → CallsPart (xs ++ ys) a b
part_less a b xs ys p = record {
  front = p.front;
  rest = p.rest ++ ys;
  is = ap (λ l. l ++ ys) p.is ∙ append_assoc p.front p.rest ys;
  made = p.made;
}

pub part_more : (a b c : Option (List PlantCall)) (xs ys : List PlantCall) → Joined a xs b → CallsPart ys b c → CallsPart (xs ++ ys) a c
part_more a b c xs ys p q = record {
  front = xs ++ q.front;
  rest = q.rest;
  is = ap (λ l. xs ++ l) q.is ∙ sym (append_assoc xs q.front q.rest);
  made = joins a b c xs q.front p q.made;
}

replicate_split : {T : Type 0} (i k : ℕ) (x : T) → replicate (i + k) x ≡ replicate i x ++ replicate k x
replicate_split zero k x = ap (λ n. replicate n x) (let e : zero + k ≡ k = omega arith in e)
replicate_split (suc i) k x =
    ap (λ n. replicate n x) (let e : suc i + k ≡ suc (i + k) = omega arith in e) ∙ ap (λ l. x ∷ l) (replicate_split i k x)

-- so many of equal calls
pub part_of_equal : (a b : Option (List PlantCall)) (x : PlantCall) (i n : ℕ) → i ≤ n → Joined a (replicate i x) b
    → CallsPart (replicate n x) a b
part_of_equal a b x i n h p =
    let e : i + (n - i) ≡ n = omega arith in record {
      front = replicate i x;
      rest = replicate (n - i) x;
      is = ap (λ m. replicate m x) (sym e) ∙ replicate_split i (n - i) x;
      made = p;
    }

-- ---- by the sink's mode

pub in_part_none : (opens : PlantCall) (bays : ℕ) (mode : SinkMode) (a : Option (List PlantCall)) → CalledInPart opens bays mode a a
in_part_none opens bays mode a = record {
  allots = replicate bays 0;
  count = length-replicate bays 0;
  part = part_none a (sink_calls opens bays (replicate bays 0) mode);
}

-- all of them
pub in_part_all : (opens : PlantCall) (bays : ℕ) (allots : List ℕ) (mode : SinkMode) (a b : Option (List PlantCall)) → CalledFor opens bays allots mode a b
    → CalledInPart opens bays mode a b
in_part_all opens bays allots mode a b p = record { allots = allots; count = p.count; part = part_whole a b (sink_calls opens bays allots mode) p.made }

-- those of the allotments and of the sink, but not of the clock
pub in_part_batch : (opens : PlantCall) (bays : ℕ) (mode : SinkMode) (allots : List ℕ) (a b c : Option (List PlantCall)) → mode ≡ Batch
    → length allots ≡ bays → Joined a (allot_calls 0 allots) b → Joined b (opens ∷ []) c → CalledInPart opens bays mode a c
in_part_batch opens bays mode allots a b c e n p q = record {
  allots = allots;
  count = n;
  part = subst (λ m. CallsPart (sink_calls opens bays allots m) a c) (sym e)
      (part_more a b c (allot_calls 0 allots) (opens ∷ Clock ∷ []) p
      (part_less b c (opens ∷ []) (Clock ∷ []) (part_whole b c (opens ∷ []) q)));
}

pub in_part_own : (opens : PlantCall) (bays : ℕ) (mode : SinkMode) (a b : Option (List PlantCall)) → (mode ≡ Blocking) ⊎ (mode ≡ Strict)
    → CallsPart (replicate bays opens) a b → CalledInPart opens bays mode a b
in_part_own opens bays mode a b (inl e) p = record {
  allots = replicate bays 0;
  count = length-replicate bays 0;
  part = subst (λ m. CallsPart (sink_calls opens bays (replicate bays 0) m) a b) (sym e) p;
}
in_part_own opens bays mode a b (inr e) p = record {
  allots = replicate bays 0;
  count = length-replicate bays 0;
  part = subst (λ m. CallsPart (sink_calls opens bays (replicate bays 0) m) a b) (sym e) p;
}

-- ---- answers that are an error

pub on_err : {A E : Type 0} (r : Result A E) (P : Type 0) → P → OnErr r P
on_err (Ok x) P p = tt
on_err (Err x) P p = p
