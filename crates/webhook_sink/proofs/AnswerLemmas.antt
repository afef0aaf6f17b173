-- What a sink's answer says of the reply.
use Rattle.std.proofs.Common.{◌≡◌, ℕ, ◌<◌, ◌≤◌, ◌⊎◌, inl, inr, Bool, true, false, refl, sym, ap, ◌∙◌, arith}
use Rattle.std.specs.Prelude.{nat_le, nat_lt, ◌&&◌, Ok, Err}
use Rattle.std.proofs.lemmas.Bool.Decides.{nat_tests}
use Rattle.truncate_backend.specs.declared.tries.SinkFault.TheVariants as faults
use Rattle.webhook_sink.specs.declared.reply.Reply.{Reply}
use Rattle.webhook_sink.specs.declared.reply.Reply.TheVariants.{Final, Bad}
use Rattle.webhook_sink.specs.Replies.{taken_if, result_of}

-- a status of success
abbrev is_success : ℕ → Bool
is_success status = nat_le 200 status && nat_lt status 300

success_range : (status : ℕ) → is_success status ≡ true → (200 ≤ status) × (status < 300)
success_range status e = (grind (arith, nat_tests), grind (arith, nat_tests))

no_success : (status : ℕ) → is_success status ≡ false → (status < 200) ⊎ (300 ≤ status)
no_success status e = grind (arith, nat_tests)

range_success : (status : ℕ) → 200 ≤ status → status < 300 → is_success status ≡ true
range_success status low high = grind (arith, nat_tests)

out_of_range : (status : ℕ) → (status < 200) ⊎ (300 ≤ status) → is_success status ≡ false
out_of_range status (inl low) = grind (arith, nat_tests)
out_of_range status (inr high) = grind (arith, nat_tests)

when_taken : (b : Bool) (status : ℕ) → taken_if b status ≡ Ok tt → b ≡ true
when_taken true status e = refl
when_taken false status e = absurd (cc e)

when_refused : (b : Bool) (status code : ℕ) → taken_if b status ≡ Err (faults.Refused code) → (status ≡ code) × (b ≡ false)
when_refused true status code e = absurd (cc e)
when_refused false status code e = (cc, refl)

never_port : (b : Bool) (status : ℕ) → taken_if b status ≡ Err faults.Port → ⊥
never_port true status e = absurd (cc e)
never_port false status e = absurd (cc e)

never_bad : (b : Bool) (status : ℕ) → taken_if b status ≡ Err faults.BadAnswer → ⊥
never_bad true status e = absurd (cc e)
never_bad false status e = absurd (cc e)

pub taken-says : (reply : Reply) → result_of reply ≡ Ok tt → (status : ℕ) × (reply ≡ Final status) × (200 ≤ status) × (status < 300)
taken-says (Final status) e =
    let r = success_range status (when_taken (is_success status) status e) in (status, refl, r.0, r.1)
taken-says Bad e = absurd (cc e)

pub success-taken : (status : ℕ) → 200 ≤ status → status < 300 → result_of (Final status) ≡ Ok tt
success-taken status low high = ap (λ (b : Bool). taken_if b status) (range_success status low high)

pub refused-says : (reply : Reply) (code : ℕ) → result_of reply ≡ Err (faults.Refused code) → (reply ≡ Final code) × ((code < 200) ⊎ (300 ≤ code))
refused-says (Final status) code e =
    let r = when_refused (is_success status) status code e in
    let same = r.0 in
    (ap (λ (s : ℕ). Final s) same, no_success code (ap is_success (sym same) ∙ r.1))
refused-says Bad code e = absurd (cc e)

pub others-refused : (status : ℕ) → (status < 200) ⊎ (300 ≤ status) → result_of (Final status) ≡ Err (faults.Refused status)
others-refused status out = ap (λ (b : Bool). taken_if b status) (out_of_range status out)

pub bad-says : (reply : Reply) → result_of reply ≡ Err faults.BadAnswer → reply ≡ Bad
bad-says (Final status) e = absurd (never_bad (is_success status) status e)
bad-says Bad e = refl

pub no-port : (reply : Reply) → result_of reply ≡ Err faults.Port → ⊥
no-port (Final status) e = never_port (is_success status) status e
no-port Bad e = absurd (cc e)
