-- How many bytes numbers, moments, IDs and addresses have in a line.
use Rattle.std.proofs.Common.{◌≡◌, ℕ, zero, suc, ◌+◌, ◌-◌, ◌*◌, ◌/◌, ◌%◌, ◌^◌, ◌<◌, ◌≤◌, length, nat_lt, if◌then◌else◌, List, [], ◌∷◌, ◌++◌, refl, length-append, replicate, arith, lit≤, pos, decimal}
use Rattle.std.specs.Prelude.{codes}
use Rattle.std.specs.List.{All}
use Rattle.std.proofs.lemmas.Bool.{cond_both, ltb-true, ltb-false}
use Rattle.std.proofs.lemmas.Fmt.{decimal_by_steps, length-decimal-le}
use Rattle.std.proofs.lemmas.List.{length-replicate}
use Rattle.std.proofs.lemmas.List.Elements.{All-head, All-tail, All-nil, All-cons, All-append, All-replicate}
use Rattle.front_base.specs.AuditId.{AuditId, audit_id_text, id_bytes}
use Rattle.front_base.specs.Civil.{year_from, month_from, year_of_day, month_of_day}
use Rattle.front_base.specs.Moment.{padded, date_text, time_text, day_text, clock_text, moment_text, day_micros}
use Rattle.front_base.specs.declared.moment.TheConstants.{MOMENT_END}
use Rattle.jiff_core.specs.Calendar.{days_in_year, days_in_month}
use Rattle.uuid.specs.Text.{by_index, hex_digit, hyphen, is_hyphen_place, nibble, digit_place, lower}
use Rattle.event_text.specs.Line.{dotted}
use Rattle.line_bounds.specs.Bounds.{text_size, IsAddress}
use Rattle.line_bounds.proofs.TextLemmas.{IsPlainByte, size-append, size-one, size-nil}

-- ---- decimals

digit_plain : (d : ℕ) → d < 10 → IsPlainByte (48 + d)
digit_plain d h = record { low = omega arith; quote = omega arith; backslash = omega arith }

pub decimal-plain : (n : ℕ) → n < 2 ^ 64 → All IsPlainByte (decimal n)
decimal-plain n h =
    decimal_by_steps (λ n ds. All IsPlainByte ds)
    (λ n small. All-cons IsPlainByte (48 + n) [] (digit_plain n small) (All-nil IsPlainByte))
    (λ n ds big before. All-append IsPlainByte ds ((48 + n % 10) ∷ []) before
    (All-cons IsPlainByte (48 + n % 10) [] (digit_plain (n % 10) (omega arith)) (All-nil IsPlainByte)))
    n h

both_most : (front digits : List ℕ) (w k : ℕ) → w ≤ k → length front ≡ w - length digits → length digits ≤ k →
    All IsPlainByte (front ++ digits) → text_size (front ++ digits) ≤ k
both_most front digits w k wide left few plain = omega (arith, size-one (front ++ digits) plain, length-append front digits)

-- a number of at most so many digits, with zeros in front up to the width
pub size-padded : (w k n : ℕ) → w ≤ k → 0 < k → n < 10 ^ k → n < 2 ^ 64 → text_size (padded w n) ≤ k
size-padded w k n wide some few small =
    let zeros : List ℕ = replicate (w - length (decimal n)) 48 in
    both_most zeros (decimal n) w k wide (length-replicate (w - length (decimal n)) 48) (length-decimal-le k n some few small)
    (All-append IsPlainByte zeros (decimal n)
    (All-replicate IsPlainByte (w - length (decimal n)) 48 (digit_plain 0 (lit≤ tt))) (decimal-plain n small))

-- ---- moments

-- no year after the last one, and no more days than there were
year_bound : (more y day : ℕ) → ((year_from more y day).0 ≤ y + more) × ((year_from more y day).1 ≤ day)
unfolding year_from
year_bound zero y day = (omega arith, omega arith)
year_bound (suc more) y day =
    let rest = year_bound more (y + 1) (day - days_in_year (pos y)) in
    cond_both (nat_lt day (days_in_year (pos y))) (y, day) (year_from more (y + 1) (day - days_in_year (pos y)))
    (λ (p : ℕ × ℕ). (p.0 ≤ y + suc more) × (p.1 ≤ day))
    (λ e. (omega arith, omega arith)) (λ e. (omega arith, omega arith))

month_bound : (more year m day : ℕ) → ((month_from more year m day).0 ≤ m + more) × ((month_from more year m day).1 ≤ day)
unfolding month_from
month_bound zero year m day = (omega arith, omega arith)
month_bound (suc more) year m day =
    let rest = month_bound more year (m + 1) (day - days_in_month (pos year) m) in
    cond_both (nat_lt day (days_in_month (pos year) m)) (m, day) (month_from more year (m + 1) (day - days_in_month (pos year) m))
    (λ (p : ℕ × ℕ). (p.0 ≤ m + suc more) × (p.1 ≤ day))
    (λ e. (omega arith, omega arith)) (λ e. (omega arith, omega arith))

dash : text_size (codes "-") ≡ 1
unfolding text_size
dash = refl

size-date : (year month day : ℕ) → year < 10000 → month < 100 → day < 10000000 → text_size (date_text year month day) ≤ 15
unfolding date_text
size-date year month day y m d =
    let a = size-append (padded 4 year) (codes "-" ++ (padded 2 month ++ (codes "-" ++ padded 2 day))) in
    let b = size-append (codes "-") (padded 2 month ++ (codes "-" ++ padded 2 day)) in
    let c = size-append (padded 2 month) (codes "-" ++ padded 2 day) in
    let e = size-append (codes "-") (padded 2 day) in
    let p = size-padded 4 4 year (lit≤ tt) (lit≤ tt) (omega arith) (omega arith) in
    let q = size-padded 2 2 month (lit≤ tt) (lit≤ tt) (omega arith) (omega arith) in
    let r = size-padded 2 7 day (lit≤ tt) (lit≤ tt) (omega arith) (omega arith) in
    omega (arith, dash)

marks : (text_size (codes ":") ≡ 1) × (text_size (codes ".") ≡ 1) × (text_size (codes "T") ≡ 1) × (text_size (codes "Z") ≡ 1)
unfolding text_size
marks = (refl, refl, refl, refl)

size-time : (hour minute second fraction : ℕ) → hour < 100 → minute < 100 → second < 100 → fraction < 1000000 →
    text_size (time_text hour minute second fraction) ≤ 15
unfolding time_text
size-time hour minute second fraction h m s f =
    let last = codes "." ++ padded 6 fraction in
    let seconds = padded 2 second ++ last in
    let minutes = padded 2 minute ++ (codes ":" ++ seconds) in
    let a = size-append (padded 2 hour) (codes ":" ++ minutes) in
    let b = size-append (codes ":") minutes in
    let c = size-append (padded 2 minute) (codes ":" ++ seconds) in
    let d = size-append (codes ":") seconds in
    let e = size-append (padded 2 second) last in
    let g = size-append (codes ".") (padded 6 fraction) in
    let p = size-padded 2 2 hour (lit≤ tt) (lit≤ tt) (omega arith) (omega arith) in
    let q = size-padded 2 2 minute (lit≤ tt) (lit≤ tt) (omega arith) (omega arith) in
    let r = size-padded 2 2 second (lit≤ tt) (lit≤ tt) (omega arith) (omega arith) in
    let t = size-padded 6 6 fraction (lit≤ tt) (lit≤ tt) (omega arith) (omega arith) in
    omega (arith, marks)

size-day : (day : ℕ) → day < 9000000 → text_size (day_text day) ≤ 15
unfolding year_of_day
size-day day h =
    let years = year_bound 8029 1970 day in
    let months = month_bound 11 (year_of_day day).0 1 (year_of_day day).1 in
    size-date (year_of_day day).0 (month_of_day day).0 ((month_of_day day).1 + 1) (omega arith) (omega arith) (omega arith)

size-clock : (micros : ℕ) → micros < day_micros → text_size (clock_text micros) ≤ 15
size-clock micros h =
    size-time (micros / 3_600_000_000) (micros / 60_000_000 % 60) (micros / 1_000_000 % 60) (micros % 1_000_000)
    (omega arith) (omega arith) (omega arith) (omega arith)

pub size-moment : (micros : ℕ) → micros < MOMENT_END → text_size (moment_text micros) ≤ 32
unfolding moment_text
size-moment micros h =
    let day = day_text (micros / day_micros) in
    let clock = clock_text (micros % day_micros) in
    let a = size-append day (codes "T" ++ (clock ++ codes "Z")) in
    let b = size-append (codes "T") (clock ++ codes "Z") in
    let c = size-append clock (codes "Z") in
    let p : text_size (day_text (micros / day_micros)) ≤ 15 = size-day (micros / day_micros) (omega arith) in
    let q : text_size (clock_text (micros % day_micros)) ≤ 15 = size-clock (micros % day_micros) (omega arith) in
    omega (arith, marks)

-- ---- IDs

pub size-index : (n : ℕ) (f : ℕ → ℕ) → ((k : ℕ) → IsPlainByte (f k)) → text_size (by_index n f) ≡ n
unfolding by_index
size-index zero f plain = size-nil
size-index (suc n) f plain =
    let last : text_size (f n ∷ []) ≡ 1 = size-one (f n ∷ []) (All-cons IsPlainByte (f n) [] (plain n) (All-nil IsPlainByte)) in
    let before = size-index n f plain in
    let a = size-append (by_index n f) (f n ∷ []) in
    omega arith

hex_plain : (d : ℕ) → IsPlainByte (hex_digit lower d)
hex_plain d =
    cond_both (nat_lt d 10) (48 + d) (lower + d - 10) IsPlainByte
    (λ e. let low = ltb-true d 10 e in digit_plain d low)
    (λ e. let high = ltb-false d 10 e in record { low = omega arith; quote = omega arith; backslash = omega arith })

pub size-id : (id : AuditId) → text_size (audit_id_text id) ≡ 36
unfolding audit_id_text
size-id id =
    size-index 36 (λ k. if is_hyphen_place k then hyphen else hex_digit lower (nibble (id_bytes id) (digit_place k)))
    (λ k. cond_both (is_hyphen_place k) hyphen (hex_digit lower (nibble (id_bytes id) (digit_place k))) IsPlainByte
    (λ e. record { low = lit≤ tt; quote = omega arith; backslash = omega arith })
    (λ e. hex_plain (nibble (id_bytes id) (digit_place k))))

-- ---- addresses

dotted-most : (ip : List ℕ) → All (λ b. b < 256) ip → length (dotted ip) ≤ 4 * length ip
dotted-most [] h = omega arith
dotted-most (b ∷ []) h =
    let small = All-head (λ b. b < 256) b [] h in
    let own = length-decimal-le 3 b (lit≤ tt) (omega arith) (omega arith) in
    omega arith
dotted-most (b ∷ c ∷ cs) h =
    let small = All-head (λ b. b < 256) b (c ∷ cs) h in
    let own = length-decimal-le 3 b (lit≤ tt) (omega arith) (omega arith) in
    let rest = dotted-most (c ∷ cs) (All-tail (λ b. b < 256) b (c ∷ cs) h) in
    let a = length-append (decimal b) (46 ∷ dotted (c ∷ cs)) in
    omega arith

pub dotted-sixteen : (ip : List ℕ) → IsAddress ip → length (dotted ip) ≤ 16
dotted-sixteen ip h = let most = dotted-most ip h.1 in let four = h.0 in omega arith
