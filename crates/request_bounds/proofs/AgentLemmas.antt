-- How many bytes a User-Agent has in a line.
use Rattle.std.proofs.Common.{◌≡◌, ◌≢◌, ℕ, zero, suc, ◌+◌, ◌*◌, ◌≤◌, length, List, ◌++◌, Option, Some, None, drop, take, refl, length-drop, arith, lit≤}
use Rattle.std.specs.Prelude.{◌==◌, if◌then◌else◌, nat_lt, slice_index, unwrap_or}
use Rattle.std.specs.Int.{is_in_range}
use Rattle.std.specs.Str.Lossy.{utf8_lossy, utf8_lossy_within, utf8_valid_len, utf8_invalid_len, utf8_error_len, after_first_chunk, replacement_bytes, error_len_of_some, error_len_after_one, error_len_after_two, second_byte_min, second_byte_max}
use Rattle.std.proofs.lemmas.Bool.{cond_both, eqb-false}
use Rattle.std.proofs.lemmas.List.{length-take-le}
use Rattle.std.proofs.lemmas.Str.{utf8_valid_len_le}
use Rattle.line_bounds.specs.Bounds.{text_size}
use Rattle.request_bounds.proofs.PathLemmas.{AnyIsBounded, SizesJoin}

abbrev HasSome : List ℕ → Option ℕ → Type 0
HasSome bs o = 1 ≤ unwrap_or o (length bs)

two-some : (bs : List ℕ) → 1 ≤ length bs → HasSome bs (error_len_after_two bs)
two-some bs some =
    cond_both (nat_lt (length bs) 3) None (if is_in_range 0x80 0xBF (slice_index bs 2) then (if nat_lt (length bs) 4 then None else Some 3) else Some 2) (HasSome bs)
    (λ e. some)
    (λ e. cond_both (is_in_range 0x80 0xBF (slice_index bs 2)) (if nat_lt (length bs) 4 then None else Some 3) (Some 2) (HasSome bs)
    (λ e. cond_both (nat_lt (length bs) 4) None (Some 3) (HasSome bs) (λ e. some) (λ e. lit≤ tt)) (λ e. lit≤ tt))

one-some : (bs : List ℕ) → 1 ≤ length bs → HasSome bs (error_len_after_one bs)
one-some bs some =
    cond_both (nat_lt (length bs) 2) None (if is_in_range (second_byte_min (slice_index bs 0)) (second_byte_max (slice_index bs 0)) (slice_index bs 1) then error_len_after_two bs else Some 1) (HasSome bs)
    (λ e. some)
    (λ e. cond_both (is_in_range (second_byte_min (slice_index bs 0)) (second_byte_max (slice_index bs 0)) (slice_index bs 1)) (error_len_after_two bs) (Some 1) (HasSome bs)
    (λ e. two-some bs some) (λ e. lit≤ tt))

-- one U+FFFD stands for a byte at least
invalid-some : (bs : List ℕ) → 1 ≤ length bs → 1 ≤ utf8_invalid_len bs
unfolding utf8_error_len
invalid-some bs some =
    cond_both (length bs == 0) None (error_len_of_some bs) (HasSome bs) (λ e. some)
    (λ e. cond_both (is_in_range 0xC2 0xF4 (slice_index bs 0)) (error_len_after_one bs) (Some 1) (HasSome bs)
    (λ e. one-some bs some) (λ e. lit≤ tt))

replaced : text_size replacement_bytes ≡ 3
unfolding text_size
replaced = refl

chunk-most : AnyIsBounded → SizesJoin → (bs more : List ℕ) → utf8_valid_len bs ≢ length bs →
    text_size more ≤ 6 * length (after_first_chunk bs) →
    text_size (take (utf8_valid_len bs) bs ++ (replacement_bytes ++ more)) ≤ 6 * length bs
chunk-most any joined bs more invalid few =
    let n : ℕ = utf8_valid_len bs in
    let rest : List ℕ = drop n bs in
    let within = utf8_valid_len_le bs in
    let size = length-drop n bs in
    let some : 1 ≤ length rest = omega arith in
    let one = invalid-some rest some in
    let left = length-drop (n + utf8_invalid_len rest) bs in
    let front = any (take n bs) in
    let front_size = length-take-le n bs within in
    let a = joined (take n bs) (replacement_bytes ++ more) in
    let b = joined replacement_bytes more in
    omega (arith, replaced)

within-most : AnyIsBounded → SizesJoin → (k : ℕ) (bs : List ℕ) → text_size (utf8_lossy_within k bs) ≤ 6 * length bs
within-most any joined zero bs = any bs
within-most any joined (suc k) bs =
    let rest = within-most any joined k (after_first_chunk bs) in
    cond_both (utf8_valid_len bs == length bs) bs (take (utf8_valid_len bs) bs ++ (replacement_bytes ++ utf8_lossy_within k (after_first_chunk bs)))
    (λ (l : List ℕ). text_size l ≤ 6 * length bs)
    (λ e. any bs)
    (λ e. chunk-most any joined bs (utf8_lossy_within k (after_first_chunk bs)) (eqb-false (utf8_valid_len bs) (length bs) e) rest)

pub lossy-most : AnyIsBounded → SizesJoin → (bs : List ℕ) → text_size (utf8_lossy bs) ≤ 6 * length bs
unfolding utf8_lossy
lossy-most any joined bs = within-most any joined (length bs) bs
