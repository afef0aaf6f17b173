-- What a stream begins with, as far as a head goes.
use Rattle.std.specs.Prelude.{◌≡◌, ℕ, ◌<◌, ◌≤◌, ◌⊎◌, List, length, take, Some, None}
use Rattle.http_head.specs.Block.{block_in, line_count}
use Rattle.http_head.specs.declared.block.TheConstants.{MOST_HEAD_BYTES, MOST_LINES}
use Rattle.http_head.specs.declared.answer.BlockAnswer.{BlockAnswer}
use Rattle.http_head.specs.declared.answer.BlockAnswer.TheVariants as block_case
use Rattle.http_head.specs.declared.answer.HeadAnswer.{HeadAnswer}
use Rattle.http_head.specs.declared.answer.HeadAnswer.TheVariants.{Whole, More, BadHead, TooLarge}

-- no block has ended, and one still may
abbrev pub AwaitsBlock : List ℕ → Type 0
AwaitsBlock bytes = (block_in bytes ≡ None) × (length bytes < MOST_HEAD_BYTES)

-- the block is too long, or it has too many lines
abbrev pub IsTooLarge : List ℕ → Type 0
IsTooLarge bytes =
    ((block_in bytes ≡ None) × (MOST_HEAD_BYTES ≤ length bytes))
    ⊎ ((len : ℕ) × (block_in bytes ≡ Some len) × (MOST_LINES < line_count (take len bytes)))

-- a whole block of that many bytes, which is not too large
pub record IsBlock (bytes : List ℕ) (len : ℕ) : Type 0 where
  pub found : block_in bytes ≡ Some len
  pub few : line_count (take len bytes) ≤ MOST_LINES
  pub within : len ≤ length bytes

-- the table of answers for blocks
abbrev pub IsBlockAnswer : List ℕ → BlockAnswer → Type 0
IsBlockAnswer bytes (block_case.Whole len) = IsBlock bytes len
IsBlockAnswer bytes block_case.More = AwaitsBlock bytes
IsBlockAnswer bytes block_case.TooLarge = IsTooLarge bytes

-- the table of answers for heads. `Is` says which heads of the grammar a block is, and `Has` what a head says then
abbrev pub IsAnswer : {R H : Type 0} → (List ℕ → R → Type 0) → (H → R → Type 0) → List ℕ → HeadAnswer H → Type 0
IsAnswer Is Has bytes More = AwaitsBlock bytes
IsAnswer Is Has bytes TooLarge = IsTooLarge bytes
IsAnswer {R = R} Is Has bytes BadHead =
    (len : ℕ) × (block_in bytes ≡ Some len) × (line_count (take len bytes) ≤ MOST_LINES)
    × ((read : R) → Is (take len bytes) read → ⊥)
IsAnswer {R = R} Is Has bytes (Whole head len) =
    (block_in bytes ≡ Some len) × (line_count (take len bytes) ≤ MOST_LINES)
    × ((read : R) × Is (take len bytes) read × Has head read)

-- a whole head ends within the bytes
abbrev pub EndsWithin : {H : Type 0} → List ℕ → HeadAnswer H → Type 0
EndsWithin bytes (Whole head len) = len ≤ length bytes
EndsWithin bytes _ = Unit {0}
