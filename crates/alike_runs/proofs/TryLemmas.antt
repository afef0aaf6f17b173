-- The tries of two drainers.
use Rattle.std.proofs.Common.{◌≡◌, ℕ, List, ap, sym, ◌∙◌}
use Rattle.alike_exchanges.specs.Cuts.{bays_of, counts, lines_each}
use Rattle.alike_runs.proofs.SinkLemmas.{Parts}
use Rattle.shared_queue.specs.Bays.{of_bay}
use Rattle.truncate_backend.specs.Tries.{Try, lines_of}

-- the law that is called
abbrev pub PartsEach : Type 0
PartsEach = (these those : List Try) → counts these ≡ counts those → lines_of these ≡ lines_of those → lines_each these ≡ lines_each those

-- where the tries that are told are those, what is said of each bay's lines holds of them
pub same_parts : (told other these those : List Try) → told ≡ these → other ≡ those → ((bay : ℕ) → of_bay bay (lines_of told) ≡ of_bay bay (lines_of other))
    → (bay : ℕ) → of_bay bay (lines_of these) ≡ of_bay bay (lines_of those)
same_parts told other these those e f each bay =
    ap (λ (tries : List Try). of_bay bay (lines_of tries)) (sym e) ∙ (each bay ∙ ap (λ (tries : List Try). of_bay bay (lines_of tries)) f)

pub same_turns : Parts → (told other these those : List Try) → told ≡ these → other ≡ those
    → ((bay : ℕ) → of_bay bay (lines_of told) ≡ of_bay bay (lines_of other)) → bays_of (lines_of these) ≡ bays_of (lines_of those)
    → lines_of these ≡ lines_of those
same_turns parts told other these those e f each turns =
    parts (lines_of these) (lines_of those) turns (same_parts told other these those e f each)

pub same_tries : Parts → PartsEach → (told other these those : List Try) → told ≡ these → other ≡ those
    → ((bay : ℕ) → of_bay bay (lines_of told) ≡ of_bay bay (lines_of other)) → bays_of (lines_of these) ≡ bays_of (lines_of those)
    → counts these ≡ counts those → lines_each these ≡ lines_each those
same_tries parts split told other these those e f each turns many =
    split these those many (same_turns parts told other these those e f each turns)
