-- Steps of `are_escapes_whole` along a text.
use Rattle.std.proofs.Common.{◌≡◌, ℕ, ◌+◌, ◌-◌, ◌<◌, Bool, true, false, nat_eq, cond, List, [], ◌∷◌, length, get_or, drop, refl, sym, ◌&&◌, drop-cons, add-one}
use Rattle.std.specs.Char.{is_ascii_hexdigit}
use Rattle.request_info.specs.Target.{owed_after, are_escapes_whole}

drop_step : (i : ℕ) (s : List ℕ) → i < length s → drop i s ≡ get_or s i 0 ∷ drop (i + 1) s
drop_step i s h = rw add-one (drop-cons s i 0 h)

-- where nothing is owed
at_plain : (b : ℕ) (rest : List ℕ) → are_escapes_whole 0 (b ∷ rest) ≡ are_escapes_whole (owed_after b) rest
unfolding are_escapes_whole
at_plain b rest = refl

pick_digit : (t h x y : Bool) → t ≡ false → h ≡ true → cond t x (h && y) ≡ y
pick_digit t h x y p q = rw (p, q) refl

pick_bad : (t h x y : Bool) → t ≡ false → h ≡ false → cond t x (h && y) ≡ false
pick_bad t h x y p q = rw (p, q) refl

at_digit : (owed b : ℕ) (rest : List ℕ) → nat_eq owed 0 ≡ false → is_ascii_hexdigit b ≡ true → are_escapes_whole owed (b ∷ rest) ≡ are_escapes_whole (owed - 1) rest
unfolding are_escapes_whole
at_digit owed b rest o d = pick_digit (nat_eq owed 0) (is_ascii_hexdigit b) (are_escapes_whole (owed_after b) rest) (are_escapes_whole (owed - 1) rest) o d

at_bad : (owed b : ℕ) (rest : List ℕ) → nat_eq owed 0 ≡ false → is_ascii_hexdigit b ≡ false → are_escapes_whole owed (b ∷ rest) ≡ false
unfolding are_escapes_whole
at_bad owed b rest o d = pick_bad (nat_eq owed 0) (is_ascii_hexdigit b) (are_escapes_whole (owed_after b) rest) (are_escapes_whole (owed - 1) rest) o d

pub whole_plain : (i owed next : ℕ) (s : List ℕ) → i < length s → owed ≡ 0 → next ≡ owed_after (get_or s i 0) → are_escapes_whole next (drop (i + 1) s) ≡ are_escapes_whole owed (drop i s)
whole_plain i owed next s h o n = rw (n, o, drop_step i s h) (sym (at_plain (get_or s i 0) (drop (i + 1) s)))

pub whole_digit : (i owed next : ℕ) (s : List ℕ) → i < length s → nat_eq owed 0 ≡ false → is_ascii_hexdigit (get_or s i 0) ≡ true → next ≡ owed - 1 → are_escapes_whole next (drop (i + 1) s) ≡ are_escapes_whole owed (drop i s)
whole_digit i owed next s h o d n = rw (n, drop_step i s h) (sym (at_digit owed (get_or s i 0) (drop (i + 1) s) o d))

pub whole_bad : (i owed : ℕ) (s : List ℕ) → i < length s → nat_eq owed 0 ≡ false → is_ascii_hexdigit (get_or s i 0) ≡ false → are_escapes_whole owed (drop i s) ≡ false
whole_bad i owed s h o d = rw (drop_step i s h) (at_bad owed (get_or s i 0) (drop (i + 1) s) o d)

pub whole_end : (owed : ℕ) → are_escapes_whole owed [] ≡ nat_eq owed 0
unfolding are_escapes_whole
whole_end owed = refl
