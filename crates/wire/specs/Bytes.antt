-- 01, "Layouts (our own, little-endian)": numbers in bytes, the least significant byte first.
use Rattle.std.specs.Prelude.{◌≡◌, ℕ, zero, suc, ◌+◌, ◌*◌, ◌/◌, ◌%◌, ◌<◌, List, [], ◌∷◌, length, get_or}

-- the number in the n bytes from place i; a byte past the end counts as 0
unfoldable pub le : ℕ → List ℕ → ℕ → ℕ
le zero s i = 0
le (suc n) s i = get_or s i 0 + 256 * le n s (i + 1)

-- the n bytes of a number
unfoldable pub bytes : ℕ → ℕ → List ℕ
bytes zero v = []
bytes (suc n) v = v % 256 ∷ bytes n (v / 256)

-- bs are the n bytes from place i of s; a byte past the end counts as 0
abbrev pub IsRead : List ℕ → ℕ → ℕ → List ℕ → Type 0
IsRead s i n bs = (length bs ≡ n) × ((k : ℕ) → k < n → get_or bs k 0 ≡ get_or s (i + k) 0)
