-- What a buffer holds once it is written.
use Rattle.std.specs.Prelude.{ℕ, zero, suc, ◌+◌, List, [], ◌++◌, leb, length, take, drop}
use Rattle.wire.specs.Choice.{pick}

-- s with p written from place `at` on
unfoldable pub put : List ℕ → ℕ → List ℕ → List ℕ
put s at p = take at s ++ (p ++ drop (at + length p) s)

-- the same where p fits, and s as it was where it does not
unfoldable pub put_in : List ℕ → ℕ → List ℕ → List ℕ
put_in s at p = pick (leb (at + length p) (length s)) (put s at p) s

-- f 0, then f 1, and so on to f (n - 1), one after the other
unfoldable pub rows : (ℕ → List ℕ) → ℕ → List ℕ
rows f zero = []
rows f (suc n) = rows f n ++ f n
