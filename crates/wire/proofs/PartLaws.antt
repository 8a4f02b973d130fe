-- Laws of a part of a list, in the words in which code lends one. Assumes nothing.
use mathlib.Core.Path.{◌≡◌}
use mathlib.Core.List.{List, [], ◌∷◌}
use Prim.Native.Nat.{ℕ, zero, suc, ◌<◌}
use native.Mathlib.Omega.{arith}
use lib.ListN.{length, get_or, take}
use Rattle.std.proofs.lemmas.List.{get_or_default}

-- an element that is there has no default
pub there : (s : List ℕ) (i d : ℕ) → i < length s → get_or s i d ≡ get_or s i 0
there s i d h = get_or_default s i d 0 h

-- bytes of a part are bytes
pub low_take : (n : ℕ) (s : List ℕ) → ((j : ℕ) → get_or s j 0 < 256) → (j : ℕ) → get_or (take n s) j 0 < 256
low_take zero s small j = omega arith
low_take (suc n) [] small j = omega arith
low_take (suc n) (x ∷ xs) small zero = small 0
low_take (suc n) (x ∷ xs) small (suc j) = low_take n xs (λ i. small (suc i)) j
