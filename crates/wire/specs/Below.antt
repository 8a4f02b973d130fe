-- Questions asked of all numbers below a number: the places of a table, the ladders of a book.
use Rattle.std.specs.Prelude.{ℕ, zero, suc, ◌+◌, Bool, true, ◌&&◌, not}
use Rattle.wire.specs.Choice.{pick}

-- every number below n passes the test
unfoldable pub every : (ℕ → Bool) → ℕ → Bool
every p zero = true
every p (suc n) = every p n && p n

-- some number below n passes the test
unfoldable pub some : (ℕ → Bool) → ℕ → Bool
some p n = not (every (λ k. not (p k)) n)

-- how many numbers below n pass the test
unfoldable pub count : (ℕ → Bool) → ℕ → ℕ
count p zero = 0
count p (suc n) = count p n + pick (p n) 1 0

-- f 0 + f 1 + .. + f (n - 1)
unfoldable pub sum : (ℕ → ℕ) → ℕ → ℕ
sum f zero = 0
sum f (suc n) = sum f n + f n

-- the first number below n that passes the test, or n where none does
unfoldable pub first : (ℕ → Bool) → ℕ → ℕ
first p zero = zero
first p (suc n) = pick (p zero) zero (suc (first (λ k. p (suc k)) n))
