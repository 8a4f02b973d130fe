-- A row of the paper's tables: a value for each of 1, 2 and 3.
use Rattle.std.specs.Prelude.{ℕ, eqb}
use Rattle.wire.specs.Choice.{pick}

-- the value for x, or the other where x is none of the three
unfoldable pub by_three : ℕ → ℕ → ℕ → ℕ → ℕ → ℕ
by_three x first second third other = pick (eqb x 1) first (pick (eqb x 2) second (pick (eqb x 3) third other))
