-- The number that a word of decimal digits names.
use Rattle.std.specs.Prelude.{ℕ, zero, suc, ◌+◌, ◌*◌, ◌-◌, Bool, ◌&&◌, List, leb, length, get_or}
use Rattle.wire.specs.Choice.{pick, within}
use Rattle.wire.specs.Below.{every}

-- the byte is one of '0' to '9'
abbrev pub is_digit : ℕ → Bool
is_digit byte = within 48 57 byte

-- the first n bytes of the word all are
unfoldable pub digits : List ℕ → ℕ → Bool
digits s n = every (λ k. is_digit (get_or s k 0)) n

-- what they are worth
unfoldable pub worth : List ℕ → ℕ → ℕ
worth s zero = 0
worth s (suc n) = 10 * worth s n + (get_or s n 0 - 48)

-- the number that a word of 1 to 9 digits names, and 0 for any other: a word of none is worth 0
unfoldable pub number_in : List ℕ → ℕ
number_in s = pick (leb (length s) 9 && digits s (length s)) (worth s (length s)) 0
