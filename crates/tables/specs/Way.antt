-- The way, not the meaning: how an account is searched for by halving. proofs/Search shows that in a table that rises
-- it is what specs/Accounts says.
use Rattle.std.specs.Prelude.{ℕ, zero, suc, ◌+◌, ◌-◌, ◌*◌, ◌/◌, ◌&&◌, List, [], leb, ltb, eqb, take, drop}
use Rattle.wire.specs.Choice.{pick}
use Rattle.tables.specs.Entries.{entries}
use Rattle.tables.specs.Accounts.{account_at}

-- of the places from `from` on, `size` of them, the upper half where the account there is not above
unfoldable pub halve : ℕ → List ℕ → ℕ → ℕ → ℕ → ℕ
halve zero s number from size = from
halve (suc turns) s number from size =
    pick (leb size 1) from
    (halve turns s number
    (pick (leb (account_at s (from + size / 2)).number number) (from + size / 2) from) (size - size / 2))

-- the place that halving ends at
unfoldable pub halved : List ℕ → ℕ → ℕ
halved s number = halve (entries s) s number 0 (entries s)

-- the entry there, where it is the account's. On a table that rises this is `account_entry` (proofs/Search,
-- `found_rising`)
unfoldable pub found_account : List ℕ → ℕ → List ℕ
found_account s number =
    pick (ltb (halved s number) (entries s) && eqb (account_at s (halved s number)).number number)
    (take 8 (drop (8 * halved s number) s)) []
