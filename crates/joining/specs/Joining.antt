-- Demand 3, its words: "in every day's table give all accounts of group a the number of group b .., as a change of
-- bytes in the lent tables and of nothing else". For account entries that stand anywhere in some bytes.
use Rattle.std.specs.Prelude.{◌≡◌, Bool, ◌&&◌, List, [], ◌∷◌, leb, ltb, eqb, length, get_or, take, drop}
use Rattle.std.specs.Prelude.{ℕ, suc, ◌+◌, ◌-◌, ◌*◌, ◌%◌, ◌≤◌, ◌<◌}
use Rattle.wire.specs.Choice.{pick}
use Rattle.tables.specs.declared.accounts.Account.{Account}
use Rattle.tables.specs.Entries.{entries}
use Rattle.tables.specs.Accounts.{account_at, number_before, accounts_good}

-- "give all accounts of group a the number of group b": the number of a group after the join
abbrev pub joined : (a b group : ℕ) → ℕ
joined a b group = pick (eqb group a) b group

-- ---- the change of bytes
-- where account entries stand from one byte to another, the byte at a place is the group of one, its byte 4
abbrev pub group_byte_in : (from to i : ℕ) → Bool
group_byte_in from to i = leb from i && ltb i to && eqb ((i - from) % 8) 4

-- every byte by its place, which is counted from i on
unfoldable pub by_place : (ℕ → ℕ → ℕ) → ℕ → List ℕ → List ℕ
by_place f i [] = []
by_place f i (x ∷ xs) = f i x ∷ by_place f (suc i) xs

unfoldable pub join_bytes : (a b from to : ℕ) → List ℕ → List ℕ
join_bytes a b from to s = by_place (λ i x. pick (group_byte_in from to i) (joined a b x) x) 0 s

-- ---- what it is for an account table: the groups of accounts change and nothing else does
pub record AccountsJoined (a b : ℕ) (account account' : ℕ → Account) : Type 0 where
  pub number : (k : ℕ) → (account' k).number ≡ (account k).number
  pub kind : (k : ℕ) → (account' k).kind ≡ (account k).kind
  pub group : (k : ℕ) → (account' k).group ≡ joined a b (account k).group

-- n account entries that stand in some bytes from a byte on
abbrev pub accounts_in : (from n : ℕ) → List ℕ → List ℕ
accounts_in from n s = take (8 * n) (drop from s)

-- ---- the bytes s, and the same bytes t with the groups of those entries joined
pub record PartJoined (a b from n : ℕ) (s t : List ℕ) : Type 0 where
  pub size : length t ≡ length s
  -- bytes before the entries and after them stand, those past the end too
  pub before : (i : ℕ) → i < from → get_or t i 0 ≡ get_or s i 0
  pub after : (i : ℕ) → from + 8 * n ≤ i → get_or t i 0 ≡ get_or s i 0
  -- so do parts before them, and what is left after them
  pub part : (m l : ℕ) → m + l ≤ from → take l (drop m t) ≡ take l (drop m s)
  pub rest : (m : ℕ) → from + 8 * n ≤ m → drop m t ≡ drop m s
  -- the entries
  pub count : entries (accounts_in from n t) ≡ entries (accounts_in from n s)
  pub accounts : AccountsJoined a b (account_at (accounts_in from n s)) (account_at (accounts_in from n t))
  pub spare : (k : ℕ) → (account_at (accounts_in from n t) k).spare ≡ (account_at (accounts_in from n s) k).spare
  pub number_before_lem : (k : ℕ) → number_before (accounts_in from n t) k ≡ number_before (accounts_in from n s) k
  pub good : accounts_good (accounts_in from n t) ≡ accounts_good (accounts_in from n s)
