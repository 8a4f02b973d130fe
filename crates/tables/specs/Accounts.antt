-- 01, "Layouts": "A account entries of 8 bytes: 0..3 account number, not zero, strictly rising; 4 group, 1 to 128;
-- 5 kind, 1 client or 2 non-broker member; 6..7 zero."
use Rattle.std.specs.Prelude.{ℕ, zero, suc, ◌+◌, ◌*◌, Bool, ◌&&◌, List, [], ltb, eqb, get_or, take, drop}
use Rattle.wire.specs.Choice.{pick, within}
use Rattle.wire.specs.Below.{every, some, count, first}
use Rattle.wire.specs.Bytes.{le}
use Rattle.tables.specs.declared.accounts.Account.{Account}
use Rattle.tables.specs.Entries.{entries}

-- the account entry at place k of a table
unfoldable pub account_at : List ℕ → ℕ → Account
account_at s k = record {
  number = le 4 s (8 * k);
  group = get_or s (8 * k + 4) 0;
  kind = get_or s (8 * k + 5) 0;
  spare = le 2 s (8 * k + 6);
}

-- "not zero, strictly rising" is above the one before, with 0 before the first
unfoldable pub number_before : List ℕ → ℕ → ℕ
number_before s zero = 0
number_before s (suc k) = (account_at s k).number

abbrev pub account_good : ℕ → Account → Bool
account_good before e = ltb before e.number && within 1 128 e.group && within 1 2 e.kind && eqb e.spare 0

abbrev pub account_good_at : List ℕ → ℕ → Bool
account_good_at s k = account_good (number_before s k) (account_at s k)

unfoldable pub accounts_good : List ℕ → Bool
accounts_good s = every (account_good_at s) (entries s)

-- 01, "Ladders": "a group with a member among that day's accounts"
unfoldable pub has_member : (ℕ → Account) → (accounts group : ℕ) → Bool
has_member account accounts group = some (λ k. eqb (account k).group group && eqb (account k).kind 2) accounts

-- how many accounts a group has: "A group may have no account."
unfoldable pub group_size : (ℕ → Account) → (accounts group : ℕ) → ℕ
group_size account accounts group = count (λ k. eqb (account k).group group) accounts

-- the place of an account, or the number of entries where it is not there
unfoldable pub account_place : (ℕ → Account) → (accounts number : ℕ) → ℕ
account_place account accounts number = first (λ k. eqb (account k).number number) accounts

-- an account is in the table; and its group, 0 where it is not
unfoldable pub is_in : (ℕ → Account) → (accounts number : ℕ) → Bool
is_in account accounts number = ltb (account_place account accounts number) accounts

unfoldable pub group_in : (ℕ → Account) → (accounts number : ℕ) → ℕ
group_in account accounts number =
    pick (is_in account accounts number) (account (account_place account accounts number)).group 0

-- "the search for an account hands back its entry as that part of the lent tables": its 8 bytes, or none
unfoldable pub account_entry : List ℕ → ℕ → List ℕ
account_entry s number =
    let place = account_place (account_at s) (entries s) number in
    pick (ltb place (entries s)) (take 8 (drop (8 * place) s)) []
