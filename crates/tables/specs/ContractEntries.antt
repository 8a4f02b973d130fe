-- 01, "Layouts": "C contract entries of 8 bytes: 0..1 contract id, not zero, strictly rising; 2 type ..; 3 product, 0
-- to 15; 4..7 largest order in lots, 1 to 1,000,000."
use Rattle.std.specs.Prelude.{ℕ, zero, suc, ◌+◌, ◌*◌, Bool, true, false, ◌&&◌, List, leb, ltb, eqb, get_or}
use Rattle.std.specs.Prelude.{Option, Some, None}
use Rattle.wire.specs.Choice.{pick, within}
use Rattle.wire.specs.Below.{every, first}
use Rattle.wire.specs.Bytes.{le}
use Rattle.rules.specs.declared.text.Text.{Text}
use Rattle.rules.specs.Codes.{has_type}
use Rattle.rules.specs.Measure.{lots}
use Rattle.tables.specs.declared.contracts.Contract.{Contract}
use Rattle.tables.specs.Entries.{entries}

-- the contract entry at place k of a table
unfoldable pub contract_at : List ℕ → ℕ → Contract
contract_at s k = record {
  id = le 2 s (8 * k);
  sort = get_or s (8 * k + 2) 0;
  product = get_or s (8 * k + 3) 0;
  largest = lots (le 4 s (8 * k + 4));
}

-- "not zero, strictly rising" is above the one before, with 0 before the first
unfoldable pub id_before : List ℕ → ℕ → ℕ
id_before s zero = 0
id_before s (suc k) = (contract_at s k).id

abbrev pub contract_good : Text → ℕ → Contract → Bool
contract_good text before e =
    ltb before e.id && has_type text e.sort && leb e.product 15 && within 1 1000000 e.largest.0

abbrev pub contract_good_at : Text → List ℕ → ℕ → Bool
contract_good_at text s k = contract_good text (id_before s k) (contract_at s k)

unfoldable pub contracts_good : Text → List ℕ → Bool
contracts_good text s = every (contract_good_at text s) (entries s)

-- the entry at a place, and one of zeros past the end
unfoldable pub contract_in : List ℕ → ℕ → Contract
contract_in s k = pick (ltb k (entries s)) (contract_at s k)
    (record { id = 0; sort = 0; product = 0; largest = lots 0 })

-- the place of a contract id, or the number of entries where it is not there
unfoldable pub contract_place : (ℕ → Contract) → (contracts id : ℕ) → ℕ
contract_place contract contracts id = first (λ k. eqb (contract k).id id) contracts

-- what the search for a contract id finds: its place and its entry
unfoldable pub found_contract : List ℕ → ℕ → Option (ℕ × Contract)
found_contract s id =
    let place = contract_place (contract_at s) (entries s) id in
    pick (ltb place (entries s)) (Some (place, contract_at s place)) None

-- its values: whether there is such a contract, and then its place
abbrev pub is_found : Option (ℕ × Contract) → Bool
is_found (Some found) = true
is_found None = false

abbrev pub place_found : Option (ℕ × Contract) → ℕ
place_found (Some found) = found.0
place_found None = 0
