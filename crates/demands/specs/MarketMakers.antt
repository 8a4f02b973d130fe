-- 02, K1, "The market maker we let off", as a table of rows over demand 2's own `offence`. Where there is no offence,
-- the row begins with `not`.
use Rattle.std.specs.Prelude.{◌≡◌, ℕ, Bool, true, not, List, [], ◌∷◌, replicate}
use Rattle.tables.specs.Tables.{Tables}
use Rattle.desk.specs.Offences.{family_of}
use Rattle.demands.specs.Counts.{offence}
use Rattle.demands.specs.Samples.{of_type, clients_day, cancel_of}
use Rattle.demands.specs.Starred.{countable, all_hold}

-- a day of one contract, 101, of a type, with a largest order of 1000
unfoldable pub day_on : (rulebook type' : ℕ) → Tables
day_on rulebook type' = clients_day rulebook 1 (λ place. of_type type' 101 1000)

-- are n cancels of market making, each of 1000 lots, an offence of group 3 of a kind
unfoldable pub maker_offends : (rulebook type' n kind : ℕ) → Bool
maker_offends rulebook type' n kind =
    offence (day_on rulebook type') (replicate n (cancel_of 101 1000 (countable rulebook) 4)) 3 kind
    (family_of (day_on rulebook type') 0)

unfoldable pub market_makers : List Bool
market_makers =
    -- "In rulebook 1, purpose 4 is exempt for kind 2 only where the contract's type is 2."
    not (maker_offends 1 1 499 2)
    ∷ maker_offends 1 1 500 2
    ∷ not (maker_offends 1 2 500 2)
    -- for kind 2 and no other: as large ones they count on both types
    ∷ maker_offends 1 1 400 3
    ∷ maker_offends 1 2 400 3
    -- "rulebook 2 stays"
    ∷ not (maker_offends 2 1 500 2)
    ∷ maker_offends 2 1 100 3
    ∷ []

-- every row holds
abbrev pub MarketMakers : Type 0
MarketMakers = all_hold market_makers ≡ true
