-- 02, K4, either side of each line, as a table of rows over demand 2's own `offence`. Where there is no offence, the
-- row begins with `not`.
use Rattle.std.specs.Prelude.{◌≡◌, ℕ, ◌+◌, Bool, true, not, ◌&&◌, List, [], ◌∷◌, eqb}
use Rattle.wire.specs.Choice.{pick}
use Rattle.rules.specs.Measure.{lots}
use Rattle.positions.specs.Log.{Positions}
use Rattle.positions.specs.Offences.{offence}

-- a day of one contract, 101, of product 5, with its limits today and the day before; accounts 11 and 12, of group 3
-- and of a group that is chosen, each with a record of what it holds, long and short
unfoldable pub day_with : (rulebook today previous group12 : ℕ) → (long11 short11 long12 short12 : ℕ) → Positions
day_with rulebook today previous group12 long11 short11 long12 short12 = record {
  text = record { rulebook = rulebook };
  contracts = 1;
  contract = λ k. record { id = 101; sort = 1; product = 5; today = lots today; previous = lots previous; spare = 0 };
  accounts = 2;
  account = λ k. record { number = 11 + k; group = pick (eqb k 0) 3 group12; kind = 1; spare = 0 };
  records = 2;
  position = λ k. record {
    contract = 101;
    spare = 0;
    account = 11 + k;
    long = lots (pick (eqb k 0) long11 long12);
    short = lots (pick (eqb k 0) short11 short12);
  };
}

-- is it an offence of group 3, in its family: 0 in rulebook 1, the product in rulebook 2
unfoldable pub over : (rulebook today previous group12 long11 short11 long12 short12 : ℕ) → Bool
over rulebook today previous group12 long11 short11 long12 short12 =
    offence (day_with rulebook today previous group12 long11 short11 long12 short12) 3 (pick (eqb rulebook 1) 0 5)

unfoldable pub lines : List Bool
lines =
    -- "above today's limit": equal is not above; the long sum, or the short sum
    not (over 2 100 100 3 60 0 40 0)
    ∷ over 2 100 100 3 60 0 41 0
    ∷ not (over 2 100 100 3 0 60 0 40)
    ∷ over 2 100 100 3 0 60 0 41
    -- the two sides are not added
    ∷ not (over 2 100 100 3 60 60 0 0)
    -- "in rulebook 1, also above the previous one (003's sparing rule)": equal is not above
    ∷ not (over 1 100 200 3 100 0 50 0)
    ∷ not (over 1 100 200 3 100 0 100 0)
    ∷ over 1 100 200 3 100 0 101 0
    ∷ not (over 1 200 100 3 100 0 100 0)
    ∷ over 2 100 200 3 100 0 50 0
    -- "A group of two or more accounts", with positions or without: account 12 is of group 4, or of 3 and holds none
    ∷ not (over 2 100 100 4 150 0 0 0)
    ∷ over 2 100 100 3 150 0 0 0
    -- a sum that 16 bits do not hold
    ∷ not (over 2 65635 65635 3 65535 0 100 0)
    ∷ over 2 65634 65634 3 65535 0 100 0
    -- "once a day per family": in rulebook 2 the product's, and no other
    ∷ not (offence (day_with 2 100 100 3 150 0 0 0) 3 0)
    ∷ []

unfoldable pub all_hold : List Bool → Bool
all_hold [] = true
all_hold (row ∷ more) = row && all_hold more

-- every row holds
abbrev pub Lines : Type 0
Lines = all_hold lines ≡ true
