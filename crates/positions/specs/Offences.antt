-- 02, K4: "A group of two or more accounts offends once a day per family if on some contract its long or its short sum
-- is above today's limit and, in rulebook 1, also above the previous one". Over a day's positions, with no bytes and
-- no running totals.
use Rattle.std.specs.Prelude.{ℕ, Bool, false, ◌&&◌, ◌||◌, leb, eqb}
use Rattle.wire.specs.Choice.{pick}
use Rattle.wire.specs.Below.{sum, first, some}
use Rattle.rules.specs.declared.kinds.Kinds.TheVariants.{One}
use Rattle.rules.specs.declared.measure.Lots.{Lots}
use Rattle.rules.specs.declared.text.Text.{Text}
use Rattle.rules.specs.Limits.{held, over_limit}
use Rattle.rules.specs.Ladders.{family}
use Rattle.tables.specs.Accounts.{group_in, group_size}
use Rattle.places.specs.Places.{group_at, family_at}
use Rattle.verdict.specs.Verdict.{Verdict}
use Rattle.positions.specs.declared.contracts.Limited.{Limited}
use Rattle.positions.specs.declared.records.Position.{Position}
use Rattle.positions.specs.LimitEntries.{limit_place}
use Rattle.positions.specs.Log.{Positions}
use Rattle.positions.specs.Books.{position_shape}

-- the group of a record's account, and the place of its contract
unfoldable pub group_on : Positions → Position → ℕ
group_on p r = group_in p.account p.accounts r.account

unfoldable pub place_on : Positions → Position → ℕ
place_on p r = limit_place p.contract p.contracts r.contract

-- a record is of an account of the group, on the contract at a place
unfoldable pub is_of : Positions → (group place : ℕ) → Position → Bool
is_of p group place r = eqb (group_on p r) group && eqb (place_on p r) place

-- what the group's accounts hold on the contract at a place, all together: an amount of each record, summed
unfoldable pub held_of : (Position → Lots) → Positions → (group place : ℕ) → ℕ
held_of side p group place =
    sum (λ k. pick (is_of p group place (p.position k)) (side (p.position k)).0 0) p.records

abbrev pub long_of : Positions → (group place : ℕ) → ℕ
long_of = held_of (λ r. r.long)

abbrev pub short_of : Positions → (group place : ℕ) → ℕ
short_of = held_of (λ r. r.short)

-- "its long or its short sum is above"
unfoldable pub over_either : Text → Limited → (long short : ℕ) → Bool
over_either text e long short =
    over_limit text (held long) e.today e.previous || over_limit text (held short) e.today e.previous

-- "A group of two or more accounts": in the table, with positions or without
unfoldable pub is_many : Positions → ℕ → Bool
is_many p group = leb 2 (group_size p.account p.accounts group)

-- the family of the contract at a place: in rulebook 1 always 0, as all types are 1
unfoldable pub family_of : Positions → ℕ → ℕ
family_of p place = family p.text (p.contract place).sort (p.contract place).product

-- the contract at a place is of the family, and the group is over its limit there
unfoldable pub over_on : Positions → (group family' place : ℕ) → Bool
over_on p group family' place =
    eqb (family_of p place) family'
    && over_either p.text (p.contract place) (long_of p group place) (short_of p group place)

-- the group offends on the day in the family
unfoldable pub offence : Positions → (group family' : ℕ) → Bool
offence p group family' = is_many p group && some (over_on p group family') p.contracts

-- ---- what the day's end goes by
-- the lowest place of a contract on which the ladder's group offends, or the number of contracts where there is none
unfoldable pub lowest_on : Positions → ℕ → ℕ
lowest_on p ladder =
    pick (is_many p (group_at One ladder)) (first (over_on p (group_at One ladder) (family_at ladder)) p.contracts)
    p.contracts

-- a member changes no sanction of kind 5: none is looked for
unfoldable pub verdict_on : Positions → Verdict
verdict_on p = record {
  shape = position_shape;
  rulebook = p.text.rulebook;
  contracts = p.contracts;
  id = λ place. (p.contract place).id;
  member = λ group. false;
  lowest = lowest_on p;
}
