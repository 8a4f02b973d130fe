-- 01, "What counts": which record counts for which group, kind and contract; and 02, K5: why it was spared. Over tables
-- and records, with no bytes and no cells.
use Rattle.std.specs.Prelude.{ℕ, Bool, ◌&&◌, ◌||◌, not, eqb, Result, Ok}
use Rattle.wire.specs.Choice.{pick}
use Rattle.wire.specs.Outcomes.{answered, refused}
use Rattle.wire.specs.declared.refusal.Refusal.{Refusal}
use Rattle.rules.specs.declared.text.Text.{Text}
use Rattle.exemptions.specs.declared.clause.Clauses.{Clauses}
use Rattle.exemptions.specs.Exemption.{exempt, clauses}
use Rattle.rules.specs.Measure.{large}
use Rattle.tables.specs.declared.contracts.Contract.{Contract}
use Rattle.daylog.specs.declared.record.Record.{Record}
use Rattle.daylog.specs.Records.{record_good}
use Rattle.tables.specs.Tables.{Tables, contract_of, has_account, has_contract, group_of}
use Rattle.counts.specs.declared.weigh.Plan.{Plan}
use Rattle.counts.specs.declared.weigh.Reasons.{Reasons}

-- of an order that is not there
abbrev pub no_clauses : Clauses
no_clauses = record { own = 0; frequent = 0; over = 0 }

-- ---- what a record counts as, on a contract, with the groups of its first and second account
module _ (text : Text) (e : Contract) (r : Record) where
  -- the first order, and the second, is exempt for a kind
  abbrev pub exempt1 : ℕ → Bool
  exempt1 kind = exempt text e.sort kind r.instruction r.purpose

  abbrev pub exempt2 : ℕ → Bool
  exempt2 kind = exempt text e.sort kind r.instruction2 r.purpose2

  -- "A trade whose two accounts are in one group is one self-trade, unless either order is exempt"
  abbrev pub self_trade : (group group2 : ℕ) → Bool
  self_trade group group2 = eqb r.sort 1 && (eqb group group2 && not (exempt1 1) && not (exempt2 1))

  -- "A cancel is one frequent-cancel time unless exempt for kind 2"
  abbrev pub frequent_cancel : Bool
  frequent_cancel = eqb r.sort 2 && not (exempt1 2)

  -- "and, apart from that, one large-cancel time if it is large and not exempt for kind 3"
  abbrev pub large_cancel : Bool
  large_cancel = eqb r.sort 2 && large text r.lots e.largest && not (exempt1 3)

  -- the group and the contract's place for which it counts, and as which kinds
  unfoldable pub plan_for : (place group group2 : ℕ) → Plan
  plan_for place group group2 = record {
    group = group;
    place = place;
    own = self_trade group group2;
    frequent = frequent_cancel;
    over = large_cancel;
  }

  -- 02, K5: the clauses "for both orders and each kind, and a cancel's second order gives 0", whatever its group and
  -- however large
  unfoldable pub reasons_for : Reasons
  reasons_for = record {
    first = clauses text e.sort r.instruction r.purpose;
    second = pick (eqb r.sort 1) (clauses text e.sort r.instruction2 r.purpose2) no_clauses;
  }

-- ---- a record of a day
unfoldable pub plan_of : Tables → Record → Plan
plan_of t r =
    plan_for t.text (t.contract (contract_of t r.contract)) r
    (contract_of t r.contract) (group_of t r.first) (group_of t r.second)

unfoldable pub reasons_of : Tables → Record → Reasons
reasons_of t r = reasons_for t.text (t.contract (contract_of t r.contract)) r

-- the kinds: 1 self-trade, 2 frequent cancel, 3 large cancel
unfoldable pub counts_as : Plan → ℕ → Bool
counts_as p kind = (eqb kind 1 && p.own) || (eqb kind 2 && p.frequent) || (eqb kind 3 && p.over)

-- record r counts for a group, a kind and the contract at a place
unfoldable pub counts_for : Tables → Record → (group kind place : ℕ) → Bool
counts_for t r group kind place =
    counts_as (plan_of t r) kind && eqb (plan_of t r).group group && eqb (plan_of t r).place place

-- ---- the refusals that a record brings by itself and by the tables
-- "11: record's own fields"; "12, 13: contract, account not in the tables". A cancel has no second account.
unfoldable pub fields_fault : Tables → Record → ℕ
fields_fault t r =
    pick (not (record_good t.text r)) 11
    (pick (not (has_contract t r.contract)) 12
    (pick (not (has_account t r.first)) 13
    (pick (eqb r.sort 1 && not (has_account t r.second)) 13
    0)))

-- what the record counts for and why it was spared, or the refusal
unfoldable pub weighed : Tables → Record → Result (Plan × Reasons) Refusal
weighed t r = answered (fields_fault t r) (Ok (plan_of t r, reasons_of t r)) refused
