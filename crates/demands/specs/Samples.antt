-- Contracts, a day, records and a book of document 01's layouts, from which the rows of the two tables, the example of
-- demand 3 and document 01's own example are made.
use Rattle.std.specs.Prelude.{ℕ, ◌+◌, List, eqb}
use Rattle.wire.specs.Choice.{pick}
use Rattle.book.specs.Layout.{book_of}
use Rattle.rules.specs.Measure.{lots}
use Rattle.tables.specs.declared.contracts.Contract.{Contract}
use Rattle.tables.specs.Tables.{Tables}
use Rattle.daylog.specs.declared.record.Record.{Record}

-- a contract of a type and of product 0
abbrev pub of_type : (type' id largest : ℕ) → Contract
of_type type' id largest = record { id = id; sort = type'; product = 0; largest = lots largest }

-- a futures contract, and so of family 0 in both rulebooks
abbrev pub futures : (id largest : ℕ) → Contract
futures = of_type 1

-- a day of so many contracts, with accounts 11 and 12, clients of group 3
abbrev pub clients_day : (rulebook contracts : ℕ) → (ℕ → Contract) → Tables
clients_day rulebook contracts contract = record {
  text = record { rulebook = rulebook };
  contracts = contracts;
  contract = contract;
  accounts = 2;
  account = λ place. record { number = 11 + place; group = 3; kind = 1; spare = 0 };
}

-- one account buys one lot of contract 101 and another, or the same, sells it; both orders plain and ordinary
abbrev pub plain_trade : (buyer seller : ℕ) → Record
plain_trade buyer seller = record {
  sort = 1;
  spare = 0;
  contract = 101;
  first = buyer;
  second = seller;
  lots = lots 1;
  instruction = 1;
  purpose = 1;
  instruction2 = 1;
  purpose2 = 1;
}

-- account 11 cancels an order of an amount in lots, with an instruction and a purpose, on a contract
abbrev pub cancel_of : (contract amount instruction purpose : ℕ) → Record
cancel_of contract amount instruction purpose = record {
  sort = 2;
  spare = 0;
  contract = contract;
  first = 11;
  second = 0;
  lots = lots amount;
  instruction = instruction;
  purpose = purpose;
  instruction2 = 0;
  purpose2 = 0;
}

-- a book of rulebook 1 with a last date and one total that is not 0, at a ladder
unfoldable pub book_with_one : (ladder date total : ℕ) → List ℕ
book_with_one ladder date total = book_of 1 date (λ l. pick (eqb l ladder) total 0)
