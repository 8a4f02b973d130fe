-- 01, "The clerk's program", the example, as bytes and calls: "rulebook 1, 5 March 2024, contract 101 (futures),
-- accounts 11 and 12 as clients in group 3, four trades 11 to 12 and one 12 to 12, all plain limit and ordinary; the
-- book's last date is 20240304 and group 3 has total 1 for kind 1 family 0". Then three short lists of calls with
-- refusals between.
use Rattle.std.specs.Prelude.{◌≡◌, List, [], ◌∷◌, ◌++◌, map, ℕ, take, drop, replicate}
use Rattle.wire.specs.Buffers.{put}
use Rattle.rules.specs.Kinds.{kinds_of}
use Rattle.places.specs.Places.{ladder_of}
use Rattle.desk.specs.End.{end_found}
use Rattle.demands.specs.Samples.{book_with_one}
use Rattle.demands.specs.Calls.{Step, make_book, open_day, take_record, end_day, abandon_day, ask_book, lend_findings}
use Rattle.demands.specs.Calls.{Reply, made, moved, took, ended, told, lent, Desk, Given, numbers, Ran, left}
use Rattle.demands.specs.Calls.{full_room}
use Rattle.demands.specs.Logs.{clerk_counts, clerk_desk}
use Rattle.demands.specs.Paper.{idle, during, Paper, numbers_on, paper_after}

-- ---- the bytes
-- the header of 16 bytes, a contract entry and two account entries of 8 bytes each: 40 bytes. The date is given by its
-- 4 bytes, and the groups are those of accounts 11 and 12
unfoldable pub tables_for : (date : List ℕ) (group11 group12 : ℕ) → List ℕ
tables_for date group11 group12 =
    -- the mark "AXD"; "rulebook 1"; version 1; the date
    0x41 ∷ 0x58 ∷ 0x44 ∷ 0x01 ∷ 0x01 ∷ 0x00 ∷ (date ++ (
    -- one contract, two accounts, two zero bytes
    0x01 ∷ 0x00 ∷ 0x02 ∷ 0x00 ∷ 0x00 ∷ 0x00
    -- "contract 101 (futures)", of product 0; the largest order is 1000 lots, 0x03E8
    ∷ 0x65 ∷ 0x00 ∷ 0x01 ∷ 0x00 ∷ 0xE8 ∷ 0x03 ∷ 0x00 ∷ 0x00
    -- "accounts 11 and 12 as clients" in their groups
    ∷ 0x0B ∷ 0x00 ∷ 0x00 ∷ 0x00 ∷ group11 ∷ 0x01 ∷ 0x00 ∷ 0x00
    ∷ 0x0C ∷ 0x00 ∷ 0x00 ∷ 0x00 ∷ group12 ∷ 0x01 ∷ 0x00 ∷ 0x00
    ∷ []))

-- "5 March 2024": 20240305 is 0x0134D7B1; both accounts "in group 3"
unfoldable pub worked_tables : List ℕ
worked_tables = tables_for (0xB1 ∷ 0xD7 ∷ 0x34 ∷ 0x01 ∷ []) 3 3

-- a trade on a contract, of one lot: the first account buys and the second sells; "all plain limit and ordinary". The
-- three numbers are below 256
unfoldable pub trade_on : (contract first second : ℕ) → List ℕ
trade_on contract first second =
    -- type 1, a zero byte, the contract, and the two accounts
    0x01 ∷ 0x00 ∷ contract ∷ 0x00
    ∷ first ∷ 0x00 ∷ 0x00 ∷ 0x00
    ∷ second ∷ 0x00 ∷ 0x00 ∷ 0x00
    -- one lot; instruction 1 and purpose 1 of each order
    ∷ 0x01 ∷ 0x00 ∷ 0x00 ∷ 0x00
    ∷ 0x01 ∷ 0x01 ∷ 0x01 ∷ 0x01
    ∷ []

-- the same on contract 101
abbrev pub trade_row : (first second : ℕ) → List ℕ
trade_row first second = trade_on 101 first second

-- the end record after n records, n below 256
unfoldable pub end_row : (n : ℕ) → List ℕ
end_row n = 0x03 ∷ 0x00 ∷ 0x00 ∷ 0x00 ∷ n ∷ replicate 15 0x00

-- a book of rulebook 1 with a last date, and a total of "group 3 .. for kind 1 family 0"; all others are 0
abbrev pub worked_book : (date total : ℕ) → List ℕ
worked_book date total = book_with_one (ladder_of (kinds_of 1) 3 1 0) date total

-- ---- the calls
-- the clerk's buffers with "the book's last date is 20240304 and group 3 has total 1 for kind 1 family 0"; no day is
-- open
abbrev pub worked_desk : Desk
worked_desk = clerk_desk (worked_book 20240304 1)

-- "four trades 11 to 12 and one 12 to 12"
unfoldable pub worked_trades : List Step
worked_trades =
    take_record (trade_row 11 12) ∷ take_record (trade_row 11 12) ∷ take_record (trade_row 11 12)
    ∷ take_record (trade_row 11 12) ∷ take_record (trade_row 12 12) ∷ []

-- a day of five records: it is opened on its tables, takes what comes, and is ended
unfoldable pub whole_day : (tables : List ℕ) (trades : List Step) → List Step
whole_day tables trades = open_day tables ∷ (trades ++ (end_day (end_row 5) ∷ []))

-- the example's day
unfoldable pub worked_steps : List Step
worked_steps = whole_day worked_tables worked_trades

-- "3 1 0 2 2 101", the line's group, kind, family, total, sanction and contract. In the buffer: group, kind, family
-- and sanction, one byte each, then the total and the contract in 16 bits
unfoldable pub worked_finding : List ℕ
worked_finding = 3 ∷ 1 ∷ 0 ∷ 2 ∷ 2 ∷ 0 ∷ 101 ∷ 0 ∷ []

-- how many findings an answer tells of: only that of ending does
abbrev pub found_by : Reply → ℕ
found_by (made a) = 0
found_by (moved a) = 0
found_by (took a) = 0
found_by (ended a) = end_found a
found_by (told a) = 0
found_by lent = 0

-- the calls have answers
pub record Worked : Type 0 where
  pub given : List Given
  pub ran : Ran worked_desk worked_steps given
  -- none of which is a refusal
  pub numbered : numbers given ≡ 0 ∷ 0 ∷ 0 ∷ 0 ∷ 0 ∷ 0 ∷ 0 ∷ []
  -- "findings 1": the last tells of one
  pub count : map (λ g. found_by g.reply) given ≡ 0 ∷ 0 ∷ 0 ∷ 0 ∷ 0 ∷ 0 ∷ 1 ∷ []
  -- it stands from the buffer's start, and "Bytes past them stay"
  pub findings : (left worked_desk given).out ≡ put (replicate full_room 0) 0 worked_finding
  -- the book has the day's date, and total 2 for that group, kind and family alone
  pub book : (left worked_desk given).book ≡ worked_book 20240305 2

-- ---- refusals between
-- no day is open, and the book has no bytes
unfoldable pub no_book : Paper
no_book = record { course = idle; book = []; out = []; len = clerk_counts }

-- the example's tables with a book's mark, "AXB"
unfoldable pub wrong_mark : List ℕ
wrong_mark = 0x41 ∷ 0x58 ∷ 0x42 ∷ drop 3 worked_tables

-- take, end and abandon: 10, none is open; ask: 17, the book is not sound; fresh: 4, the rulebook's number, and 17,
-- the length; open: 2, the mark, and 17
unfoldable pub no_book_steps : List Step
no_book_steps =
    take_record (trade_row 11 12) ∷ end_day (end_row 0) ∷ abandon_day ∷ ask_book 1 1 0 ∷ make_book 3 ∷ make_book 1
    ∷ open_day wrong_mark ∷ open_day worked_tables ∷ []

-- the day is open and took no record yet, on any book and buffers
unfoldable pub just_opened : Paper → Paper
just_opened p = record { course = during worked_tables []; book = p.book; out = p.out; len = p.len }

-- each call's refusal, and between them one record that is taken and the day abandoned
unfoldable pub open_steps : List Step
open_steps =
    -- 10, a day is open
    open_day worked_tables
    -- 1, a record of 19 bytes; 11, one of type 3; 12, contract 102; 13, account 13
    ∷ take_record (take 19 (trade_row 11 12)) ∷ take_record (end_row 0)
    ∷ take_record (trade_on 102 11 12) ∷ take_record (trade_row 11 13)
    -- one record, and 15, an end record that says two
    ∷ take_record (trade_row 11 12) ∷ end_day (end_row 2)
    -- abandoned, and 10, none is open
    ∷ abandon_day ∷ take_record (trade_row 11 12) ∷ []

-- the example's book and counts, and a findings buffer of 7 bytes
unfoldable pub short_out : Paper
short_out = record { course = idle; book = worked_book 20240304 1; out = replicate 7 0; len = clerk_counts }

-- the example with a record of type 3 among the trades, 11; its end refused for the room, 20, and accepted once a
-- buffer of 8 bytes is lent; then 10, none is open
unfoldable pub short_out_steps : List Step
short_out_steps =
    open_day worked_tables ∷ take_record (trade_row 11 12) ∷ take_record (trade_row 11 12) ∷ take_record (end_row 2)
    ∷ take_record (trade_row 11 12) ∷ take_record (trade_row 11 12) ∷ take_record (trade_row 12 12)
    ∷ end_day (end_row 5) ∷ lend_findings (replicate 8 0) ∷ end_day (end_row 5) ∷ abandon_day ∷ []

-- their numbers by the rules: a refusal leaves all as it was, so that the calls after it are answered as if it were
-- not there
pub record Refusals : Type 0 where
  pub no_book_lem : numbers_on no_book no_book_steps ≡ 10 ∷ 10 ∷ 10 ∷ 17 ∷ 4 ∷ 17 ∷ 2 ∷ 17 ∷ []
  pub day_open : (p : Paper) → numbers_on (just_opened p) open_steps ≡ 10 ∷ 1 ∷ 11 ∷ 12 ∷ 13 ∷ 0 ∷ 15 ∷ 0 ∷ 10 ∷ []
  pub short_out_lem : numbers_on short_out short_out_steps ≡ 0 ∷ 0 ∷ 0 ∷ 11 ∷ 0 ∷ 0 ∷ 0 ∷ 20 ∷ 0 ∷ 0 ∷ 10 ∷ []
  -- the findings of the day are the example's
  pub found : (paper_after short_out short_out_steps).out ≡ worked_finding
