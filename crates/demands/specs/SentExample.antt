-- 02, K2, as bytes and calls: document 01's example in version 2 of the log, with brokers at the ends of their range
-- and 256, whose low byte is zero. Each refusal that K2 brings; rows that differ from version 1's in brokers alone.
use Rattle.std.specs.Prelude.{◌≡◌, List, [], ◌∷◌, ◌++◌, ℕ}
use Rattle.wire.specs.Bytes.{bytes}
use Rattle.wire.specs.Buffers.{put}
use Rattle.demands.specs.Calls.{Step, take_record, end_day}
use Rattle.demands.specs.Paper.{during, Paper, numbers_on}
use Rattle.demands.specs.Worked.{worked_tables, trade_row, end_row}
use Rattle.demands.specs.WhoeverSent.{SameTables, SameRow}

-- the example's tables in version 2
unfoldable pub sent_tables : List ℕ
sent_tables = put worked_tables 4 (0x02 ∷ 0x00 ∷ [])

-- a row of version 1, with its brokers after it
unfoldable pub sent_by : (first second : ℕ) → List ℕ → List ℕ
sent_by first second row = row ++ (bytes 2 first ++ bytes 2 second)

-- account 11 cancels one lot of contract 101, plain limit and ordinary
unfoldable pub cancel_row : List ℕ
cancel_row =
    0x02 ∷ 0x00 ∷ 0x65 ∷ 0x00
    ∷ 0x0B ∷ 0x00 ∷ 0x00 ∷ 0x00
    ∷ 0x00 ∷ 0x00 ∷ 0x00 ∷ 0x00
    ∷ 0x01 ∷ 0x00 ∷ 0x00 ∷ 0x00
    ∷ 0x01 ∷ 0x01 ∷ 0x00 ∷ 0x00
    ∷ []

-- the day is open in version 2 and took no record yet, on any book and buffers
unfoldable pub sent_opened : Paper → Paper
sent_opened p = record { course = during sent_tables []; book = p.book; out = p.out; len = p.len }

unfoldable pub sent_steps : List Step
sent_steps =
    -- 1, a record of 20 bytes; 11, a trade without its first broker, and one without its second
    take_record (trade_row 11 12) ∷ take_record (sent_by 0 256 (trade_row 11 12))
    ∷ take_record (sent_by 256 0 (trade_row 11 12))
    -- 11, a cancel without its broker, and one with a second
    ∷ take_record (sent_by 0 0 cancel_row) ∷ take_record (sent_by 1 256 cancel_row)
    -- a trade and a cancel that are taken
    ∷ take_record (sent_by 256 65535 (trade_row 11 12)) ∷ take_record (sent_by 256 0 cancel_row)
    -- 1, an end record of 20 bytes; 11, one with a broker; 15, one that says three
    ∷ end_day (end_row 2) ∷ end_day (sent_by 0 256 (end_row 2)) ∷ end_day (sent_by 0 0 (end_row 3)) ∷ []

pub record SentExample : Type 0 where
  pub numbered : (p : Paper)
      → numbers_on (sent_opened p) sent_steps ≡ 1 ∷ 11 ∷ 11 ∷ 11 ∷ 11 ∷ 0 ∷ 0 ∷ 1 ∷ 11 ∷ 15 ∷ []
  -- the example's tables, a trade, a cancel and an end record are the same in both versions, but for who sent them
  pub tables : SameTables worked_tables sent_tables
  pub trade : SameRow 1 2 (trade_row 11 12) (sent_by 256 65535 (trade_row 11 12))
  pub cancel : SameRow 1 2 cancel_row (sent_by 256 0 cancel_row)
  pub end : SameRow 1 2 (end_row 2) (sent_by 0 0 (end_row 2))
