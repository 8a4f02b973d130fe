-- 01, "Layouts": the header of 16 bytes; and "The calls and their refusals": opening's checks 1 to 8 in their order.
use Rattle.std.specs.Prelude.{ℕ, ◌+◌, ◌*◌, Bool, ◌&&◌, ◌||◌, not, List, ltb, eqb, length, get_or, take, drop}
use Rattle.wire.specs.Choice.{pick, within}
use Rattle.wire.specs.Bytes.{le}
use Rattle.rules.specs.declared.text.Text.{Text}
use Rattle.rules.specs.Codes.{is_rulebook}
use Rattle.calendar.specs.Dates.{real_day}
use Rattle.daylog.specs.declared.header.Header.{Header}
use Rattle.tables.specs.ContractEntries.{contracts_good}
use Rattle.tables.specs.Accounts.{accounts_good}
use Rattle.tables.specs.Tables.{Tables, tables_in}

-- "0..2 mark 41 58 44 ("AXD")"
abbrev pub log_marked : List ℕ → Bool
log_marked log = eqb (get_or log 0 0) 0x41 && eqb (get_or log 1 0) 0x58 && eqb (get_or log 2 0) 0x44

-- "3 rulebook; 4..5 version; 6..9 date as yyyymmdd; 10..11 number of contracts C ..; 12..13 number of accounts A
-- ..; 14..15 zero"
unfoldable pub header_of : List ℕ → Header
header_of log = record {
  rulebook = get_or log 3 0;
  version = le 2 log 4;
  date = le 4 log 6;
  contracts = le 2 log 10;
  accounts = le 2 log 12;
  spare = le 2 log 14;
}

-- 02, K2: "3 is any version but 1 and 2"
abbrev pub is_version : (version : ℕ) → Bool
is_version version = eqb version 1 || eqb version 2

-- the text by which a day with this header is judged
abbrev pub text_of : Header → Text
text_of h = record { rulebook = h.rulebook }

-- "C, 1 to 32"; "A, 1 to 512"; "14..15 zero"
abbrev pub sizes_good : Header → Bool
sizes_good h = within 1 32 h.contracts && within 1 512 h.accounts && eqb h.spare 0

-- each table's part of the log: "Then C contract entries of 8 bytes", "Then A account entries of 8 bytes"
abbrev pub contracts_part : Header → List ℕ → List ℕ
contracts_part h log = take (8 * h.contracts) (drop 16 log)

abbrev pub accounts_part : Header → List ℕ → List ℕ
accounts_part h log = drop (16 + 8 * h.contracts) log

-- the day's tables
unfoldable pub tables_of : List ℕ → Tables
tables_of log =
    tables_in (text_of (header_of log)) (contracts_part (header_of log) log) (accounts_part (header_of log) log)

-- 1: "not 16+8C+8A"; "7, 8: a contract entry; an account entry"
unfoldable pub entries_fault : Header → List ℕ → ℕ
entries_fault h log =
    pick (not (eqb (length log) (16 + 8 * h.contracts + 8 * h.accounts))) 1
    (pick (not (contracts_good (text_of h) (contracts_part h log))) 7
    (pick (not (accounts_good (accounts_part h log))) 8
    0))

-- "2, 3, 4: mark, version, rulebook number"; "5, 6: date; C, A or bytes 14..15"
unfoldable pub head_fault : Header → List ℕ → ℕ
head_fault h log =
    pick (not (is_version h.version)) 3
    (pick (not (is_rulebook h.rulebook)) 4
    (pick (not (real_day h.date)) 5
    (pick (not (sizes_good h)) 6
    (entries_fault h log))))

-- the first of 1 (under 16), 2, 3, 4, 5, 6, 1, 7, 8 that is given, or 0
unfoldable pub log_fault : List ℕ → ℕ
log_fault log =
    pick (ltb (length log) 16) 1
    (pick (not (log_marked log)) 2
    (head_fault (header_of log) log))
