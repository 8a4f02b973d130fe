-- 01, "The calls and their refusals": "Tables are changed when they fail opening's checks 1 to 8 or the header is not
-- the open day's".
use Rattle.std.specs.Prelude.{ℕ, Bool, ◌&&◌, ◌||◌, not, List, eqb}
use Rattle.wire.specs.Choice.{pick}
use Rattle.daylog.specs.declared.header.Header.{Header}
use Rattle.daylog.specs.Header.{header_of, log_fault}

unfoldable pub same_header : Header → Header → Bool
same_header a b =
    eqb a.rulebook b.rulebook && eqb a.version b.version && eqb a.date b.date
    && eqb a.contracts b.contracts && eqb a.accounts b.accounts && eqb a.spare b.spare

unfoldable pub tables_changed : Header → List ℕ → Bool
tables_changed head log = not (same_header head (header_of log)) || not (eqb (log_fault log) 0)

-- "19: changed since opening"
abbrev pub changed_fault : Header → List ℕ → ℕ
changed_fault head log = pick (tables_changed head log) 19 0
