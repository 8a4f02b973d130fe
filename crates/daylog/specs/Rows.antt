-- 01, "The clerk's program": a day log as bytes, its front and its rows.
use Rattle.std.specs.Prelude.{ℕ, zero, suc, ◌+◌, ◌*◌, Bool, ◌&&◌, List, [], ◌∷◌, eqb, length, get_or, take, drop}
use Rattle.wire.specs.Choice.{pick, within}
use Rattle.daylog.specs.Header.{header_of}
use Rattle.daylog.specs.Records.{record_length}

-- the header with its tables, as far as the log goes; the header alone where its numbers allow no tables
unfoldable pub front_size : List ℕ → ℕ
front_size log =
    let h = header_of log in
    pick (within 1 32 h.contracts && within 1 512 h.accounts) (16 + 8 * h.contracts + 8 * h.accounts) 16

abbrev pub front : List ℕ → List ℕ
front log = take (front_size log) log

-- how long the records are that go with a header and its tables
abbrev pub row_size : List ℕ → ℕ
row_size log = record_length (header_of log).version

-- bytes in pieces of a size; the last may be shorter. `most` is no fewer than the pieces
unfoldable pub pieces : (size most : ℕ) → List ℕ → List (List ℕ)
pieces size zero s = []
pieces size (suc most) s = pick (eqb (length s) 0) [] (take size s ∷ pieces size most (drop size s))

-- what comes after the front
abbrev pub rows_of : List ℕ → List (List ℕ)
rows_of log = pieces (row_size log) (length log) (drop (front_size log) log)

-- "A record of type 3 goes to the end call, any other to take."
abbrev pub is_end : List ℕ → Bool
is_end row = eqb (get_or row 0 0) 3
