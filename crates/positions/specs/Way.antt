-- The way, not the meaning: sums kept in cells, and a day's verdict as bytes. proofs/SumLaws and proofs/VerdictLaws
-- show that they are specs/Offences.
use Rattle.std.specs.Prelude.{ℕ, zero, suc, ◌+◌, ◌*◌, ◌/◌, Bool, ◌&&◌, List, ◌∷◌, [], ltb, eqb, length, get_or, set}
use Rattle.std.specs.Prelude.{replicate}
use Rattle.wire.specs.Choice.{pick}
use Rattle.wire.specs.Below.{first}
use Rattle.wire.specs.Bytes.{bytes}
use Rattle.wire.specs.Buffers.{rows}
use Rattle.rules.specs.declared.kinds.Kinds.TheVariants.{One}
use Rattle.rules.specs.declared.measure.Lots.{Lots}
use Rattle.rules.specs.declared.text.Text.{Text}
use Rattle.rules.specs.Ladders.{family}
use Rattle.tables.specs.Entries.{entries}
use Rattle.tables.specs.Accounts.{account_at, group_in}
use Rattle.places.specs.Places.{ladders, cells, cell_of, family_at}
use Rattle.daylog.specs.declared.header.Header.{Header}
use Rattle.daylog.specs.Header.{text_of}
use Rattle.positions.specs.declared.records.Position.{Position}
use Rattle.positions.specs.LimitEntries.{limit_count, limited_at, limit_place}
use Rattle.positions.specs.Records.{record_count, position_at}
use Rattle.positions.specs.Log.{limits_part, accounts_part, records_part}
use Rattle.positions.specs.Offences.{over_either}

-- an amount added in cell i; a place past the end adds nothing
unfoldable pub added_in : List ℕ → (i amount : ℕ) → List ℕ
added_in c i amount = set c i (get_or c i 0 + amount)

-- n amounts added, each in its cell, to so many zeros
unfoldable pub summed : (size : ℕ) → (cell amount : ℕ → ℕ) → ℕ → List ℕ
summed size cell amount zero = replicate size 0
summed size cell amount (suc n) = added_in (summed size cell amount n) (cell n) (amount n)

-- the number of accounts of each group, from group 0 on
unfoldable pub sizes_in : List ℕ → List ℕ
sizes_in accounts = summed 129 (λ k. (account_at accounts k).group) (λ k. 1) (entries accounts)

-- ---- the records' cells: their account's group and their contract's place
module _ (contracts accounts records : List ℕ) where
  unfoldable pub cell_at : ℕ → ℕ
  cell_at k =
      let r = position_at records k in
      cell_of One (group_in (account_at accounts) (entries accounts) r.account) 5
      (limit_place (limited_at contracts) (limit_count contracts) r.contract)

  -- the sums of one side over the first n records
  unfoldable pub side_to : (Position → Lots) → ℕ → List ℕ
  unfolding cell_at
  side_to side n = summed (cells One) cell_at (λ k. (side (position_at records k)).0) n

  abbrev pub long_to : ℕ → List ℕ
  long_to = side_to (λ r. r.long)

  abbrev pub short_to : ℕ → List ℕ
  short_to = side_to (λ r. r.short)

-- those of all records of a log
abbrev pub long_in : Header → List ℕ → List ℕ
long_in h log =
    long_to (limits_part h log) (accounts_part h log) (records_part h log) (record_count (records_part h log))

abbrev pub short_in : Header → List ℕ → List ℕ
short_in h log =
    short_to (limits_part h log) (accounts_part h log) (records_part h log) (record_count (records_part h log))

-- the family of the contract at a place, and of each, a byte each; and the ids, 16 bits each
abbrev pub family_in : Text → List ℕ → ℕ → ℕ
family_in text contracts k = family text (limited_at contracts k).sort (limited_at contracts k).product

unfoldable pub families_in : Text → List ℕ → List ℕ
families_in text contracts = rows (λ k. family_in text contracts k ∷ []) (limit_count contracts)

unfoldable pub ids_in : List ℕ → List ℕ
ids_in contracts = rows (λ k. bytes 2 (limited_at contracts k).id) (limit_count contracts)

-- ---- by the families and the sums
module _ (text : Text) (contracts fams longs shorts : List ℕ) where
  -- the contract at place c is of the ladder's family, and the ladder's group is over its limit there
  unfoldable pub over_at : (ladder c : ℕ) → Bool
  over_at ladder c =
      eqb (get_or fams c 0) (family_at ladder)
      && over_either text (limited_at contracts c) (get_or longs (ladder / 16 * 32 + c) 0)
      (get_or shorts (ladder / 16 * 32 + c) 0)

  -- the lowest such place, where the ladder's group has two accounts or more
  unfoldable pub place_at : (sizes : List ℕ) → ℕ → ℕ
  unfolding over_at
  place_at sizes ladder =
      pick (ltb (get_or sizes (ladder / 16 + 1) 0) 2) (length fams) (first (over_at ladder) (length fams))

  -- for every ladder, a byte each
  unfoldable pub places_in : (sizes : List ℕ) → List ℕ
  unfolding place_at
  places_in sizes = rows (λ l. place_at sizes l ∷ []) (ladders One)

-- those of a log
abbrev pub log_places : Header → List ℕ → List ℕ
log_places h log =
    places_in (text_of h) (limits_part h log) (families_in (text_of h) (limits_part h log)) (long_in h log)
    (short_in h log)
    (sizes_in (accounts_part h log))
