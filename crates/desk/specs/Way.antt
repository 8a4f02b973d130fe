-- The way, not the meaning: a day's verdict as bytes. proofs/VerdictLaws shows that it is `verdict_on`, specs/Offences.
use Rattle.std.specs.Prelude.{ℕ, ◌+◌, List, [], ◌∷◌, length, get_or}
use Rattle.wire.specs.Choice.{pick}
use Rattle.wire.specs.Bytes.{bytes}
use Rattle.wire.specs.Buffers.{rows}
use Rattle.rules.specs.declared.text.Text.{Text}
use Rattle.rules.specs.declared.kinds.Kinds.{Kinds}
use Rattle.rules.specs.Ladders.{family}
use Rattle.daylog.specs.declared.header.Header.{Header}
use Rattle.daylog.specs.Header.{text_of, contracts_part}
use Rattle.tables.specs.Entries.{entries}
use Rattle.tables.specs.ContractEntries.{contract_in}
use Rattle.tables.specs.Accounts.{account_at, has_member}
use Rattle.places.specs.Places.{ladders}
use Rattle.desk.specs.Open.{kinds_for}
use Rattle.desk.specs.Offences.{lowest}
use Rattle.desk.specs.End.{in_cells}

-- the family of the contract at a place, and of each, a byte a contract
abbrev pub family_in : Text → List ℕ → ℕ → ℕ
family_in text contracts k = family text (contract_in contracts k).sort (contract_in contracts k).product

unfoldable pub families_in : Text → List ℕ → List ℕ
families_in text contracts = rows (λ k. family_in text contracts k ∷ []) (entries contracts)

-- the lowest place that reached a ladder's number, by the families; and for every ladder, a byte a ladder
unfoldable pub place_at : Text → Kinds → (fams c : List ℕ) → ℕ → ℕ
place_at text kinds fams c ladder =
    lowest (λ k. get_or fams k 0) (length fams) text kinds (in_cells kinds c ladder) ladder

unfoldable pub places_in : Text → Kinds → (fams c : List ℕ) → List ℕ
places_in text kinds fams c = rows (λ l. place_at text kinds fams c l ∷ []) (ladders kinds)

-- those of a day
abbrev pub day_places : Header → (log c : List ℕ) → List ℕ
day_places h log c = places_in (text_of h) (kinds_for h) (families_in (text_of h) (contracts_part h log)) c

-- the contracts' ids, 16 bits each
unfoldable pub ids_in : List ℕ → List ℕ
ids_in contracts = rows (λ k. bytes 2 (contract_in contracts k).id) (entries contracts)

-- a byte for each group, 1 where it has a member among the accounts
unfoldable pub members_in : List ℕ → List ℕ
members_in accounts = rows (λ g. pick (has_member (account_at accounts) (entries accounts) (g + 1)) 1 0 ∷ []) 128
