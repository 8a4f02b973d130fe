-- Joining group a to group b in a position log changes the groups of its account entries and nothing else: the log has
-- the same fault, or again none. Assumes nothing.
use mathlib.Core.Path.{◌≡◌, refl, ap, ap₂, ◌∙◌}
use mathlib.Core.Bool.{Bool, not, ◌&&◌}
use mathlib.Core.List.{List}
use Prim.Native.Nat.{ℕ, ◌*◌}
use native.Mathlib.Omega.{arith}
use lib.Dec.{ltb}
use Rattle.wire.specs.Choice.{pick, or_else}
use Rattle.wire.proofs.BelowLaws.{every_cong}
use Rattle.tables.specs.Entries.{entries}
use Rattle.tables.specs.Accounts.{account_at, is_in}
use Rattle.joining.specs.Joining.{PartJoined}
use Rattle.joining.proofs.JoiningLaws.{part_joined, in_joined}
use Rattle.book.specs.Sound.{mark_good}
use Rattle.daylog.specs.declared.header.Header.{Header}
use Rattle.daylog.specs.Header.{header_of}
use Rattle.daylog.proofs.HeaderLaws.{header_same}
use Rattle.years.specs.Joined.{Two}
use Rattle.positions.specs.LimitEntries.{limit_count, limited_at, limit_place}
use Rattle.positions.specs.Records.{record_count, position_at, contract_before, account_before, fields_good, good_at}
use Rattle.positions.specs.Records.{records_good}
use Rattle.positions.specs.Log.{accounts_from, records_from, limits_part, accounts_part, records_part, tables_fault}
use Rattle.positions.specs.Log.{front_fault, log_fault, positions_in, positions_of}
use Rattle.position_demands.specs.Join.{join_log, Joined}

module _ (a b : ℕ) (two : Two a b) (log : List ℕ) where
  abbrev h : Header
  h = header_of log

  abbrev new : List ℕ
  new = join_log a b log

  part : PartJoined a b (accounts_from h) h.accounts log new
  unfolding join_log
  part =
      part_joined a b (accounts_from h) h.accounts log two.first_a two.last_a two.first_b two.last_b

  -- ---- what stands
  pub header_stands : header_of new ≡ h
  header_stands = header_same new log (λ i l. part.before i (omega arith))

  mark_stands : mark_good 0x50 new ≡ mark_good 0x50 log
  mark_stands = rw (part.before 0 (omega arith), part.before 1 (omega arith), part.before 2 (omega arith))

  limits_stand : limits_part h new ≡ limits_part h log
  limits_stand = part.part 16 (16 * h.contracts) (omega arith)

  records_stand : records_part h new ≡ records_part h log
  records_stand = part.rest (records_from h) (omega arith)

  -- ---- the same fault
  tables_same : tables_fault h new ≡ tables_fault h log
  unfolding tables_fault
  tables_same = rw (part.size, limits_stand, part.good)

  front_same : front_fault new ≡ front_fault log
  unfolding front_fault
  front_same = rw (part.size, mark_stands, header_stands, tables_same)

  -- a record's account is there where it was
  account_there : (number : ℕ)
      → is_in (account_at (accounts_part h new)) (entries (accounts_part h new)) number
      ≡ is_in (account_at (accounts_part h log)) (entries (accounts_part h log)) number
  account_there number =
      ap (λ (n : ℕ). is_in (account_at (accounts_part h new)) n number) part.count
      ∙ in_joined part.accounts (entries (accounts_part h log)) number

  records_same : records_good (limits_part h new) (accounts_part h new) (records_part h new)
      ≡ records_good (limits_part h log) (accounts_part h log) (records_part h log)
  unfolding records_good good_at
  records_same =
      ap₂ (λ (c r : List ℕ). records_good c (accounts_part h new) r) limits_stand records_stand
      ∙ every_cong _ _ (record_count (records_part h log))
      (λ k l.
      let r = position_at (records_part h log) k in
      let fields = fields_good (contract_before (records_part h log) k) (account_before (records_part h log) k) r in
      let place = limit_place (limited_at (limits_part h log)) (limit_count (limits_part h log)) r.contract in
      ap (λ (t : Bool). fields && ltb place (limit_count (limits_part h log)) && t) (account_there r.account))

  pub fault_same : log_fault new ≡ log_fault log
  unfolding log_fault
  fault_same =
      ap₂ or_else front_same
      (ap (λ (x : Header). pick (not (records_good (limits_part x new) (accounts_part x new) (records_part x new)))
      22 0)
      header_stands
      ∙ ap (λ (t : Bool). pick (not t) 22 0) records_same)

  -- ---- the positions
  pub positions_joined : Joined a b (positions_of log) (positions_of new)
  unfolding positions_of positions_in
  positions_joined = rw header_stands (record {
    text = refl;
    contracts = ap (λ (s : List ℕ). limit_count s) limits_stand;
    contract = λ k. ap (λ (s : List ℕ). limited_at s k) limits_stand;
    accounts = part.count;
    account = part.accounts;
    records = ap (λ (s : List ℕ). record_count s) records_stand;
    position = λ k. ap (λ (s : List ℕ). position_at s k) records_stand;
  })
