-- Tables that differ in their version, and rows that differ in their brokers, get the same numbers from the rules.
-- Assumes nothing.
use mathlib.Core.Path.{◌≡◌, refl, sym, ap, ap₂, ◌∙◌}
use mathlib.Core.Logic.{inl, inr}
use mathlib.Core.Bool.{Bool, true, false, not, ◌&&◌, and-false}
use mathlib.Core.List.{List, ◌∷◌}
use Prim.Native.Nat.{ℕ, ◌+◌, ◌*◌, ◌≤◌, ◌<◌}
use native.Mathlib.Omega.{arith}
use borrow.Author.Tests.{eqb-true, eq-eqb, ne_eqb, not-true, not-false}
use lib.Dec.{leb, ltb, eqb, lit<}
use lib.ListN.{length, get_or, take, drop, length-drop}
use lib.Seq.{get_or-take, get_or-drop, ext_get_or}
use Rattle.wire.specs.Choice.{pick, within, or_else}
use Rattle.wire.specs.Bytes.{le}
use Rattle.wire.proofs.ChoiceLaws.{pick_yes, pick_no, pick_zero, or_none, flip_yes}
use Rattle.wire.proofs.ByteLaws.{le_cong}
use Rattle.calendar.specs.Dates.{real_day}
use Rattle.rules.specs.Codes.{is_rulebook}
use Rattle.rules.specs.Kinds.{kinds_of}
use Rattle.rules.specs.Measure.{lots}
use Rattle.tables.specs.Accounts.{accounts_good}
use Rattle.tables.specs.ContractEntries.{contracts_good}
use Rattle.tables.specs.Tables.{tables_in}
use Rattle.book.specs.Fits.{book_fault}
use Rattle.daylog.specs.declared.record.Record.{Record}
use Rattle.daylog.specs.Brokers.{has_brokers, brokers_wrong}
use Rattle.daylog.specs.Header.{header_of, log_marked, contracts_part, accounts_part, entries_fault, head_fault}
use Rattle.daylog.specs.Header.{log_fault}
use Rattle.daylog.specs.Header.{tables_of}
use Rattle.daylog.specs.Records.{record_length, record_of, end_good}
use Rattle.daylog.specs.Rows.{is_end}
use Rattle.counts.specs.Counting.{fields_fault}
use Rattle.counts.specs.Weigh.{record_fault}
use Rattle.verdict.specs.Settle.{short_fault}
use Rattle.desk.specs.Open.{few_fault, handed_fault}
use Rattle.desk.specs.End.{row_fault}
use Rattle.demands.specs.Counts.{day_verdict}
use Rattle.demands.specs.Paper.{day_in, take_number, end_refusal}
use Rattle.demands.specs.Logs.{records_in, follow_fault, rows_number}
use Rattle.demands.specs.WhoeverSent.{SameTables, well_sent, SameRow, whole, cut, SameRows, none, more}

-- ---- the header but for its version, and the tables
module _ (log log' : List ℕ) (s : SameTables log log') where
  rulebook_same : (header_of log).rulebook ≡ (header_of log').rulebook
  unfolding header_of
  rulebook_same = s.bytes 3 (inl (omega arith))

  number_same : (n i : ℕ) → 6 ≤ i → le n log i ≡ le n log' i
  number_same n i h = le_cong n log log' i i (λ k l. s.bytes (i + k) (inr (omega arith)))

  pub date_same : (header_of log).date ≡ (header_of log').date
  unfolding header_of
  date_same = number_same 4 6 (omega arith)

  contracts_same : (header_of log).contracts ≡ (header_of log').contracts
  unfolding header_of
  contracts_same = number_same 2 10 (omega arith)

  accounts_same : (header_of log).accounts ≡ (header_of log').accounts
  unfolding header_of
  accounts_same = number_same 2 12 (omega arith)

  spare_same : (header_of log).spare ≡ (header_of log').spare
  unfolding header_of
  spare_same = number_same 2 14 (omega arith)

  mark_same : log_marked log ≡ log_marked log'
  mark_same =
      λ i. eqb (s.bytes 0 (inl (omega arith)) i) 0x41 && eqb (s.bytes 1 (inl (omega arith)) i) 0x58
      && eqb (s.bytes 2 (inl (omega arith)) i) 0x44

  rest_same : (n : ℕ) → 6 ≤ n → drop n log ≡ drop n log'
  rest_same n h =
      ext_get_or 0 (drop n log) (drop n log') (omega (arith, length-drop n log, length-drop n log', s.long))
      (λ i l. get_or-drop n log i 0 ∙ s.bytes (n + i) (inr (omega arith)) ∙ sym (get_or-drop n log' i 0))

  contracts_part_is : contracts_part (header_of log) log ≡ contracts_part (header_of log') log'
  contracts_part_is =
      ap₂ (λ (n : ℕ) (l : List ℕ). take (8 * n) l) contracts_same (rest_same 16 (omega arith))

  accounts_part_is : accounts_part (header_of log) log ≡ accounts_part (header_of log') log'
  accounts_part_is =
      ap (λ (n : ℕ). drop (16 + 8 * n) log) contracts_same
      ∙ rest_same (16 + 8 * (header_of log').contracts) (omega arith)

  pub tables_same : tables_of log ≡ tables_of log'
  unfolding tables_of
  tables_same = λ i. tables_in (record { rulebook = rulebook_same i }) (contracts_part_is i) (accounts_part_is i)

  entries_same : entries_fault (header_of log) log ≡ entries_fault (header_of log') log'
  unfolding entries_fault
  entries_same =
      λ i. pick (not (eqb (s.long i) (16 + 8 * contracts_same i + 8 * accounts_same i))) 1
      (pick (not (contracts_good (record { rulebook = rulebook_same i }) (contracts_part_is i))) 7
      (pick (not (accounts_good (accounts_part_is i))) 8 0))

  fault_same : log_fault log ≡ log_fault log'
  unfolding log_fault head_fault
  fault_same =
      λ i. pick (ltb (s.long i) 16) 1
      (pick (not (mark_same i)) 2
      (pick (not (s.known i)) 3
      (pick (not (is_rulebook (rulebook_same i))) 4
      (pick (not (real_day (date_same i))) 5
      (pick (not (within 1 32 (contracts_same i) && within 1 512 (accounts_same i) && eqb (spare_same i) 0)) 6
      (entries_same i))))))

  pub handed_same : (book : List ℕ) (len : ℕ) → handed_fault log book len ≡ handed_fault log' book len
  unfolding handed_fault
  handed_same book len =
      λ i. or_else (fault_same i)
      (or_else (book_fault (rulebook_same i) (date_same i) book) (few_fault (kinds_of (rulebook_same i)) len))

  -- the book's refusals at the end
  pub book_same : (book : List ℕ) → book_fault (header_of log).rulebook (header_of log).date book
      ≡ book_fault (header_of log').rulebook (header_of log').date book
  book_same book = ap₂ (λ (rulebook date : ℕ). book_fault rulebook date book) rulebook_same date_same

-- ---- a row that is well sent
-- its brokers are not wrong
not_wrong : (version : ℕ) (row : List ℕ) → well_sent version row ≡ true → brokers_wrong version row ≡ false
unfolding well_sent brokers_wrong
not_wrong version row w = go (is_end row) refl
  where
    go : (t : Bool) → is_end row ≡ t → brokers_wrong version row ≡ false
    go true e = rw (eqb-true (get_or row 0 0) 3 e) (and-false (has_brokers version))
    go false e =
        not-true (brokers_wrong version row) (pick_no (is_end row) (not (brokers_wrong version row)) _ _ e refl ∙ w)

-- an end record has none
no_brokers : (version : ℕ) (row : List ℕ) → well_sent version row ≡ true → is_end row ≡ true → eqb (le 4 row 20) 0
    ≡ true
unfolding well_sent
no_brokers version row w e = pick_yes (is_end row) (eqb (le 4 row 20) 0) _ _ e refl ∙ w

-- ---- two rows with the same bytes 0..19
module _ (row row' : List ℕ) (e : take 20 row ≡ take 20 row') where
  byte : (i : ℕ) → i < 20 → get_or row i 0 ≡ get_or row' i 0
  byte i h = sym (get_or-take 20 row i 0 h) ∙ ap (λ (s : List ℕ). get_or s i 0) e ∙ get_or-take 20 row' i 0 h

  bytes : (n i : ℕ) → i + n ≤ 20 → le n row i ≡ le n row' i
  bytes n i h = le_cong n row row' i i (λ k l. byte (i + k) (omega arith))

  end_same : is_end row ≡ is_end row'
  end_same = ap (λ (n : ℕ). eqb n 3) (byte 0 (omega arith))

  record_same : record_of row ≡ record_of row'
  unfolding record_of
  record_same = λ i. record {
    sort = byte 0 (omega arith) i;
    spare = byte 1 (omega arith) i;
    contract = bytes 2 2 (omega arith) i;
    first = bytes 4 4 (omega arith) i;
    second = bytes 4 8 (omega arith) i;
    lots = lots (bytes 4 12 (omega arith) i);
    instruction = byte 16 (omega arith) i;
    purpose = byte 17 (omega arith) i;
    instruction2 = byte 18 (omega arith) i;
    purpose2 = byte 19 (omega arith) i;
  }

  -- where both are well sent, both are good end records or neither is
  good_same : (version version' : ℕ) → well_sent version row ≡ true → well_sent version' row' ≡ true
      → end_good row ≡ end_good row'
  unfolding end_good
  good_same version version' w w' = go (is_end row) refl
    where
      go : (t : Bool) → is_end row ≡ t → end_good row ≡ end_good row'
      go true q =
          let blank = no_brokers version row w q ∙ sym (no_brokers version' row' w' (sym end_same ∙ q)) in
          λ i. eqb (byte 0 (omega arith) i) 3 && eqb (byte 1 (omega arith) i) 0 && eqb (bytes 2 2 (omega arith) i) 0
          && eqb (bytes 4 8 (omega arith) i) 0 && eqb (bytes 4 12 (omega arith) i) 0
          && eqb (bytes 4 16 (omega arith) i) 0 && blank i
      go false q = rw (q, sym end_same ∙ q)

-- ---- rows of a day
module _ (log log' : List ℕ) (s : SameTables log log') where
  abbrev v : ℕ
  v = (header_of log).version

  abbrev v' : ℕ
  v' = (header_of log').version

  -- both have their lengths
  fit_same : (row row' : List ℕ) → length row ≡ record_length v → length row' ≡ record_length v'
      → eqb (length row) (record_length v) ≡ eqb (length row') (record_length v')
  fit_same row row' l l' = eq-eqb _ _ l ∙ sym (eq-eqb _ _ l')

  -- neither has
  cut_same : (row row' : List ℕ) (m m' : ℕ) → (length row ≡ record_length v → ⊥) → (length row' ≡ record_length v' → ⊥)
      → pick (not (eqb (length row) (record_length v))) 1 m ≡ pick (not (eqb (length row') (record_length v'))) 1 m'
  cut_same row row' m m' n n' =
      sym (pick_yes _ 1 1 m (flip_yes _ (ne_eqb _ _ n)) refl) ∙ pick_yes _ 1 1 m' (flip_yes _ (ne_eqb _ _ n')) refl

  -- a row that is not refused with 1 is whole
  not_cut : (row : List ℕ) (m : ℕ) → pick (not (eqb (length row) (record_length v))) 1 m ≡ 0
      → length row ≡ record_length v
  not_cut row m e = eqb-true _ _ (not-false _ (pick_zero _ 1 m (lit< tt) e).0)

  pub take_same : (rs : List Record) (row row' : List ℕ) → SameRow v v' row row'
      → take_number log rs row ≡ take_number log' rs row'
  unfolding take_number record_fault
  take_same rs row row' (cut n n') = cut_same row row' _ _ n n'
  take_same rs row row' (whole l l' e w w') =
      let wrong = not_wrong v row w ∙ sym (not_wrong v' row' w') in
      λ i. pick (not (fit_same row row' l l' i)) 1
      (or_else (pick (wrong i) 11 (fields_fault (tables_same log log' s i) (record_same row row' e i)))
      (pick (leb 1000000 (length rs)) 14 0))

  -- the record that is then taken
  pub taken_same : (rs : List Record) (row row' : List ℕ) → SameRow v v' row row' → take_number log rs row ≡ 0
      → record_of row ≡ record_of row'
  unfolding take_number
  taken_same rs row row' (cut n n') z = absurd (n (not_cut row _ z))
  taken_same rs row row' (whole l l' e w w') z = record_same row row' e

  row_same : (rs : List Record) (row row' : List ℕ) → take 20 row ≡ take 20 row' → well_sent v row ≡ true
      → well_sent v' row' ≡ true → row_fault (day_in log rs) row ≡ row_fault (day_in log' rs) row'
  unfolding row_fault
  row_same rs row row' e w w' =
      λ i. pick (not (good_same row row' e v v' w w' i)) 11
      (pick (not (eqb (bytes row row' e 4 4 (omega arith) i) (length rs))) 15 0)

  pub end_number_same : (rs : List Record) (row row' book : List ℕ) (room : ℕ) → SameRow v v' row row'
      → end_refusal log rs row book room ≡ end_refusal log' rs row' book room
  unfolding end_refusal
  end_number_same rs row row' book room (cut n n') = cut_same row row' _ _ n n'
  end_number_same rs row row' book room (whole l l' e w w') =
      λ i. pick (not (fit_same row row' l l' i)) 1
      (or_else (row_same rs row row' e w w' i)
      (or_else (book_same log log' s book i) (short_fault (day_verdict (tables_same log log' s i) rs) room)))

  -- ---- all the rows
  follow_same : {rows rows' : List (List ℕ)} → SameRows v v' rows rows' → follow_fault rows ≡ follow_fault rows'
  follow_same none = refl
  follow_same (more r q) = refl

  pub rows_same : (rs : List Record) {rows rows' : List (List ℕ)} → SameRows v v' rows rows'
      → rows_number log rs rows ≡ rows_number log' rs rows'
  unfolding rows_number
  rows_same rs none = refl
  rows_same rs (more {row} {row'} (cut n n') q) = cut_same row row' _ _ n n'
  rows_same rs (more {row} {row'} {rows} {rows'} (whole l l' e w w') q) =
      let after = rows_same (record_of row ∷ rs) q
      ∙ ap (λ (r : Record). rows_number log' (r ∷ rs) rows') (record_same row row' e) in
      λ i. pick (not (fit_same row row' l l' i)) 1
      (pick (end_same row row' e i) (or_else (row_same rs row row' e w w' i) (follow_same q i))
      (or_else (take_same rs row row' (whole l l' e w w') i) (after i)))

  -- and the records among them, where none is refused
  pub records_same : (rs : List Record) {rows rows' : List (List ℕ)} → SameRows v v' rows rows'
      → rows_number log rs rows ≡ 0 → records_in rs rows ≡ records_in rs rows'
  unfolding rows_number records_in
  records_same rs none z = refl
  records_same rs (more {row} {row'} (cut n n') q) z = absurd (n (not_cut row _ z))
  records_same rs (more {row} {row'} {rows} {rows'} (whole l l' e w w') q) z =
      go (is_end row) refl (records_same (record_of row ∷ rs) q)
    where
      go : (t : Bool) → is_end row ≡ t
          → (rows_number log (record_of row ∷ rs) rows ≡ 0
          → records_in (record_of row ∷ rs) rows ≡ records_in (record_of row ∷ rs) rows')
          → pick (is_end row) rs (records_in (record_of row ∷ rs) rows)
          ≡ pick (is_end row') rs (records_in (record_of row' ∷ rs) rows')
      go true h after = sym (pick_yes _ rs rs _ h refl) ∙ pick_yes _ rs rs _ (sym (end_same row row' e) ∙ h) refl
      go false h after =
          let taken = pick_no _ _ _ _ h refl ∙ (pick_zero _ 1 _ (lit< tt) z).1 in
          sym (pick_no _ _ rs _ h refl) ∙ after (or_none (take_number log rs row) _ taken).1
          ∙ ap (λ (r : Record). records_in (r ∷ rs) rows') (record_same row row' e)
          ∙ pick_no _ _ rs _ (sym (end_same row row' e) ∙ h) refl
