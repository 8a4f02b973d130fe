-- While a day is open the cells are the times of the records taken: every refusal, and what ending writes, is then
-- the rules'. Assumes nothing.
use mathlib.Core.Path.{◌≡◌, refl, sym, ap, ap₂, ◌∙◌, subst}
use mathlib.Core.Bool.{Bool, true, false, not, ◌&&◌, and-false}
use mathlib.Core.List.{List, [], ◌∷◌}
use Prim.Native.Nat.{ℕ, ◌+◌, ◌*◌, ◌/◌, ◌%◌, ◌≤◌, ◌<◌}
use native.Mathlib.Omega.{arith}
use borrow.Author.Tests.{le-leb, le-ltb, eq-eqb}
use lib.Dec.{leb, ltb, eqb}
use lib.ListN.{length, get_or, drop, replicate, length-append, length-replicate, length-drop, get_or-replicate}
use lib.ListN.{get_or-append}
use lib.Seq.{drop_at}
use Rattle.wire.specs.Choice.{pick, or_else}
use Rattle.wire.proofs.ChoiceLaws.{or_pick, or_assoc, or_after, or_else_lem, pick_no, flip_no}
use Rattle.wire.proofs.BelowLaws.{every_all, first_cong}
use Rattle.rules.specs.declared.kinds.Kinds.{Kinds}
use Rattle.rules.specs.Kinds.{kinds_in, first_kind}
use Rattle.rules.specs.Measure.{times, enough, reached}
use Rattle.daylog.specs.declared.header.Header.{Header}
use Rattle.daylog.specs.declared.record.Record.{Record}
use Rattle.daylog.specs.Header.{header_of, log_fault, tables_of}
use Rattle.daylog.specs.Records.{record_of}
use Rattle.daylog.specs.Rows.{row_size}
use Rattle.tables.specs.Tables.{tables_in}
use Rattle.daylog.specs.Changed.{same_header, tables_changed, changed_fault}
use Rattle.places.specs.Places.{ladders, cells, cell_of, group_at, kind_at, family_at, HasCell}
use Rattle.book.specs.Shape.{day_shape}
use Rattle.book.specs.Fits.{book_fault}
use Rattle.places.proofs.LadderLaws.{row_at, cell_there, cell_in_lem, cell_is}
use Rattle.verdict.specs.Verdict.{found_count, findings, book_after}
use Rattle.verdict.specs.Settle.{short_fault}
use Rattle.verdict.proofs.SameVerdict.{Same, same_count, same_findings, same_book}
use Rattle.desk.specs.declared.state.State.TheVariants.{Open}
use Rattle.counts.specs.Counting.{plan_of, counts_for, counts_as, fields_fault}
use Rattle.counts.specs.Cells.{cell_for, cell_changed, cells_changed, plan_fault, raised}
use Rattle.counts.specs.Weigh.{record_fault, weigh_fault}
use Rattle.desk.specs.Take.{sizes_fault, held_fault, day_fault, take_fault}
use Rattle.desk.specs.Open.{kinds_for, zeroed}
use Rattle.desk.specs.Offences.{kinds_on, family_of, reached_at, lowest, lowest_on, verdict_on}
use Rattle.desk.specs.End.{call_fault, row_fault, cells_good, cells_fault, in_cells, cell_verdict, counts_fault}
use Rattle.desk.specs.End.{lent_fault}
use Rattle.desk.specs.End.{end_fault}
use Rattle.years.specs.Days.{how_many}
use Rattle.demands.specs.Counts.{times_of, times_on, day_verdict}
use Rattle.demands.specs.Paper.{day_in, take_number, end_refusal}
use Rattle.demands.proofs.CountLaws.{raised_length, raised_past, raised_at}
use Rattle.years.proofs.ManyLaws.{many_le}
use Rattle.demands.proofs.TableLaws.{known_tables, fields_fine, has_record, placed, none_past}

pub record Agrees (log : List ℕ) (rs : List Record) (c : List ℕ) : Type 0 where
  pub sound : log_fault log ≡ 0
  pub long : cells (kinds_on (tables_of log)) ≤ length c
  pub cells : (g k place : ℕ) → HasCell (kinds_on (tables_of log)) g k place
      → get_or c (cell_of (kinds_on (tables_of log)) g k place) 0 ≡ times_of (tables_of log) rs g k place
  pub spare : (g k place : ℕ) → (tables_of log).contracts ≤ place → times_of (tables_of log) rs g k place ≡ 0

-- ---- a day begins, and goes on
zero_at : (kinds : Kinds) (c : List ℕ) (i : ℕ) → i < cells kinds → get_or (zeroed kinds c) i 0 ≡ 0
unfolding zeroed
zero_at kinds c i h =
    let n = length-replicate {A = ℕ} (cells kinds) 0 in
    get_or-append (replicate (cells kinds) 0) (drop (cells kinds) c) 0 i (omega arith)
    ∙ get_or-replicate (cells kinds) i 0 0 h

pub zeroed_length : (kinds : Kinds) (c : List ℕ) → cells kinds ≤ length c → length (zeroed kinds c) ≡ length c
unfolding zeroed
zeroed_length kinds c h =
    let both = length-append (replicate (cells kinds) 0) (drop (cells kinds) c) in
    omega (arith, both, length-replicate {A = ℕ} (cells kinds) 0, length-drop (cells kinds) c)

pub zeroed_past : (kinds : Kinds) (c : List ℕ) → drop (cells kinds) (zeroed kinds c) ≡ drop (cells kinds) c
unfolding zeroed
zeroed_past kinds c =
    drop_at (replicate (cells kinds) 0) (drop (cells kinds) c) (cells kinds) (length-replicate {A = ℕ} (cells kinds) 0)

pub agrees_open : (log c : List ℕ) → log_fault log ≡ 0 → cells (kinds_for (header_of log)) ≤ length c
    → Agrees log [] (zeroed (kinds_for (header_of log)) c)
unfolding times_of how_many tables_of tables_in
agrees_open log c e h =
    let kinds = kinds_for (header_of log) in record {
      sound = e;
      long = omega (arith, zeroed_length kinds c h);
      cells = λ g k place i. zero_at kinds c (cell_of kinds g k place) (cell_there kinds g k place i);
      spare = λ g k place l. refl;
    }

-- a record without fault has a cell for each kind as which it may count
own_cells : (log : List ℕ) (rs : List Record) (c : List ℕ) (r : Record) → Agrees log rs c
    → fields_fault (tables_of log) r ≡ 0 → (k : ℕ) → 1 ≤ k → k ≤ 3
    → HasCell (kinds_on (tables_of log)) (plan_of (tables_of log) r).group k (plan_of (tables_of log) r).place
own_cells log rs c r a e = placed (tables_of log) (known_tables log a.sound) r (has_record (tables_of log) r e)

-- ---- a record without fault, taken on a day
module _ (log : List ℕ) (rs : List Record) (c : List ℕ) (r : Record) (a : Agrees log rs c)
    (e : fields_fault (tables_of log) r ≡ 0) where
  -- the counts after it
  abbrev raised_by : List ℕ
  raised_by = raised (kinds_for (header_of log)) (plan_of (tables_of log) r) c

  -- raising leaves as many counts, and those past the cells
  pub raised_room : length raised_by ≡ length c
  unfolding tables_of tables_in
  raised_room = raised_length (kinds_on (tables_of log)) (plan_of (tables_of log) r) c (own_cells log rs c r a e) a.long

  pub raised_rest : drop (cells (kinds_for (header_of log))) raised_by ≡ drop (cells (kinds_for (header_of log))) c
  unfolding tables_of tables_in
  raised_rest = raised_past (kinds_on (tables_of log)) (plan_of (tables_of log) r) c (own_cells log rs c r a e) a.long

  pub agrees_take : Agrees log (r ∷ rs) raised_by
  unfolding times_of how_many counts_for tables_of tables_in
  agrees_take =
      let t = tables_of log in
      let own = own_cells log rs c r a e in record {
        sound = a.sound;
        long = omega (arith, a.long, raised_room);
        cells =
            λ g k place i.
            omega (arith, raised_at (kinds_on t) (plan_of t r) c own a.long g place k i, a.cells g k place i);
        spare =
            λ g k place l.
            let no = none_past t r (has_record t r e) g k place l in
            omega (arith, pick_no {A = ℕ} (counts_for t r g k place) 0 1 0 no refl, a.spare g k place l);
      }

-- ---- no cell stands above the records taken
module _ (log : List ℕ) (rs : List Record) (c : List ℕ) (a : Agrees log rs c) where
  abbrev kinds : Kinds
  kinds = kinds_on (tables_of log)

  pub low : (g k place : ℕ) → HasCell (kinds_on (tables_of log)) g k place
      → get_or c (cell_of (kinds_on (tables_of log)) g k place) 0 ≤ length rs
  unfolding times_of
  low g k place i = omega (arith, a.cells g k place i, many_le (λ r. counts_for (tables_of log) r g k place) rs)

  low_at : (i : ℕ) → i < cells kinds → get_or c i 0 ≤ length rs
  low_at i h =
      subst (λ (j : ℕ). get_or c j 0 ≤ length rs) (sym (cell_is kinds i))
      (low (i / (32 * kinds_in kinds) + 1) (i / 32 % kinds_in kinds + first_kind kinds) (i % 32)
      (cell_in_lem kinds i h))

  cells_good_is : cells_good kinds (length rs) c ≡ true
  unfolding cells_good
  cells_good_is = every_all _ (cells kinds) (λ i h. le-leb _ _ (low_at i h))

  cells_fault_is : cells_fault kinds (length rs) c ≡ 0
  unfolding cells_fault
  cells_fault_is = sym (pick_no _ _ _ _ (flip_no _ cells_good_is) refl)

  kind_stands : (r : Record) → fields_fault (tables_of log) r ≡ 0 → (k : ℕ) → 1 ≤ k → k ≤ 3
      → cell_changed kinds (length rs) (plan_of (tables_of log) r) c k ≡ false
  unfolding cell_changed cell_for
  kind_stands r e k l h =
      let p = plan_of (tables_of log) r in
      let most = low p.group k p.place (own_cells log rs c r a e k l h) in
      ap (λ (b : Bool). counts_as p k && b) (le-ltb (length rs) (get_or c (cell_of kinds p.group k p.place) 0) most)
      ∙ and-false (counts_as p k)

  cells_stand : (r : Record) → fields_fault (tables_of log) r ≡ 0
      → cells_changed kinds (length rs) (plan_of (tables_of log) r) c ≡ false
  unfolding cells_changed
  cells_stand r e =
      let one = kind_stands r e 1 (omega arith) (omega arith) in
      let two = kind_stands r e 2 (omega arith) (omega arith) in
      rw (one, two, kind_stands r e 3 (omega arith) (omega arith))

  -- the tables are those of the opening
  same_self : (h : Header) → same_header h h ≡ true
  unfolding same_header
  same_self h = rw (
    eq-eqb h.rulebook h.rulebook refl,
    eq-eqb h.version h.version refl,
    eq-eqb h.date
        h.date refl,
    eq-eqb h.contracts h.contracts refl,
    eq-eqb h.accounts h.accounts refl,
    eq-eqb
        h.spare h.spare refl,
  )

  tables_stand : tables_changed (header_of log) log ≡ false
  unfolding tables_changed
  tables_stand = rw (same_self (header_of log), a.sound)

  -- a row that has not its length
  abbrev short : List ℕ → Bool
  short row = not (eqb (length row) (row_size log))

  sizes_is : (row : List ℕ) → sizes_fault (day_in log rs) row (length c) ≡ pick (short row) 1 0
  unfolding sizes_fault tables_of tables_in
  sizes_is row = ap (pick (short row) 1) (sym (pick_no _ _ _ _ (le-ltb (length c) (cells kinds) a.long) refl))

  no_change : changed_fault (header_of log) log ≡ 0
  no_change = sym (pick_no _ _ _ _ tables_stand refl)

  call_is : (row : List ℕ) → call_fault (day_in log rs) log row (length c) ≡ pick (short row) 1 0
  unfolding call_fault
  call_is row = ap₂ or_else (sizes_is row) no_change ∙ or_pick (short row) 1 0 (λ e. omega arith)

  -- ---- the refusals of take are the rules'
  plan_is : (r : Record) → fields_fault (tables_of log) r ≡ 0
      → plan_fault kinds (length rs) (plan_of (tables_of log) r) c ≡ pick (leb 1000000 (length rs)) 14 0
  unfolding plan_fault
  plan_is r e = ap (pick (leb 1000000 (length rs)) 14) (sym (pick_no _ _ _ _ (cells_stand r e) refl))

  held_is : (row : List ℕ) → held_fault (day_in log rs) log row (length c)
      ≡ or_else (pick (short row) 1 0) (record_fault (header_of log).version (tables_of log) row)
  unfolding held_fault weigh_fault
  held_is row = ap₂ or_else (sizes_is row) (or_else_lem _ _ no_change)

  pub take_is : (row : List ℕ) → take_fault (Open (day_in log rs)) log row c ≡ take_number log rs row
  unfolding take_fault day_fault take_number tables_of tables_in
  take_is row =
      let own = record_fault (header_of log).version (tables_of log) row in
      let full = plan_fault kinds (length rs) (plan_of (tables_of log) (record_of row)) c in
      ap (λ (n : ℕ). or_else n full) (held_is row) ∙ or_assoc (pick (short row) 1 0) own full
      ∙ ap (or_else (pick (short row) 1 0))
      (or_after own _ _ (λ e. plan_is (record_of row) (fields_fine _ (tables_of log) row e)))
      ∙ or_pick (short row) 1 _ (λ e. omega arith)

  -- ---- the times in the cells are those of the records
  times_are : (ladder place : ℕ) → ladder < ladders kinds → place < (tables_of log).contracts
      → in_cells kinds c ladder place ≡ times_on (tables_of log) rs ladder place
  unfolding in_cells times_on
  times_are ladder place h l =
      a.cells (group_at kinds ladder) (kind_at kinds ladder) place
      (record { row = row_at kinds ladder h; last_place = omega (arith, (known_tables log a.sound).few) })

  lowest_is : (ladder : ℕ) → ladder < ladders kinds
      → lowest_on (tables_of log) (in_cells kinds c) ladder
      ≡ lowest_on (tables_of log) (times_on (tables_of log) rs) ladder
  unfolding lowest_on lowest reached_at
  lowest_is ladder h =
      let t = tables_of log in
      let number = enough t.text (kind_at kinds ladder) in
      first_cong _ _ t.contracts
      (λ k l. ap (λ (n : ℕ). eqb (family_of t k) (family_at ladder) && reached (times n) number)
      (times_are ladder k h l))

  -- so the verdict by the cells is that by the records
  pub verdict_is : Same (cell_verdict (tables_of log) c) (day_verdict (tables_of log) rs)
  unfolding verdict_on day_shape
  verdict_is = record {
    shape = refl;
    rulebook = refl;
    contracts = refl;
    lowest = lowest_is;
    id = λ k h. refl;
    member = λ g low high. refl;
  }

  pub count_is : found_count (cell_verdict (tables_of log) c) ≡ found_count (day_verdict (tables_of log) rs)
  count_is = same_count _ _ verdict_is

  module _ (date : ℕ) (book : List ℕ) where
    pub book_is : book_after (cell_verdict (tables_of log) c) date book
        ≡ book_after (day_verdict (tables_of log) rs) date book
    book_is = same_book _ _ verdict_is date book

    pub findings_are : findings (cell_verdict (tables_of log) c) date book
        ≡ findings (day_verdict (tables_of log) rs) date book
    findings_are = same_findings _ _ verdict_is date book

  -- ---- the refusals of end are the rules'
  counts_are : (room : ℕ)
      → counts_fault (day_in log rs) (tables_of log) c room ≡ short_fault (day_verdict (tables_of log) rs) room
  unfolding counts_fault short_fault
  counts_are room =
      or_else_lem (cells_fault kinds (length rs) c) _ cells_fault_is
      ∙ ap (λ (n : ℕ). pick (ltb room (8 * n)) 20 0) count_is

  pub end_is : (row book : List ℕ) (room : ℕ)
      → end_fault (Open (day_in log rs)) log row book c room ≡ end_refusal log rs row book room
  unfolding end_fault lent_fault end_refusal
  end_is row book room =
      let h = header_of log in
      let handed = or_else (row_fault (day_in log rs) row) (book_fault h.rulebook h.date book) in
      ap₂ or_else (ap (λ (n : ℕ). or_else n handed) (call_is row)) (counts_are room)
      ∙ or_assoc (pick (short row) 1 0) _ _ ∙ or_pick (short row) 1 _ (λ e. omega arith)
      ∙ ap (pick (short row) 1) (or_assoc (row_fault (day_in log rs) row) _ _)
