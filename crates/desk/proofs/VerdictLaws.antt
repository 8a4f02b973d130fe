-- A day's verdict as bytes is the day's verdict by its cells. Assumes nothing.
use mathlib.Core.Path.{◌≡◌, refl, sym, ap, ◌∙◌, subst}
use mathlib.Core.Bool.{Bool, true, false, ◌&&◌}
use mathlib.Core.List.{List}
use Prim.Native.Nat.{ℕ, ◌+◌, ◌-◌, ◌*◌, ◌/◌, ◌<◌, ◌≤◌}
use native.Mathlib.Omega.{arith}
use borrow.Author.Tests.{lt-ltb}
use lib.Dec.{eqb}
use lib.ListN.{length, get_or, drop, length-take, length-drop}
use lib.Seq.{get_or-drop}
use Rattle.wire.specs.Choice.{pick}
use Rattle.wire.specs.Below.{first}
use Rattle.wire.specs.Bytes.{le, bytes}
use Rattle.wire.proofs.ChoiceLaws.{pick_yes}
use Rattle.wire.proofs.BelowLaws.{first_cong}
use Rattle.wire.proofs.ByteLaws.{bytes_length, pair_low}
use Rattle.wire.proofs.BufferLaws.{ones_at, ones_length, pair_at, rows_length}
use Rattle.wire.proofs.PartLaws.{there, low_take}
use Rattle.rules.specs.declared.text.Text.{Text}
use Rattle.rules.specs.declared.kinds.Kinds.{Kinds}
use Rattle.rules.specs.Kinds.{kinds_of}
use Rattle.rules.specs.Measure.{times, enough, reached}
use Rattle.rules.specs.Ladders.{family}
use Rattle.daylog.specs.declared.header.Header.{Header}
use Rattle.daylog.specs.Header.{header_of, text_of, contracts_part, accounts_part, tables_of}
use Rattle.daylog.specs.GoodLog.{GoodLog}
use Rattle.tables.specs.Entries.{entries}
use Rattle.tables.specs.ContractEntries.{contract_at, contract_in}
use Rattle.tables.specs.Accounts.{account_at, has_member}
use Rattle.tables.specs.Tables.{Tables, tables_in, member_on}
use Rattle.places.specs.Places.{ladders, kind_at, family_at}
use Rattle.book.specs.Shape.{day_shape}
use Rattle.posting.specs.Raise.{place_in}
use Rattle.verdict.specs.Verdict.{Verdict, verdict_in, found_count, found_in}
use Rattle.verdict.proofs.SettleLaws.{found_in_lem}
use Rattle.verdict.proofs.SameVerdict.{Same, same_count}
use Rattle.desk.specs.Offences.{kinds_on, family_of, reached_at, lowest, lowest_on, verdict_on}
use Rattle.desk.specs.Open.{kinds_for}
use Rattle.desk.specs.End.{in_cells, cell_verdict}
use Rattle.desk.specs.Way.{family_in, families_in, place_at, places_in, day_places, ids_in, members_in}

-- within the table, the entry at a place is there
pub entry_in : (s : List ℕ) (k : ℕ) → k < entries s → contract_in s k ≡ contract_at s k
unfolding contract_in
entry_in s k h = sym (pick_yes _ _ _ _ (lt-ltb _ _ h) refl)

module _ (text : Text) (contracts accounts c : List ℕ) where
  abbrev day : Tables
  day = tables_in text contracts accounts

  abbrev kinds : Kinds
  kinds = kinds_of text.rulebook

  abbrev fams : List ℕ
  fams = families_in text contracts

  abbrev places : List ℕ
  places = places_in text kinds fams c

  families_length : length fams ≡ entries contracts
  unfolding families_in
  families_length = ones_length (family_in text contracts) (entries contracts)

  family_is : (k : ℕ) → k < entries contracts → get_or fams k 0 ≡ family_of day k
  unfolding families_in family_of tables_in
  family_is k h =
      ones_at (family_in text contracts) (entries contracts) k h
      ∙ ap (λ e. family text e.sort e.product) (entry_in contracts k h)

  place_is : (l : ℕ) → place_at text kinds fams c l ≡ lowest_on day (in_cells kinds c) l
  unfolding place_at lowest_on lowest reached_at tables_in
  place_is l =
      ap (first (reached_at (λ k. get_or fams k 0) (length fams) text kinds (in_cells kinds c l) l)) families_length
      ∙ first_cong (reached_at (λ k. get_or fams k 0) (length fams) text kinds (in_cells kinds c l) l)
      (reached_at (family_of day) (entries contracts) text kinds (in_cells kinds c l) l) (entries contracts)
      (λ k h. ap (λ f. eqb f (family_at l) && reached (times (in_cells kinds c l k)) (enough text (kind_at kinds l)))
      (family_is k h))

  filled : (l : ℕ) → l < ladders kinds → place_in places l ≡ lowest_on day (in_cells kinds c) l
  unfolding places_in place_in
  filled l h =
      let n : length places ≡ ladders kinds = ones_length (place_at text kinds fams c) (ladders kinds) in
      there places l 255 (omega arith) ∙ ones_at (place_at text kinds fams c) (ladders kinds) l h ∙ place_is l

  pub ids_length : length (ids_in contracts) / 2 ≡ entries contracts
  unfolding ids_in
  ids_length =
      omega (
        arith,
        rows_length (λ k. bytes 2 (contract_in contracts k).id) 2 (λ k. bytes_length 2 _)
            (entries contracts),
      )

  id_is : ((j : ℕ) → get_or contracts j 0 < 256) → (k : ℕ) → k < entries contracts → le 2 (ids_in contracts) (2 * k)
      ≡ (day.contract k).id
  unfolding ids_in tables_in contract_at
  id_is small k h =
      let e : (contract_in contracts k).id ≡ le 2 contracts (8 * k) = ap (λ x. x.id) (entry_in contracts k h) in
      pair_at (λ j. (contract_in contracts j).id) (entries contracts) k h
      (omega (arith, pair_low contracts (8 * k) small)) ∙ e

  one_if : (b : Bool) → eqb (pick b 1 0) 1 ≡ b
  unfolding pick
  one_if true = refl
  one_if false = refl

  member_is : (g : ℕ) → 1 ≤ g → g ≤ 128 → eqb (get_or (members_in accounts) (g - 1) 0) 1 ≡ member_on day g
  unfolding members_in member_on tables_in
  member_is g low high =
      let e : g - 1 + 1 ≡ g = omega arith in
      ap (λ n. eqb n 1) (ones_at (λ k. pick (has_member (account_at accounts) (entries accounts) (k + 1)) 1 0) 128
      (g - 1) (omega arith))
      ∙ one_if (has_member (account_at accounts) (entries accounts) (g - 1 + 1))
      ∙ ap (has_member (account_at accounts) (entries accounts)) e

  verdict_same : ((j : ℕ) → get_or contracts j 0 < 256)
      → Same (verdict_in (day_shape text.rulebook) text.rulebook places (ids_in contracts) (members_in accounts))
      (verdict_on day (in_cells kinds c))
  unfolding verdict_in verdict_on tables_in day_shape
  verdict_same small = record {
    shape = refl;
    rulebook = refl;
    contracts = ids_length;
    lowest = filled;
    id = id_is small;
    member = member_is;
  }

-- as many contracts as the header says
size_is : (h : Header) (log : List ℕ) → GoodLog h log → entries (contracts_part h log) ≡ h.contracts
size_is h log good = omega (arith, good.whole, length-take (8 * h.contracts) (drop 16 log), length-drop 16 log)

-- ---- of a day whose log is good
module _ (h : Header) (log c : List ℕ) (e : h ≡ header_of log) (good : GoodLog h log) where
  tables_are : tables_in (text_of h) (contracts_part h log) (accounts_part h log) ≡ tables_of log
  unfolding tables_of
  tables_are = rw e

  pub kinds_are : kinds_for h ≡ kinds_on (tables_of log)
  unfolding tables_of tables_in
  kinds_are = ap kinds_for e

  abbrev pub day_bytes : Verdict
  day_bytes =
      verdict_in (day_shape h.rulebook) h.rulebook (day_places h log c) (ids_in (contracts_part h log))
      (members_in (accounts_part h log))

  pub day_same : ((j : ℕ) → get_or log j 0 < 256) → Same day_bytes (cell_verdict (tables_of log) c)
  unfolding tables_in
  day_same small =
      subst (λ (t : Tables). Same day_bytes (cell_verdict t c)) tables_are
      (verdict_same (text_of h) (contracts_part h log) (accounts_part h log) c
      (low_take (8 * h.contracts) (drop 16 log) (λ j. rw (get_or-drop 16 log j 0) (small (16 + j)))))

  -- the findings are as many as by the cells
  pub count_same : ((j : ℕ) → get_or log j 0 < 256)
      → found_in (kinds_for h) (day_places h log c) h.contracts ≡ found_count (cell_verdict (tables_of log) c)
  unfolding day_shape
  count_same small =
      ap (found_in (kinds_for h) (day_places h log c))
      (sym (ids_length (text_of h) (contracts_part h log) (accounts_part h log) c ∙ size_is h log good))
      ∙ found_in_lem (day_shape h.rulebook) h.rulebook (day_places h log c) (ids_in (contracts_part h log))
      (members_in (accounts_part h log))
      ∙ same_count _ _ (day_same small)
