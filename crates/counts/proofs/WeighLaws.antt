-- Laws of a record weighed: the searches say what the tables have, and the answer is the number or the plan.
-- Assumes nothing.
use mathlib.Core.Path.{◌≡◌, refl, sym, ap, ap₂, ◌∙◌}
use mathlib.Core.Bool.{Bool, true, false, not, ◌&&◌, not-not}
use mathlib.Core.List.{List}
use Prim.Native.Nat.{ℕ, ◌*◌, ◌≤◌, ◌<◌}
use native.Mathlib.Omega.{arith}
use borrow.Author.Tests.{eq-eqb, ne_eqb, ltb-true, not-true, not-false}
use lib.Dec.{eqb, ltb}
use lib.ListN.{length, get_or, drop, length-take}
use Rattle.std.specs.Prelude.{Ok, Option, Some, None, is_some}
use Rattle.wire.specs.Choice.{pick}
use Rattle.wire.specs.Outcomes.{refused}
use Rattle.wire.proofs.ChoiceLaws.{pick_yes, pick_no, and_no, and_no_right, flip_no}
use Rattle.wire.proofs.AnswerLaws.{answer_done}
use Rattle.rules.specs.declared.text.Text.{Text}
use Rattle.exemptions.specs.Exemption.{exempt, clause, clauses}
use Rattle.exemptions.proofs.ClauseLaws.{exempt_clause}
use Rattle.tables.specs.declared.contracts.Contract.{Contract}
use Rattle.daylog.specs.declared.record.Record.{Record}
use Rattle.tables.specs.Entries.{entries}
use Rattle.tables.specs.Accounts.{accounts_good, is_in, group_in}
use Rattle.tables.specs.ContractEntries.{contract_at, contract_place, found_contract}
use Rattle.daylog.specs.Records.{record_good}
use Rattle.daylog.specs.declared.header.Header.{Header}
use Rattle.daylog.specs.Header.{text_of, contracts_part, accounts_part, tables_of}
use Rattle.daylog.specs.Changed.{tables_changed}
use Rattle.daylog.proofs.ChangedLaws.{still_good}
use Rattle.tables.specs.Tables.{Tables, tables_in, contract_of, has_account, has_contract, group_of}
use Rattle.tables.specs.Way.{found_account}
use Rattle.tables.proofs.Search.{found_length, found_group}
use Rattle.counts.specs.declared.weigh.Plan.{Plan}
use Rattle.counts.specs.declared.weigh.Reasons.{Reasons}
use Rattle.counts.specs.Counting.{self_trade, frequent_cancel, large_cancel, plan_for, plan_of, reasons_for, reasons_of}
use Rattle.counts.specs.Counting.{fields_fault, weighed}
use Rattle.counts.specs.Way.{self_trade_by, frequent_by, large_by}

-- ---- what the searches say
module _ (text : Text) (contracts accounts : List ℕ) where
  abbrev t : Tables
  t = tables_in text contracts accounts

  -- the place of a contract's id in the table, and what the search gives where it is there
  abbrev placed : ℕ → ℕ
  placed id = contract_place (contract_at contracts) (entries contracts) id

  abbrev at : ℕ → Option (ℕ × Contract)
  at id = Some (placed id, contract_at contracts (placed id))

  -- what finding a contract's entry says
  pub record Here (id k : ℕ) (e : Contract) : Type 0 where
    pub has : has_contract t id ≡ true
    pub place : k ≡ contract_of t id
    pub entry : e ≡ t.contract (contract_of t id)

  -- the search gives nothing: were the id in the table, it would give its place
  no_contract : (id : ℕ) → None ≡ found_contract contracts id → has_contract t id ≡ false
  unfolding found_contract has_contract contract_of tables_in
  no_contract id e = go (ltb (placed id) (entries contracts)) refl
    where
      go : (b : Bool) → ltb (placed id) (entries contracts) ≡ b → b ≡ false
      go true q = let z : ◌≡◌ {A = ℕ} 0 1 = cc (pick_yes _ _ (at id) None q refl) in absurd (omega arith)
      go false q = refl

  -- the search gives a place and an entry: those of the id
  pub a_contract : (id k : ℕ) (e : Contract) → Some (k, e) ≡ found_contract contracts id → Here id k e
  unfolding found_contract has_contract contract_of tables_in
  a_contract id k e q = go (ltb (placed id) (entries contracts)) refl
    where
      go : (b : Bool) → ltb (placed id) (entries contracts) ≡ b → Here id k e
      go true l =
          let same : ◌≡◌ {A = ℕ × Contract} (k, e) (placed id, contract_at contracts (placed id)) =
          cc (pick_yes _ (at id) (at id) None l refl) in record {
            has = l;
            place = ap (λ (p : ℕ × Contract). p.0) same;
            entry = ap (λ (p : ℕ × Contract). p.1) same;
          }
      go false l = let z : ◌≡◌ {A = ℕ} 0 1 = cc (pick_no _ None (at id) None l refl) in absurd (omega arith)

  -- in one: whether it gives anything
  pub has_found : (id : ℕ) (r : Option (ℕ × Contract)) → r ≡ found_contract contracts id → has_contract t id ≡ is_some r
  has_found id None e = no_contract id e
  has_found id (Some p) e = (a_contract id p.0 p.1 e).has

  -- a place of 32 contracts at the most is a small number
  pub place_fits : (id k : ℕ) (e : Contract) → Here id k e → length contracts ≤ 256 → k < 65536
  unfolding has_contract tables_in
  place_fits id k e h l = omega (arith, ltb-true (contract_of t id) (entries contracts) h.has, h.place)

  -- what finding an account's entry, or none, says
  module _ (number : ℕ) (good : accounts_good accounts ≡ true) (e : List ℕ)
      (is : e ≡ found_account accounts number) where
    -- an empty part is no entry
    pub no_account : length e ≡ 0 → has_account t number ≡ false
    unfolding has_account is_in tables_in
    no_account z = not-true _ (sym (found_length accounts good number) ∙ eq-eqb _ 0 (ap length (sym is) ∙ z))

    -- and any other is the account's
    pub an_account : (length e ≡ 0 → ⊥) → has_account t number ≡ true
    unfolding has_account is_in tables_in
    an_account some = not-false _ (sym (found_length accounts good number) ∙ ne_eqb _ 0 (λ z. some (ap length is ∙ z)))

    -- whose byte 4 is the group
    pub its_group : (length e ≡ 0 → ⊥) → get_or e 4 0 ≡ group_of t number
    unfolding group_of group_in has_account is_in tables_in
    its_group some =
        ap (λ s. get_or s 4 0) is ∙ found_group accounts good number (ltb-true _ _ (an_account some))
        ∙ pick_yes _ _ _ _ (an_account some) refl

-- whether the searches find anything
pub ruleset found = (has_found, no_account, an_account)

-- ---- the chain, where the record's fields, its contract and its first account are there
module _ (t : Tables) (r : Record) (good : record_good t.text r ≡ true)
    (contract : has_contract t r.contract ≡ true) (account : has_account t r.first ≡ true) where
  -- then the second account alone decides
  second_decides : (n : ℕ) → n ≡ pick (eqb r.sort 1 && not (has_account t r.second)) 13 0 → n ≡ fields_fault t r
  unfolding fields_fault
  second_decides n e =
      pick_no _ _ _ _ (flip_no _ good) (pick_no _ _ _ _ (flip_no _ contract) (pick_no _ _ _ _ (flip_no _ account) e))

  -- it is there
  pub second_there : has_account t r.second ≡ true → 0 ≡ fields_fault t r
  second_there has = second_decides 0 (pick_no _ _ _ _ (and_no_right (eqb r.sort 1) _ (flip_no _ has)) refl)

  -- a cancel asks for none
  pub second_none : (r.sort ≡ 1 → ⊥) → 0 ≡ fields_fault t r
  second_none n = second_decides 0 (pick_no _ _ _ _ (and_no (eqb r.sort 1) _ (ne_eqb r.sort 1 n)) refl)

-- ---- what a record counts as, by its clauses
-- an order counts where its clause is 0
no_clause : (text : Text) (sort kind instruction purpose : ℕ)
    → eqb (clause text sort kind instruction purpose) 0 ≡ not (exempt text sort kind instruction purpose)
no_clause text sort kind instruction purpose =
    sym (not-not (eqb (clause text sort kind instruction purpose) 0))
    ∙ sym (ap not (exempt_clause text sort kind instruction purpose))

module _ (text : Text) (e : Contract) (r : Record) where
  abbrev why : Reasons
  why = reasons_for text e r

  pub self_trade_by_is : (group group2 : ℕ) → self_trade_by r why group group2 ≡ self_trade text e r group group2
  unfolding reasons_for clauses pick
  self_trade_by_is group group2 = go (eqb r.sort 1) refl
    where
      go : (b : Bool) → eqb r.sort 1 ≡ b → self_trade_by r why group group2 ≡ self_trade text e r group group2
      go true q =
          rw (
            q,
            ← no_clause text e.sort 1 r.instruction r.purpose,
            ← no_clause text e.sort 1 r.instruction2 r.purpose2,
          ) refl
      go false q = rw q refl

  pub frequent_by_is : frequent_by r why.first ≡ frequent_cancel text e r
  unfolding reasons_for clauses
  frequent_by_is = rw (← no_clause text e.sort 2 r.instruction r.purpose) refl

  pub large_by_is : large_by text e r why.first ≡ large_cancel text e r
  unfolding reasons_for clauses
  large_by_is = rw (← no_clause text e.sort 3 r.instruction r.purpose) refl

pub ruleset by_clauses = (self_trade_by_is, frequent_by_is, large_by_is)

-- a cancel has no second group
no_second : (text : Text) (e : Contract) (r : Record) (place group a b : ℕ) → (r.sort ≡ 1 → ⊥)
    → plan_for text e r place group a ≡ plan_for text e r place group b
unfolding plan_for
no_second text e r place group a b n = rw (ne_eqb r.sort 1 n)

-- ---- the plan of a record from what was looked up
module _ (t : Tables) (r : Record) (e : Contract) (place group : ℕ)
    (entry : e ≡ t.contract (contract_of t r.contract)) (here : place ≡ contract_of t r.contract)
    (one : group ≡ group_of t r.first) where
  -- with both groups it is the record's own
  pub plan_is : (group2 : ℕ) → group2 ≡ group_of t r.second → plan_for t.text e r place group group2 ≡ plan_of t r
  unfolding plan_of
  plan_is group2 two = rw (entry, here, one, two)

  -- and a cancel's with any second group
  pub plan_none : (x : ℕ) → (r.sort ≡ 1 → ⊥) → plan_for t.text e r place group x ≡ plan_of t r
  plan_none x n =
      no_second t.text e r place group x (group_of t r.second) n ∙ plan_is (group_of t r.second) refl

  -- and so are the clauses
  pub reasons_is : reasons_for t.text e r ≡ reasons_of t r
  unfolding reasons_of
  reasons_is = rw entry

-- ---- the answer
module _ (t : Tables) (r : Record) where
  -- a plan, where there is no refusal
  pub counts_by : (p : Plan) (why : Reasons) → 0 ≡ fields_fault t r → p ≡ plan_of t r → why ≡ reasons_of t r
      → Ok (p, why) ≡ weighed t r
  unfolding weighed
  counts_by p w e is clear = answer_done _ refused (fields_fault t r) (sym e) (ap₂ (λ q z. Ok (q, z)) is clear)

-- ---- the parts of a log that are lent on, where its tables are still the day's
module _ (head : Header) (log contracts accounts : List ℕ) (is : contracts ≡ contracts_part head log)
    (are : accounts ≡ accounts_part head log) (same : tables_changed head log ≡ false) where
  -- 32 contracts at the most are 256 bytes at the most
  pub lent_few : length contracts ≤ 256
  lent_few =
      let most = (still_good head log same).1.most_contracts in
      rw is (omega (arith, length-take (8 * head.contracts) (drop 16 log)))

  pub lent_accounts : accounts_good accounts ≡ true
  lent_accounts = rw are (still_good head log same).1.accounts

  -- and they hold its tables
  pub lent_tables : tables_in (text_of head) contracts accounts ≡ tables_of log
  unfolding tables_of
  lent_tables = rw (is, are, (still_good head log same).0)
