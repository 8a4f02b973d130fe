-- A log read: what is asked of its parts, and the refusals in their order. Assumes nothing.
use mathlib.Core.Path.{◌≡◌, refl, sym, ap, ◌∙◌, subst}
use mathlib.Core.Bool.{true, false, not}
use mathlib.Core.List.{List}
use Prim.Native.Nat.{ℕ, ◌*◌, ◌≤◌}
use native.Mathlib.Omega.{arith}
use lib.ListN.{length, drop, length-take, length-drop}
use Rattle.std.specs.Prelude.{Err}
use Rattle.wire.specs.declared.refusal.Refusal.{Refusal}
use Rattle.wire.specs.declared.refusal.Refusal.TheVariants.{PositionLog}
use Rattle.wire.specs.Outcomes.{checked}
use Rattle.wire.proofs.ChoiceLaws.{pick_yes, pick_no, or_else_by}
use Rattle.wire.proofs.RefusalLaws.{refuse, pass_on}
use Rattle.tables.specs.Accounts.{accounts_good}
use Rattle.daylog.specs.declared.header.Header.{Header}
use Rattle.daylog.specs.Header.{header_of}
use Rattle.positions.specs.declared.sums.Sums.{Sums}
use Rattle.positions.specs.Records.{records_good}
use Rattle.positions.specs.Log.{records_from, limits_part, accounts_part, records_part, front_fault, log_fault}
use Rattle.positions.specs.GoodPositions.{GoodPositions}
use Rattle.positions.specs.Sums.{sums_of, sums_in}
use Rattle.positions.proofs.FaultLaws.{front_sound}

-- the log is refused before its records
pub front_refused : (log : List ℕ) {r : Refusal} → Err r ≡ checked (front_fault log) → Err r ≡ checked (log_fault log)
unfolding log_fault
front_refused log e = pass_on tt tt (front_fault log) _ e

-- ---- a log without fault up to its records, and its parts
module _ (log : List ℕ) (h : Header) (is : h ≡ header_of log) (fine : front_fault log ≡ 0) {cs acs rs : List ℕ}
    (limits : cs ≡ limits_part h log) (accounts : acs ≡ accounts_part h log) (records : rs ≡ records_part h log) where
  front_good : GoodPositions h log
  front_good = subst (λ (x : Header). GoodPositions x log) (sym is) (front_sound log fine)

  pub asked : (length cs ≤ 512) × (accounts_good acs ≡ true) × (length rs ≤ 262144)
  asked = (
    omega (
      arith,
      front_good.most_contracts,
      ap length limits,
      length-take (16 * h.contracts) (drop 16 log),
    ),
    ap accounts_good accounts ∙ front_good.accounts,
    omega (
      arith,
      front_good.most_records,
      front_good.whole,
      ap length records,
      length-drop (records_from h) log,
    ),
  )

  -- the records' check, and the sums, of the parts are those of the log
  good_is :
      let x = header_of log in
      records_good cs acs rs ≡ records_good (limits_part x log) (accounts_part x log) (records_part x log)
  good_is = rw (limits, accounts, records, is) refl

  pub sums_are : {s : Sums} → s ≡ sums_of cs acs rs → s ≡ sums_in (header_of log) log
  sums_are e = e ∙ rw (limits, accounts, records, is) refl

  pub records_refused : records_good cs acs rs ≡ false → Err PositionLog ≡ checked (log_fault log)
  unfolding log_fault
  records_refused bad =
      refuse PositionLog _
      (or_else_by (front_fault log) _ 22 fine (pick_yes _ _ _ _ (ap not (sym good_is ∙ bad)) refl))

  pub records_pass : records_good cs acs rs ≡ true → log_fault log ≡ 0
  unfolding log_fault
  records_pass good =
      sym (or_else_by (front_fault log) _ 0 fine (pick_no _ _ _ _ (ap not (sym good_is ∙ good)) refl))
