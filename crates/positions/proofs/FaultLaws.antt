-- What is known of a position log without fault. Assumes nothing.
use mathlib.Core.Path.{◌≡◌}
use mathlib.Core.Bool.{true, ◌&&◌}
use mathlib.Core.List.{List}
use Prim.Native.Nat.{ℕ, ◌≤◌}
use native.Mathlib.Omega.{arith}
use borrow.Author.Tests.{leb-true, eqb-true, not-false}
use lib.Dec.{lit<, leb, eqb}
use Rattle.std.specs.Prelude.{Err}
use Rattle.wire.specs.declared.refusal.Refusal.TheVariants.{PositionLog}
use Rattle.wire.specs.Outcomes.{checked}
use Rattle.wire.proofs.RefusalLaws.{refuse, accept}
use Rattle.wire.specs.Choice.{within}
use Rattle.wire.proofs.ChoiceLaws.{chain, pick_zero, pick_le, and_left, and_right, bounds, or_none, or_most}
use Rattle.rules.specs.Codes.{is_rulebook}
use Rattle.calendar.specs.Dates.{real_day}
use Rattle.daylog.specs.Header.{header_of}
use Rattle.positions.specs.Records.{records_good}
use Rattle.positions.specs.Log.{records_in, head_good, limits_part, accounts_part, records_part, tables_fault}
use Rattle.positions.specs.Log.{front_fault}
use Rattle.positions.specs.Log.{log_fault}
use Rattle.positions.specs.GoodPositions.{GoodPositions}

pub front_sound : (log : List ℕ) → front_fault log ≡ 0 → GoodPositions (header_of log) log
unfolding front_fault tables_fault
front_sound log e =
    let h = header_of log in
    let e1 = pick_zero _ 22 _ (lit< tt) e in
    let e2 = pick_zero _ 22 _ (lit< tt) e1.1 in
    let e3 = pick_zero _ 22 _ (lit< tt) e2.1 in
    let e4 = pick_zero _ 22 _ (lit< tt) e3.1 in
    let e5 = pick_zero _ 22 _ (lit< tt) e4.1 in
    let e6 = pick_zero _ 22 _ (lit< tt) e5.1 in
    let v = eqb h.version 1 in
    let r = is_rulebook h.rulebook in
    let d = real_day h.date in
    let cs = within 1 32 h.contracts in
    let acs = within 1 512 h.accounts in
    let rs = leb (records_in h) 16384 in
    let all = not-false (head_good h) e3.0 in
    let to-accounts = and_left (v && r && d && cs && acs) rs all in
    let to-contracts = and_left (v && r && d && cs) acs to-accounts in
    let to-date = and_left (v && r && d) cs to-contracts in
    let c = bounds 1 32 h.contracts (and_right (v && r && d) cs to-contracts) in
    let a = bounds 1 512 h.accounts (and_right (v && r && d && cs) acs to-accounts) in record {
      known = and_right v r (and_left (v && r) d to-date);
      date = and_right (v && r) d to-date;
      some_contracts = c.0;
      most_contracts = c.1;
      some_accounts = a.0;
      most_accounts = a.1;
      most_records = leb-true _ _ (and_right (v && r && d && cs && acs) rs all);
      whole = eqb-true _ _ (not-false _ e4.0);
      limits = not-false _ e5.0;
      accounts = not-false _ e6.0;
    }

-- a log without fault has none up to its records, and its records are good
pub log_sound : (log : List ℕ) → log_fault log ≡ 0 →
    let h = header_of log in
    (front_fault log ≡ 0) × (records_good (limits_part h log) (accounts_part h log) (records_part h log) ≡ true)
unfolding log_fault
log_sound log e =
    let q = or_none (front_fault log) _ e in
    (q.0, not-false _ (pick_zero _ 22 _ (lit< tt) q.1).0)

-- every number is a refusal's
pub log_most : (log : List ℕ) → log_fault log ≤ 22
unfolding log_fault front_fault tables_fault
log_most log =
    or_most _ _ 22
    (pick_le _ 22 _ 22 (omega arith)
    (pick_le _ 22 _ 22 (omega arith)
    (pick_le _ 22 _ 22 (omega arith)
    (pick_le _ 22 _ 22 (omega arith)
    (pick_le _ 22 _ 22 (omega arith)
    (pick_le _ 22 0 22 (omega arith) (omega arith)))))))
    (pick_le _ 22 0 22 (omega arith) (omega arith))

-- ---- the one refusal of a log, and what proves each return of its checks
pub log_bad : (fault : ℕ) → 22 ≡ fault → Err PositionLog ≡ checked fault
log_bad fault e = refuse PositionLog tt e

pub ruleset checks = (log_bad, accept, chain)
