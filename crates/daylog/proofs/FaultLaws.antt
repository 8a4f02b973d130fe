-- What is known of a log in which opening's checks 1 to 8 find no fault. Assumes nothing.
use mathlib.Core.Path.{◌≡◌}
use mathlib.Core.Bool.{◌&&◌}
use mathlib.Core.List.{List}
use Prim.Native.Nat.{ℕ}
use borrow.Author.Tests.{ltb-false, eqb-true, not-false}
use lib.Dec.{lit<, eqb}
use Rattle.wire.specs.Choice.{within}
use Rattle.wire.proofs.ChoiceLaws.{pick_zero, and_left, and_right, bounds}
use Rattle.daylog.specs.GoodLog.{GoodLog}
use Rattle.daylog.specs.Header.{header_of, sizes_good, entries_fault, head_fault, log_fault}

pub log_sound : (log : List ℕ) → log_fault log ≡ 0 → GoodLog (header_of log) log
unfolding log_fault head_fault entries_fault
log_sound log e =
    let h = header_of log in
    let e1 = pick_zero _ 1 _ (lit< tt) e in
    let e2 = pick_zero _ 2 _ (lit< tt) e1.1 in
    let e3 = pick_zero _ 3 _ (lit< tt) e2.1 in
    let e4 = pick_zero _ 4 _ (lit< tt) e3.1 in
    let e5 = pick_zero _ 5 _ (lit< tt) e4.1 in
    let e6 = pick_zero _ 6 _ (lit< tt) e5.1 in
    let e7 = pick_zero _ 1 _ (lit< tt) e6.1 in
    let e8 = pick_zero _ 7 _ (lit< tt) e7.1 in
    let e9 = pick_zero _ 8 _ (lit< tt) e8.1 in
    let sizes = not-false (sizes_good h) e6.0 in
    let cs = within 1 32 h.contracts in
    let acs = within 1 512 h.accounts in
    let both = and_left (cs && acs) (eqb h.spare 0) sizes in
    let c = bounds 1 32 h.contracts (and_left cs acs both) in
    let a = bounds 1 512 h.accounts (and_right cs acs both) in record {
      version = not-false _ e3.0;
      known = not-false _ e4.0;
      date = not-false _ e5.0;
      some_contracts = c.0;
      most_contracts = c.1;
      some_accounts = a.0;
      most_accounts = a.1;
      spare = eqb-true _ _ (and_right (cs && acs) (eqb h.spare 0) sizes);
      long = ltb-false _ _ e1.0;
      whole = eqb-true _ _ (not-false _ e7.0);
      contracts = not-false _ e8.0;
      accounts = not-false _ e9.0;
    }
