use mathlib.Core.Path.{◌≡◌, ◌∙◌, ap, ap₂}
use mathlib.Core.Bool.{◌&&◌}
use native.Mathlib.Omega.{arith}
use borrow.Author.Rules.{rules}
use Rattle.wire.specs.Below.{every}
use Rattle.wire.proofs.BelowLaws.{every_next}
use Rattle.tables.specs.Entries.{entries}
use Rattle.tables.specs.Accounts.{account_at, account_good, account_good_at, accounts_good, number_before}
use Rattle.tables.proofs.EntryLaws.{account_here, number_before_lem}
use Rattle.tables.proofs.accounts.accounts_good.Goals as goal

pub loop-entry-init : goal.loop-entry-init
unfolding every number_before
loop-entry-init c = search rules

pub loop-entry-preserved : goal.loop-entry-preserved
loop-entry-preserved c =
    let s = c.args.part.now in
    let l = c.loop-entry in
    let k = l.entry-index in
    let here : c.account_of-e.result ≡ account_at s k =
    c.account_of-e.ensures ∙ account_here s _ k _ c.as_chunks.ensures.front (omega arith) in (
      ap (λ e. e.number) here ∙ number_before_lem s k,
      ap₂ (λ x y. x && y) l.invariant.1 (c.account_good-good.ensures ∙ ap₂ account_good l.invariant.0 here)
          ∙ every_next (account_good_at s) k,
    )

pub returns : goal.returns
unfolding accounts_good
returns c =
    let s = c.args.part.now in
    let l = c.loop-entry in
    let e : l.entry-index ≡ entries s = omega arith in
    l.invariant.1 ∙ ap (every (account_good_at s)) e
