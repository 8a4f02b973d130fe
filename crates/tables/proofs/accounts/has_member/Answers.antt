use mathlib.Core.Path.{◌≡◌, ◌∙◌, ap, ap₂}
use mathlib.Core.Bool.{◌&&◌, not}
use native.Mathlib.Omega.{arith}
use borrow.Author.Rules.{rules}
use lib.Dec.{eqb}
use Rattle.wire.specs.Below.{every, some}
use Rattle.wire.proofs.BelowLaws.{every_next}
use Rattle.tables.specs.Entries.{entries}
use Rattle.tables.specs.Accounts.{account_at, has_member}
use Rattle.tables.proofs.EntryLaws.{account_here}
use Rattle.tables.proofs.accounts.has_member.Invariants.{member_at}
use Rattle.tables.proofs.accounts.has_member.Goals as goal

pub loop-entry-init : goal.loop-entry-init
unfolding every
loop-entry-init c = search rules

pub loop-entry-preserved : goal.loop-entry-preserved
loop-entry-preserved c =
    let a = c.args in
    let s = a.part.now in
    let l = c.loop-entry in
    let k = l.entry-index in
    let here : c.account_of-e.result ≡ account_at s k =
    c.account_of-e.ensures ∙ account_here s _ k _ c.as_chunks.ensures.front (omega arith) in
    ap₂ (λ x e. x && not (eqb e.group a.group && eqb e.kind 2)) l.invariant here
    ∙ every_next (λ j. not (member_at s a.group j)) k

pub returns : goal.returns
unfolding has_member some
returns c =
    let a = c.args in
    let s = a.part.now in
    let l = c.loop-entry in
    let e : l.entry-index ≡ entries s = omega arith in
    ap not (l.invariant ∙ ap (every (λ j. not (member_at s a.group j))) e)
