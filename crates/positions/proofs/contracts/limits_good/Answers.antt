use mathlib.Core.Path.{◌≡◌, ◌∙◌, ap, ap₂}
use mathlib.Core.Bool.{◌&&◌}
use native.Mathlib.Omega.{arith}
use Rattle.wire.specs.Below.{every}
use Rattle.wire.proofs.BelowLaws.{every_next}
use Rattle.positions.specs.LimitEntries.{limit_count, limited_at, limited_good, limited_good_at, limits_good, id_before}
use Rattle.positions.proofs.EntryLaws.{limited_here, id_before_lem}
use borrow.Author.Rules.{rules}
use Rattle.positions.proofs.contracts.limits_good.Goals as goal

pub loop-entry-init : goal.loop-entry-init
unfolding every id_before
loop-entry-init c = search rules

pub loop-entry-preserved : goal.loop-entry-preserved
loop-entry-preserved c =
    let s = c.args.part.now in
    let l = c.loop-entry in
    let k = l.entry-index in
    let here : c.limit_of-e.result ≡ limited_at s k =
    c.limit_of-e.ensures ∙ limited_here s _ k _ c.as_chunks.ensures.front (omega arith) in (
      ap (λ e. e.id) here ∙ id_before_lem s k,
      ap₂ (λ x y. x && y) l.invariant.1 (c.limited_good-good.ensures ∙ ap₂ limited_good l.invariant.0 here)
          ∙ every_next (limited_good_at s) k,
    )

pub returns : goal.returns
unfolding limits_good
returns c =
    let s = c.args.part.now in
    let l = c.loop-entry in
    let e : l.entry-index ≡ limit_count s = omega arith in
    l.invariant.1 ∙ ap (every (limited_good_at s)) e
