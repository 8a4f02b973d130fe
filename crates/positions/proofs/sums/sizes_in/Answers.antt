use mathlib.Core.Path.{◌≡◌, sym, ap, ap₂, ◌∙◌}
use mathlib.Core.List.{List, []}
use Prim.Native.Nat.{ℕ, ◌*◌, ◌≤◌}
use native.Mathlib.Omega.{arith}
use lib.ListN.{get_or}
use Rattle.tables.specs.Entries.{entries}
use Rattle.positions.specs.Way.{added_in, sizes_in}
use Rattle.positions.proofs.EntryLaws.{group_here}
use Rattle.positions.proofs.SumLaws.{summed_none, summed_more, summed_most}
use Rattle.positions.proofs.sums.sizes_in.Invariants.{groups_of, sizes_to}
use Rattle.positions.proofs.sums.sizes_in.Goals as goal

sizes_most : (accounts : List ℕ) (n i : ℕ) {s : List ℕ} → s ≡ sizes_to accounts n → get_or s i 0 ≤ 4294967295 * n
sizes_most accounts n i e = rw e (summed_most 129 (groups_of accounts) (λ k. 1) (λ k. omega arith) n i)

pub loop-entry-init : goal.loop-entry-init
loop-entry-init c = sym (summed_none 129 _ _)

pub add-requires : goal.add-requires
add-requires c =
    let l = c.loop-entry in
    let group = get_or (get_or c.as_chunks.result.0.now l.entry-index []) 4 0 in
    omega (arith, sizes_most c.args.accounts.now l.entry-index group l.invariant, c.requires)

pub loop-entry-preserved : goal.loop-entry-preserved
loop-entry-preserved c =
    let s = c.args.accounts.now in
    let l = c.loop-entry in
    let k = l.entry-index in
    c.add.ensures
    ∙ ap₂ (λ s g. added_in s g 1) l.invariant (group_here s _ k _ c.as_chunks.ensures.front (omega arith))
    ∙ summed_more 129 (groups_of s) (λ k. 1) k

pub returns : goal.returns
unfolding sizes_in
returns c =
    let s = c.args.accounts.now in
    let l = c.loop-entry in
    let e : l.entry-index ≡ entries s = omega arith in
    l.invariant ∙ ap (sizes_to s) e
