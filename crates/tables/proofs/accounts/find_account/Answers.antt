use mathlib.Core.List.{[]}
use mathlib.Core.Path.{◌≡◌, sym, ◌∙◌}
use native.Mathlib.Omega.{arith}
use lib.ListN.{length}
use Rattle.tables.specs.Entries.{entries}
use Rattle.wire.proofs.ChunkLaws.{chunk_here}
use Rattle.tables.proofs.EntryLaws.{number_here}
use Rattle.tables.proofs.Search.{halved_fits, found_here, found_not, found_both}
use Rattle.tables.proofs.accounts.find_account.Goals as goal

pub returns-then-part-lt8 : goal.returns-then-part-lt8
returns-then-part-lt8 c =
    let q = found_both c.args.part.now c.args.number [] (found_not _ _ (λ l e. omega arith)) in
    record { by_halving = q.0; in_order = q.1 }

pub bounds-as_chunks-halving : goal.bounds-as_chunks-halving
bounds-as_chunks-halving c = omega (arith, halved_fits _ _ _ c.halving.ensures (omega arith))

pub offset_bounds-as_chunks-halving : goal.offset_bounds-as_chunks-halving
offset_bounds-as_chunks-halving c = omega (arith, halved_fits _ _ _ c.halving.ensures (omega arith))

pub returns-then-get32-number : goal.returns-then-get32-number
returns-then-get32-number c =
    let s = c.args.part.now in
    let k = c.halving.result in
    let n : length c.as_chunks.result.0.now ≡ entries s = c.as_chunks.ensures.front_len in
    let fits = halved_fits _ _ _ c.halving.ensures (omega arith) in
    let cut = c.as_chunks.ensures.front in
    let q = found_both s c.args.number _
    (chunk_here 8 s _ _ k [] cut (omega arith)
    ∙ found_here _ _ k c.halving.ensures (omega arith)
    (sym (number_here s _ k [] cut (omega arith)) ∙ sym c.get32.ensures ∙ c.if-get32-number.true)) in
    record { by_halving = q.0; in_order = q.1 }

pub returns-else-get32-number : goal.returns-else-get32-number
returns-else-get32-number c =
    let s = c.args.part.now in
    let k = c.halving.result in
    let n : length c.as_chunks.result.0.now ≡ entries s = c.as_chunks.ensures.front_len in
    let fits = halved_fits _ _ _ c.halving.ensures (omega arith) in
    let number = number_here s _ k [] c.as_chunks.ensures.front (omega arith) in
    let q = found_both s c.args.number []
    (found_not _ _ (λ l e. c.if-get32-number.false (c.get32.ensures ∙ number ∙ rw c.halving.ensures e))) in
    record { by_halving = q.0; in_order = q.1 }
