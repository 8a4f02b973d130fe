use Rattle.std.proofs.Common.{ℕ, ◌∙◌, subst, sym, below_more, arith}
use Rattle.wire.proofs.FillLaws.{pair_kept, pair_put, pair_past}
use Rattle.wire.proofs.fill.fill_pairs.Goals as goal

pub loop-k-preserved : goal.loop-k-preserved
loop-k-preserved g c =
    let l = c.loop-k in
    let fits = l.auto.out in
    let written = c.put16.ensures in
    record {
      pairs =
          below_more _ _
          (λ j h. subst (λ (v : ℕ). goal.F-post g c.args.f j v)
          (sym (pair_kept l.out _ l.k _ (omega arith) written j h)) (l.invariant.pairs j h))
          (subst (λ (v : ℕ). goal.F-post g c.args.f l.k v)
          (sym (pair_put l.out _ l.k _ (omega arith) written c.f.type_inv)) c.f.ensures);
      rest =
          λ i h. pair_past l.out _ l.k _ (omega arith) written i (omega arith)
          ∙ l.invariant.rest i (omega arith);
    }
