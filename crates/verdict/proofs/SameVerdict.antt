-- Two verdicts that agree on every ladder give the same findings and the same book. Assumes nothing.
use mathlib.Core.Path.{◌≡◌, refl, sym, ap, ap₂, ◌∙◌}
use mathlib.Core.Bool.{Bool, true, false, not}
use mathlib.Core.List.{List, [], ◌++◌}
use Prim.Native.Nat.{ℕ, ◌*◌, ◌≤◌, ◌<◌}
use native.Mathlib.Omega.{arith}
use borrow.Author.Tests.{ltb-true}
use lib.Dec.{ltb, eqb}
use lib.ListN.{length}
use Rattle.std.specs.Prelude.{Result, Ok}
use Rattle.wire.specs.declared.refusal.Refusal.{Refusal}
use Rattle.wire.specs.Choice.{pick}
use Rattle.wire.specs.Outcomes.{answered, refused}
use Rattle.wire.specs.Below.{count}
use Rattle.wire.specs.Bytes.{bytes}
use Rattle.wire.specs.Buffers.{put, rows}
use Rattle.std.specs.Prelude.{Result, Ok}
use Rattle.wire.specs.declared.refusal.Refusal.{Refusal}
use Rattle.wire.proofs.ChoiceLaws.{pick_yes, pick_no}
use Rattle.wire.proofs.BelowLaws.{count_cong}
use Rattle.wire.proofs.BufferLaws.{rows_cong}
use Rattle.rules.specs.declared.kinds.Kinds.{Kinds}
use Rattle.rules.specs.Ladders.{rung, sanction}
use Rattle.places.specs.Places.{ladders, book_size, group_at, kind_at}
use Rattle.book.specs.Layout.{head_of, book_as, total_at}
use Rattle.posting.specs.Raise.{later_year, next_total}
use Rattle.places.proofs.LadderLaws.{group_low}
use Rattle.verdict.specs.Settle.{short_fault, settle_fault, SettleGives}
use Rattle.verdict.specs.Verdict.{Verdict, offends, found_count, finding, total_after, sanction_at, found_at}
use Rattle.verdict.specs.Verdict.{findings, book_after}

-- they agree where it counts: on the ladders, on contracts that are there, on groups 1 to 128
pub record Same (v w : Verdict) : Type 0 where
  pub shape : v.shape ≡ w.shape
  pub rulebook : v.rulebook ≡ w.rulebook
  pub contracts : v.contracts ≡ w.contracts
  pub lowest : (l : ℕ) → l < ladders w.shape.kinds → v.lowest l ≡ w.lowest l
  pub id : (k : ℕ) → k < w.contracts → v.id k ≡ w.id k
  pub member : (g : ℕ) → 1 ≤ g → g ≤ 128 → v.member g ≡ w.member g

sanction_same : {r r' k k' n n' : ℕ} {m m' : Bool} → r ≡ r' → k ≡ k' → n ≡ n' → m ≡ m'
    → sanction r k (rung n) m ≡ sanction r' k' (rung n') m'
sanction_same p q u w = rw (p, q, u, w)

finding_same : (l : ℕ) {k k' : Kinds} {s s' n n' i i' : ℕ} → k ≡ k' → s ≡ s' → n ≡ n' → i ≡ i' → finding k l s n i
    ≡ finding k' l s' n' i'
finding_same l p q u w = rw (p, q, u, w)

module _ (v w : Verdict) (s : Same v w) where
  kinds_same : v.shape.kinds ≡ w.shape.kinds
  kinds_same = ap (λ x. x.kinds) s.shape

  pub same_offends : (l : ℕ) → l < ladders w.shape.kinds → offends v l ≡ offends w l
  unfolding offends
  same_offends l h = ap₂ ltb (s.lowest l h) s.contracts

  pub same_count : found_count v ≡ found_count w
  unfolding found_count
  same_count =
      ap (λ k. count (offends v) (ladders k)) kinds_same
      ∙ count_cong (offends v) (offends w) (ladders w.shape.kinds) same_offends

  module _ (date : ℕ) (book : List ℕ) where
    same_total : (l : ℕ) → l < ladders w.shape.kinds → total_after v date book l ≡ total_after w date book l
    unfolding total_after
    same_total l h = ap (λ hit. next_total (later_year book date) hit (total_at book l)) (same_offends l h)

    same_sanction : (l : ℕ) → l < ladders w.shape.kinds → sanction_at v date book l ≡ sanction_at w date book l
    unfolding sanction_at
    same_sanction l h =
        sanction_same s.rulebook (ap (λ k. kind_at k l) kinds_same) (same_total l h)
        (ap (λ k. v.member (group_at k l)) kinds_same
        ∙ s.member (group_at w.shape.kinds l) (omega arith) (group_low w.shape.kinds l h))

    same_found : (l : ℕ) → l < ladders w.shape.kinds → found_at v date book l ≡ found_at w date book l
    unfolding found_at offends
    same_found l h = go (offends w l) refl
      where
        id_same : offends w l ≡ true → v.id (v.lowest l) ≡ w.id (w.lowest l)
        id_same e = ap v.id (s.lowest l h) ∙ s.id (w.lowest l) (ltb-true _ _ e)

        go : (b : Bool) → offends w l ≡ b → found_at v date book l ≡ found_at w date book l
        go true e =
            sym (pick_yes _ _ _ _ (same_offends l h ∙ e) refl)
            ∙ finding_same l kinds_same (same_sanction l h) (same_total l h) (id_same e) ∙ pick_yes _ _ _ _ e refl
        go false e = sym (pick_no _ [] _ _ (same_offends l h ∙ e) refl) ∙ pick_no _ _ _ _ e refl

    pub same_findings : findings v date book ≡ findings w date book
    unfolding findings
    same_findings =
        ap (λ k. rows (found_at v date book) (ladders k)) kinds_same
        ∙ rows_cong (found_at v date book) (found_at w date book) (ladders w.shape.kinds) same_found

    pub same_book : book_after v date book ≡ book_after w date book
    unfolding book_after book_as
    same_book =
        ap₂ (λ (a b : List ℕ). a ++ b) (ap₂ (λ a b. head_of a b date) (ap (λ x. x.letter) s.shape) s.rulebook)
        (ap (λ k. rows (λ l. bytes 2 (total_after v date book l)) (ladders k)) kinds_same
        ∙ rows_cong _ _ (ladders w.shape.kinds) (λ l h. ap (bytes 2) (same_total l h)))

-- what `settle` gives by the one it gives by the other
module _ (v w : Verdict) (s : Same v w) (date : ℕ) (book out : List ℕ) where
  fault_same : settle_fault v book out ≡ settle_fault w book out
  unfolding settle_fault short_fault
  fault_same =
      ap₂ (λ k n. pick (not (eqb (length book) (book_size k))) 17 (pick (ltb (length out) (8 * n)) 20 0))
      (ap (λ x. x.kinds) s.shape) (same_count v w s)

  pub settle_same : {a : Result ℕ Refusal} {b o : List ℕ} → SettleGives v date book out a b o
      → SettleGives w date book out a b o
  settle_same g = record {
    answer = g.answer ∙ ap₂ (λ (f n : ℕ). answered f (Ok n) refused) fault_same (same_count v w s);
    after =
        g.after
        ∙ ap₂ (λ (f : ℕ) (x : List ℕ × List ℕ). pick (eqb f 0) x (book, out)) fault_same
        (ap₂ (λ (x y : List ℕ). (x, y)) (same_book v w s date book) (ap (put out 0) (same_findings v w s date book)));
  }
