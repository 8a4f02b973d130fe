use Rattle.std.proofs.Common.{◌≡◌, ℕ, ◌+◌, ◌-◌, ◌<◌, ◌≤◌, List, ◌++◌, length, get_or, drop, ◌∙◌, sym, arith, refl}
use Rattle.std.proofs.Common.{length-append, length-drop}
use Rattle.std.proofs.lemmas.List.{get_or-replicate, get_or-append_right}
use lib.ListN.{replicate, length-replicate, get_or-append, get_or-eq_default}
use lib.Seq.{get_or-drop}
use lib.Dec.{leb}
use mathlib.Core.Bool.{Bool, true, false}
use borrow.Author.Tests.{leb-true, leb-false}
use Rattle.wire.specs.Bytes.{IsRead}
use Rattle.wire.proofs.read.bytes_at.Goals as goal

module _ (s : List ℕ) (at n : ℕ) (h : length (drop at s) < n) where
  abbrev found : List ℕ
  found = drop at s

  abbrev blank : List ℕ
  blank = replicate n 0

  abbrev zeros : List ℕ
  zeros = drop (length found) blank

  -- what is there, and then zeros
  filled : (k : ℕ) → k < n → get_or (found ++ zeros) k 0 ≡ get_or s (at + k) 0
  filled k l = go (leb (length found) k) refl
    where
      go : (t : Bool) → leb (length found) k ≡ t → get_or (found ++ zeros) k 0 ≡ get_or s (at + k) 0
      go true e =
          let past : length found ≤ k = leb-true _ _ e in
          let place : length found + (k - length found) ≡ k = omega arith in
          get_or-append_right found zeros (length found) k 0 refl past
          ∙ get_or-drop (length found) blank (k - length found) 0
          ∙ get_or-replicate n (length found + (k - length found)) 0 0 (omega arith)
          ∙ sym (get_or-eq_default s 0 {n = at + k} (omega (arith, length-drop at s)))
      go false e = get_or-append found zeros 0 k (leb-false _ _ e) ∙ get_or-drop at s k 0

  filled_length : length (found ++ zeros) ≡ n
  filled_length =
      omega (arith, length-append found zeros, length-drop (length found) blank, length-replicate {A = ℕ} n 0)

  pub filled_read : (q : List ℕ) → q ≡ found → IsRead s at n (q ++ zeros)
  filled_read q e = rw e (filled_length, filled)

pub returns : goal.returns
returns g c =
    let e = c.rest-rest.ensures in
    rw e (filled_read c.args.s.now c.args.at g.row.N (rw e at c.in_default.ensures.cases) _
    (c.copy_from_slice.ensures.after ∙ e))
