-- Laws of the list of findings: what the writes leave, one more where a ladder has an offence, how long it is.
-- Assumes nothing.
use mathlib.Core.Path.{◌≡◌, refl, sym, ap, ◌∙◌}
use mathlib.Core.Bool.{Bool, true, false, cond}
use mathlib.Core.List.{List, [], ◌∷◌}
use Prim.Native.Nat.{ℕ, zero, suc, ◌+◌, ◌*◌, ◌/◌, ◌<◌, ◌≤◌, zero-le}
use native.Mathlib.Nat.{add-zero}
use native.Mathlib.Omega.{arith}
use borrow.Author.Tests.{lt-ltb, le-ltb}
use lib.ListN.{length, set}
use Rattle.std.specs.List.{filter, range_with_len}
use Rattle.wire.specs.Choice.{pick}
use Rattle.wire.specs.Below.{count}
use Rattle.wire.specs.Bytes.{le, bytes}
use Rattle.wire.specs.Buffers.{put, put_in, rows}
use Rattle.wire.proofs.ChoiceLaws.{pick_yes, pick_no}
use Rattle.wire.proofs.KeptLaws.{kept_length}
use Rattle.wire.proofs.BelowLaws.{count_none, count_more, count_up}
use Rattle.wire.proofs.BufferLaws.{put_four, put_none, then, rows_more}
use Rattle.wire.proofs.TurnLaws.{then_in}
use Rattle.rules.specs.declared.kinds.Kinds.{Kinds}
use Rattle.rules.specs.Ladders.{sanction}
use Rattle.book.specs.declared.shape.Shape.{Shape}
use Rattle.places.specs.Places.{group_at, kind_at, family_at}
use Rattle.book.specs.Layout.{total_at}
use Rattle.posting.specs.Raise.{later_year, next_total, place_in}
use Rattle.verdict.specs.Verdict.{Verdict, offends, finding, total_after, sanction_at, found_at, verdict_in}
use Rattle.verdict.specs.Way.{sanction_for}

pub finding_length : (kinds : Kinds) (ladder sanction total id : ℕ) → length (finding kinds ladder sanction total id)
    ≡ 8
unfolding finding bytes
finding_length kinds ladder sanction total id = refl

pub finding_written : (kinds : Kinds) (s r r' : List ℕ) (at ladder group kind sanction total id : ℕ)
    → at + 8 ≤ length s
    → group ≡ group_at kinds ladder → kind ≡ kind_at kinds ladder
    → r ≡ put_in (set (set (set (set s at group) (at + 1) kind) (at + 2) (family_at ladder)) (at + 3) sanction) (at + 4)
    (bytes 2 total)
    → r' ≡ put_in r (at + 6) (bytes 2 id) → r' ≡ put s at (finding kinds ladder sanction total id)
unfolding finding bytes
finding_written kinds s r r' at ladder group kind sanction total id h g k e e' =
    rw (← g, ← k)
    (then_in s r r' _ _ at (at + 6)
    (then_in s _ r _ _ at (at + 4) (put_four s at group kind (family_at ladder) sanction (omega arith)) refl e
    (omega arith))
    refl e' (omega arith))

-- ---- one more where a test holds, what is written then, and room for it
pub more_yes : (t : Bool) (n : ℕ) → t ≡ true → n + 1 ≡ n + pick t 1 0
more_yes t n e = ap (λ (k : ℕ). n + k) (pick_yes t 1 1 0 e refl)

pub more_no : (t : Bool) (n : ℕ) → t ≡ false → n ≡ n + pick t 1 0
more_no t n e = sym (add-zero n) ∙ ap (λ (k : ℕ). n + k) (pick_no t 0 1 0 e refl)

pub put_yes : (t : Bool) (s r p p' : List ℕ) (at : ℕ) → t ≡ true → r ≡ put s at p → p ≡ p'
    → r ≡ put s at (pick t p' [])
put_yes t s r p p' at h e q = e ∙ ap (put s at) (pick_yes t p p' [] h q)

pub put_no : (t : Bool) (s p : List ℕ) (at : ℕ) → t ≡ false → s ≡ put s at (pick t p [])
put_no t s p at h = sym (put_none s at) ∙ ap (put s at) (pick_no t [] p [] h refl)

pub room_yes : (t : Bool) (n m : ℕ) → t ≡ true → 8 * (n + pick t 1 0) ≤ m → 8 * n + 8 ≤ m
room_yes t n m e h = omega (arith, more_yes t n e)

pub count_room : (p : ℕ → Bool) (n l k m m' : ℕ) → n ≡ count p l → l < k → 8 * count p k ≤ m → m' ≡ m
    → 8 * (n + pick (p l) 1 0) ≤ m'
count_room p n l k m m' e h w q = omega (arith, count_up p (l + 1) k (omega arith), count_more p l)

-- how many there are after a turn of `list_all`
pub found_more : (v : Verdict) (l : ℕ) {n r : ℕ} → n ≡ count (offends v) l → r ≡ n + pick (offends v l) 1 0
    → r ≡ count (offends v) (l + 1)
found_more v l w e = e ∙ ap (λ (k : ℕ). k + pick (offends v l) 1 0) w ∙ sym (count_more (offends v) l)

module _ (v : Verdict) (date : ℕ) (book : List ℕ) where
  -- the findings of the first n ladders have 8 bytes each
  pub found_length : (n : ℕ) → length (rows (found_at v date book) n) ≡ 8 * count (offends v) n
  unfolding found_at
  found_length n = kept_length (offends v) _ 8 (λ l. finding_length v.shape.kinds l _ _ _) n

  -- a turn of `list_all`
  pub found_turn : (s r r' : List ℕ) (n l : ℕ) → n ≡ count (offends v) l → r ≡ put s 0 (rows (found_at v date book) l)
      → r' ≡ put r (8 * n) (found_at v date book l) → r' ≡ put s 0 (rows (found_at v date book) (l + 1))
  found_turn s r r' n l w e e' =
      then s r r' (rows (found_at v date book) l) (found_at v date book l) 0 (8 * n) zero-le e
      (omega (arith, found_length l)) e'
      ∙ ap (put s 0) (sym (rows_more (found_at v date book) l))

-- ---- what the calls of `list_one` gave: the place, and where it is a contract's, all that the finding is made of
module _ (shape : Shape) (rulebook : ℕ) (places ids members : List ℕ) (ladder : ℕ) {place : ℕ} where
  pub place_hit : place ≡ place_in places ladder → place < length ids / 2
      → offends (verdict_in shape rulebook places ids members) ladder ≡ true
  unfolding offends verdict_in
  place_hit e h = rw (← e) (lt-ltb place (length ids / 2) h)

  pub place_none : place ≡ place_in places ladder → length ids / 2 ≤ place
      → offends (verdict_in shape rulebook places ids members) ladder ≡ false
  unfolding offends verdict_in
  place_none e h = rw (← e) (le-ltb place (length ids / 2) h)

  pub finding_here : (date : ℕ) (book s : List ℕ) (at : ℕ) {total raw id sanction' : ℕ} {later : Bool} {r : List ℕ}
      → place ≡ place_in places ladder → place < length ids / 2 → later ≡ later_year book date
      → raw ≡ total_at book ladder → total ≡ next_total later true raw
      → sanction' ≡ sanction_for shape.kinds rulebook members ladder total
      → id ≡ le 2 ids (2 * place) → r ≡ put s at (finding shape.kinds ladder sanction' total id)
      → r ≡ put s at (found_at (verdict_in shape rulebook places ids members) date book ladder)
  unfolding verdict_in found_at total_after sanction_at sanction_for
  finding_here date book s at {r = r} p h y o t c i e =
      let hit = place_hit p h in
      put_yes _ s r _ _ at hit e (cc)

  pub finding_none : (date : ℕ) (book s : List ℕ) (at : ℕ) → place ≡ place_in places ladder → length ids / 2 ≤ place
      → s ≡ put s at (found_at (verdict_in shape rulebook places ids members) date book ladder)
  unfolding found_at
  finding_none date book s at p h = put_no _ s _ at (place_none p h)

-- ---- how many numbers from a on pass a test, as a chain over them counts
one_more : (t : Bool) (x : ℕ) (xs : List ℕ) → length (cond t (x ∷ xs) xs) ≡ length xs + pick t 1 0
unfolding pick
one_more true x xs = omega arith
one_more false x xs = omega arith

count_from : (p : ℕ → Bool) (n a : ℕ) → length (filter p (range_with_len a n)) + count p a ≡ count p (a + n)
count_from p zero a = let e : a + 0 ≡ a = omega arith in rw e (omega arith)
count_from p (suc n) a =
    let e : a + suc n ≡ a + 1 + n = omega arith in
    rw e
    (omega (arith, count_from p n (a + 1), count_more p a, one_more (p a) a (filter p (range_with_len (a + 1) n))))

pub count_ran : (p : ℕ → Bool) (n : ℕ) → length (filter p (range_with_len 0 n)) ≡ count p n
count_ran p n =
    let e : 0 + n ≡ n = omega arith in
    omega (arith, count_from p n 0 ∙ ap (count p) e, count_none p)
