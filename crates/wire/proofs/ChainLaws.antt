-- What `all` over a list or over the numbers below n answers, and `find` over those numbers, in the words of
-- specs/Below. Assumes nothing.
use mathlib.Core.Path.{◌≡◌, sym, ap, ◌∙◌}
use mathlib.Core.Bool.{Bool, true, false}
use mathlib.Core.List.{List}
use Prim.Native.Nat.{ℕ, ◌<◌, ◌≤◌, zero-le}
use native.Mathlib.Omega.{arith}
use lib.ListN.{length, get_or}
use denote.Ref.{Bor}
use denote.Param.Members.{Mut}
use Rattle.std.specs.Bool.{MatchBool}
use Rattle.std.specs.Fn.{Called, CalledAt}
use Rattle.std.specs.Iterator.{YieldsThen}
use Rattle.std.specs.List.{range_with_len, FoldsTo, AllWithin, HoldsAt}
use Rattle.std.specs.Option.{MatchOption, unwrap_or}
use Rattle.std.specs.Prelude.{Option, None, Some}
use Rattle.std.specs.declared.ops.Range.{Range}
use Rattle.std.proofs.iter.Yields.{nat_range_steps}
use Rattle.std.proofs.lemmas.Iterator.{cases_from_all, first_from_Range, YieldsList-from_range}
use Rattle.std.proofs.lemmas.List.FromFn.{length-range_with_len, get_or-range_with_len}
use Rattle.wire.specs.Below.{every, first}
use Rattle.wire.proofs.BelowLaws.{every_all, every_fails, every_cong, first_at, first_none}

-- `all` over a list
pub every_list : (t : ℕ → Bool) (xs : List ℕ) (r : Bool)
    → MatchBool r (AllWithin (λ x. t x ≡ true) xs 0 (length xs))
    ((k : ℕ) × (k < length xs) × HoldsAt (λ x. t x ≡ false) xs k) → r ≡ every (λ k. t (get_or xs k 0)) (length xs)
every_list t xs true h = sym (every_all (λ k. t (get_or xs k 0)) (length xs) (λ k l. h k 0 zero-le l))
every_list t xs false (k, l, h) = sym (every_fails (λ k. t (get_or xs k 0)) k (length xs) l (h 0))

-- and over the numbers below n
pub every_ran : {F : Type 0} {g : Mut F (ℕ × Unit {0}) Bool} {s : Range ℕ} (u : Range ℕ) (f : F) (r : Bool)
    (p : ℕ → Bool) (n : ℕ) → s ≡ record { start = 0; end = n }
    → (xs : List ℕ) × (o : Option ℕ) × (j : F) × YieldsThen nat_range_steps s xs o u
    × FoldsTo (λ a x b. Called g a (x, tt) true b) f xs j
    × MatchOption o (r ≡ true) (λ x. (r ≡ false) × ((h : F) × Called g j (x, tt) false h))
    → ((x : ℕ) (q : F) → Called g f (x, tt) true q → (q ≡ f) × (p x ≡ true))
    → ((x : ℕ) (q : F) → Called g f (x, tt) false q → p x ≡ false) → r ≡ every p n
every_ran u f r p n e ran so never =
    every_list p (range_with_len 0 n) r
    (cases_from_all u f r (λ x. p x ≡ true) (λ x. p x ≡ false) ran
    (YieldsList-from_range 0 n n e (omega arith)) so never)
    ∙ ap (every (λ k. p (get_or (range_with_len 0 n) k 0))) (length-range_with_len 0 n)
    ∙ every_cong (λ k. p (get_or (range_with_len 0 n) k 0)) p n
    (λ k l. ap p (get_or-range_with_len 0 n k 0 l ∙ omega arith))

first_answer : (p : ℕ → Bool) (n : ℕ) (r : Option ℕ)
    → MatchOption r ((k : ℕ) → 0 ≤ k → k < n → p k ≡ false)
    (λ i. (0 ≤ i) × (i < n) × (p i ≡ true) × ((k : ℕ) → 0 ≤ k → k < i → p k ≡ false)) → unwrap_or r n ≡ first p n
first_answer p n None h = sym (first_none p n (λ k l. h k zero-le l))
first_answer p n (Some i) h = sym (first_at p i n h.1 (λ k l. h.3 k zero-le l) h.2)

-- the first number below n that `find` found, or n
pub first_ran : {F : Type 0} {g : Mut F (Bor ℕ × Unit {0}) Bool} (u : Range ℕ) (f : F) (r : Option ℕ)
    (p : ℕ → Bool) (n : ℕ)
    → (xs : List ℕ) × (j : F) × YieldsThen nat_range_steps (record { start = 0; end = n }) xs r u
    × FoldsTo (λ a x b. CalledAt g a x false b) f xs j × MatchOption r (Unit {0}) (λ x. (h : F) × CalledAt g j x true h)
    → ((x : ℕ) (q : F) → CalledAt g f x true q → p x ≡ true)
    → ((x : ℕ) (q : F) → CalledAt g f x false q → (q ≡ f) × (p x ≡ false)) → unwrap_or r n ≡ first p n
first_ran u f r p n ran so never =
    first_answer p n r
    (first_from_Range (record { start = 0; end = n }) u f r (λ x. p x ≡ true) (λ x. p x ≡ false) ran so never)
