-- What two goes give together, where the second takes up a list where the first ended.
use Rattle.std.proofs.Common.{◌≡◌, ℕ, ◌+◌, ◌-◌, ◌≤◌, List, ◌++◌, length, take, drop, Option, sym, ap, subst, ◌∙◌}
use Rattle.std.proofs.Common.{le_refl, drop_at, length-take-le, length-drop, take_all}
use Rattle.std.specs.Io.KnownBytes.{Appends, Consumes}
use Rattle.std.proofs.KnownBytes.{Appends-trans, Consumes-trans}
use Rattle.std.proofs.lemmas.Slice.{take-put_mid_below}
use borrow.Rule.Slice.PartMut.{put_mid, post_of}
use lib.Seq.{take-add, take-append-le}

-- the front before a part that was replaced, and the part's own front
take-put_mid-more : (a k n : ℕ) (xs ys : List ℕ) → a ≤ length xs → n ≤ length ys
    → take a xs ++ take n ys ≡ take (a + n) (put_mid a k xs ys)
take-put_mid-more a k n xs ys within fits =
    let zs = put_mid a k xs ys in
    let front : take a zs ≡ take a xs = take-put_mid_below _ _ _ _ _ (le_refl _) within in
    let part : take n (drop a zs) ≡ take n ys =
    ap (take n) (drop_at (take a xs) (ys ++ post_of a k xs) a (length-take-le a xs within)) ∙
    take-append-le n ys (post_of a k xs) fits
    in
    ap (λ l. l ++ take n ys) (sym front) ∙ ap (λ l. take a zs ++ l) (sym part) ∙ sym (take-add a n zs)

-- the front up to a place, and the front of the part from there on
take-part-more : (a n : ℕ) (xs : List ℕ)
    → take a xs ++ take n (take (length xs - a) (drop a xs)) ≡ take (a + n) xs
take-part-more a n xs =
    let long : length (drop a xs) ≤ length xs - a = rw length-drop (le_refl _) in
    ap (λ l. take a xs ++ take n l) (take_all (length xs - a) (drop a xs) long) ∙ sym (take-add a n xs)

-- what was taken is the buffer's front still, once more was read behind it
pub more_taken : (a b c : Option (List ℕ)) (n k m : ℕ) (xs ys : List ℕ) → n ≤ length xs → m ≤ length ys
    → Consumes a b (take n xs) → Consumes b c (take m ys) → Consumes a c (take (n + m) (put_mid n k xs ys))
more_taken a b c n k m xs ys within fits p q =
    subst (Consumes a c) (take-put_mid-more n k m xs ys within fits) (Consumes-trans a b c _ _ p q)

-- what was added is the bytes' front still, once more of them were written
pub more_added : (a b c : Option (List ℕ)) (n m : ℕ) (xs : List ℕ) → Appends a b (take n xs)
    → Appends b c (take m (take (length xs - n) (drop n xs))) → Appends a c (take (n + m) xs)
more_added a b c n m xs p q = subst (Appends a c) (take-part-more n m xs) (Appends-trans a b c _ _ p q)
