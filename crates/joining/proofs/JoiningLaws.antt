-- Joining group a to group b in an account table changes the groups of its entries and nothing else: the bytes around
-- it stand, its entries are as good as they were, and every account is found where it was. Assumes nothing.
use mathlib.Core.Path.{◌≡◌, refl, sym, ap, ap₂, ◌∙◌}
use mathlib.Core.Bool.{Bool, true, false, ◌&&◌, ◌||◌}
use mathlib.Core.List.{List, [], ◌∷◌}
use Prim.Native.Nat.{ℕ, zero, suc, ◌+◌, ◌-◌, ◌*◌, ◌%◌, ◌≤◌, ◌<◌}
use native.Mathlib.Nat.{zero-add, add-zero, suc-add, add-suc}
use native.Mathlib.Omega.{arith}
use borrow.Author.Tests.{ltb-true, ltb-false, eqb-true, eqb-false, lt-ltb, le-ltb, le-leb, lt-leb, eq-eqb, ne_eqb}
use lib.Dec.{leb, ltb, eqb}
use lib.ListN.{length, get_or, take, drop, length-take, length-drop, get_or-eq_default}
use lib.Seq.{get_or-take, get_or-drop, ext_get_or}
use Rattle.wire.specs.Choice.{pick, within}
use Rattle.wire.specs.Below.{count}
use Rattle.wire.proofs.ChoiceLaws.{pick_yes, pick_no, pick_same, and_yes, and_no, and_no_right}
use Rattle.wire.proofs.BelowLaws.{every_cong, count_cong, some_cong, first_cong}
use Rattle.wire.proofs.ByteLaws.{le_cong}
use Rattle.tables.specs.declared.accounts.Account.{Account}
use Rattle.tables.specs.Entries.{entries}
use Rattle.tables.specs.Accounts.{account_at, number_before, account_good_at, accounts_good, has_member, group_size}
use Rattle.tables.specs.Accounts.{account_place, is_in, group_in}
use Rattle.joining.specs.Joining.{joined, group_byte_in, by_place, join_bytes, accounts_in}
use Rattle.joining.specs.Joining.{AccountsJoined, PartJoined}

-- ---- the number of a group after the join
-- no account has group 0, so a byte past the end stays 0
pub joined_zero : (a b : ℕ) → 1 ≤ a → joined a b 0 ≡ 0
joined_zero a b h = sym (pick_no _ _ _ _ (ne_eqb 0 a (λ e. omega arith)) refl)

-- it is in range where it was
pub joined_within : (a b g : ℕ) → 1 ≤ a → a ≤ 128 → 1 ≤ b → b ≤ 128 → within 1 128 (joined a b g) ≡ within 1 128 g
joined_within a b g some most low high = go (eqb g a) refl
  where
    in_range_lem : (x : ℕ) → 1 ≤ x → x ≤ 128 → within 1 128 x ≡ true
    in_range_lem x p q = and_yes (leb 1 x) (leb x 128) (le-leb 1 x p) (le-leb x 128 q)

    go : (t : Bool) → eqb g a ≡ t → within 1 128 (joined a b g) ≡ within 1 128 g
    go true e =
        ap (λ (x : ℕ). within 1 128 x) (sym (pick_yes _ _ _ _ e refl)) ∙ in_range_lem b low high
        ∙ sym (ap (λ (x : ℕ). within 1 128 x) (eqb-true g a e) ∙ in_range_lem a some most)
    go false e = ap (λ (x : ℕ). within 1 128 x) (sym (pick_no _ _ _ _ e refl))

-- a number is not two others at once
pub not_both : (g a b : ℕ) → (a ≡ b → ⊥) → eqb g a && eqb g b ≡ false
not_both g a b n = go (eqb g a) (eqb g b) refl refl
  where
    go : (x y : Bool) → eqb g a ≡ x → eqb g b ≡ y → x && y ≡ false
    go true true p q = absurd (n (sym (eqb-true g a p) ∙ eqb-true g b q))
    go true false p q = refl
    go false y p q = refl

pick_either : (x y : Bool) → x && y ≡ false → pick (x || y) 1 0 ≡ pick x 1 0 + pick y 1 0
unfolding pick
pick_either true true n = cc
pick_either true false n = refl
pick_either false true n = refl
pick_either false false n = refl

module _ (a b : ℕ) (apart : a ≡ b → ⊥) where
  moved : (g : ℕ) → g ≡ a → joined a b g ≡ b
  moved g e = sym (pick_yes (eqb g a) b b g (eq-eqb g a e) refl)

  stays : (g : ℕ) → (g ≡ a → ⊥) → joined a b g ≡ g
  stays g n = sym (pick_no (eqb g a) g b g (ne_eqb g a n) refl)

  -- what is said of a group that is moved and of one that stays
  by_group : (g : ℕ) (P : Type 0) → (g ≡ a → P) → ((g ≡ a → ⊥) → P) → P
  by_group g P yes-a no-a = go (eqb g a) refl
    where
      go : (t : Bool) → eqb g a ≡ t → P
      go true e = yes-a (eqb-true g a e)
      go false e = no-a (eqb-false g a e)

  pub join_b : (g : ℕ) → eqb (joined a b g) b ≡ eqb g a || eqb g b
  join_b g =
      by_group g (eqb (joined a b g) b ≡ eqb g a || eqb g b)
      (λ e. eq-eqb _ b (moved g e) ∙ ap (λ (t : Bool). t || eqb g b) (sym (eq-eqb g a e)))
      (λ n. ap (λ (m : ℕ). eqb m b) (stays g n) ∙ ap (λ (t : Bool). t || eqb g b) (sym (ne_eqb g a n)))

  pub join_a : (g : ℕ) → eqb (joined a b g) a ≡ false
  join_a g =
      by_group g (eqb (joined a b g) a ≡ false)
      (λ e. ne_eqb _ a (λ q. apart (sym q ∙ moved g e)))
      (λ n. ne_eqb _ a (λ q. n (sym (stays g n) ∙ q)))

  pub join_other : (c g : ℕ) → (c ≡ a → ⊥) → (c ≡ b → ⊥) → eqb (joined a b g) c ≡ eqb g c
  join_other c g na nb =
      by_group g (eqb (joined a b g) c ≡ eqb g c)
      (λ e. ne_eqb _ c (λ q. nb (sym q ∙ moved g e)) ∙ sym (ne_eqb g c (λ q. na (sym q ∙ e))))
      (λ n. ap (λ (m : ℕ). eqb m c) (stays g n))

  -- one is counted where it is one of the two
  pub join_adds : (g : ℕ) → pick (eqb (joined a b g) b) 1 0 ≡ pick (eqb g a) 1 0 + pick (eqb g b) 1 0
  join_adds g = ap (λ (t : Bool). pick t 1 0) (join_b g) ∙ pick_either (eqb g a) (eqb g b) (not_both g a b apart)

-- ---- a change of every byte by its place
by_length : (f : ℕ → ℕ → ℕ) (i : ℕ) (s : List ℕ) → length (by_place f i s) ≡ length s
unfolding by_place
by_length f i [] = refl
by_length f i (x ∷ xs) = ap suc (by_length f (suc i) xs)

-- one that leaves 0 as it is holds past the end too
by_at : (f : ℕ → ℕ → ℕ) → ((i : ℕ) → f i 0 ≡ 0) → (i : ℕ) (s : List ℕ) (k : ℕ) → get_or (by_place f i s) k 0
    ≡ f (i + k) (get_or s k 0)
unfolding by_place
by_at f h i [] k = sym (h (i + k))
by_at f h i (x ∷ xs) zero = ap (λ (j : ℕ). f j x) (sym (add-zero i))
by_at f h i (x ∷ xs) (suc k) = by_at f h (suc i) xs k ∙ ap (λ (j : ℕ). f j (get_or xs k 0))
    (suc-add i k ∙ sym (add-suc i k))

by_take : (f : ℕ → ℕ → ℕ) (n i : ℕ) (s : List ℕ) → take n (by_place f i s) ≡ by_place f i (take n s)
unfolding by_place
by_take f zero i s = refl
by_take f (suc n) i [] = refl
by_take f (suc n) i (x ∷ xs) = ap (λ (l : List ℕ). f i x ∷ l) (by_take f n (suc i) xs)

-- ---- the bytes
pub join_length : (a b from to : ℕ) (s : List ℕ) → length (join_bytes a b from to s) ≡ length s
unfolding join_bytes
join_length a b from to s = by_length _ 0 s

-- the first bytes of joined bytes are the first bytes, joined
pub join_take : (a b from to n : ℕ) (s : List ℕ) → take n (join_bytes a b from to s) ≡ join_bytes a b from to (take n s)
unfolding join_bytes
join_take a b from to n s = by_take (λ i x. pick (group_byte_in from to i) (joined a b x) x) n 0 s

module _ (a b from to : ℕ) (s : List ℕ) (some_a : 1 ≤ a) where
  abbrev t : List ℕ
  t = join_bytes a b from to s

  byte : (i : ℕ) → get_or t i 0 ≡ pick (group_byte_in from to i) (joined a b (get_or s i 0)) (get_or s i 0)
  unfolding join_bytes
  byte i =
      by_at (λ j x. pick (group_byte_in from to j) (joined a b x) x)
      (λ j. ap (λ (n : ℕ). pick (group_byte_in from to j) n 0) (joined_zero a b some_a)
      ∙ pick_same (group_byte_in from to j) 0) 0 s i
      ∙ ap (λ (j : ℕ). pick (group_byte_in from to j) (joined a b (get_or s i 0)) (get_or s i 0)) (zero-add i)

  byte_stands : (i : ℕ) → group_byte_in from to i ≡ false → get_or t i 0 ≡ get_or s i 0
  byte_stands i e = byte i ∙ sym (pick_no _ _ _ _ e refl)

  pub join_before : (i : ℕ) → i < from → get_or t i 0 ≡ get_or s i 0
  join_before i h =
      byte_stands i (and_no (leb from i && ltb i to) _ (and_no (leb from i) (ltb i to) (lt-leb from i h)))

  pub join_after : (i : ℕ) → to ≤ i → get_or t i 0 ≡ get_or s i 0
  join_after i h =
      byte_stands i (and_no (leb from i && ltb i to) _ (and_no_right (leb from i) (ltb i to) (le-ltb i to h)))

  -- within the entries: byte 4 of an entry joins, and each other stands
  byte_other : (i : ℕ) → (i % 8 ≡ 4 → ⊥) → get_or t (from + i) 0 ≡ get_or s (from + i) 0
  byte_other i n =
      let e : from + i - from ≡ i = omega arith in
      let f : eqb ((from + i - from) % 8) 4 ≡ false = rw e (ne_eqb (i % 8) 4 n) in
      byte_stands (from + i)
      (and_no_right (leb from (from + i) && ltb (from + i) to) (eqb ((from + i - from) % 8) 4) f)

  byte_joins : (i : ℕ) → i % 8 ≡ 4 → from + i < to → get_or t (from + i) 0 ≡ joined a b (get_or s (from + i) 0)
  byte_joins i h l =
      let e : from + i - from ≡ i = omega arith in
      let f : eqb ((from + i - from) % 8) 4 ≡ true = rw e (eq-eqb (i % 8) 4 h) in
      let u = and_yes (leb from (from + i)) (ltb (from + i) to) (le-leb from (from + i) (omega arith))
      (lt-ltb (from + i) to l) in
      byte (from + i)
      ∙ sym (pick_yes _ _ _ _ (and_yes (leb from (from + i) && ltb (from + i) to)
      (eqb ((from + i - from) % 8) 4) u f) refl)

  -- a part before the entries, and all after them
  pub part_stands : (m l : ℕ) → m + l ≤ from → take l (drop m t) ≡ take l (drop m s)
  part_stands m l h =
      ext_get_or 0 (take l (drop m t)) (take l (drop m s))
      (omega (
        arith,
        length-take l (drop m t),
        length-take l (drop m s),
        length-drop m t,
        length-drop m s,
        join_length a b from to s,
      ))
      (λ i less.
      let q : i < l = omega (arith, length-take l (drop m t)) in
      get_or-take l (drop m t) i 0 q ∙ get_or-drop m t i 0 ∙ join_before (m + i) (omega arith)
      ∙ sym (get_or-take l (drop m s) i 0 q ∙ get_or-drop m s i 0))

  pub rest_stands : (m : ℕ) → to ≤ m → drop m t ≡ drop m s
  rest_stands m h =
      ext_get_or 0 (drop m t) (drop m s) (omega (arith, length-drop m t, length-drop m s, join_length a b from to s))
      (λ i less. get_or-drop m t i 0 ∙ join_after (m + i) (omega arith) ∙ sym (get_or-drop m s i 0))

-- ---- the entries
-- a byte of n entries that stand from a byte on, and no byte past them
in_part : (from n : ℕ) (s : List ℕ) (i : ℕ) → i < 8 * n → get_or (accounts_in from n s) i 0 ≡ get_or s (from + i) 0
in_part from n s i l = get_or-take (8 * n) (drop from s) i 0 l ∙ get_or-drop from s i 0

off_part : (from n : ℕ) (s : List ℕ) (i : ℕ) → 8 * n ≤ i → get_or (accounts_in from n s) i 0 ≡ 0
off_part from n s i l = get_or-eq_default (accounts_in from n s) 0 (omega (arith, length-take (8 * n) (drop from s)))

module _ (a b from n : ℕ) (s : List ℕ) (some_a : 1 ≤ a) where
  abbrev to : ℕ
  to = from + 8 * n

  abbrev out : List ℕ
  out = join_bytes a b from (from + 8 * n) s

  abbrev old : List ℕ
  old = accounts_in from n s

  abbrev new : List ℕ
  new = accounts_in from n out

  -- by whether the byte is one of the entries
  by_part : (i : ℕ) (P : Type 0) → (i < 8 * n → P) → (8 * n ≤ i → P) → P
  by_part i P inside outside = go (ltb i (8 * n)) refl
    where
      go : (x : Bool) → ltb i (8 * n) ≡ x → P
      go true e = inside (ltb-true i (8 * n) e)
      go false e = outside (ltb-false i (8 * n) e)

  other : (i : ℕ) → (i % 8 ≡ 4 → ⊥) → get_or new i 0 ≡ get_or old i 0
  other i h =
      by_part i (get_or new i 0 ≡ get_or old i 0)
      (λ l. in_part from n out i l ∙ byte_other a b from to s some_a i h ∙ sym (in_part from n s i l))
      (λ l. off_part from n out i l ∙ sym (off_part from n s i l))

  fifth : (i : ℕ) → i % 8 ≡ 4 → get_or new i 0 ≡ joined a b (get_or old i 0)
  fifth i h =
      by_part i (get_or new i 0 ≡ joined a b (get_or old i 0))
      (λ l. in_part from n out i l ∙ byte_joins a b from to s some_a i h (omega arith)
      ∙ ap (joined a b) (sym (in_part from n s i l)))
      (λ l. off_part from n out i l ∙ sym (ap (joined a b) (off_part from n s i l) ∙ joined_zero a b some_a))

  number_stands : (k : ℕ) → (account_at new k).number ≡ (account_at old k).number
  unfolding account_at
  number_stands k = le_cong 4 _ _ (8 * k) (8 * k) (λ r l. other (8 * k + r) (λ e. omega arith))

  kind_stands : (k : ℕ) → (account_at new k).kind ≡ (account_at old k).kind
  unfolding account_at
  kind_stands k = other (8 * k + 5) (λ e. omega arith)

  spare_stands : (k : ℕ) → (account_at new k).spare ≡ (account_at old k).spare
  unfolding account_at
  spare_stands k = le_cong 2 _ _ (8 * k + 6) (8 * k + 6) (λ r l. other (8 * k + 6 + r) (λ e. omega arith))

  group_joins : (k : ℕ) → (account_at new k).group ≡ joined a b (account_at old k).group
  unfolding account_at
  group_joins k = fifth (8 * k + 4) (omega arith)

  before_stands : (k : ℕ) → number_before new k ≡ number_before old k
  unfolding number_before
  before_stands zero = refl
  before_stands (suc k) = number_stands k

  entries_stand : entries new ≡ entries old
  entries_stand =
      omega (
        arith,
        length-take (8 * n) (drop from out),
        length-take (8 * n) (drop from s),
        length-drop from out,
        length-drop from s,
        join_length a b from to s,
      )

  module _ (most : a ≤ 128) (low : 1 ≤ b) (high : b ≤ 128) where
    good_stands : accounts_good new ≡ accounts_good old
    unfolding accounts_good
    good_stands =
        every_cong (account_good_at new) (account_good_at old) (entries new)
        (λ k l. rw (
          before_stands k,
          number_stands k,
          group_joins k,
          kind_stands k,
          spare_stands k,
          joined_within a b (account_at old k).group some_a most low high,
        ))
        ∙ rw entries_stand

    pub part_joined : PartJoined a b from n s out
    part_joined = record {
      size = join_length a b from to s;
      before = join_before a b from to s some_a;
      after = join_after a b from to s some_a;
      part = part_stands a b from to s some_a;
      rest = rest_stands a b from to s some_a;
      count = entries_stand;
      accounts = record { number = number_stands; kind = kind_stands; group = group_joins };
      spare = spare_stands;
      number_before_lem = before_stands;
      good = good_stands;
    }

-- ---- what the rules ask of an account table
count_two : (p q r : ℕ → Bool) (n : ℕ) → ((k : ℕ) → pick (p k) 1 0 ≡ pick (q k) 1 0 + pick (r k) 1 0)
    → count p n ≡ count q n + count r n
unfolding count
count_two p q r zero h = refl
count_two p q r (suc n) h = omega (arith, count_two p q r n h, h n)

count_nothing : (p : ℕ → Bool) (n : ℕ) → ((k : ℕ) → p k ≡ false) → count p n ≡ 0
unfolding count
count_nothing p zero h = refl
count_nothing p (suc n) h = omega (arith, count_nothing p n h, pick_no {A = ℕ} (p n) 0 1 0 (h n) refl)

joined_pick : (a b : ℕ) → 1 ≤ a → (t : Bool) (g : ℕ) → pick t (joined a b g) 0 ≡ joined a b (pick t g 0)
unfolding pick
joined_pick a b some_a true g = refl
joined_pick a b some_a false g = sym (joined_zero a b some_a)

module _ {a b : ℕ} {account account' : ℕ → Account} (j : AccountsJoined a b account account') (n : ℕ) where
  -- an account is where it was
  pub place_joined : (number : ℕ) → account_place account' n number ≡ account_place account n number
  unfolding account_place
  place_joined number = first_cong _ _ n (λ k l. ap (λ (m : ℕ). eqb m number) (j.number k))

  pub in_joined : (number : ℕ) → is_in account' n number ≡ is_in account n number
  unfolding is_in
  in_joined number = ap (λ (m : ℕ). ltb m n) (place_joined number)

  -- one that is not there has group 0, which is not a
  pub group_joined : 1 ≤ a → (number : ℕ) → group_in account' n number ≡ joined a b (group_in account n number)
  unfolding group_in
  group_joined some_a number =
      rw (in_joined number, place_joined number, j.group (account_place account n number))
      (joined_pick a b some_a (is_in account n number) (account (account_place account n number)).group)

  module _ (apart : a ≡ b → ⊥) where
    -- accounts of a group: those of the two are added, a has none, and others have what they had
    pub size_added : group_size account' n b ≡ group_size account n a + group_size account n b
    unfolding group_size
    size_added =
        count_two _ _ _ n
        (λ k. ap (λ (g : ℕ). pick (eqb g b) 1 0) (j.group k) ∙ join_adds a b apart (account k).group)

    pub size_none : group_size account' n a ≡ 0
    unfolding group_size
    size_none = count_nothing _ n (λ k. ap (λ (g : ℕ). eqb g a) (j.group k) ∙ join_a a b apart (account k).group)

    pub size_other : (g : ℕ) → (g ≡ a → ⊥) → (g ≡ b → ⊥) → group_size account' n g ≡ group_size account n g
    unfolding group_size
    size_other g na nb =
        count_cong _ _ n
        (λ k l. ap (λ (m : ℕ). eqb m g) (j.group k) ∙ join_other a b apart g (account k).group na nb)

    pub member_other : (g : ℕ) → (g ≡ a → ⊥) → (g ≡ b → ⊥) → has_member account' n g ≡ has_member account n g
    unfolding has_member
    member_other g na nb =
        some_cong _ _ n
        (λ k. ap₂ (λ (x y : Bool). x && y)
        (ap (λ (m : ℕ). eqb m g) (j.group k) ∙ join_other a b apart g (account k).group na nb)
        (ap (λ (m : ℕ). eqb m 2) (j.kind k)))

-- ---- a list of refusals: the rest of it matters only where this one did not hold
pub pick_after : (t : Bool) (n r r' : ℕ) → (t ≡ false → r ≡ r') → pick t n r ≡ pick t n r'
unfolding pick
pick_after true n r r' h = refl
pick_after false n r r' h = h refl
