-- The table of exemptions: its index and the way back, and its rule carried to each look-up. Assumes nothing.
use mathlib.Core.Path.{◌≡◌, refl, sym, ap, ◌∙◌}
use mathlib.Core.Bool.{Bool, true, false, ◌&&◌, and-false}
use mathlib.Core.List.{List}
use Prim.Native.Nat.{ℕ, ◌+◌, ◌*◌, ◌-◌, ◌/◌, ◌%◌, ◌≤◌, ◌<◌}
use native.Mathlib.Omega.{arith}
use lib.Dec.{eqb}
use lib.ListN.{get_or}
use borrow.Author.Tests.{eqb-true}
use Rattle.wire.specs.Choice.{pick, within}
use Rattle.wire.specs.Below.{every}
use Rattle.wire.proofs.ChoiceLaws.{and_left, and_right, and_yes, bounds}
use Rattle.wire.proofs.BelowLaws.{every_at}
use Rattle.exemptions.specs.declared.lookup.Codes.{Codes}
use Rattle.rules.specs.declared.text.Text.{Text}
use Rattle.rules.specs.Codes.{is_rulebook, has_type, has_instruction, has_purpose, is_kind}
use Rattle.exemptions.specs.Exemption.{known, clause, clauses}
use Rattle.exemptions.specs.Sheet.{listed, entries, place_of, codes_at, entry_of, sheet_right}

-- codes that the table's lists have, each from 1 on
pub record InLists (c : Codes) : Type 0 where
  pub rulebook : (1 ≤ c.text.rulebook) × (c.text.rulebook ≤ 2)
  pub sort : (1 ≤ c.sort) × (c.sort ≤ 2)
  pub kind : (1 ≤ c.kind) × (c.kind ≤ 3)
  pub instruction : (1 ≤ c.instruction) × (c.instruction ≤ 6)
  pub purpose : (1 ≤ c.purpose) × (c.purpose ≤ 4)

pub in_lists : (c : Codes) → listed c ≡ true → InLists c
unfolding listed
in_lists c e =
    let one = is_rulebook c.text.rulebook in
    let two = one && within 1 2 c.sort in
    let three = two && is_kind c.kind in
    let four = three && within 1 6 c.instruction in
    let e4 = and_left four (within 1 4 c.purpose) e in
    let e3 = and_left three (within 1 6 c.instruction) e4 in
    let e2 = and_left two (is_kind c.kind) e3 in
    record {
      rulebook = bounds 1 2 c.text.rulebook (and_left one (within 1 2 c.sort) e2);
      sort = bounds 1 2 c.sort (and_right one (within 1 2 c.sort) e2);
      kind = bounds 1 3 c.kind (and_right two (is_kind c.kind) e3);
      instruction = bounds 1 6 c.instruction (and_right three (within 1 6 c.instruction) e4);
      purpose = bounds 1 4 c.purpose (and_right four (within 1 4 c.purpose) e);
    }

pub place_below : (c : Codes) → listed c ≡ true → place_of c < entries
unfolding place_of
place_below c e = let l = in_lists c e in omega arith

-- the way back from a place leads to the codes that stand there
pub codes_place : (c : Codes) → listed c ≡ true → codes_at (place_of c) ≡ c
unfolding place_of codes_at
codes_place c e =
    let l = in_lists c e in
    let half = (c.text.rulebook - 1) * 2 + (c.sort - 1) in
    let block = half * 3 + (c.kind - 1) in
    let row = block * 6 + (c.instruction - 1) in
    let by144 : place_of c / 144 ≡ c.text.rulebook - 1 = omega arith in
    let by72 : place_of c / 72 ≡ half = omega arith in
    let by24 : place_of c / 24 ≡ block = omega arith in
    let by4 : place_of c / 4 ≡ row = omega arith in
    let r : place_of c / 144 % 2 + 1 ≡ c.text.rulebook = rw by144 (omega arith) in
    let s : place_of c / 72 % 2 + 1 ≡ c.sort = rw by72 (omega arith) in
    let k : place_of c / 24 % 3 + 1 ≡ c.kind = rw by24 (omega arith) in
    let n : place_of c / 4 % 6 + 1 ≡ c.instruction = rw by4 (omega arith) in
    let p : place_of c % 4 + 1 ≡ c.purpose = omega arith in
    λ i. record { text = record { rulebook = r i }; sort = s i; kind = k i; instruction = n i; purpose = p i }

-- and every place is that of its codes
pub place_codes : (place : ℕ) → place < entries → place_of (codes_at place) ≡ place
unfolding every place_of codes_at
place_codes place l = eqb-true _ _ (every_at (λ n. eqb (place_of (codes_at n)) n) entries place refl l)

-- the rule of a table, carried to the look-up of codes
pub looked_up : (table : List ℕ) (c : Codes) → sheet_right table ≡ true → listed c ≡ true
    → get_or table (place_of c) 0 ≡ entry_of c
unfolding sheet_right
looked_up table c right e =
    let holds_at = every_at (λ place. eqb (get_or table place 0) (entry_of (codes_at place))) entries in
    eqb-true _ _ (holds_at (place_of c) right (place_below c e)) ∙ ap entry_of (codes_place c e)

-- a type that a rulebook has is on the table's list
type_listed : (text : Text) (type' : ℕ) → has_type text type' ≡ true → within 1 2 type' ≡ true
type_listed text type' e = go (eqb type' 1) (eqb type' 2) refl refl
  where
    go : (a b : Bool) → eqb type' 1 ≡ a → eqb type' 2 ≡ b → within 1 2 type' ≡ true
    go true b p q = rw (eqb-true type' 1 p) refl
    go false true p q = rw (eqb-true type' 2 q) refl
    go false false p q =
        let n = and-false (eqb text.rulebook 1) in
        let m = and-false (eqb text.rulebook 2) in
        let none : false ≡ true = rw (p, q, n, m) at e in
        cc

-- the rulebook has these codes
abbrev known_of : Codes → Bool
known_of c = known c.text c.sort c.kind c.instruction c.purpose

-- and then they are on the table's lists
known_listed : (c : Codes) → known_of c ≡ true → listed c ≡ true
unfolding known listed
known_listed c e =
    let sort = has_type c.text c.sort in
    let instruction = has_instruction c.text c.instruction in
    let purpose = has_purpose c.text c.purpose in
    let e3 = and_left (sort && is_kind c.kind && instruction) purpose e in
    let e2 = and_left (sort && is_kind c.kind) instruction e3 in
    let p = and_right (sort && is_kind c.kind && instruction) purpose e in
    let i = and_right (sort && is_kind c.kind) instruction e3 in
    let book = and_right (within 1 4 c.purpose) (is_rulebook c.text.rulebook) p in
    let types = type_listed c.text c.sort (and_left sort (is_kind c.kind) e2) in
    and_yes _ _
    (and_yes _ _
    (and_yes _ _ (and_yes _ _ book types) (and_right sort (is_kind c.kind) e2))
    (and_left (within 1 6 c.instruction) _ i))
    (and_left (within 1 4 c.purpose) (is_rulebook c.text.rulebook) p)

-- codes that are on no list have clause 1
pub unlisted : (c : Codes) → listed c ≡ false → entry_of c ≡ 1
unfolding pick entry_of clause
unlisted c e = go (known_of c) refl
  where
    go : (t : Bool) → known_of c ≡ t → entry_of c ≡ 1
    go true k = let none : false ≡ true = sym e ∙ known_listed c k in cc
    go false k = rw k refl

-- ---- an order's entries for the kinds 1, 2 and 3
module _ (text : Text) (sort instruction purpose : ℕ) where
  abbrev pub for_kind : ℕ → Codes
  for_kind kind = record { text = text; sort = sort; kind = kind; instruction = instruction; purpose = purpose }

  -- they stand 24 apart
  pub kinds_below : listed (for_kind 1) ≡ true → place_of (for_kind 1) + 48 < entries
  unfolding place_of
  kinds_below e = let l = in_lists (for_kind 1) e in omega arith

  second_place : place_of (for_kind 2) ≡ place_of (for_kind 1) + 24
  unfolding place_of
  second_place = omega arith

  third_place : place_of (for_kind 3) ≡ place_of (for_kind 1) + 48
  unfolding place_of
  third_place = omega arith

  -- and are the order's clauses
  pub kinds_looked_up : (table : List ℕ) (at : ℕ) → sheet_right table ≡ true → listed (for_kind 1) ≡ true
      → at ≡ place_of (for_kind 1)
      → record { own = get_or table at 0; frequent = get_or table (at + 24) 0; over = get_or table (at + 48) 0 }
      ≡ clauses text sort instruction purpose
  unfolding listed entry_of clauses
  kinds_looked_up table at right e p =
      let first = ap (λ (n : ℕ). get_or table n 0) p ∙ looked_up table (for_kind 1) right e in
      let second = ap (λ (n : ℕ). get_or table n 0) (ap (λ (n : ℕ). n + 24) p ∙ sym second_place)
      ∙ looked_up table (for_kind 2) right e in
      let third = ap (λ (n : ℕ). get_or table n 0) (ap (λ (n : ℕ). n + 48) p ∙ sym third_place)
      ∙ looked_up table (for_kind 3) right e in
      λ i. record { own = first i; frequent = second i; over = third i }

  -- each is 1 where no list has its codes
  pub kinds_unlisted : listed (for_kind 1) ≡ false
      → record { own = 1; frequent = 1; over = 1 } ≡ clauses text sort instruction purpose
  unfolding listed entry_of clauses
  kinds_unlisted e =
      let first = sym (unlisted (for_kind 1) e) in
      let second = sym (unlisted (for_kind 2) e) in
      let third = sym (unlisted (for_kind 3) e) in
      λ i. record { own = first i; frequent = second i; over = third i }

-- what proves a look-up
pub ruleset looking = (in_lists, place_below, looked_up, unlisted, kinds_below, kinds_looked_up, kinds_unlisted)
