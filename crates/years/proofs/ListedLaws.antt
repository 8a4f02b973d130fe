-- A day's findings as bytes say what 01 says of them: each offence once, in order, with its total and its contract.
-- Assumes nothing.
use mathlib.Core.Path.{◌≡◌, refl, sym, ap, ◌∙◌}
use mathlib.Core.Bool.{Bool, true}
use mathlib.Core.List.{List, []}
use Prim.Native.Nat.{ℕ, ◌+◌, ◌*◌, ◌<◌}
use native.Mathlib.Omega.{arith}
use lib.ListN.{length, get_or, take, drop}
use Rattle.wire.specs.Choice.{pick}
use Rattle.wire.specs.Below.{count}
use Rattle.wire.specs.Buffers.{rows}
use Rattle.wire.proofs.KeptLaws.{part_at, kept_length, kept_at}
use Rattle.wire.proofs.BelowLaws.{Passes, Passed, count_below, count_rises, passed}
use Rattle.rules.specs.declared.kinds.Kinds.{Kinds}
use Rattle.places.specs.Places.{ladders, group_at, kind_at, family_at}
use Rattle.places.proofs.LadderLaws.{ladder_of_lem}
use Rattle.verdict.specs.Verdict.{Verdict, offends, found_count, finding, total_after, sanction_at, found_at, findings}
use Rattle.verdict.proofs.FoundLaws.{finding_length}
use Rattle.years.specs.Listed.{ladder_in, Names}
use Rattle.years.specs.Laws.{FindingsListed}

-- eight bytes that are a finding name its ladder
named_by : (kinds : Kinds) (bs : List ℕ) (j ladder sanction' total id : ℕ)
    → take 8 (drop (8 * j) bs) ≡ finding kinds ladder sanction' total id → ladder_in kinds bs j ≡ ladder
unfolding finding
named_by kinds bs j ladder sanction' total id e =
    let g : get_or bs (8 * j) 0 ≡ group_at kinds ladder = part_at 8 (8 * j) (8 * j) 0 bs _ e (omega arith)
    (omega arith) in
    let k : get_or bs (8 * j + 1) 0
    ≡ kind_at kinds ladder = part_at 8 (8 * j) (8 * j + 1) 1 bs _ e refl (omega arith) in
    let f : get_or bs (8 * j + 2) 0 ≡ family_at ladder = part_at 8 (8 * j) (8 * j + 2) 2 bs _ e refl (omega arith) in
    rw (g, k, f) (ladder_of_lem kinds ladder)

module _ (v : Verdict) (date : ℕ) (book : List ℕ) where
  abbrev kinds : Kinds
  kinds = v.shape.kinds

  -- how many ladders there are
  abbrev many : ℕ
  many = ladders kinds

  abbrev hit : ℕ → Bool
  hit = offends v

  abbrev text : ℕ → List ℕ
  text l = finding kinds l (sanction_at v date book l) (total_after v date book l) (v.id (v.lowest l))

  abbrev listing : List ℕ
  listing = findings v date book

  text_length : (l : ℕ) → length (text l) ≡ 8
  text_length l = finding_length kinds l _ _ _

  listing_is : listing ≡ rows (λ l. pick (hit l) (text l) []) many
  unfolding findings found_at
  listing_is = refl

  counted_is : found_count v ≡ count hit many
  unfolding found_count
  counted_is = refl

  long : length listing ≡ 8 * found_count v
  long = ap length listing_is ∙ kept_length hit text 8 text_length many ∙ ap (λ (n : ℕ). 8 * n) (sym counted_is)

  text_at : (l : ℕ) → l < many → hit l ≡ true → take 8 (drop (8 * count hit l) listing) ≡ text l
  text_at l h e =
      ap (λ (bs : List ℕ). take 8 (drop (8 * count hit l) bs)) listing_is
      ∙ kept_at hit text 8 text_length many l h e

  -- a ladder with an offence is named by the finding that has as many before it as there are offences
  name_at : (l : ℕ) → l < many → hit l ≡ true → ladder_in kinds listing (count hit l) ≡ l
  name_at l h e = named_by kinds listing (count hit l) l _ _ _ (text_at l h e)

  -- the j-th finding's ladder is the j-th with an offence
  nth_offence : (j : ℕ) → j < found_count v → Passes hit many j (ladder_in kinds listing j)
  nth_offence j h =
      let q : Passed hit many j = passed hit many j (omega (arith, counted_is)) in
      let same : ladder_in kinds listing j ≡ q.place =
      ap (ladder_in kinds listing) (sym q.is.before) ∙ name_at q.place q.is.below q.is.passes in record {
        below = omega (arith, same, q.is.below);
        passes = ap hit same ∙ q.is.passes;
        before = ap (count hit) same ∙ q.is.before;
      }

  only : (ladder : ℕ) → Names kinds listing (found_count v) ladder → (ladder < many) × (hit ladder ≡ true)
  only ladder q =
      let i : Passes hit many q.at (ladder_in kinds listing q.at) = nth_offence q.at q.there in
      (omega (arith, i.below, q.named), ap hit (sym q.named) ∙ i.passes)

  listed : (ladder : ℕ) → ladder < many → hit ladder ≡ true → Names kinds listing (found_count v) ladder
  listed ladder h e = record {
    at = count hit ladder;
    there = omega (arith, counted_is, count_below hit ladder many h e);
    named = name_at ladder h e;
  }

  rises : (i j : ℕ) → i < j → j < found_count v → ladder_in kinds listing i < ladder_in kinds listing j
  rises i j h l =
      count_rises hit (ladder_in kinds listing i) (ladder_in kinds listing j)
      (omega (arith, (nth_offence i (omega arith)).before, (nth_offence j l).before))

  says : (j : ℕ) → j < found_count v → take 8 (drop (8 * j) listing) ≡ text (ladder_in kinds listing j)
  says j h =
      let i : Passes hit many j (ladder_in kinds listing j) = nth_offence j h in
      ap (λ (k : ℕ). take 8 (drop (8 * k) listing)) (sym i.before)
      ∙ text_at (ladder_in kinds listing j) i.below i.passes

pub findings_listed : FindingsListed
findings_listed v date book = record {
  long = long v date book;
  listed = listed v date book;
  only = only v date book;
  rises = rises v date book;
  says = says v date book;
}
