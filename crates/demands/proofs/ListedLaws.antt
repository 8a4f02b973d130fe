-- A day's offences by its records, and the lowest contract of each; its findings then say what 01 says of them.
-- Assumes nothing.
use mathlib.Core.Path.{◌≡◌, refl, sym, ap, ◌∙◌}
use mathlib.Core.Bool.{true}
use mathlib.Core.List.{List}
use Prim.Native.Nat.{ℕ, ◌*◌, ◌≤◌, ◌<◌}
use native.Mathlib.Omega.{arith}
use borrow.Author.Tests.{ltb-true}
use lib.Dec.{ltb}
use Rattle.wire.specs.Below.{first}
use Rattle.wire.proofs.BelowLaws.{first_below, first_some, first_passes}
use Rattle.rules.specs.declared.kinds.Kinds.{Kinds}
use Rattle.rules.proofs.KindLaws.{kinds_most}
use Rattle.places.specs.Places.{ladders}
use Rattle.book.specs.Shape.{day_shape}
use Rattle.daylog.specs.declared.record.Record.{Record}
use Rattle.tables.specs.Tables.{Tables}
use Rattle.verdict.specs.Verdict.{offends, found_count, findings}
use Rattle.verdict.proofs.SettleLaws.{found_most}
use Rattle.years.specs.Listed.{ladder_in}
use Rattle.years.proofs.ListedLaws.{findings_listed}
use Rattle.desk.specs.Offences.{kinds_on, reached_at, lowest, lowest_on, verdict_on}
use Rattle.demands.specs.Counts.{times_on, reaches_on, offence, reaches_at, offence_at, day_verdict}
use Rattle.demands.specs.Listed.{Lowest, Lists}
use Rattle.demands.specs.Calls.{full_room}

-- ---- a ladder's offence, and the lowest contract that reached the number
module _ (t : Tables) (rs : List Record) (ladder : ℕ) where
  pub lowest_is : lowest_on t (times_on t rs) ladder ≡ first (reaches_at t rs ladder) t.contracts
  unfolding lowest_on lowest reached_at reaches_on times_on
  lowest_is = refl

  pub offends_is : offends (day_verdict t rs) ladder ≡ offence_at t rs ladder
  unfolding offends verdict_on offence
  offends_is = ap (λ (k : ℕ). ltb k t.contracts) lowest_is ∙ first_some (reaches_at t rs ladder) t.contracts

  lowest_where : offends (day_verdict t rs) ladder ≡ true → Lowest t rs ladder (lowest_on t (times_on t rs) ladder)
  unfolding offends verdict_on
  lowest_where e =
      let there : lowest_on t (times_on t rs) ladder < t.contracts = ltb-true _ _ e in record {
        there = there;
        reaches =
            ap (reaches_at t rs ladder) lowest_is
            ∙ first_passes (reaches_at t rs ladder) t.contracts (omega (arith, lowest_is));
        none_below = λ k l. first_below (reaches_at t rs ladder) t.contracts k (omega (arith, lowest_is));
      }

-- a verdict has the kinds of the day's rulebook
pub verdict_kinds : (t : Tables) (counted : ℕ → ℕ → ℕ) → (verdict_on t counted).shape.kinds ≡ kinds_on t
unfolding verdict_on day_shape
verdict_kinds t counted = refl

pub findings_list : (t : Tables) (rs : List Record) (date : ℕ) (book : List ℕ)
    → Lists t rs date book (findings (day_verdict t rs) date book) (found_count (day_verdict t rs))
findings_list t rs date book =
    let bs = findings (day_verdict t rs) date book in
    let q = findings_listed (day_verdict t rs) date book in
    let kinds = verdict_kinds t (times_on t rs) in record {
      lists = q;
      lowest =
          λ j h.
          lowest_where t rs (ladder_in (kinds_on t) bs j)
          (ap (λ (k : Kinds). offends (day_verdict t rs) (ladder_in k bs j)) (sym kinds)
          ∙ (q.only _ (record { at = j; there = h; named = refl })).1);
    }

-- "At most 6,144, which is 49,152 bytes": a buffer for the most kinds is never too short
pub found_fits : (t : Tables) (counted : ℕ → ℕ → ℕ) (room : ℕ) → full_room ≤ room
    → 8 * found_count (verdict_on t counted) ≤ room
found_fits t counted room h =
    let v = verdict_on t counted in
    omega (arith, found_most v, kinds_most t.text.rulebook, ap ladders (verdict_kinds t counted))
