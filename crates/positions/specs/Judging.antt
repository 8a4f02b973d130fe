-- The way, not the meaning: a ladder's lowest place (specs/Way) by what it is judged by. What offends is
-- specs/Offences.
use Rattle.std.specs.Prelude.{ℕ, Bool, List}
use Rattle.positions.specs.declared.judging.Judging.{Judging}
use Rattle.positions.specs.Way.{over_at, place_at, places_in}

abbrev pub over_by : Judging → (ladder c : ℕ) → Bool
over_by j = over_at j.text j.contracts.now j.fams.now j.sums.now.longs j.sums.now.shorts

abbrev pub place_by : Judging → ℕ → ℕ
place_by j = place_at j.text j.contracts.now j.fams.now j.sums.now.longs j.sums.now.shorts j.sizes.now

abbrev pub places_by : Judging → List ℕ
places_by j = places_in j.text j.contracts.now j.fams.now j.sums.now.longs j.sums.now.shorts j.sizes.now
