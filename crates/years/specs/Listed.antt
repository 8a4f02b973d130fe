-- 01, "The calls and their refusals": what a day's findings as bytes say. Eight bytes a finding; "Order: group, kind,
-- family."
use Rattle.std.specs.Prelude.{◌≡◌, true, List, ℕ, ◌+◌, ◌*◌, ◌<◌, length, get_or, take, drop}
use Rattle.rules.specs.declared.kinds.Kinds.{Kinds}
use Rattle.places.specs.Places.{ladders, ladder_of}
use Rattle.verdict.specs.Verdict.{Verdict, offends, finding, total_after, sanction_at}

-- the ladder that the j-th finding names by its group, kind and family
abbrev pub ladder_in : Kinds → List ℕ → ℕ → ℕ
ladder_in kinds bs j = ladder_of kinds (get_or bs (8 * j) 0) (get_or bs (8 * j + 1) 0) (get_or bs (8 * j + 2) 0)

-- one of n findings is the ladder's
pub record Names (kinds : Kinds) (bs : List ℕ) (n ladder : ℕ) : Type 0 where
  pub at : ℕ
  pub there : at < n
  pub named : ladder_in kinds bs at ≡ ladder

-- `bs` is the list of n findings of a day that ended by a verdict, of a date, on a book
pub record Lists (v : Verdict) (date : ℕ) (book bs : List ℕ) (n : ℕ) : Type 0 where
  pub long : length bs ≡ 8 * n
  -- a finding is listed exactly when the day was an offence of its group and kind in its family
  pub listed : (ladder : ℕ) → ladder < ladders v.shape.kinds → offends v ladder ≡ true
      → Names v.shape.kinds bs n ladder
  pub only : (ladder : ℕ) → Names v.shape.kinds bs n ladder
      → (ladder < ladders v.shape.kinds) × (offends v ladder ≡ true)
  -- it is listed once, and in order
  pub rises : (i j : ℕ) → i < j → j < n → ladder_in v.shape.kinds bs i < ladder_in v.shape.kinds bs j
  -- its sanction, its total, and the id of the contract that stands for it
  pub says : (j : ℕ) → j < n
      → (let l = ladder_in v.shape.kinds bs j in
      take 8 (drop (8 * j) bs)
      ≡ finding v.shape.kinds l (sanction_at v date book l) (total_after v date book l) (v.id (v.lowest l)))
