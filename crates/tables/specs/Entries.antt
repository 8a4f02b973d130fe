-- 01, "Layouts": contract entries and account entries have 8 bytes each.
use Rattle.std.specs.Prelude.{ℕ, ◌/◌, List, length}

-- how many whole entries a table has
abbrev pub entries : List ℕ → ℕ
entries s = length s / 8
