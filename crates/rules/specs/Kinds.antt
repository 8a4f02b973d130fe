-- 01, "What the desk judges": "Three offence kinds: 1 self-trade, 2 frequent cancels, 3 large cancels." The one place
-- that says how many kinds a rulebook has; 01 "Layouts" puts ladders and cells by it (places specs/Places).
use Rattle.std.specs.Prelude.{ℕ}
use Rattle.rules.specs.declared.kinds.Kinds.{Kinds}
use Rattle.rules.specs.declared.kinds.Kinds.TheVariants.{One, Three, Four}

-- the kinds of a rulebook
unfoldable pub kinds_of : ℕ → Kinds
kinds_of rulebook = Three

-- the most that a rulebook has
unfoldable pub most_kinds : ℕ
most_kinds = 3

-- how many kinds these are
unfoldable pub kinds_in : Kinds → ℕ
kinds_in One = 1
kinds_in Three = 3
kinds_in Four = 4

-- they go by numbers from this one on: a single kind is 5, and else they are 1, 2, 3 ..
unfoldable pub first_kind : Kinds → ℕ
first_kind One = 5
first_kind Three = 1
first_kind Four = 1
