-- 01, "The calls and their refusals": the number of each refusal.
use Rattle.std.specs.Prelude.{ℕ, ◌-◌, List, [], ◌∷◌, get_or}
use Rattle.wire.specs.declared.refusal.Refusal.{Refusal}
use Rattle.wire.specs.declared.refusal.Refusal.TheVariants.{Length, Mark, Version, Rulebook, Date, Sizes, ContractEntry}
use Rattle.wire.specs.declared.refusal.Refusal.TheVariants.{AccountEntry, NotLater, WrongState, Fields, NoContract}
use Rattle.wire.specs.declared.refusal.Refusal.TheVariants.{NoAccount, Full, OtherNumber, CountsShort, NotSound}
use Rattle.wire.specs.declared.refusal.Refusal.TheVariants.{OtherRulebook, Changed, FindingsShort, OutOfRange}
use Rattle.wire.specs.declared.refusal.Refusal.TheVariants.{PositionLog}

-- "A refusal carries its number"
abbrev pub number : Refusal → ℕ
number Length = 1
number Mark = 2
number Version = 3
number Rulebook = 4
number Date = 5
number Sizes = 6
number ContractEntry = 7
number AccountEntry = 8
number NotLater = 9
number WrongState = 10
number Fields = 11
number NoContract = 12
number NoAccount = 13
number Full = 14
number OtherNumber = 15
number CountsShort = 16
number NotSound = 17
number OtherRulebook = 18
number Changed = 19
number FindingsShort = 20
number OutOfRange = 21
number PositionLog = 22

-- all of them, in the order of their numbers
abbrev pub refusals : List Refusal
refusals =
    Length ∷ Mark ∷ Version ∷ Rulebook ∷ Date ∷ Sizes ∷ ContractEntry ∷ AccountEntry ∷ NotLater ∷ WrongState ∷ Fields
    ∷ NoContract ∷ NoAccount ∷ Full ∷ OtherNumber ∷ CountsShort ∷ NotSound ∷ OtherRulebook ∷ Changed ∷ FindingsShort
    ∷ OutOfRange ∷ PositionLog ∷ []

-- the one that has a number from 1 to 22
abbrev pub numbered : ℕ → Refusal
numbered n = get_or refusals (n - 1) PositionLog
