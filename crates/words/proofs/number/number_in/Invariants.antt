-- So far all bytes were digits, and the number is what they are worth.
use Rattle.std.proofs.Common.{◌≡◌, ◌≤◌, true, length}
use Rattle.words.specs.Number.{digits, worth}
use Rattle.words.proofs.number.number_in.Given as goal

abbrev pub invariant-loop-byte : goal.invariant-loop-byte
invariant-loop-byte l = (length l.word ≤ 9) × (digits l.word l.byte-index ≡ true) × (l.n ≡ worth l.word l.byte-index)
