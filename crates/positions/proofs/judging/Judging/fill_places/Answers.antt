use native.Mathlib.Omega.{arith}
use borrow.Author.Rules.{rules}
use Rattle.wire.proofs.FillLaws.{bytes_are}
use Rattle.rules.specs.declared.kinds.Kinds.TheVariants.{One}
use Rattle.places.specs.Places.{ladders}
use Rattle.positions.specs.Way.{places_in}
use Rattle.positions.specs.Judging.{place_by}
use Rattle.positions.proofs.judging.Judging.fill_places.Goals as goal

pub returns : goal.returns
unfolding places_in
returns c =
    bytes_are (place_by c.args.self.now) _ (ladders One) (omega arith)
    (λ k h. let p = c.fill_bytes.ensures k (omega arith) in search rules)
