use native.Mathlib.Omega.{arith}
use borrow.Author.Rules.{rules}
use Rattle.wire.proofs.FillLaws.{bytes_are}
use Rattle.rules.specs.Kinds.{kinds_of}
use Rattle.places.specs.Places.{ladders}
use Rattle.desk.specs.Way.{place_at, places_in}
use Rattle.desk.proofs.judging.Judging.fill_places.Goals as goal

pub returns : goal.returns
unfolding places_in
returns c =
    let j = c.args.self.now in
    let kinds = kinds_of j.text.rulebook in
    bytes_are (place_at j.text kinds j.fams.now j.counts.now) _ (ladders kinds) (omega arith)
    (λ k h. let p = c.fill_bytes.ensures k (omega arith) in search rules)
