use mathlib.Core.Path.{◌∙◌}
use borrow.Author.Rules.{rules}
use Rattle.std.proofs.lemmas.Iterator.{YieldsList-from_slice}
use Rattle.std.proofs.lemmas.Iterator.Search.{position_from_yields_List}
use Rattle.positions.proofs.EntryLaws.{is_id, limit_found}
use Rattle.positions.proofs.contracts.limit_place.Goals as goal

pub returns : goal.returns
returns c =
    let s = c.args.part.now in
    let es = c.as_chunks.result.0.now in
    let cut = c.as_chunks.ensures.front in
    let len = c.as_chunks.ensures.front_len in
    c.unwrap_or.ensures
    ∙ limit_found s es c.args.id cut len _
    (position_from_yields_List (is_id s es c.args.id cut len) _ _ c.position.result c.position.ensures.ran
    (YieldsList-from_slice es cc) (λ x b q k. search rules))
