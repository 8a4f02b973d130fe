use Rattle.std.proofs.Common.{◌∙◌, sym, rules}
use Rattle.std.proofs.lemmas.Iterator.{YieldsList-from_slice}
use Rattle.std.proofs.lemmas.Iterator.Search.{position_from_yields_List}
use Rattle.tables.proofs.EntryLaws.{is_id, id_placed, found_at, found_nothing}
use Rattle.tables.proofs.contracts.find_contract.Goals as goal

pub returns-in_err-k : goal.returns-in_err-k
returns-in_err-k c =
    let s = c.args.part.now in
    let es = c.as_chunks.result.0.now in
    let id = c.args.id in
    let cut = c.as_chunks.ensures.front in
    let len = c.as_chunks.ensures.front_len in
    c.from_residual.ensures
    ∙ found_nothing s es id cut len
    (sym c.in_err-k.was
    ∙ id_placed s es id cut len _
    (position_from_yields_List (is_id s es id cut len) _ _ c.position.result c.position.ensures.ran
    (YieldsList-from_slice es cc) (λ x b q k. search rules)))

pub returns : goal.returns
returns c =
    let s = c.args.part.now in
    let es = c.as_chunks.result.0.now in
    let id = c.args.id in
    let cut = c.as_chunks.ensures.front in
    let len = c.as_chunks.ensures.front_len in
    found_at s es id cut len _ _
    (sym c.in_ok-k.was
    ∙ id_placed s es id cut len _
    (position_from_yields_List (is_id s es id cut len) _ _ c.position.result c.position.ensures.ran
    (YieldsList-from_slice es cc) (λ x b q k. search rules)))
    c.contract_of.ensures
