use Rattle.verdict.proofs.FoundLaws.{more_yes, more_no, room_yes}
use Rattle.verdict.proofs.FoundLaws.{place_hit, place_none, finding_here, finding_none}
use Rattle.verdict.proofs.ruling.Ruling.list_one.Goals as goal

pub put-requires : goal.put-requires
put-requires c =
    let hit = place_hit _ _ _ _ _ _ c.place_in-place.ensures c.if-place-self.true in
    (room_yes _ _ _ hit c.requires.1, c.requires.0)

pub returns-then-place-self : goal.returns-then-place-self
returns-then-place-self c =
    let is = c.place_in-place.ensures in
    let hit = c.if-place-self.true in
    record {
      value = more_yes _ _ (place_hit _ _ _ _ _ _ is hit);
      out_after = finding_here _ _ _ _ _ _ _ _ _ _ is hit c.is_later_year-later.ensures c.get16.ensures
          c.next_total-total.ensures c.sanction_for.ensures
          c.get16-then-place-self.ensures c.put.ensures;
    }

pub returns : goal.returns
returns c = record {
  value = more_no _ _ (place_none _ _ _ _ _ _ c.place_in-place.ensures c.if-place-self.false);
  out_after = finding_none _ _ _ _ _ _ _ _ _ _ c.place_in-place.ensures c.if-place-self.false;
}
