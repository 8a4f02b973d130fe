use Rattle.verdict.proofs.FoundLaws.{finding_written}
use Rattle.verdict.proofs.findings.Finding.put.Goals as goal

pub returns : goal.returns
returns c =
    let a = c.args in
    finding_written a.self.kinds a.out.now _ _ a.at a.self.ladder _ _ a.self.sanction a.self.total a.self.id
    c.requires.0
    c.group_at-group.ensures
    c.kind_at-kind.ensures
    c.put16.ensures c.put16-2.ensures
