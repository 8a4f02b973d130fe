use Prim.Native.Nat.{◌+◌}
use native.Mathlib.Omega.{arith}
use borrow.Author.Rules.{rules}
use mathlib.Core.Path.{◌∙◌}
use Rattle.wire.specs.Choice.{pick}
use Rattle.wire.proofs.ChoiceLaws.{bit_of}
use Rattle.wire.proofs.FillLaws.{bytes_are}
use Rattle.tables.specs.Entries.{entries}
use Rattle.tables.specs.Accounts.{account_at, has_member}
use Rattle.desk.specs.Way.{members_in}
use Rattle.desk.proofs.verdicts.fill_members.Goals as goal

pub returns : goal.returns
unfolding members_in
returns c =
    let s = c.args.accounts.now in
    bytes_are (λ g. pick (has_member (account_at s) (entries s) (g + 1)) 1 0) _ 128 (omega arith)
    (λ g h. let p = c.fill_bytes.ensures g (omega arith) in
    (search rules) ∙ bit_of (has_member (account_at s) (entries s) (g + 1)))
