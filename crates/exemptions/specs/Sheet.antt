-- 02, K3: the exemptions "in one constant table, an entry for each rulebook, contract type, kind, instruction and
-- purpose: 288 entries, with codes rulebook 2 refuses held as exempt". Since K5 an entry is the clause.
use Rattle.std.specs.Prelude.{ℕ, ◌+◌, ◌*◌, ◌-◌, ◌/◌, ◌%◌, Bool, ◌&&◌, List, eqb, get_or}
use Rattle.wire.specs.Choice.{within}
use Rattle.wire.specs.Below.{every}
use Rattle.exemptions.specs.declared.lookup.Codes.{Codes}
use Rattle.rules.specs.Codes.{is_rulebook, is_kind}
use Rattle.exemptions.specs.Exemption.{clause}

-- the table's own lists have these codes: 2 rulebooks, 2 types, 3 kinds, 6 instructions, 4 purposes
unfoldable pub listed : Codes → Bool
listed c =
    is_rulebook c.text.rulebook && within 1 2 c.sort && is_kind c.kind && within 1 6 c.instruction
    && within 1 4 c.purpose

-- how many entries that makes
abbrev pub entries : ℕ
entries = 288

-- where the entry of codes stands, from 0: by rulebook, then type, kind, instruction, purpose
unfoldable pub place_of : Codes → ℕ
place_of c =
    ((((c.text.rulebook - 1) * 2 + (c.sort - 1)) * 3 + (c.kind - 1)) * 6 + (c.instruction - 1)) * 4
    + (c.purpose - 1)

-- the other way: the codes whose entry stands there. Past the last entry the table begins again.
unfoldable pub codes_at : ℕ → Codes
codes_at place = record {
  text = record { rulebook = place / 144 % 2 + 1 };
  sort = place / 72 % 2 + 1;
  kind = place / 24 % 3 + 1;
  instruction = place / 4 % 6 + 1;
  purpose = place % 4 + 1;
}

-- what the entry of codes is: the clause by which such an order is exempt for the kind, 0 where it is not
unfoldable pub entry_of : Codes → ℕ
entry_of c = clause c.text c.sort c.kind c.instruction c.purpose

-- "Its rule is shown once over the whole table": every entry is what the definition says of its codes
unfoldable pub sheet_right : List ℕ → Bool
sheet_right table = every (λ place. eqb (get_or table place 0) (entry_of (codes_at place))) entries
