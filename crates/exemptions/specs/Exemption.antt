-- 01, "What counts", and 02, K5: what is exempt, and by which clause. Codes that the rulebook does not have are held as
-- exempt: they never count.
use Rattle.std.specs.Prelude.{ℕ, ◌+◌, Bool, ◌&&◌, ◌||◌, not, eqb}
use Rattle.wire.specs.Choice.{pick, within}
use Rattle.rules.specs.declared.text.Text.{Text}
use Rattle.exemptions.specs.declared.clause.Clauses.{Clauses}
use Rattle.rules.specs.Codes.{has_type, has_instruction, has_purpose, is_kind}

-- an order is exempt for a kind by its instruction alone. Rulebook 1 (003, one (1) 4): "instructions 2 to 6 for all
-- kinds". Rulebook 2 (004, one (1) 5): "instruction 2 for all kinds; instruction 1 for kind 2 .. Here FOK and FAK do
-- count."
abbrev pub by_instruction : Text → (kind instruction : ℕ) → Bool
by_instruction text kind instruction =
    (eqb text.rulebook 1 && within 2 6 instruction)
    || (eqb text.rulebook 2 && (eqb instruction 2 || (eqb instruction 1 && eqb kind 2)))

-- rulebook 1: "purposes 2 and 3 for all kinds; purpose 4 for kind 2", this last (02, K1) "only where the contract's
-- type is 2": 003 spares market making in options alone
abbrev pub by_purpose1 : (type' kind purpose : ℕ) → Bool
by_purpose1 type' kind purpose = eqb purpose 2 || eqb purpose 3 || (eqb purpose 4 && eqb kind 2 && eqb type' 2)

-- rulebook 2: "purpose 2 for all kinds; purpose 3 for kinds 2 and 3; purpose 4 for kind 2"
abbrev pub by_purpose2 : (kind purpose : ℕ) → Bool
by_purpose2 kind purpose =
    eqb purpose 2 || (eqb purpose 3 && (eqb kind 2 || eqb kind 3)) || (eqb purpose 4 && eqb kind 2)

-- an order on a contract of a type is exempt for a kind by its purpose alone
abbrev pub by_purpose : Text → (type' kind purpose : ℕ) → Bool
by_purpose text type' kind purpose =
    (eqb text.rulebook 1 && by_purpose1 type' kind purpose) || (eqb text.rulebook 2 && by_purpose2 kind purpose)

-- all codes of an order are codes of the rulebook
unfoldable pub known : Text → (type' kind instruction purpose : ℕ) → Bool
known text type' kind instruction purpose =
    has_type text type' && is_kind kind && has_instruction text instruction && has_purpose text purpose

-- an order on a contract of a type is exempt for a kind
unfoldable pub exempt : Text → (type' kind instruction purpose : ℕ) → Bool
exempt text type' kind instruction purpose =
    not (known text type' kind instruction purpose)
    || by_instruction text kind instruction
    || by_purpose text type' kind purpose

-- the clause: "0 not exempt, 1 instruction, 2 purpose, 3 both. Codes that rulebook 2 refuses give 1", and so do all
-- codes that the rulebook does not have, whatever the purpose. It is not 0 exactly where the order is exempt
-- (proofs/ClauseLaws, `exempt_clause`).
unfoldable pub clause : Text → (type' kind instruction purpose : ℕ) → ℕ
clause text type' kind instruction purpose =
    pick (not (known text type' kind instruction purpose)) 1
    (pick (by_instruction text kind instruction) 1 0 + pick (by_purpose text type' kind purpose) 2 0)

-- "for .. each kind": an order's clauses, for self-trade, frequent and large cancels
unfoldable pub clauses : Text → (type' instruction purpose : ℕ) → Clauses
clauses text type' instruction purpose = record {
  own = clause text type' 1 instruction purpose;
  frequent = clause text type' 2 instruction purpose;
  over = clause text type' 3 instruction purpose;
}
