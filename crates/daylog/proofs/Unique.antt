-- No second answer fits the contract of a public function: `Post` is what its own `ensures` says, `a` its arguments.
-- Assumes nothing.
use mathlib.Core.Path.{◌≡◌, sym, ◌∙◌}
use mathlib.Core.Bool.{Bool}
use Prim.Native.Nat.{ℕ}
use Rattle.std.specs.Prelude.{Result, ⊤}
use Rattle.wire.specs.declared.refusal.Refusal.{Refusal}
use Rattle.rules.specs.declared.text.Text.{Text}
use Rattle.daylog.specs.declared.broker.Brokers.{Brokers}
use Rattle.daylog.specs.declared.header.Header.{Header}
use Rattle.daylog.specs.declared.record.Record.{Record}
use Rattle.daylog.proofs.broker.brokers_of.Reads as brokers_of
use Rattle.daylog.proofs.broker.brokers_wrong.Reads as brokers_wrong
use Rattle.daylog.proofs.changed.tables_changed.Reads as tables_changed
use Rattle.daylog.proofs.header.header_of.Reads as header_of
use Rattle.daylog.proofs.header.text_of.Reads as text_of
use Rattle.daylog.proofs.header.contracts_part.Reads as contracts_part
use Rattle.daylog.proofs.header.accounts_part.Reads as accounts_part
use Rattle.daylog.proofs.header.check_log.Reads as check_log
use Rattle.daylog.proofs.record.record_length.Reads as record_length
use Rattle.daylog.proofs.record.record_of.Reads as record_of
use Rattle.daylog.proofs.record.record_good.Reads as record_good
use Rattle.daylog.proofs.record.end_good.Reads as end_good

pub brokers_of_unique : (κs : _) (a : _) (r₁ r₂ : Brokers) (s₁ s₂ : _)
    → brokers_of.Post κs a r₁ s₁ → brokers_of.Post κs a r₂ s₂ → r₁ ≡ r₂
brokers_of_unique κs a r₁ r₂ s₁ s₂ p q = p ∙ sym q

pub brokers_wrong_unique : (κs : _) (a : _) (r₁ r₂ : Bool) (s₁ s₂ : _)
    → brokers_wrong.Post κs a r₁ s₁ → brokers_wrong.Post κs a r₂ s₂ → r₁ ≡ r₂
brokers_wrong_unique κs a r₁ r₂ s₁ s₂ p q = p ∙ sym q

pub tables_changed_unique : (κs : _) (a : _) (r₁ r₂ : Bool) (s₁ s₂ : _)
    → tables_changed.Post κs a r₁ s₁ → tables_changed.Post κs a r₂ s₂ → r₁ ≡ r₂
tables_changed_unique κs a r₁ r₂ s₁ s₂ p q = p ∙ sym q

pub header_of_unique : (κs : _) (a : _) (r₁ r₂ : Header) (s₁ s₂ : _)
    → header_of.Post κs a r₁ s₁ → header_of.Post κs a r₂ s₂ → r₁ ≡ r₂
header_of_unique κs a r₁ r₂ s₁ s₂ p q = p ∙ sym q

pub text_of_unique : (κs : _) (a : _) (r₁ r₂ : Text) (s₁ s₂ : _)
    → text_of.Post κs a r₁ s₁ → text_of.Post κs a r₂ s₂ → r₁ ≡ r₂
text_of_unique κs a r₁ r₂ s₁ s₂ p q = p ∙ sym q

pub contracts_part_unique : (κs : _) (a : _) (r₁ r₂ : _) (s₁ s₂ : _)
    → contracts_part.Post κs a r₁ s₁ → contracts_part.Post κs a r₂ s₂ → r₁.now ≡ r₂.now
contracts_part_unique κs a r₁ r₂ s₁ s₂ p q = p ∙ sym q

pub accounts_part_unique : (κs : _) (a : _) (r₁ r₂ : _) (s₁ s₂ : _)
    → accounts_part.Post κs a r₁ s₁ → accounts_part.Post κs a r₂ s₂ → r₁.now ≡ r₂.now
accounts_part_unique κs a r₁ r₂ s₁ s₂ p q = p ∙ sym q

pub check_log_unique : (κs : _) (a : _) (r₁ r₂ : Result ⊤ Refusal) (s₁ s₂ : _)
    → check_log.Post κs a r₁ s₁ → check_log.Post κs a r₂ s₂ → r₁ ≡ r₂
check_log_unique κs a r₁ r₂ s₁ s₂ p q = p ∙ sym q

pub record_length_unique : (κs : _) (a : _) (r₁ r₂ : ℕ) (s₁ s₂ : _)
    → record_length.Post κs a r₁ s₁ → record_length.Post κs a r₂ s₂ → r₁ ≡ r₂
record_length_unique κs a r₁ r₂ s₁ s₂ p q = p ∙ sym q

pub record_of_unique : (κs : _) (a : _) (r₁ r₂ : Record) (s₁ s₂ : _)
    → record_of.Post κs a r₁ s₁ → record_of.Post κs a r₂ s₂ → r₁ ≡ r₂
record_of_unique κs a r₁ r₂ s₁ s₂ p q = p ∙ sym q

pub record_good_unique : (κs : _) (a : _) (r₁ r₂ : Bool) (s₁ s₂ : _)
    → record_good.Post κs a r₁ s₁ → record_good.Post κs a r₂ s₂ → r₁ ≡ r₂
record_good_unique κs a r₁ r₂ s₁ s₂ p q = p ∙ sym q

pub end_good_unique : (κs : _) (a : _) (r₁ r₂ : Bool) (s₁ s₂ : _)
    → end_good.Post κs a r₁ s₁ → end_good.Post κs a r₂ s₂ → r₁ ≡ r₂
end_good_unique κs a r₁ r₂ s₁ s₂ p q = p ∙ sym q
